-- The bonds of a chain, each by the carbon that it starts from. 01, Drawing a chain: "Bond k joins k and k+1: double, bridged, marked or
-- plain", and "Marks: by rising p with stated geometry, an empty bond p−1 (p > 1) becomes `/`; open is down if it is `\`, else up. If
-- p+1 < c and bond p+1 is empty it is `/` (up) or `\`, unlike open for Z, like for E." Assumes nothing.
use Rattle.std.specs.Prelude.{ℕ, zero, suc, ◌-◌, Bool, true, false, cond, ◌&&◌, List, [], ◌∷◌, get_or, set, eqb, ltb}
use Prim.Native.Char.{code}
use Rattle.chain_record.specs.declared.plain.Geometry.{Geometry}
use Rattle.chain_record.specs.declared.plain.Geometry.TheVariants.{Unstated, Cis, Trans}
use Rattle.chain_record.specs.declared.plain.DbPos.{DbPos}
use Rattle.chain_record.specs.declared.plain.Ring.{Ring}
use Rattle.chain_record.specs.plain.Chain.{Chain}
use Rattle.chain_rules.specs.declared.chain.Role.{Role}
use Rattle.chain_rules.specs.chain.Lists.{any_of, values_from}
use Rattle.chain_rules.specs.chain.Features.{doubles}
use Rattle.chain_rules.specs.chain.Refusals.{is_epoxide}

-- a bond is the byte that the text has between its carbons: 0 for none, a mark, or the bridge's O
abbrev pub empty : ℕ
empty = 0

abbrev pub double : ℕ
double = code "="

abbrev pub bridged : ℕ
bridged = code "O"

abbrev pub up : ℕ
up = code "/"

abbrev pub down : ℕ
down = code "\\"

-- bond k before any mark
unfoldable pub plain_bond : List DbPos → List Ring → ℕ → ℕ
unfolding any_of
plain_bond bs rs k =
    cond (any_of (λ b. eqb b.pos k) bs) double
    (cond (any_of (λ x. is_epoxide x.bridge && eqb x.start k) rs) bridged empty)

-- bonds 0 to c
unfoldable pub plain_bonds : List DbPos → List Ring → ℕ → List ℕ
unfolding plain_bond values_from
plain_bonds bs rs c = values_from (plain_bond bs rs) 0 (suc c)

-- the geometry stated at p
unfoldable pub geometry_at : ℕ → List DbPos → Geometry
geometry_at p [] = Unstated
geometry_at p (b ∷ bs) = cond (eqb b.pos p) b.geom (geometry_at p bs)

-- "an empty bond p−1 (p > 1) becomes `/`"
unfoldable pub open_mark : ℕ → List ℕ → List ℕ
open_mark p ks = cond (ltb 1 p && eqb (get_or ks (p - 1) 0) empty) (set ks (p - 1) up) ks

-- "open is down if it is `\`, else up"
unfoldable pub opens_down : ℕ → List ℕ → Bool
opens_down p ks = eqb (get_or ks (p - 1) 0) down

-- "`/` (up) or `\`, unlike open for Z, like for E"; the first argument says whether the letter is E
abbrev pub close_byte : Bool → Bool → ℕ
close_byte true true = down
close_byte true false = up
close_byte false true = up
close_byte false false = down

-- "If p+1 < c and bond p+1 is empty"
unfoldable pub close_mark : ℕ → Bool → ℕ → List ℕ → List ℕ
unfolding opens_down
close_mark c trans p ks = cond (ltb (suc p) c && eqb (get_or ks (suc p) 0) empty) (set ks (suc p) (close_byte trans (opens_down p ks))) ks

-- the marks of one double bond
unfoldable pub mark_bond : ℕ → Geometry → ℕ → List ℕ → List ℕ
unfolding open_mark close_mark
mark_bond c Unstated p ks = ks
mark_bond c Cis p ks = close_mark c false p (open_mark p ks)
mark_bond c Trans p ks = close_mark c true p (open_mark p ks)

-- "by rising p": from p on, so many
unfoldable pub mark_from : ℕ → List DbPos → ℕ → ℕ → List ℕ → List ℕ
unfolding mark_bond geometry_at
mark_from c bs p zero ks = ks
mark_from c bs p (suc n) ks = mark_from c bs (suc p) n (mark_bond c (geometry_at p bs) p ks)

-- bonds 0 to c of a chain
unfoldable pub bonds_of : Role → Chain → List ℕ
unfolding mark_from plain_bonds doubles
bonds_of r d = mark_from d.carbon (doubles r d) 1 d.carbon (plain_bonds (doubles r d) d.rings d.carbon)

-- bond k
unfoldable pub bond_at : Role → Chain → ℕ → ℕ
unfolding bonds_of
bond_at r d k = get_or (bonds_of r d) k 0

-- the mark of a bond: a bridge is an atom and no mark
unfoldable pub mark_of : ℕ → ℕ
mark_of b = cond (eqb b bridged) 0 b
