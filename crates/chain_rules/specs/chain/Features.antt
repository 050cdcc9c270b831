-- What a chain has in its place. 01, Accepted, or refused by whom: "Let c be the written carbons, less one after an iso or anteiso word, f
-- the first drawn carbon (3 for a base, else 1). A chain without prefix is acyl, `O-` ether, `P-` alkenyl, which adds a located, unlettered
-- double bond at 1; a base is none of these, and has no carbonyl." c is the record's `carbon`. Assumes nothing.
use Rattle.std.specs.Prelude.{ℕ, suc, ◌+◌, ◌-◌, ◌*◌, min, Bool, true, false, cond, not, List, [], ◌∷◌, ◌++◌, map, eqb}
use Rattle.chain_record.specs.declared.plain.ChainPrefix.{ChainPrefix}
use Rattle.chain_record.specs.declared.plain.ChainPrefix.TheVariants as prefix
use Rattle.chain_record.specs.declared.plain.Geometry.TheVariants.{Unstated}
use Rattle.chain_record.specs.declared.plain.DbPos.{DbPos}
use Rattle.chain_record.specs.declared.plain.Mod.{Mod}
use Rattle.chain_record.specs.plain.Chain.{Chain}
use Rattle.group_table.specs.groups.Groups.{hydroxy}
use Rattle.chain_rules.specs.declared.chain.Role.{Role}
use Rattle.chain_rules.specs.declared.chain.Role.TheVariants.{Slot, Acyl, Base}
use Rattle.chain_rules.specs.chain.Lists.{any_of, only, largest}

-- f
abbrev pub first_drawn : Role → ℕ
first_drawn Slot = 1
first_drawn Acyl = 1
first_drawn Base = 3

-- whether a chain is acyl, so that C1 carries a doubly bonded O
unfoldable pub is_acyl : Role → ChainPrefix → Bool
is_acyl Base p = false
is_acyl Slot prefix.Acyl = true
is_acyl Slot prefix.EtherAlkyl = false
is_acyl Slot prefix.EtherAlkenyl = false
is_acyl Slot prefix.SphingoidD = false
is_acyl Slot prefix.SphingoidT = false
is_acyl Acyl prefix.Acyl = true
is_acyl Acyl prefix.EtherAlkyl = false
is_acyl Acyl prefix.EtherAlkenyl = false
is_acyl Acyl prefix.SphingoidD = false
is_acyl Acyl prefix.SphingoidT = false

-- the double bond that `P-` adds
unfoldable pub alkenyl_bond : Role → ChainPrefix → List DbPos
alkenyl_bond Base p = []
alkenyl_bond Slot prefix.EtherAlkenyl = record { pos = 1; geom = Unstated } ∷ []
alkenyl_bond Slot prefix.Acyl = []
alkenyl_bond Slot prefix.EtherAlkyl = []
alkenyl_bond Slot prefix.SphingoidD = []
alkenyl_bond Slot prefix.SphingoidT = []
alkenyl_bond Acyl prefix.EtherAlkenyl = record { pos = 1; geom = Unstated } ∷ []
alkenyl_bond Acyl prefix.Acyl = []
alkenyl_bond Acyl prefix.EtherAlkyl = []
alkenyl_bond Acyl prefix.SphingoidD = []
alkenyl_bond Acyl prefix.SphingoidT = []

-- the located double bonds
unfoldable pub doubles : Role → Chain → List DbPos
unfolding alkenyl_bond
doubles r d = alkenyl_bond r d.prefix ++ d.bonds

-- groups with a position, and those without
unfoldable pub located : List Mod → List Mod
unfolding only
located gs = only (λ g. not (eqb g.pos 0)) gs

unfoldable pub unlocated : List Mod → List Mod
unfolding only
unlocated gs = only (λ g. eqb g.pos 0) gs

-- an O at p, unless a group sits there
unfoldable pub oxygen_at : ℕ → List Mod → List Mod
unfolding any_of
oxygen_at p gs = cond (any_of (λ g. eqb g.pos p) gs) [] (record { pos = p; row = hydroxy } ∷ [])

unfoldable pub triol_oxygen : ChainPrefix → List Mod → List Mod
unfolding oxygen_at
triol_oxygen prefix.SphingoidT gs = oxygen_at 4 gs
triol_oxygen prefix.Acyl gs = []
triol_oxygen prefix.EtherAlkyl gs = []
triol_oxygen prefix.EtherAlkenyl gs = []
triol_oxygen prefix.SphingoidD gs = []

-- 01, Templates and the builder: a base has "O at 3, and at 4 for t, unless a located group sits there; such an O is a located group too, so
-- a pin, but uncounted by 31"
unfoldable pub base_oxygens : Role → ChainPrefix → List Mod → List Mod
unfolding oxygen_at triol_oxygen
base_oxygens Slot p gs = []
base_oxygens Acyl p gs = []
base_oxygens Base p gs = oxygen_at 3 gs ++ triol_oxygen p gs

-- the located groups in token order, the methyl first, then a base's own O's
unfoldable pub groups_on : Role → Chain → List Mod
unfolding located base_oxygens
groups_on r d = located d.groups ++ base_oxygens r d.prefix (located d.groups)

-- the groups that float, in token order
unfoldable pub floating : Chain → List Mod
unfolding unlocated
floating d = unlocated d.groups

-- "a first pin (located group or ring start)"
unfoldable pub pins : Role → Chain → List ℕ
unfolding groups_on
pins r d = map (λ g. g.pos) (groups_on r d) ++ map (λ x. x.start) d.rings

-- 01, Drawing a chain: "Literal prefix runs to the largest of f, p+1, group positions, ring ends, capped at c."
unfoldable pub prefix_end : Role → Chain → ℕ
unfolding doubles groups_on largest
prefix_end r d =
    min (largest (first_drawn r) (map (λ b. b.pos + 1) (doubles r d) ++ (map (λ g. g.pos) (groups_on r d) ++ map (λ x. x.end) d.rings))) d.carbon

-- the last literal carbon: c where every double bond is located
unfoldable pub literal_end : Role → Chain → ℕ
unfolding prefix_end
literal_end r d = cond (eqb d.unlocated 0) d.carbon (prefix_end r d)

-- "R carbons remain"
unfoldable pub remaining : Role → Chain → ℕ
unfolding prefix_end
remaining r d = d.carbon - prefix_end r d

-- the carbons of the flexible tail: `C`, n−1 `C=C`, `C=CC`
unfoldable pub flexible_count : Chain → ℕ
flexible_count d = cond (eqb d.unlocated 0) 0 (2 * d.unlocated + 2)

-- how many carbons are drawn
unfoldable pub drawn_count : Role → Chain → ℕ
unfolding literal_end flexible_count
drawn_count r d = suc (literal_end r d) - first_drawn r + flexible_count d

-- "sites are all drawn carbons but acyl C1": how many of the drawn carbons lead that are no sites
unfoldable pub site_skip : Role → Chain → ℕ
unfolding is_acyl
site_skip r d = cond (is_acyl r d.prefix) 1 0
