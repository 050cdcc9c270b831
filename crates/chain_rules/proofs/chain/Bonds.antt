-- The bonds of a chain: each is written by a mark of 01 or by none, and a bridge stays where an epoxide starts.
-- Assumes nothing.
use Prim.Native.Nat.{ℕ, zero, suc, ◌+◌, ◌-◌, ◌≤◌, ◌<◌}
use native.Mathlib.Omega.{arith}
use native.Mathlib.Decide.{ℕ_discrete}
use mathlib.Core.Path.{◌≡◌, refl, ap, ◌∙◌}
use mathlib.Core.Logic.{◌≢◌}
use mathlib.Core.Bool.{Bool, true, false, cond, ◌||◌, ◌&&◌, false≢true}
use mathlib.Core.List.{List, [], ◌∷◌}
use lib.ListN.{get_or, set}
use lib.Seq.{get_or-set_other}
use lib.Dec.{eqb, ltb}
use borrow.Author.Tests.{eqb-true, ne_eqb, ltb-true}
use Rattle.chain_record.specs.declared.plain.Geometry.{Geometry}
use Rattle.chain_record.specs.declared.plain.Geometry.TheVariants.{Unstated, Cis, Trans}
use Rattle.chain_record.specs.declared.plain.DbPos.{DbPos}
use Rattle.chain_record.specs.declared.plain.Ring.{Ring}
use Rattle.chain_record.specs.plain.Chain.{Chain}
use Rattle.reading_rules.specs.reading.Ascii.{ascii}
use Rattle.reading_rules.specs.reading.Lexer.{memb, marks}
use Rattle.reading_rules.proofs.reading.PartingLaws.{All, all_map}
use Rattle.reading_rules.proofs.reading.TemplateText.{MarkWell}
use Rattle.chain_rules.specs.declared.chain.Role.{Role}
use Rattle.chain_rules.specs.chain.Lists.{any_of, values_from}
use Rattle.chain_rules.specs.chain.Features.{first_drawn, doubles}
use Rattle.chain_rules.specs.chain.Refusals.{is_epoxide, epoxide_on}
use Rattle.chain_rules.specs.chain.Bonds.{empty, double, bridged, up, down, plain_bond, plain_bonds, geometry_at, open_mark, opens_down, close_byte, close_mark, mark_bond, mark_from, bonds_of, bond_at, mark_of}
use Rattle.chain_rules.proofs.chain.Lists.{all_set, all_get_d, all-values, get_d-values}
use Rattle.chain_rules.proofs.chain.Accepted.{Drawable, RingStands, epoxides-free, first_one, doubles-on, rings-on}

-- ---- every bond is written by a mark of 01 or by none

abbrev Written : ℕ → Type 0
Written b = MarkWell (mark_of b)

written-bytes : record { none : Written empty; twice : Written double; bridge : Written bridged; rising : Written up; falling : Written down }
unfolding mark_of MarkWell memb marks ascii
written-bytes = record { none = tt; twice = tt; bridge = tt; rising = tt; falling = tt }

written-cond : (b : Bool) (x y : ℕ) → Written x → Written y → Written (cond b x y)
written-cond true x y h g = h
written-cond false x y h g = g

written-plain : (bs : List DbPos) (rs : List Ring) (k : ℕ) → Written (plain_bond bs rs k)
unfolding plain_bond
written-plain bs rs k =
    written-cond (any_of (λ b. eqb b.pos k) bs) double (cond (any_of (λ x. is_epoxide x.bridge && eqb x.start k) rs) bridged empty) written-bytes.twice
    (written-cond (any_of (λ x. is_epoxide x.bridge && eqb x.start k) rs) bridged empty written-bytes.bridge written-bytes.none)

written-close : (t o : Bool) → Written (close_byte t o)
written-close true true = written-bytes.falling
written-close true false = written-bytes.rising
written-close false true = written-bytes.rising
written-close false false = written-bytes.falling

-- a bond set where a test passes
written-set : (b : Bool) (ks : List ℕ) (i x : ℕ) → Written x → All Written ks → All Written (cond b (set ks i x) ks)
written-set true ks i x w h = all_set Written ks i x w h
written-set false ks i x w h = h

written-open : (p : ℕ) (ks : List ℕ) → All Written ks → All Written (open_mark p ks)
unfolding open_mark
written-open p ks h = written-set (ltb 1 p && eqb (get_or ks (p - 1) 0) empty) ks (p - 1) up written-bytes.rising h

written-closed : (c : ℕ) (t : Bool) (p : ℕ) (ks : List ℕ) → All Written ks → All Written (close_mark c t p ks)
unfolding close_mark
written-closed c t p ks h = written-set (ltb (suc p) c && eqb (get_or ks (suc p) 0) empty) ks (suc p) (close_byte t (opens_down p ks)) (written-close t (opens_down p ks)) h

written-marked : (c : ℕ) (g : Geometry) (p : ℕ) (ks : List ℕ) → All Written ks → All Written (mark_bond c g p ks)
unfolding mark_bond
written-marked c Unstated p ks h = h
written-marked c Cis p ks h = written-closed c false p (open_mark p ks) (written-open p ks h)
written-marked c Trans p ks h = written-closed c true p (open_mark p ks) (written-open p ks h)

written_from : (c : ℕ) (bs : List DbPos) (p n : ℕ) (ks : List ℕ) → All Written ks → All Written (mark_from c bs p n ks)
unfolding mark_from
written_from c bs p zero ks h = h
written_from c bs p (suc n) ks h = written_from c bs (suc p) n (mark_bond c (geometry_at p bs) p ks) (written-marked c (geometry_at p bs) p ks h)

pub mark-well : (r : Role) (d : Chain) (k : ℕ) → MarkWell (mark_of (bond_at r d k))
unfolding bond_at bonds_of plain_bonds
mark-well r d k =
    all_get_d Written (bonds_of r d) k 0 written-bytes.none
    (written_from d.carbon (doubles r d) 1 d.carbon (plain_bonds (doubles r d) d.rings d.carbon)
    (all-values Written (plain_bond (doubles r d) d.rings) 0 (suc d.carbon) (λ i a b. written-plain (doubles r d) d.rings i)))

-- ---- a bridge stays

-- no mark is put where a bond is bridged
kept_set : (b : Bool) (ks : List ℕ) (i x k : ℕ) → get_or ks k 0 ≡ bridged → get_or (cond (b && eqb (get_or ks i 0) empty) (set ks i x) ks) k 0 ≡ bridged
kept_set false ks i x k h = h
kept_set true ks i x k h = go (ℕ_discrete k i)
  where
    other : (z : Bool) → k ≢ i → get_or (cond z (set ks i x) ks) k 0 ≡ bridged
    other true q = get_or-set_other ks i k x 0 q ∙ h
    other false q = h

    go : Dec (k ≡ i) → get_or (cond (eqb (get_or ks i 0) empty) (set ks i x) ks) k 0 ≡ bridged
    go (yes e) = rw (ne_eqb (get_or ks i 0) empty (λ w. omega (arith, ap (λ (z : ℕ). get_or ks z 0) e))) h
    go (no q) = other (eqb (get_or ks i 0) empty) q

kept-open : (p : ℕ) (ks : List ℕ) (k : ℕ) → get_or ks k 0 ≡ bridged → get_or (open_mark p ks) k 0 ≡ bridged
unfolding open_mark
kept-open p ks k h = kept_set (ltb 1 p) ks (p - 1) up k h

kept-closed : (c : ℕ) (t : Bool) (p : ℕ) (ks : List ℕ) (k : ℕ) → get_or ks k 0 ≡ bridged → get_or (close_mark c t p ks) k 0 ≡ bridged
unfolding close_mark
kept-closed c t p ks k h = kept_set (ltb (suc p) c) ks (suc p) (close_byte t (opens_down p ks)) k h

kept-marked : (c : ℕ) (g : Geometry) (p : ℕ) (ks : List ℕ) (k : ℕ) → get_or ks k 0 ≡ bridged → get_or (mark_bond c g p ks) k 0 ≡ bridged
unfolding mark_bond
kept-marked c Unstated p ks k h = h
kept-marked c Cis p ks k h = kept-closed c false p (open_mark p ks) k (kept-open p ks k h)
kept-marked c Trans p ks k h = kept-closed c true p (open_mark p ks) k (kept-open p ks k h)

kept_from : (c : ℕ) (bs : List DbPos) (p n : ℕ) (ks : List ℕ) (k : ℕ) → get_or ks k 0 ≡ bridged → get_or (mark_from c bs p n ks) k 0 ≡ bridged
unfolding mark_from
kept_from c bs p zero ks k h = h
kept_from c bs p (suc n) ks k h = kept_from c bs (suc p) n (mark_bond c (geometry_at p bs) p ks) k (kept-marked c (geometry_at p bs) p ks k h)

-- ---- a bridge where an epoxide starts

-- some ring is an epoxide that starts at k
abbrev pub starts_epoxide : ℕ → List Ring → Bool
starts_epoxide k rs = any_of (λ x. is_epoxide x.bridge && eqb x.start k) rs

-- no double bond stands where an epoxide starts
epoxide-single : (bs : List DbPos) (rs : List Ring) (k : ℕ) → All (λ x. epoxide_on bs x ≡ false) rs → starts_epoxide k rs ≡ true → any_of (λ b. eqb b.pos k) bs ≡ false
unfolding any_of epoxide_on
epoxide-single bs [] k h e = absurd (false≢true e)
epoxide-single bs (x ∷ rs) k h e = go (is_epoxide x.bridge) (eqb x.start k) refl h.0 e (epoxide-single bs rs k h.1)
  where
    go : (i s : Bool) → eqb x.start k ≡ s → (i && any_of (λ b. eqb b.pos x.start) bs) ≡ false → ((i && s) || starts_epoxide k rs) ≡ true
        → (starts_epoxide k rs ≡ true → any_of (λ b. eqb b.pos k) bs ≡ false) → any_of (λ b. eqb b.pos k) bs ≡ false
    go true true q f e ih = rw (eqb-true x.start k q) at f
    go true false q f e ih = ih e
    go false s q f e ih = ih e

pub bridge-stands : (r : Role) (d : Chain) (a : Drawable r d) (k : ℕ) → k ≤ d.carbon → starts_epoxide k d.rings ≡ true → bond_at r d k ≡ bridged
unfolding bond_at bonds_of plain_bonds plain_bond
bridge-stands r d a k h e =
    let z : 0 + k ≡ k = omega arith in
    kept_from d.carbon (doubles r d) 1 d.carbon (plain_bonds (doubles r d) d.rings d.carbon) k
    (get_d-values (plain_bond (doubles r d) d.rings) 0 (suc d.carbon) k 0 (omega arith)
    ∙ (ap (plain_bond (doubles r d) d.rings) z ∙ rw (epoxide-single (doubles r d) d.rings k (epoxides-free r d a) e, e)))

-- ---- no mark before C1

zero-set : (b : Bool) (ks : List ℕ) (i x : ℕ) → 0 < i → get_or (cond b (set ks i x) ks) 0 0 ≡ get_or ks 0 0
zero-set true ks i x h = get_or-set_other ks i 0 x 0 (λ e. omega arith)
zero-set false ks i x h = refl

zero-open : (p : ℕ) (ks : List ℕ) → get_or (open_mark p ks) 0 0 ≡ get_or ks 0 0
unfolding open_mark
zero-open p ks = go (ltb 1 p) refl
  where
    go : (b : Bool) → ltb 1 p ≡ b → get_or (cond (b && eqb (get_or ks (p - 1) 0) empty) (set ks (p - 1) up) ks) 0 0 ≡ get_or ks 0 0
    go true e = zero-set (eqb (get_or ks (p - 1) 0) empty) ks (p - 1) up (omega (arith, ltb-true 1 p e))
    go false e = refl

zero-closed : (c : ℕ) (t : Bool) (p : ℕ) (ks : List ℕ) → get_or (close_mark c t p ks) 0 0 ≡ get_or ks 0 0
unfolding close_mark
zero-closed c t p ks = zero-set (ltb (suc p) c && eqb (get_or ks (suc p) 0) empty) ks (suc p) (close_byte t (opens_down p ks)) (omega arith)

zero-marked : (c : ℕ) (g : Geometry) (p : ℕ) (ks : List ℕ) → get_or (mark_bond c g p ks) 0 0 ≡ get_or ks 0 0
unfolding mark_bond
zero-marked c Unstated p ks = refl
zero-marked c Cis p ks = zero-closed c false p (open_mark p ks) ∙ zero-open p ks
zero-marked c Trans p ks = zero-closed c true p (open_mark p ks) ∙ zero-open p ks

zero-from : (c : ℕ) (bs : List DbPos) (p n : ℕ) (ks : List ℕ) → get_or (mark_from c bs p n ks) 0 0 ≡ get_or ks 0 0
unfolding mark_from
zero-from c bs p zero ks = refl
zero-from c bs p (suc n) ks = zero-from c bs (suc p) n (mark_bond c (geometry_at p bs) p ks) ∙ zero-marked c (geometry_at p bs) p ks

-- no double bond and no epoxide starts before C1
no-double : (bs : List DbPos) → All (λ b. 1 ≤ b.pos) bs → any_of (λ b. eqb b.pos 0) bs ≡ false
unfolding any_of
no-double [] h = refl
no-double (b ∷ bs) h = rw (ne_eqb b.pos 0 (λ e. omega (arith, h.0))) (no-double bs h.1)

no-epoxide : (rs : List Ring) → All (λ x. 1 ≤ x.start) rs → any_of (λ x. is_epoxide x.bridge && eqb x.start 0) rs ≡ false
unfolding any_of
no-epoxide [] h = refl
no-epoxide (x ∷ rs) h = rw (ne_eqb x.start 0 (λ e. omega (arith, h.0)), and-false (is_epoxide x.bridge)) (no-epoxide rs h.1)
  where
    and-false : (b : Bool) → (b && false) ≡ false
    and-false true = refl
    and-false false = refl

pub bond-zero : (r : Role) (d : Chain) → Drawable r d → bond_at r d 0 ≡ empty
unfolding bond_at bonds_of plain_bonds plain_bond values_from
bond-zero r d a =
    zero-from d.carbon (doubles r d) 1 d.carbon (plain_bonds (doubles r d) d.rings d.carbon)
    ∙ rw (
      no-double (doubles r d) (all_map {P = λ (b : DbPos). (first_drawn r ≤ b.pos) × (b.pos < d.carbon)} (λ b h. omega (arith, h.0, first_one r)) (doubles r d) (doubles-on r d a)),
      no-epoxide d.rings (all_map {P = RingStands (first_drawn r) d.carbon} (λ x h. omega (arith, h.starts, first_one r)) d.rings (rings-on r d a)),
    ) refl
