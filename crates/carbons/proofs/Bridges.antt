-- Where no ring starts there is no bridge: the marks of double bonds add none.
-- Assumes nothing.
use Prim.Native.Nat.{ℕ, zero, suc, ◌-◌, ◌≤◌}
use native.Mathlib.Nat.{zero-add}
use native.Mathlib.Decide.{dec_le, ℕ_discrete}
use native.Mathlib.Omega.{arith}
use mathlib.Core.Path.{◌≡◌, sym, ap, ◌∙◌}
use mathlib.Core.Bool.{Bool, true, false, cond, ◌&&◌}
use mathlib.Core.List.{List, []}
use lib.Dec.{eqb, ltb}
use lib.ListN.{length, get_or, set}
use lib.Seq.{get_or-take, get_or-set_same, get_or-set_other, set_out}
use Rattle.chain_record.specs.declared.plain.Geometry.{Geometry}
use Rattle.chain_record.specs.declared.plain.Geometry.TheVariants.{Unstated, Cis, Trans}
use Rattle.chain_record.specs.declared.plain.DbPos.{DbPos}
use Rattle.chain_record.specs.declared.plain.Ring.{Ring}
use Rattle.chain_rules.specs.chain.Lists.{any_of}
use Rattle.chain_rules.specs.chain.Bonds.{empty, up, plain_bond, plain_bonds, geometry_at, open_mark, opens_down, close_byte, close_mark, mark_bond, mark_from}
use Rattle.carbons.specs.ByCarbon.{BondsBy}
use Rattle.carbons.proofs.TokenLaws.{values-at}

-- ---- no mark is a bridge

mark_set : (b : Bool) (ks : List ℕ) (i x k : ℕ) → (x ≡ 79 → ⊥) → get_or (cond b (set ks i x) ks) k 0 ≡ 79 → get_or ks k 0 ≡ 79
mark_set false ks i x k n h = h
mark_set true ks i x k n h = go (ℕ_discrete k i)
  where
    there : k ≡ i → Dec (suc i ≤ length ks) → get_or ks k 0 ≡ 79
    there e (yes l) =
        let t : get_or (set ks i x) i 0 ≡ 79 = ap (λ (j : ℕ). get_or (set ks i x) j 0) (sym e) ∙ h in
        absurd (n (sym (get_or-set_same ks i x 0 l) ∙ t))
    there e (no l) = ap (λ (us : List ℕ). get_or us k 0) (sym (set_out ks i x (omega arith))) ∙ h

    go : Dec (k ≡ i) → get_or ks k 0 ≡ 79
    go (yes e) = there e (dec_le (suc i) (length ks))
    go (no q) = sym (get_or-set_other ks i k x 0 q) ∙ h

mark-opens : (p : ℕ) (ks : List ℕ) (k : ℕ) → get_or (open_mark p ks) k 0 ≡ 79 → get_or ks k 0 ≡ 79
unfolding open_mark
mark-opens p ks k h = mark_set (ltb 1 p && eqb (get_or ks (p - 1) 0) empty) ks (p - 1) up k (λ e. omega arith) h

close_other : (t d : Bool) → close_byte t d ≡ 79 → ⊥
close_other true true e = omega arith
close_other true false e = omega arith
close_other false true e = omega arith
close_other false false e = omega arith

mark-closes : (c : ℕ) (t : Bool) (p : ℕ) (ks : List ℕ) (k : ℕ) → get_or (close_mark c t p ks) k 0 ≡ 79 → get_or ks k 0 ≡ 79
unfolding close_mark
mark-closes c t p ks k h =
    mark_set (ltb (suc p) c && eqb (get_or ks (suc p) 0) empty) ks (suc p) (close_byte t (opens_down p ks)) k (close_other t (opens_down p ks)) h

mark-stands : (c : ℕ) (g : Geometry) (p : ℕ) (ks : List ℕ) (k : ℕ) → get_or (mark_bond c g p ks) k 0 ≡ 79 → get_or ks k 0 ≡ 79
unfolding mark_bond
mark-stands c Unstated p ks k h = h
mark-stands c Cis p ks k h = mark-opens p ks k (mark-closes c false p (open_mark p ks) k h)
mark-stands c Trans p ks k h = mark-opens p ks k (mark-closes c true p (open_mark p ks) k h)

marks-stand : (c : ℕ) (bs : List DbPos) (p n : ℕ) (ks : List ℕ) (k : ℕ) → get_or (mark_from c bs p n ks) k 0 ≡ 79 → get_or ks k 0 ≡ 79
unfolding mark_from
marks-stand c bs p zero ks k h = h
marks-stand c bs p (suc n) ks k h =
    mark-stands c (geometry_at p bs) p ks k (marks-stand c bs (suc p) n (mark_bond c (geometry_at p bs) p ks) k h)

-- ---- no bridge

-- a bond that is none before any mark is none after
pub unbridged : {rs : List Ring} {bs : List DbPos} {c : ℕ} {ks : List ℕ} (k : ℕ) → BondsBy bs rs c ks → c ≤ 255 → k ≤ c → (plain_bond bs rs k ≡ 79 → ⊥) → get_or ks k 0 ≡ 79 → ⊥
unfolding plain_bonds
unbridged {rs} {bs} {c} {ks} k b h g n e =
    let m : get_or (mark_from c bs 1 c (plain_bonds bs rs c)) k 0 ≡ 79
    = ap (λ (l : List ℕ). get_or l k 0) (sym (b.are h)) ∙ (get_or-take (suc c) ks k 0 (omega arith) ∙ e) in
    let v : get_or (plain_bonds bs rs c) k 0 ≡ plain_bond bs rs k = rw (zero-add k) at (values-at (plain_bond bs rs) 0 (suc c) k 0 (omega arith)) in
    n (sym v ∙ marks-stand c bs 1 c (plain_bonds bs rs c) k m)

pub plain_other : (b : Bool) → ◌≡◌ {A = ℕ} (cond b 61 0) 79 → ⊥
plain_other true e = omega arith
plain_other false e = omega arith

plain-ringless : (bs : List DbPos) (k : ℕ) → plain_bond bs [] k ≡ 79 → ⊥
unfolding plain_bond any_of
plain-ringless bs k h = plain_other (any_of (λ b. eqb b.pos k) bs) h

-- no ring at all
pub ringless-bridge : {bs : List DbPos} {c : ℕ} {ks : List ℕ} (k : ℕ) → BondsBy bs [] c ks → c ≤ 255 → k ≤ c → get_or ks k 0 ≡ 79 → ⊥
ringless-bridge {bs} k b h g e = unbridged k b h g (plain-ringless bs k) e
