-- A carbon that carries nothing has no bridge after it: a bridge stands where an epoxide starts, and a ring's start is carried.
-- Assumes nothing.
use Prim.Native.Nat.{ℕ, ◌≤◌, ◌<◌}
use mathlib.Core.Path.{◌≡◌, refl}
use mathlib.Core.Bool.{Bool, true, false, ◌||◌, ◌&&◌}
use mathlib.Core.List.{List, [], ◌∷◌}
use lib.Dec.{eqb}
use lib.ListN.{length, get_or}
use Rattle.chain_record.specs.declared.plain.DbPos.{DbPos}
use Rattle.chain_record.specs.declared.plain.Mod.{Mod}
use Rattle.chain_record.specs.declared.plain.Ring.{Ring as Closed}
use Rattle.chain_rules.specs.chain.Lists.{any_of}
use Rattle.chain_rules.specs.chain.Refusals.{is_epoxide}
use Rattle.chain_rules.specs.chain.Bonds.{plain_bond}
use Rattle.carbons.specs.ByCarbon.{group_on, ring_on, carbonyl_on, busy_at, BondsBy, Busy}
use Rattle.carbons.proofs.Bridges.{plain_other, unbridged}
use Rattle.chain_rules.proofs.chain.Lists.{or_left, or_right}
use Rattle.carbons.proofs.Loads.{not-busy}

-- ---- a bridge is a ring's

and-false : (b : Bool) → (b && false) ≡ false
and-false true = refl
and-false false = refl

no-epoxide : (rs : List Closed) (k : ℕ) → ring_on rs k ≡ false → any_of (λ x. is_epoxide x.bridge && eqb x.start k) rs ≡ false
unfolding ring_on any_of
no-epoxide [] k e = refl
no-epoxide (x ∷ rs) k e =
    let a : (eqb x.start k || eqb x.end k) ≡ false = or_left (eqb x.start k || eqb x.end k) (ring_on rs k) e in
    let s : eqb x.start k ≡ false = or_left (eqb x.start k) (eqb x.end k) a in
    rw (s, and-false (is_epoxide x.bridge)) (no-epoxide rs k (or_right (eqb x.start k || eqb x.end k) (ring_on rs k) e))

plain-bare : (bs : List DbPos) (rs : List Closed) (k : ℕ) → ring_on rs k ≡ false → plain_bond bs rs k ≡ 79 → ⊥
unfolding plain_bond
plain-bare bs rs k e h = plain_other (any_of (λ b. eqb b.pos k) bs) (rw (no-epoxide rs k e) at h)

ring-free : (acyl : Bool) (gs : List Mod) (rs : List Closed) (k : ℕ) → busy_at acyl gs rs k ≡ false → ring_on rs k ≡ false
unfolding busy_at
ring-free acyl gs rs k e =
    or_right (group_on gs k) (ring_on rs k) (or_right (carbonyl_on acyl k) (group_on gs k || ring_on rs k) e)

pub no-bridge : {acyl : Bool} {gs : List Mod} {rs : List Closed} {bs : List DbPos} {c : ℕ} {ks us : List ℕ} (k : ℕ) → BondsBy bs rs c ks → Busy acyl gs rs us
    → c ≤ 255 → k ≤ c → k < length us → get_or us k 0 ≡ 0 → get_or ks k 0 ≡ 79 → ⊥
no-bridge {acyl} {gs} {rs} {bs} k b u h g l z e =
    unbridged k b h g (plain-bare bs rs k (ring-free acyl gs rs k (not-busy k u l z))) e
