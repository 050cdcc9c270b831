-- Laws of runs: four numbers that follow one another, and carbons of one atom each. Assumes nothing.
use Prim.Native.Nat.{ℕ, suc, ◌+◌, ◌^◌, ◌<◌}
use native.Mathlib.Omega.{arith}
use mathlib.Core.Path.{◌≡◌, refl, ◌∙◌}
use mathlib.Core.Bool.{false}
use mathlib.Core.List.{List, [], ◌∷◌, ◌++◌}
use lib.ListN.{length, set}
use Rattle.writer.specs.emit.Text.{Written}
use Rattle.reading_rules.specs.reading.Chain.{Carbon, parts_end, bridge_end, carbon_end, chain_end}
use Rattle.writer.specs.index_runs.Index.{ups}
use Rattle.chain_indices.specs.atoms.Atoms.{starts}

-- ---- four numbers

pub four-written : (xs : List ℕ) (at n : ℕ) → at + 4 < 2 ^ 64
    → Written xs at (ups n 4) (set (set (set (set xs at n) (at + 1) (n + 1)) (at + 2) (n + 2)) (at + 3) (n + 3)) (at + 4)
unfolding ups
four-written xs at n h =
    let a : at + 1 ≡ suc at = omega arith in
    let b : at + 2 ≡ suc (suc at) = omega arith in
    let c : at + 3 ≡ suc (suc (suc at)) = omega arith in
    let d : n + 1 ≡ suc n = omega arith in
    let e : n + 2 ≡ suc (suc n) = omega arith in
    let f : n + 3 ≡ suc (suc (suc n)) = omega arith in
    record { elements = rw (a, b, c, d, e, f) refl; next = omega arith }

-- ---- carbons of one atom each

abbrev pub Bares : List Carbon → Type 0
Bares [] = Unit {0}
Bares (c ∷ cs) = (c.parts ≡ []) × (c.bridge ≡ false) × Bares cs

bare-end : (n : ℕ) (c : Carbon) → c.parts ≡ [] → c.bridge ≡ false → carbon_end n c ≡ suc n
unfolding carbon_end parts_end bridge_end
bare-end n c e f = rw (e, f)

pub bares-starts : (n : ℕ) (cs : List Carbon) → Bares cs → starts n cs ≡ ups n (length cs)
unfolding starts ups
bares-starts n [] b = refl
bares-starts n (c ∷ cs) b = rw (bare-end n c b.0 b.1, bares-starts (suc n) cs b.2)

pub bares-end : (n : ℕ) (cs : List Carbon) → Bares cs → chain_end n cs ≡ n + length cs
unfolding chain_end
bares-end n [] b = omega arith
bares-end n (c ∷ cs) b = rw (bare-end n c b.0 b.1) (bares-end (suc n) cs b.2 ∙ omega arith)

pub starts-append : (n : ℕ) (cs ds : List Carbon) → starts n (cs ++ ds) ≡ starts n cs ++ starts (chain_end n cs) ds
unfolding starts chain_end
starts-append n [] ds = refl
starts-append n (c ∷ cs) ds = rw (starts-append (carbon_end n c) cs ds)

pub end-append : (n : ℕ) (cs ds : List Carbon) → chain_end n (cs ++ ds) ≡ chain_end (chain_end n cs) ds
unfolding chain_end
end-append n [] ds = refl
end-append n (c ∷ cs) ds = end-append (carbon_end n c) cs ds
