-- Laws of places and parts: one for each way out, and what callers use of a part.
-- Assumes nothing.
use Prim.Native.Nat.{ℕ, ◌+◌, ◌-◌, ◌≤◌}
use native.Mathlib.Omega.{arith}
use mathlib.Core.Path.{◌≡◌, refl, sym, ap, ◌∙◌}
use mathlib.Core.Bool.{Bool, true, false, cond}
use mathlib.Core.List.{List}
use lib.ListN.{length, take, drop, length-drop}
use lib.Dec.{eqb, ltb}
use borrow.Author.Tests.{le-ltb, ltb-false}
use Rattle.scanner.specs.part.Part.{Place, index_of}
use Rattle.scanner.proofs.part.Laws.{to_end, first-within}
use Rattle.scanner.specs.declared.reader.Part.{Part}
use Rattle.scanner.specs.reader.Reading.{place_in, part_of, part_from}

-- ---- a place

pub place_here : (s : List ℕ) (at : ℕ) → at ≤ length s → Place s (place_in s at) at
unfolding place_in
place_here s at h = record { is = sym (rw (le-ltb (length s) at h)); within = h }

-- ---- a part

module _ (s : List ℕ) (at from : ℕ) (p : Place s (place_in s at) from) where
  pub part-is : (b n : ℕ) → Place (take (length s - from) (drop from s)) (index_of b (take (length s - from) (drop from s))) n
      → record { from = from; to = from + n; next = from + n + 1 } ≡ part_from b s at
  unfolding part_from
  part-is b n f =
      let k : n ≡ index_of b (drop from s) = f.is ∙ ap (index_of b) (to_end from s) in
      ap (part_of from) k ∙ ap (λ (m : ℕ). part_of m (index_of b (drop m s))) p.is

-- ---- what callers use of a part

place-within : (s : List ℕ) (at : ℕ) → place_in s at ≤ length s
unfolding place_in
place-within s at = go (ltb (length s) at) refl
  where
    go : (c : Bool) → ltb (length s) at ≡ c → cond c (length s) at ≤ length s
    go true h = omega arith
    go false h = ltb-false (length s) at h

index-within : (b : ℕ) (s : List ℕ) (m : ℕ) → m ≤ length s → m + index_of b (drop m s) ≤ length s
index-within b s m l = omega (arith, first-within (λ x. eqb x b) (drop m s), length-drop m s)

module _ (b : ℕ) (s : List ℕ) (at : ℕ) (r : Part) (e : r ≡ part_from b s at) where
  -- the places of a part are in order and within the bytes
  pub part-order : r.from ≤ r.to
  unfolding part_from
  part-order = rw e (omega arith)

  pub part-within : r.to ≤ length s
  unfolding part_from
  part-within = rw e (index-within b s (place_in s at) (place-within s at))

  pub part-next : r.next ≡ r.to + 1
  unfolding part_from
  part-next = rw e

  -- from a place within the bytes
  module _ (l : at ≤ length s) where
    pub part-starts : r.from ≡ at
    unfolding part_from
    part-starts = rw e (sym (place_here s at l).is)

    -- where the part ends, counted from there
    pub part-place : Place (drop at s) (index_of b (drop at s)) (r.to - at)
    unfolding part_from
    part-place =
        let k : r.to ≡ at + index_of b (drop at s) = ap (λ (p : Part). p.to) e ∙ ap (λ (m : ℕ). m + index_of b (drop m s)) (sym (place_here s at l).is) in
        record { is = omega arith; within = omega (arith, index-within b s at l, length-drop at s) }
