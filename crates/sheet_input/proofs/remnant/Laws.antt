-- Laws of a block of the input: what is left of it is moved.
-- Assumes nothing.
use Prim.Native.Nat.{ℕ, ◌+◌, ◌-◌, ◌≤◌, ◌<◌, min}
use native.Mathlib.Nat.{min-eq_left, min-eq_right, zero-add}
use native.Mathlib.Omega.{arith}
use native.Mathlib.Decide.{dec_le}
use mathlib.Core.Path.{◌≡◌, sym, ap, ◌∙◌}
use mathlib.Core.List.{List, []}
use lib.ListN.{length, take, drop, length-drop, length-take}
use lib.Seq.{take_all, take-length, take-take, length-take-le}
use Rattle.std.specs.List.{copy_within}
use Rattle.scanner.specs.part.Part.{part}
use Rattle.sheet_input.specs.remnant.Kept.{kept, Moved}

prefix : (m : ℕ) (s : List ℕ) → take m s ≡ take (length (take m s)) s
prefix m s = go (dec_le m (length s))
  where
    go : Dec (m ≤ length s) → take m s ≡ take (length (take m s)) s
    go (yes h) = ap (λ (j : ℕ). take j s) (sym (length-take-le m s h))
    go (no h) = let e : take m s ≡ s = take_all m s (omega arith) in e ∙ sym (ap (λ (l : List ℕ). take (length l) s) e ∙ take-length s)

taken_twice : (a b n : ℕ) (s : List ℕ) → n ≡ min a (min b (length s)) → take a (take b s) ≡ take n s
taken_twice a b n s e =
    let m : length (take a (take b s)) ≡ n = length-take a (take b s) ∙ ap (λ (j : ℕ). min a j) (length-take b s) ∙ sym e in
    prefix a (take b s) ∙ ap (λ (j : ℕ). take j (take b s)) m ∙ take-take n b s (omega arith)

least-left : (from to len n : ℕ) → to ≤ len → n ≡ min (to - from) 2049 → n ≡ min 2049 (min (to - from) (len - from))
least-left from to len n h m = omega arith

least-right : (from to len n : ℕ) → len ≤ to → n ≡ min (len - from) 2049 → n ≡ min 2049 (min (to - from) (len - from))
least-right from to len n h m = omega arith

kept-size : (from to len n end : ℕ) → n ≡ min (end - from) 2049 → end ≡ min to len → n ≡ min 2049 (min (to - from) (len - from))
kept-size from to len n end m o = go (dec_le to len)
  where
    with-end : (k : ℕ) → end ≡ k → n ≡ min (k - from) 2049
    with-end k e = m ∙ ap (λ (j : ℕ). min (j - from) 2049) e

    go : Dec (to ≤ len) → n ≡ min 2049 (min (to - from) (len - from))
    go (yes h) = least-left from to len n h (with-end to (o ∙ min-eq_left h))
    go (no h) = let l : len ≤ to = omega arith in least-right from to len n l (with-end len (o ∙ min-eq_right l))

pub moved_none : (xs : List ℕ) (from end to : ℕ) → end ≡ min to (length xs) → end ≤ from → Moved xs from to xs 0
moved_none xs from end to e h =
    let c : 0 ≡ min kept (min (to - from) (length (drop from xs))) = omega (arith, length-drop from xs) in
    let s : take kept (part from to xs) ≡ [] = taken_twice kept (to - from) 0 (drop from xs) c in
    record { bytes = (rw s); count = (rw s) }

pub moved_all : (xs ys : List ℕ) (from n end to : ℕ) → end ≡ min to (length xs) → from < end → n ≡ min (end - from) 2049
    → ys ≡ copy_within xs from (from + n) 0 → Moved xs from to ys n
moved_all xs ys from n end to o f m e =
    let c : n ≡ min kept (min (to - from) (length (drop from xs))) = kept-size from to (length xs) n end m o ∙ ap (λ (z : ℕ). min kept (min (to - from) z)) (sym (length-drop from xs)) in
    let s : take kept (part from to xs) ≡ take n (drop from xs) = taken_twice kept (to - from) n (drop from xs) c in
    let l : length (take n (drop from xs)) ≡ n = length-take-le n (drop from xs) (omega (arith, c)) in
    let k : from + n - from ≡ n = omega arith in
    record { bytes = (rw (s, l, e, k, zero-add n)); count = (rw (s, l)) }
