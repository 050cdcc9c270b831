-- Laws of blocks, and of parts of the trailer, that are written one after the other. Assumes nothing.
use Prim.Native.Nat.{ℕ, ◌≤◌, ◌<◌, ◌^◌, min}
use native.Mathlib.Omega.{arith}
use native.Mathlib.Decide.{dec_le}
use mathlib.Core.Path.{◌≡◌, refl, sym, ap, ◌∙◌}
use mathlib.Core.Bool.{Bool}
use mathlib.Core.List.{List, [], ◌++◌}
use lib.ListN.{length, take}
use lib.Seq.{take_all}
use Rattle.writer.proofs.emit.Laws.{written-length}
use Rattle.line_parts.specs.shown.Chained.{still_first}
use Rattle.line_parts.proofs.shown.Chained.{shown-then, still-append, none-shown}
use Rattle.placement.specs.declared.chain_notes.Placed.{Placed}
use Rattle.line_blocks.specs.declared.chain_marks.Next.{Next}
use Rattle.line_blocks.specs.chain_marks.Put.{Put}

pub put-none : (opening sep : List ℕ) (xs : List ℕ) (a : Next) → a.at < 2 ^ 64 → Put opening sep [] xs a xs a
unfolding still_first
put-none opening sep xs a h = record { text = none-shown opening sep a.first xs a.at h; first = refl }

pub put_then : {opening sep : List ℕ} {bs₁ bs : List (List ℕ)} {xs ys zs : List ℕ} {a b c : Next} → length xs < 2 ^ 64
    → Put opening sep bs₁ xs a ys b → Put opening sep bs ys b zs c → Put opening sep (bs₁ ++ bs) xs a zs c
put_then {opening} {sep} {bs₁} {bs} {a = a} {b} {c} g u w =
    record {
      text = shown-then opening sep a.first b.first bs₁ bs u.first g u.text w.text;
      first = w.first ∙ (ap (λ (z : Bool). still_first z bs) u.first ∙ sym (still-append a.first bs₁ bs));
    }

pub put-length : {opening sep : List ℕ} {bs : List (List ℕ)} {xs ys : List ℕ} {a b : Next} → Put opening sep bs xs a ys b → length ys ≡ length xs
put-length u = written-length u.text

-- a count past the last place counts all of them
pub places-are : (l : List Placed) (count n i : ℕ) → length l ≡ 4 → n ≡ min count 4 → length (take n l) ≤ i → take i (take n l) ≡ take count l
places-are l count n i k e h = take_all i (take n l) h ∙ go (dec_le count 4)
  where
    go : Dec (count ≤ 4) → take n l ≡ take count l
    go (yes z) = let q : n ≡ count = omega arith in rw q
    go (no z) = take_all n l (omega arith) ∙ sym (take_all count l (omega arith))
