-- Laws of sites: how many count, and what labels they have. Assumes nothing.
use Prim.Native.Nat.{ℕ, zero, suc, ◌+◌, ◌≤◌, ◌<◌, min}
use native.Mathlib.Nat.{not-suc-le-zero, le_of_suc-le-suc}
use native.Mathlib.Numerals.{add-one}
use native.Mathlib.Decide.{dec_le}
use native.Mathlib.Omega.{arith}
use mathlib.Core.Path.{◌≡◌, sym, ◌∙◌}
use mathlib.Core.List.{List, [], ◌∷◌, ◌++◌, map-append}
use lib.ListN.{length, take, get_or, length-map}
use lib.Seq.{take-suc, take_all, get_or-take, length-take-le}
use lib.Dec.{ltb}
use borrow.Author.Tests.{ltb-true}
use Rattle.reading_rules.specs.reading.Molecule.{at, notes_of}
use Rattle.reading_rules.specs.reading.Line.{below}
use Rattle.reading_rules.proofs.reading.PartingLaws.{and_left, and_right}
use Rattle.line_parts.specs.declared.shown.Site.{Site}
use Rattle.line_parts.specs.shown.Notes.{labels_of, Digits}

pub labels-snoc : (l : List Site) (i : ℕ) (d : Site) → i < length l → labels_of (take (i + 1) l) ≡ labels_of (take i l) ++ (at (get_or l i d).atom (get_or l i d).sn ∷ [])
unfolding labels_of
labels-snoc l i d h = rw (add-one, take-suc l i d h) (map-append (λ (s : Site). at s.atom s.sn) (take i l) (get_or l i d ∷ []))

pub labels_length : (l : List Site) → length (labels_of l) ≡ length l
unfolding labels_of
labels_length l = length-map l (λ (s : Site). at s.atom s.sn)

digit_at : (l : List Site) (i : ℕ) (d : Site) → Digits l → i < length l → (get_or l i d).sn < 10
unfolding below notes_of labels_of
digit_at [] i d e h = absurd (not-suc-le-zero h)
digit_at (s ∷ l) zero d e h = ltb-true s.sn 10 (and_left (ltb s.sn 10) (below 10 (notes_of (labels_of l))) e)
digit_at (s ∷ l) (suc i) d e h = digit_at l i d (and_right (ltb s.sn 10) (below 10 (notes_of (labels_of l))) e) (le_of_suc-le-suc h)

pub site-digit : (l : List Site) (count i : ℕ) (d : Site) → length l ≡ 4 → count ≤ 4 → i < count → Digits (take count l) → (get_or l i d).sn < 10
site-digit l count i d k b h e =
    rw (get_or-take count l i d h) at (digit_at (take count l) i d e (omega (arith, length-take-le count l (omega arith))))

-- ---- the sites that count

pub take_counted : (l : List Site) (count n : ℕ) → length l ≡ 4 → n ≡ min count 4 → take n l ≡ take count l
take_counted l count n k e = go (dec_le count 4)
  where
    go : Dec (count ≤ 4) → take n l ≡ take count l
    go (yes h) = let z : n ≡ count = omega arith in rw z
    go (no h) = take_all n l (omega arith) ∙ sym (take_all count l (omega arith))

module _ (l : List Site) (count n : ℕ) (k : length l ≡ 4) (e : n ≡ min count 4) where
  pub counted_none : n ≡ 0 → take count l ≡ []
  counted_none z = sym (take_counted l count n k e) ∙ rw z

  pub counted-some : (n ≡ 0 → ⊥) → 0 < length (take n l)
  counted-some h = omega (arith, length-take-le n l (omega arith))

  pub digits-counted : Digits (take count l) → Digits (take n l)
  digits-counted d = rw (take_counted l count n k e) d
