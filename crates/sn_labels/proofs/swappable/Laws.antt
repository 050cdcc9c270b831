-- Laws of the writers of the labels that may be exchanged: a law for each way out and each turn of a loop. Assumes nothing.
use Prim.Native.Nat.{ℕ, suc, ◌+◌, ◌^◌, ◌≤◌, ◌<◌, min}
use native.Mathlib.Omega.{arith}
use mathlib.Core.Path.{◌≡◌, refl, ap, ◌∙◌}
use mathlib.Core.Bool.{Bool}
use mathlib.Core.List.{List, [], ◌∷◌, ◌++◌, map, map-append, append_assoc}
use lib.ListN.{length, take, get_or, length-map}
use lib.Seq.{length-take-le}
use lib.Dec.{ltb}
use Rattle.writer.specs.emit.Text.{Written}
use Rattle.writer.proofs.emit.Laws.{written-append}
use Rattle.reading_rules.specs.reading.Ascii.{ascii}
use Rattle.reading_rules.specs.reading.Parting.{joined}
use Rattle.reading_rules.specs.reading.Molecule.{At, at, notes_of}
use Rattle.reading_rules.specs.reading.Show.{show_label, show_swap, swap_texts}
use Rattle.line_parts.specs.declared.shown.Site.{Site}
use Rattle.line_parts.specs.shown.Chained.{part_lead, shown_parts, listed}
use Rattle.line_parts.specs.shown.Notes.{labels_of}
use Rattle.line_parts.proofs.shown.Chained.{one-shown, none-shown}
use Rattle.line_parts.proofs.shown.Laws.{part-more}
use Rattle.sn_labels.proofs.label_block.Sites.{labels-snoc, labels_length, take_counted, counted_none, counted-some}

notes-snoc : (ls : List (At ℕ)) (j sn : ℕ) → notes_of (ls ++ (at j sn ∷ [])) ≡ notes_of ls ++ (sn ∷ [])
unfolding notes_of
notes-snoc [] j sn = refl
notes-snoc (at i s ∷ ls) j sn = rw (notes-snoc ls j sn)

notes-length : (ls : List (At ℕ)) → length (notes_of ls) ≡ length ls
unfolding notes_of
notes-length [] = refl
notes-length (at i s ∷ ls) = ap suc (notes-length ls)

module _ {xs ys : List ℕ} {a p : ℕ} (l : List Site) (k : length l ≡ 4) (count i : ℕ) (b : count ≤ 4) where
  pub labels-more : {zs : List ℕ} {q : ℕ} (d : Site) → i < count → length xs < 2 ^ 64 → Written xs a (joined 44 (map show_label (notes_of (labels_of (take i l))))) ys p
      → Written ys p (listed (ltb 0 i) 44 (show_label (get_or l i d).sn)) zs q → Written xs a (joined 44 (map show_label (notes_of (labels_of (take (i + 1) l))))) zs q
  labels-more d h g w u =
      let n : length (map show_label (notes_of (labels_of (take i l)))) ≡ i
      = length-map (notes_of (labels_of (take i l))) show_label ∙ (notes-length (labels_of (take i l)) ∙ (labels_length (take i l) ∙ length-take-le i l (omega arith))) in
      rw (labels-snoc l i d (omega arith), notes-snoc (labels_of (take i l)) (get_or l i d).atom (get_or l i d).sn, map-append show_label (notes_of (labels_of (take i l))) ((get_or l i d).sn ∷ []))
      (part-more 44 (map show_label (notes_of (labels_of (take i l)))) (show_label (get_or l i d).sn) i n g w u)

pub swap-text : {xs ys zs ws : List ℕ} {a p q r : ℕ} (sns : List ℕ) → length xs < 2 ^ 64 → Written xs a (ascii "swappable(") ys p
    → Written ys p (joined 44 (map show_label sns)) zs q → Written zs q (ascii ")") ws r → Written xs a (show_swap sns) ws r
unfolding show_swap
swap-text sns g w u v = rw append_assoc at (written-append g (written-append g w u) v)

some-swaps : (l : List Site) → 0 < length l → swap_texts (labels_of l) ≡ show_swap (notes_of (labels_of l)) ∷ []
unfolding swap_texts labels_of
some-swaps [] h = absurd (omega arith)
some-swaps (s ∷ l) h = refl

module _ (first : Bool) (l : List Site) (count n : ℕ) (k : length l ≡ 4) (e : n ≡ min count 4) where
  pub swap-none : (xs : List ℕ) (a : ℕ) → n ≡ 0 → a < 2 ^ 64 → Written xs a (shown_parts first (swap_texts (labels_of (take count l)))) xs a
  unfolding swap_texts labels_of
  swap-none xs a z h = rw (counted_none l count n k e z) (none-shown _ _ first xs a h)

  pub swap-some : {xs ys zs : List ℕ} {a p q : ℕ} → (n ≡ 0 → ⊥) → length xs < 2 ^ 64 → Written xs a (part_lead first) ys p
      → Written ys p (show_swap (notes_of (labels_of (take n l)))) zs q → Written xs a (shown_parts first (swap_texts (labels_of (take count l)))) zs q
  swap-some h g w u = rw (← take_counted l count n k e, some-swaps (take n l) (counted-some l count n k e h)) (one-shown _ _ first g w u)
