-- Laws of the marks and the sums, chain by chain. Assumes nothing.
use Prim.Native.Nat.{ℕ, ◌+◌, ◌<◌, ◌^◌}
use mathlib.Core.Path.{◌≡◌, sym, ◌∙◌}
use mathlib.Core.Bool.{Bool, false, cond}
use mathlib.Core.List.{List, ◌++◌, map, map-append}
use lib.Dec.{eqb}
use lib.ListN.{length, take, get_or}
use borrow.Author.Tests.{ne_eqb}
use Rattle.writer.specs.emit.Text.{Written}
use Rattle.reading_rules.specs.reading.Ascii.{ascii}
use Rattle.reading_rules.specs.reading.Show.{show_mark, show_sum}
use Rattle.chain_rules.specs.chain.Drawing.{mark_list}
use Rattle.line_parts.specs.shown.Chained.{shown}
use Rattle.line_parts.specs.shown.Notes.{sum_list}
use Rattle.line_parts.proofs.shown.Chained.{still-marks, still-sums}
use Rattle.placement.specs.declared.chain_notes.Placed.{Placed}
use Rattle.writer.specs.index_runs.Index.{in_room}
use Rattle.placement.specs.chain_notes.Fragment.{gathered}
use Rattle.placement.proofs.chain_notes.Laws.{gathered-more}
use Rattle.line_blocks.specs.declared.chain_marks.Next.{Next}
use Rattle.line_blocks.specs.chain_marks.Put.{PutBlocks, PutParts}
use Rattle.line_blocks.specs.chain_marks.Marks.{marks_of, sums_of, marks_in, sums_in}
use Rattle.line_blocks.proofs.chain_marks.Put.{put-none, put_then}

-- ---- a chain

-- after some text the next is not the first
not_first : (n : ℕ) (first : Bool) → (n ≡ 0 → ⊥) → false ≡ cond (eqb n 0) first false
not_first n first h = rw (ne_eqb n 0 h)

pub marks-none : (p : Placed) (a : Next) (xs : List ℕ) → p.unlocated ≡ 0 → a.at < 2 ^ 64 → PutBlocks (map show_mark (marks_of p)) xs a xs a
unfolding marks_of mark_list
marks-none p a xs e h = rw e (put-none _ _ xs a h)

pub marks-put : (p : Placed) (a : Next) {xs ys : List ℕ} {f v q : ℕ} → (p.unlocated ≡ 0 → ⊥) → f ≡ in_room p.first → v ≡ in_room p.variable
    → Written xs a.at (shown (ascii " |") (ascii ",") a.first (map show_mark (mark_list (f + p.flexible) v p.unlocated))) ys q
    → PutBlocks (map show_mark (marks_of p)) xs a ys (record { at = q; first = false })
unfolding marks_of
marks-put p a {f = f} {v} h ef ev w =
    record { text = rw (← ef, ← ev) w; first = not_first p.unlocated a.first h ∙ sym (still-marks a.first (in_room p.first + p.flexible) (in_room p.variable) p.unlocated) }

pub sum-none : (p : Placed) (a : Next) (xs : List ℕ) → p.unlocated ≡ 0 → a.at < 2 ^ 64 → PutParts (map show_sum (sums_of p)) xs a xs a
unfolding sums_of sum_list
sum-none p a xs e h = rw e (put-none _ _ xs a h)

pub sum-put : (p : Placed) (a : Next) {xs ys : List ℕ} {v q : ℕ} → (p.unlocated ≡ 0 → ⊥) → v ≡ in_room p.variable
    → Written xs a.at (shown (ascii " ") (ascii ";") a.first (map show_sum (sum_list v p.unlocated p.total))) ys q
    → PutParts (map show_sum (sums_of p)) xs a ys (record { at = q; first = false })
unfolding sums_of
sum-put p a {v = v} h ev w =
    record { text = rw (← ev) w; first = not_first p.unlocated a.first h ∙ sym (still-sums a.first (in_room p.variable) p.unlocated p.total) }

-- ---- all chains

-- the texts of what is gathered from one chain more
more-shown : {A : Type 0} (show : A → List ℕ) (f : Placed → List A) (l : List Placed) (i : ℕ) (d : Placed) → i < length l
    → map show (gathered f (take (i + 1) l)) ≡ map show (gathered f (take i l)) ++ map show (f (get_or l i d))
more-shown show f l i d h = rw (gathered-more f l i d h) (map-append show (gathered f (take i l)) (f (get_or l i d)))

module _ {xs ys zs : List ℕ} {a b c : Next} (l : List Placed) (i : ℕ) (d : Placed) (h : i < length l) where
  pub marks-more : PutBlocks (map show_mark (marks_in (take i l))) xs a ys b
      → PutBlocks (map show_mark (marks_of (get_or l i d))) ys b zs c → length xs < 2 ^ 64 → PutBlocks (map show_mark (marks_in (take (i + 1) l))) xs a zs c
  unfolding marks_in
  marks-more u w g = rw (more-shown show_mark marks_of l i d h) (put_then g u w)

  pub sums-more : PutParts (map show_sum (sums_in (take i l))) xs a ys b
      → PutParts (map show_sum (sums_of (get_or l i d))) ys b zs c → length xs < 2 ^ 64 → PutParts (map show_sum (sums_in (take (i + 1) l))) xs a zs c
  unfolding sums_in
  sums-more u w g = rw (more-shown show_sum sums_of l i d h) (put_then g u w)
