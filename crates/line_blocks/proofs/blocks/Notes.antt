-- Laws of what a line has after its text. Assumes nothing.
use Prim.Native.Nat.{ℕ, ◌≤◌, ◌<◌, ◌^◌}
use native.Mathlib.Omega.{arith}
use mathlib.Core.Path.{◌≡◌, refl, sym, ap, ◌∙◌}
use mathlib.Core.Bool.{Bool, true, false, cond, not, ◌&&◌}
use mathlib.Core.List.{List, [], ◌++◌, map, append_assoc}
use lib.Dec.{eqb, ltb}
use lib.ListN.{length, take, length-map}
use lib.Seq.{length-take-le}
use borrow.Author.Tests.{lt-ltb, le-ltb}
use Rattle.writer.specs.emit.Text.{Written}
use Rattle.writer.proofs.emit.Laws.{written-append}
use Rattle.reading_rules.specs.reading.Molecule.{At, at, Sum, notes_of}
use Rattle.reading_rules.specs.reading.Line.{below}
use Rattle.reading_rules.specs.reading.Show.{show_mark, show_sites, show_sum, label_blocks, swap_texts, block_texts, trailer_texts, show_line}
use Rattle.template_rules.specs.Drawn.{labels}
use Rattle.line_parts.specs.declared.shown.Site.{Site}
use Rattle.line_parts.specs.shown.Chained.{shown_blocks, shown_parts, blocks_end}
use Rattle.line_parts.specs.shown.Notes.{labels_of, Digits}
use Rattle.line_parts.proofs.shown.Chained.{blocks-shown, trailer-needs, still-labels, still-swaps}
use Rattle.line_blocks.specs.declared.chain_marks.Next.{Next}
use Rattle.line_blocks.specs.chain_marks.Put.{start_at, PutBlocks, PutParts}
use Rattle.line_blocks.proofs.chain_marks.Put.{put_then, put-length}
use Rattle.line_blocks.specs.blocks.Notes.{barred, notes_text, labelled_of}

-- THE LINE: its text, and what stands after it
pub line-noted : (text : List ℕ) (ls marks : List (At ℕ)) (sites : List (At (List ℕ))) (ss : List Sum) → (marks ≡ [] → ss ≡ [])
    → show_line text ls marks sites ss ≡ text ++ notes_text ls marks sites ss
unfolding show_line notes_text barred
line-noted text ls marks sites ss h =
    ap (λ (r : List ℕ). text ++ r) (blocks-shown (block_texts ls marks sites) (trailer_texts ls ss) (trailer-needs ls marks sites ss h) ∙ sym (append_assoc (shown_blocks true (block_texts ls marks sites)) _ _))

-- ---- the labels

pub labelled-all : (swap : Bool) (sited : ℕ) → swap ≡ true → 1 < sited → sited ≡ labelled_of swap sited
labelled-all swap sited e h = rw (e, lt-ltb 1 sited h)

pub labelled-few : (swap : Bool) (sited : ℕ) → swap ≡ true → sited ≤ 1 → 0 ≡ labelled_of swap sited
labelled-few swap sited e h = rw (e, le-ltb 1 sited h)

cond_same : (b : Bool) → cond b true false ≡ b
cond_same true = refl
cond_same false = refl

module _ (l : List Site) (n : ℕ) (h : n ≤ 4) (k : length l ≡ 4) where
  labels_length : length (labels_of (take n l)) ≡ n
  unfolding labels_of
  labels_length = length-map (take n l) (λ (s : Site). at s.atom s.sn) ∙ length-take-le n l (omega arith)

  pub labels-put : {xs ys : List ℕ} {q : ℕ} (a : ℕ) → Written xs a (shown_blocks true (label_blocks (labels_of (take n l)))) ys q
      → PutBlocks (label_blocks (labels_of (take n l))) xs (start_at a) ys (record { at = q; first = eqb n 0 })
  labels-put a w = record { text = w; first = sym (still-labels true (labels_of (take n l)) ∙ rw labels_length (cond_same (eqb n 0))) }

  pub swaps-put : {xs ys : List ℕ} {q : ℕ} (a : ℕ) → Written xs a (shown_parts true (swap_texts (labels_of (take n l)))) ys q
      → PutParts (swap_texts (labels_of (take n l))) xs (start_at a) ys (record { at = q; first = eqb n 0 })
  swaps-put a w = record { text = w; first = sym (still-swaps true (labels_of (take n l)) ∙ rw labels_length (cond_same (eqb n 0))) }

module _ (swap : Bool) (sited n : ℕ) (e : n ≡ labelled_of swap sited) where
  pub labelled-within : sited ≤ 4 → n ≤ 4
  labelled-within h = rw e (go swap (ltb 1 sited))
    where
      go : (a b : Bool) → cond a (cond b sited 0) 0 ≤ 4
      go false b = omega arith
      go true false = omega arith
      go true true = h

  pub labelled-digits : (l : List Site) → Digits (take sited l) → Digits (take n l)
  unfolding labels_of notes_of below
  labelled-digits l h = rw e (go swap (ltb 1 sited))
    where
      go : (a b : Bool) → Digits (take (cond a (cond b sited 0) 0) l)
      go false b = refl
      go true false = refl
      go true true = h

  pub labelled-are : (l : List Site) → sited ≤ 4 → length l ≡ 4 → labels_of (take n l) ≡ labels swap (labels_of (take sited l))
  unfolding labels labels_of
  labelled-are l h k = rw (labels_length l sited h k, e) (go swap (ltb 1 sited))
    where
      go : (a b : Bool) → labels_of (take (cond a (cond b sited 0) 0) l) ≡ cond (a && b) (labels_of (take sited l)) []
      go false b = refl
      go true false = refl
      go true true = refl

-- ---- the blocks and the trailer

pub texts-put : {xs ys zs ws : List ℕ} {a b c d : Next} (ls marks : List (At ℕ)) (sites : List (At (List ℕ))) → PutBlocks (label_blocks ls) xs a ys b
    → PutBlocks (map show_mark marks) ys b zs c → PutBlocks (map show_sites sites) zs c ws d → length xs < 2 ^ 64 → PutBlocks (block_texts ls marks sites) xs a ws d
unfolding block_texts
texts-put ls marks sites u v w g = put_then g u (put_then (rw (put-length u) g) v w)

pub barred-put : {bs : List (List ℕ)} {xs ys zs : List ℕ} {b : Next} {a r : ℕ} → PutBlocks bs xs (start_at a) ys b → Written ys b.at (blocks_end (not b.first)) zs r
    → length xs < 2 ^ 64 → Written xs a (barred bs) zs r
unfolding barred
barred-put u w g = written-append g u.text (rw u.first at w)

pub trailer-put : {xs ys zs : List ℕ} {b c : Next} {a : ℕ} (ls : List (At ℕ)) (ss : List Sum) → PutParts (swap_texts ls) xs (start_at a) ys b → PutParts (map show_sum ss) ys b zs c
    → length xs < 2 ^ 64 → Written xs a (shown_parts true (trailer_texts ls ss)) zs c.at
unfolding trailer_texts
trailer-put ls ss u w g = (put_then g u w).text

pub notes-put : {xs ys zs : List ℕ} {a p q : ℕ} (swap : Bool) (l : List Site) (sited n : ℕ) (marks : List (At ℕ)) (sites : List (At (List ℕ))) (ss : List Sum)
    → n ≡ labelled_of swap sited → Written xs a (barred (block_texts (labels_of (take n l)) marks sites)) ys p
    → Written ys p (shown_parts true (trailer_texts (labels_of (take n l)) ss)) zs q → sited ≤ 4 → length l ≡ 4 → length xs < 2 ^ 64
    → Written xs a (notes_text (labels swap (labels_of (take sited l))) marks sites ss) zs q
unfolding notes_text
notes-put swap l sited n marks sites ss e u w h k g = rw (← labelled-are swap sited n e l h k) (written-append g u w)
