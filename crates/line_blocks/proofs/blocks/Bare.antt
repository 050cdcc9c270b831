-- Laws of the lines whose chains have no marks, site lists or sums. Assumes nothing.
use Prim.Native.Nat.{ℕ, ◌+◌, ◌≤◌, ◌<◌, ◌^◌, min}
use native.Mathlib.Numerals.{add-one}
use native.Mathlib.Omega.{arith}
use mathlib.Core.Path.{◌≡◌, refl}
use mathlib.Core.Bool.{Bool, true, false, not, false≢true}
use mathlib.Core.List.{List, [], ◌∷◌, ◌++◌, append-nil}
use lib.ListN.{length, take, get_or}
use lib.Seq.{take-suc}
use Rattle.writer.specs.emit.Text.{Written}
use Rattle.writer.proofs.emit.Laws.{written-nil, written-append}
use Rattle.reading_rules.specs.reading.Molecule.{At}
use Rattle.reading_rules.specs.reading.Show.{label_blocks, swap_texts, block_texts, trailer_texts}
use Rattle.chain_rules.specs.chain.Drawing.{mark_list, site_lists}
use Rattle.template_rules.specs.Drawn.{labels}
use Rattle.line_parts.specs.declared.shown.Site.{Site}
use Rattle.line_parts.specs.shown.Chained.{shown, still_first, blocks_end}
use Rattle.line_parts.specs.shown.Notes.{labels_of, sum_list}
use Rattle.placement.specs.declared.chain_notes.Placed.{Placed}
use Rattle.placement.specs.chain_notes.Fragment.{gathered}
use Rattle.line_blocks.specs.declared.chain_marks.Next.{Next}
use Rattle.line_blocks.specs.chain_marks.Put.{start_at, PutBlocks, PutParts}
use Rattle.line_blocks.specs.chain_marks.Marks.{marks_of, sums_of, marks_in, sums_in}
use Rattle.line_blocks.proofs.chain_marks.Put.{places-are}
use Rattle.line_blocks.specs.chain_sites.Sites.{site_lists_of, site_lists_in}
use Rattle.line_blocks.specs.blocks.Notes.{barred, notes_text, labelled_of, Bare, Plain}
use Rattle.line_blocks.proofs.blocks.Notes.{labelled-are, barred-put}

-- ---- the chains

bare-snoc : (ps : List Placed) (p : Placed) → Bare ps → p.unlocated ≡ 0 → p.float_count ≡ 0 → Bare (ps ++ (p ∷ []))
unfolding Bare
bare-snoc [] p h e f = (e, f, tt)
bare-snoc (q ∷ ps) p h e f = (h.0, h.1, bare-snoc ps p h.2 e f)

pub bare-more : (l : List Placed) (i : ℕ) (d : Placed) → i < length l → (get_or l i d).unlocated ≤ 0 → (get_or l i d).float_count ≤ 0 → Bare (take i l) → Bare (take (i + 1) l)
bare-more l i d h f g b = rw (add-one i, take-suc l i d h) (bare-snoc (take i l) (get_or l i d) b (omega arith) (omega arith))

pub plain-not : (ps : List Placed) → Plain ps false
plain-not ps = record { told = λ e. absurd (false≢true e) }

pub plain-all : (l : List Placed) (count n i : ℕ) → length l ≡ 4 → n ≡ min count 4 → length (take n l) ≤ i → Bare (take i (take n l)) → Plain (take count l) true
plain-all l count n i k e h b = record { told = λ z. rw (places-are l count n i k e h) at b }

bare-marks : (ps : List Placed) → Bare ps → marks_in ps ≡ []
unfolding Bare marks_in marks_of gathered mark_list
bare-marks [] h = refl
bare-marks (p ∷ ps) h = rw h.0 (bare-marks ps h.2)

bare-sums : (ps : List Placed) → Bare ps → sums_in ps ≡ []
unfolding Bare sums_in sums_of gathered sum_list
bare-sums [] h = refl
bare-sums (p ∷ ps) h = rw h.0 (bare-sums ps h.2)

bare-sites : (ps : List Placed) (numbers rows : List ℕ) → Bare ps → site_lists_in ps numbers rows ≡ []
unfolding Bare site_lists_in site_lists_of site_lists
bare-sites [] numbers rows h = refl
bare-sites (p ∷ ps) numbers rows h = rw h.1 (bare-sites ps _ _ h.2)

-- ---- the text

pub plain-none : (l : List Site) (n : ℕ) (xs : List ℕ) (a : ℕ) → n ≡ 0 → a < 2 ^ 64 → Written xs a (notes_text (labels_of (take n l)) [] [] []) xs a
unfolding notes_text barred block_texts trailer_texts label_blocks swap_texts shown still_first labels_of blocks_end
plain-none l n xs a e h = rw e (written-nil xs a h)

pub plain-put : {xs ys zs ws : List ℕ} {b d : Next} {a p : ℕ} (ls : List (At ℕ)) → PutBlocks (label_blocks ls) xs (start_at a) ys b
    → Written ys b.at (blocks_end (not b.first)) zs p → PutParts (swap_texts ls) zs (start_at p) ws d → length xs < 2 ^ 64
    → Written xs a (notes_text ls [] [] []) ws d.at
unfolding notes_text block_texts trailer_texts
plain-put ls u v w g = rw (append-nil (label_blocks ls), append-nil (swap_texts ls)) (written-append g (barred-put u v g) w.text)

pub plain-notes : {xs zs : List ℕ} {a q : ℕ} (swap : Bool) (l : List Site) (sited n : ℕ) (ps : List Placed) (numbers rows : List ℕ) (t : Bool)
    → n ≡ labelled_of swap sited → Plain ps t → t ≡ true → Written xs a (notes_text (labels_of (take n l)) [] [] []) zs q → sited ≤ 4 → length l ≡ 4
    → Written xs a (notes_text (labels swap (labels_of (take sited l))) (marks_in ps) (site_lists_in ps numbers rows) (sums_in ps)) zs q
plain-notes swap l sited n ps numbers rows t e u f w h k =
    let b = u.told f in
    rw (← labelled-are swap sited n e l h k, bare-marks ps b, bare-sums ps b, bare-sites ps numbers rows b) w
