-- Laws of the writers of marks: a law for each way out and each turn of a loop. Assumes nothing.
use Prim.Native.Nat.{ℕ, zero, suc, ◌+◌, ◌*◌, ◌^◌, ◌<◌}
use native.Mathlib.Nat.{zero-add}
use native.Mathlib.Numerals.{add-one}
use native.Mathlib.Omega.{arith}
use mathlib.Core.Path.{◌≡◌, refl, sym, ap, ◌∙◌}
use mathlib.Core.Bool.{Bool, false}
use mathlib.Core.List.{List, [], ◌∷◌, ◌++◌, map, map-append, append_assoc}
use lib.ListN.{length}
use Rattle.writer.specs.emit.Text.{Written}
use Rattle.writer.proofs.emit.Laws.{written-append}
use Rattle.reading_rules.specs.reading.Ascii.{ascii}
use Rattle.reading_rules.specs.reading.Names.{name_of}
use Rattle.reading_rules.specs.reading.Molecule.{At, at}
use Rattle.reading_rules.specs.reading.Show.{show_mark}
use Rattle.chain_rules.specs.chain.Drawing.{mark_list}
use Rattle.line_parts.specs.shown.Chained.{shown_blocks, still_first, numbered}
use Rattle.line_parts.specs.shown.Notes.{marks_below}
use Rattle.line_parts.proofs.shown.Chained.{shown-append, still-some, none-shown}
use Rattle.line_parts.proofs.shown.Laws.{values-more, values_length}

pub mark-text : {xs ys zs ws : List ℕ} {a p q r : ℕ} (i v : ℕ) → length xs < 2 ^ 64 → Written xs a (numbered (ascii "Sg:n:") i 58) ys p
    → Written ys p (name_of v) zs q → Written zs q (ascii ":ht") ws r → Written xs a (show_mark (at i v)) ws r
unfolding show_mark numbered ascii
mark-text i v g w u t = simp append_assoc at (written-append g (written-append g w u) t)

below-snoc : (p v i : ℕ) → marks_below p v (suc i) ≡ marks_below p v i ++ (at (p + 2 * i) (v + i) ∷ [])
unfolding marks_below
below-snoc p v i = values-more (λ j. at (p + 2 * j) (v + j)) 0 i ∙ ap (λ (k : ℕ). marks_below p v i ++ (at (p + 2 * k) (v + k) ∷ [])) (zero-add i)

below_length : (p v i : ℕ) → length (marks_below p v i) ≡ i
unfolding marks_below
below_length p v i = values_length (λ j. at (p + 2 * j) (v + j)) 0 i

-- one mark more
mark-after : {xs ys zs : List ℕ} {a q r : ℕ} (first : Bool) (ms : List (At ℕ)) (m : At ℕ) → length xs < 2 ^ 64
    → Written xs a (shown_blocks first (map show_mark ms)) ys q → Written ys q (shown_blocks (still_first first (map show_mark ms)) (show_mark m ∷ [])) zs r
    → Written xs a (shown_blocks first (map show_mark (ms ++ (m ∷ [])))) zs r
mark-after first ms m g w u = rw (map-append show_mark ms (m ∷ []), shown-append _ _ first (map show_mark ms) (show_mark m ∷ [])) (written-append g w u)

-- a turn of the loop; `lead` says whether the next mark is the first block
pub marks-more : {xs ys zs : List ℕ} {a q r : ℕ} (first lead : Bool) (p v i : ℕ) → lead ≡ still_first first (map show_mark (marks_below p v i)) → length xs < 2 ^ 64
    → Written xs a (shown_blocks first (map show_mark (marks_below p v i))) ys q → Written ys q (shown_blocks lead (show_mark (at (p + 2 * i) (v + i)) ∷ [])) zs r
    → Written xs a (shown_blocks first (map show_mark (marks_below p v (i + 1)))) zs r
marks-more first lead p v i e g w u = rw (add-one, below-snoc p v i) (mark-after first (marks_below p v i) (at (p + 2 * i) (v + i)) g w (rw e at u))

pub marks-lead : (first : Bool) (p v i : ℕ) → false ≡ still_first first (map show_mark (marks_below p v (i + 1)))
marks-lead first p v i = sym (still-some first show_mark (marks_below p v (i + 1)) (rw below_length (omega arith)))

marks-is : (p v n : ℕ) → (n ≡ 0 → ⊥) → mark_list p v n ≡ marks_below p v n ++ (at (p + 2 * n + 1) (v + n) ∷ [])
unfolding mark_list marks_below
marks-is p v zero h = absurd (h refl)
marks-is p v (suc n) h = refl

pub marks-last : {xs ys zs : List ℕ} {a q r : ℕ} (first : Bool) (p v n : ℕ) → (n ≡ 0 → ⊥) → length xs < 2 ^ 64
    → Written xs a (shown_blocks first (map show_mark (marks_below p v n))) ys q → Written ys q (shown_blocks false (show_mark (at (p + 2 * n + 1) (v + n)) ∷ [])) zs r
    → Written xs a (shown_blocks first (map show_mark (mark_list p v n))) zs r
marks-last first p v n h g w u =
    let l : 0 < length (marks_below p v n) = rw below_length (omega arith) in
    rw (marks-is p v n h) (mark-after first (marks_below p v n) (at (p + 2 * n + 1) (v + n)) g w (rw (still-some first show_mark (marks_below p v n) l) u))

pub marks-none : (first : Bool) (p v n : ℕ) (xs : List ℕ) (a : ℕ) → n ≡ 0 → a < 2 ^ 64 → Written xs a (shown_blocks first (map show_mark (mark_list p v n))) xs a
unfolding mark_list
marks-none first p v n xs a e h = rw e (none-shown _ _ first xs a h)
