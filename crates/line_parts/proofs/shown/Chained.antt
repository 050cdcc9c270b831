-- Laws of texts one after the other: what callers use of the blocks and the trailer of a line. Assumes nothing.
use Prim.Native.Nat.{ℕ, zero, suc, ◌+◌, ◌-◌, ◌^◌, ◌<◌}
use native.Mathlib.Omega.{arith}
use mathlib.Core.Path.{◌≡◌, refl, sym, ap, ◌∙◌}
use mathlib.Core.Bool.{Bool, true, false, cond, not, false≢true}
use mathlib.Core.List.{List, [], ◌∷◌, ◌++◌, map, append_assoc, append-nil}
use lib.ListN.{length}
use lib.Dec.{eqb}
use borrow.Author.Tests.{ne_eqb}
use Rattle.writer.specs.emit.Text.{Written}
use Rattle.writer.proofs.emit.Laws.{written-append, written-nil}
use Rattle.chain_record.specs.plain.Chain.{Chain}
use Rattle.reading_rules.specs.reading.Ascii.{ascii}
use Rattle.reading_rules.specs.reading.Parting.{joined, led}
use Rattle.reading_rules.specs.reading.Molecule.{At, Sum, sum}
use Rattle.reading_rules.specs.reading.Show.{label_blocks, show_mark, show_sites, block_texts, swap_texts, show_sum, trailer_texts, show_trailer, show_blocks, show_line}
use Rattle.chain_rules.specs.declared.chain.Role.{Role}
use Rattle.chain_rules.specs.chain.Lists.{values_from}
use Rattle.chain_rules.specs.chain.Features.{remaining}
use Rattle.chain_rules.specs.chain.Drawing.{mark_list, variables, sums}
use Rattle.line_parts.specs.shown.Chained.{chained, lead, shown, shown_blocks, shown_parts, still_first, blocks_end}
use Rattle.line_parts.specs.shown.Notes.{numbers_from, sum_list}

-- ---- texts of a and then of b

chained-later : (s : List ℕ) (a b : List (List ℕ)) → chained s s (a ++ b) ≡ chained s s a ++ chained s s b
unfolding chained
chained-later s [] b = refl
chained-later s (x ∷ a) b = rw (chained-later s a b) (simp append_assoc)

-- the texts of a ++ b are those of a, and then those of b, which begin with the first where a is empty
pub shown-append : (opening sep : List ℕ) (first : Bool) (a b : List (List ℕ)) → shown opening sep first (a ++ b) ≡ shown opening sep first a ++ shown opening sep (still_first first a) b
unfolding shown chained still_first lead
shown-append opening sep first [] b = refl
shown-append opening sep first (x ∷ a) b = rw (chained-later sep a b) (simp append_assoc)

pub still-append : (first : Bool) (a b : List (List ℕ)) → still_first first (a ++ b) ≡ still_first (still_first first a) b
unfolding still_first
still-append first [] b = refl
still-append first (x ∷ a) [] = refl
still-append first (x ∷ a) (y ∷ b) = refl

pub still-some : {A : Type 0} (first : Bool) (f : A → List ℕ) (l : List A) → 0 < length l → still_first first (map f l) ≡ false
unfolding still_first
still-some first f [] h = absurd (omega arith)
still-some first f (x ∷ l) h = refl

pub still_one : (first : Bool) (b : List ℕ) (bs : List (List ℕ)) → still_first first (b ∷ bs) ≡ false
unfolding still_first
still_one first b bs = refl

-- one run of texts written after another
pub shown-then : {xs ys zs : List ℕ} {at p q : ℕ} (opening sep : List ℕ) (first later : Bool) (a b : List (List ℕ)) → later ≡ still_first first a → length xs < 2 ^ 64
    → Written xs at (shown opening sep first a) ys p → Written ys p (shown opening sep later b) zs q → Written xs at (shown opening sep first (a ++ b)) zs q
shown-then opening sep first later a b e g w u = rw (shown-append opening sep first a b) (written-append g w (rw e at u))

-- a text alone, with what stands before it
pub one-shown : {xs ys zs b : List ℕ} {at p q : ℕ} (opening sep : List ℕ) (first : Bool) → length xs < 2 ^ 64 → Written xs at (lead opening sep first) ys p
    → Written ys p b zs q → Written xs at (shown opening sep first (b ∷ [])) zs q
unfolding shown chained
one-shown opening sep first g w u = rw append-nil (written-append g w u)

pub none-shown : (opening sep : List ℕ) (first : Bool) (xs : List ℕ) (a : ℕ) → a < 2 ^ 64 → Written xs a (shown opening sep first []) xs a
unfolding shown chained
none-shown opening sep first xs a h = written-nil xs a h

-- ---- the line

chained-led : (s : ℕ) (bs : List (List ℕ)) → chained (s ∷ []) (s ∷ []) bs ≡ led s bs
unfolding chained led
chained-led s [] = refl
chained-led s (b ∷ bs) = rw (chained-led s bs)

pub trailer-shown : (ts : List (List ℕ)) → show_trailer ts ≡ shown_parts true ts
unfolding show_trailer shown chained lead joined ascii
trailer-shown [] = refl
trailer-shown (t ∷ ts) = rw (chained-led 59 ts)

pub blocks-none : (ts : List (List ℕ)) → show_blocks [] ts ≡ []
unfolding show_blocks
blocks-none ts = refl

pub blocks-some : (b : List ℕ) (bs ts : List (List ℕ)) → show_blocks (b ∷ bs) ts ≡ shown_blocks true (b ∷ bs) ++ (ascii "|" ++ shown_parts true ts)
unfolding show_blocks shown chained lead joined ascii
blocks-some b bs ts = rw (chained-led 44 bs, trailer-shown ts)

none_only : (ts : List (List ℕ)) → ts ≡ [] → shown_blocks true [] ++ shown_parts true ts ≡ []
unfolding shown chained
none_only ts e = rw e

-- what follows the text of a line: the blocks, the bar after them, and the trailer, which stands only behind blocks
pub blocks-shown : (bs ts : List (List ℕ)) → (still_first true bs ≡ true → ts ≡ []) → show_blocks bs ts ≡ shown_blocks true bs ++ (blocks_end (not (still_first true bs)) ++ shown_parts true ts)
unfolding still_first blocks_end
blocks-shown [] ts h = blocks-none ts ∙ sym (none_only ts (h refl))
blocks-shown (b ∷ bs) ts h = blocks-some b bs ts

-- the flags along a line of these labels, marks and site lists
abbrev pub after_labels : List (At ℕ) → Bool
after_labels labels = still_first true (label_blocks labels)

abbrev pub after_marks : List (At ℕ) → List (At ℕ) → Bool
after_marks labels marks = still_first (after_labels labels) (map show_mark marks)

abbrev pub after_sites : List (At ℕ) → List (At ℕ) → List (At (List ℕ)) → Bool
after_sites labels marks sites = still_first (after_marks labels marks) (map show_sites sites)

abbrev pub after_swap : List (At ℕ) → Bool
after_swap labels = still_first true (swap_texts labels)

-- sums stand only with marks, and `swappable` only with labels
pub trailer-needs : (labels marks : List (At ℕ)) (sites : List (At (List ℕ))) (ss : List Sum) → (marks ≡ [] → ss ≡ []) → still_first true (block_texts labels marks sites) ≡ true
    → trailer_texts labels ss ≡ []
unfolding still_first block_texts trailer_texts label_blocks swap_texts
trailer-needs [] [] sites ss h e = rw (h refl)
trailer-needs [] (m ∷ marks) sites ss h e = absurd (false≢true e)
trailer-needs (l ∷ labels) marks sites ss h e = absurd (false≢true e)

-- a line in the order in which it is written
pub line-shown : (text : List ℕ) (labels marks : List (At ℕ)) (sites : List (At (List ℕ))) (ss : List Sum) → (marks ≡ [] → ss ≡ [])
    → show_line text labels marks sites ss
    ≡ text
    ++ (shown_blocks true (label_blocks labels)
    ++ (shown_blocks (after_labels labels) (map show_mark marks)
    ++ (shown_blocks (after_marks labels marks) (map show_sites sites)
    ++ (blocks_end (not (after_sites labels marks sites))
    ++ (shown_parts true (swap_texts labels)
    ++ shown_parts (after_swap labels) (map show_sum ss))))))
unfolding show_line block_texts trailer_texts
line-shown text labels marks sites ss h =
    ap (λ (r : List ℕ). text ++ r)
    (blocks-shown (block_texts labels marks sites) (trailer_texts labels ss) (trailer-needs labels marks sites ss h) ∙ pieces)
  where
    pieces : shown_blocks true (block_texts labels marks sites) ++ (blocks_end (not (still_first true (block_texts labels marks sites))) ++ shown_parts true (trailer_texts labels ss))
        ≡ shown_blocks true (label_blocks labels)
        ++ (shown_blocks (after_labels labels) (map show_mark marks)
        ++ (shown_blocks (after_marks labels marks) (map show_sites sites)
        ++ (blocks_end (not (after_sites labels marks sites))
        ++ (shown_parts true (swap_texts labels)
        ++ shown_parts (after_swap labels) (map show_sum ss)))))
    pieces =
        rw (
          shown-append (ascii " |") (ascii ",") true (label_blocks labels) (map show_mark marks ++ map show_sites sites),
          shown-append (ascii " |") (ascii ",") (after_labels labels) (map show_mark marks) (map show_sites sites),
          still-append true (label_blocks labels) (map show_mark marks ++ map show_sites sites),
          still-append (after_labels labels) (map show_mark marks) (map show_sites sites),
          shown-append (ascii " ") (ascii ";") true (swap_texts labels) (map show_sum ss),
        ) (simp append_assoc)

-- ---- whether the next block or part is the first, by the numbers that the code has

not-zero : (n : ℕ) → eqb (suc n) 0 ≡ false
not-zero n = ne_eqb (suc n) 0 (λ e. omega arith)

pub still-marks : (first : Bool) (p v n : ℕ) → still_first first (map show_mark (mark_list p v n)) ≡ cond (eqb n 0) first false
unfolding still_first mark_list values_from
still-marks first p v zero = refl
still-marks first p v (suc n) = rw (not-zero n)

pub still-sums : (first : Bool) (v n total : ℕ) → still_first first (map show_sum (sum_list v n total)) ≡ cond (eqb n 0) first false
unfolding still_first sum_list
still-sums first v zero total = refl
still-sums first v (suc n) total = rw (not-zero n)

pub still-labels : (first : Bool) (ls : List (At ℕ)) → still_first first (label_blocks ls) ≡ cond (eqb (length ls) 0) first false
unfolding still_first label_blocks
still-labels first [] = refl
still-labels first (l ∷ ls) = rw (not-zero (length ls))

pub still-swaps : (first : Bool) (ls : List (At ℕ)) → still_first first (swap_texts ls) ≡ cond (eqb (length ls) 0) first false
unfolding still_first swap_texts
still-swaps first [] = refl
still-swaps first (l ∷ ls) = rw (not-zero (length ls))

-- the sum of a chain, by its numbers
pub sums-are : (r : Role) (d : Chain) (v : ℕ) → sums r d v ≡ sum_list v d.unlocated (remaining r d - d.unlocated - 1)
unfolding sums variables sum_list numbers_from
sums-are r d v = go d.unlocated (remaining r d - d.unlocated - 1)
  where
    go : (n total : ℕ) → cond (eqb n 0) [] (sum (values_from (λ i. v + i) 0 (cond (eqb n 0) 0 (suc n))) total ∷ []) ≡ sum_list v n total
    go zero total = refl
    go (suc n) total = rw (not-zero n)
