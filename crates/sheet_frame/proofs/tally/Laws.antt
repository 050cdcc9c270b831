-- Laws of the counts and of their lines: a law for each way out and each turn of a loop. Assumes nothing.
use Prim.Native.Nat.{ℕ, suc, ◌+◌, ◌^◌, ◌≤◌, ◌<◌}
use native.Mathlib.Nat.{add-zero, add-suc, suc-add, zero-add}
use native.Mathlib.Numerals.{add-one}
use native.Mathlib.Omega.{arith}
use mathlib.Core.Path.{◌≡◌, sym, ap}
use mathlib.Core.List.{List, [], ◌∷◌, ◌++◌, append_assoc, append-nil}
use lib.ListN.{length, get_or, set, take}
use lib.Seq.{take-suc, take_all, length-take-le, set_out}
use borrow.Author.Tests.{eq-eqb, ne_eqb}
use Rattle.writer.specs.emit.Text.{Written, after, decimal}
use Rattle.writer.proofs.emit.Laws.{written-append, written-nil}
use Rattle.reading_rules.specs.reading.Ascii.{ascii}
use Rattle.reading_rules.specs.reading.Parting.{joined, led}
use Rattle.sheet_frame.specs.row_heads.Text.{ended, tabbed}
use Rattle.sheet_frame.specs.declared.tally.Counts.{Counts}
use Rattle.sheet_frame.specs.tally.Counts.{counting, with_answer, count_line, count_lines_from, count_lines}

-- ---- counts

pub count-here : (times : List ℕ) (n k : ℕ) → k ≡ after (get_or times n 0) 1 → set times n k ≡ with_answer times n
count-here times n k e = rw e

pub count-out : (times : List ℕ) (n : ℕ) → length times ≤ n → times ≡ with_answer times n
count-out times n h = sym (set_out times n _ h)

pub count_none : (n times : ℕ) (xs : List ℕ) (a : ℕ) → times ≡ 0 → a < 2 ^ 64 → Written xs a (count_line n times) xs a
unfolding count_line
count_none n times xs a e h = rw (eq-eqb times 0 e) (written-nil xs a h)

pub count-line : {xs ys zs ws vs : List ℕ} {a p q r s : ℕ} (n times : ℕ) → (times ≡ 0 → ⊥) → length xs < 2 ^ 64 → Written xs a (35 ∷ 9 ∷ []) ys p
    → Written ys p (ended (decimal n) 9) zs q → Written zs q (decimal times) ws r → Written ws r (10 ∷ []) vs s → Written xs a (count_line n times) vs s
unfolding count_line tabbed ended joined led ascii
count-line n times h g w u v t =
    rw (ne_eqb times 0 h) (simp (append_assoc, append-nil) (simp append_assoc at (written-append g (written-append g (written-append g w u) v) t)))

lines_snoc : (n : ℕ) (ts : List ℕ) (t : ℕ) → count_lines_from n (ts ++ t ∷ []) ≡ count_lines_from n ts ++ count_line (n + length ts) t
unfolding count_lines_from
lines_snoc n [] t = rw (add-zero, append-nil)
lines_snoc n (s ∷ ts) t = rw (lines_snoc (suc n) ts t, append_assoc, suc-add, add-suc)

pub lines_more : {xs ys zs : List ℕ} {a p q : ℕ} (times : List ℕ) (n : ℕ) → n < length times → length xs < 2 ^ 64
    → Written xs a (count_lines_from 0 (take n times)) ys p → Written ys p (count_line n (get_or times n 0)) zs q → Written xs a (count_lines_from 0 (take (n + 1) times)) zs q
lines_more {xs} {ys} {zs} {a} {p} {q} times n h g w u =
    let e : length (take n times) ≡ n = length-take-le n times (omega arith) in
    rw (add-one, take-suc times n 0 (omega arith), lines_snoc 0 (take n times) (get_or times n 0), e, zero-add) (written-append g w u)

pub lines-all : {xs ys : List ℕ} {a p : ℕ} (times : List ℕ) (n : ℕ) → length times ≤ n → Written xs a (count_lines_from 0 (take n times)) ys p
    → Written xs a (count_lines times) ys p
unfolding count_lines
lines-all times n h w = rw (take_all n times (omega arith)) at w
