-- How often each answer was met. 01, Batch program: "Last, per answer met, `#`, answer, times." The order is the program's choice: by rising
-- answer. The answers are those of 01, from 0 to 42. Byte: `#` 35. Assumes nothing.
use Rattle.std.specs.Prelude.{ℕ, suc, cond, List, [], ◌∷◌, ◌++◌, get_or, set, replicate, eqb}
use Rattle.writer.specs.emit.Text.{decimal, after}
use Rattle.reading_rules.specs.reading.Ascii.{ascii}
use Rattle.sheet_frame.specs.declared.tally.Counts.{Counts}
use Rattle.sheet_frame.specs.row_heads.Text.{tabbed}

-- the answers, with the largest
abbrev pub answers : ℕ
answers = 43

-- no answer met
abbrev pub no_times : List ℕ
no_times = replicate answers 0

abbrev pub counting : List ℕ → Counts
counting times = record { times = times }

-- one more answer n; the times stay at the largest number that a `u64` holds
abbrev pub with_answer : List ℕ → ℕ → List ℕ
with_answer times n = set times n (after (get_or times n 0) 1)

-- how often each was met of some answers, one after the other
unfoldable pub times_from : List ℕ → List ℕ → List ℕ
times_from times [] = times
times_from times (n ∷ ns) = times_from (with_answer times n) ns

unfoldable pub times_of : List ℕ → List ℕ
times_of ns = times_from no_times ns

-- how often an answer stands among some
unfoldable pub occurrences : ℕ → List ℕ → ℕ
occurrences n [] = 0
occurrences n (m ∷ ms) = cond (eqb m n) (suc (occurrences n ms)) (occurrences n ms)

-- the line of an answer, where it was met
unfoldable pub count_line : ℕ → ℕ → List ℕ
count_line n times = cond (eqb times 0) [] (tabbed (ascii "#" ∷ decimal n ∷ decimal times ∷ []))

-- those of the answers from n on
unfoldable pub count_lines_from : ℕ → List ℕ → List ℕ
count_lines_from n [] = []
count_lines_from n (t ∷ ts) = count_line n t ++ count_lines_from (suc n) ts

unfoldable pub count_lines : List ℕ → List ℕ
count_lines times = count_lines_from 0 times
