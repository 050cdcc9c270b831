-- How long the counts are. Assumes nothing.
use Prim.Native.Nat.{ℕ, suc, ◌+◌, ◌*◌, ◌^◌, ◌≤◌, ◌<◌}
use native.Mathlib.Omega.{arith}
use mathlib.Core.Bool.{Bool, true, false, cond}
use mathlib.Core.List.{List, [], ◌∷◌, ◌++◌}
use lib.ListN.{length, length-append}
use lib.Dec.{eqb}
use Rattle.writer.specs.emit.Text.{decimal}
use Rattle.reading_rules.specs.reading.Ascii.{ascii}
use Rattle.reading_rules.specs.reading.Parting.{joined, led}
use Rattle.reading_rules.proofs.reading.PartingLaws.{All}
use Rattle.sheet_frame.specs.row_heads.Text.{ended, tabbed}
use Rattle.sheet_frame.proofs.row_heads.Room.{digits-few}
use Rattle.sheet_frame.specs.tally.Counts.{answers, count_line, count_lines_from}

line-room : (n t : ℕ) → n < answers → t < 2 ^ 64 → length (count_line n t) ≤ 26
unfolding count_line tabbed ended joined led ascii
line-room n t h k = go (eqb t 0)
  where
    go : (b : Bool) → length (cond b [] ((35 ∷ 9 ∷ (decimal n ++ 9 ∷ (decimal t ++ []))) ++ 10 ∷ [])) ≤ 26
    go true = omega arith
    go false =
        omega (
          arith,
          length-append (35 ∷ 9 ∷ (decimal n ++ 9 ∷ (decimal t ++ []))) (10 ∷ []),
          length-append (decimal n) (9 ∷ (decimal t ++ [])),
          length-append (decimal t) [],
          digits-few 1 n (omega arith),
          digits-few 19 t (omega arith),
        )

-- the lines of all answers, of which each was met so often
pub counts-room : (n : ℕ) (ts : List ℕ) → n + length ts ≤ answers → All (λ t. t < 2 ^ 64) ts → length (count_lines_from n ts) ≤ 26 * length ts
unfolding count_lines_from
counts-room n [] h a = omega arith
counts-room n (t ∷ ts) h a =
    omega (arith, length-append (count_line n t) (count_lines_from (suc n) ts), line-room n t (omega arith) a.0, counts-room (suc n) ts (omega arith) a.1)
