use mathlib.Core.Path.{◌≡◌}
use lib.ListN.{length}
use Rattle.sheet_output.proofs.digit_pairs.Laws.{Filled}
use Rattle.sheet_output.proofs.digit_pairs.fill_pairs.Given as goal

abbrev pub invariant-loop-n : goal.invariant-loop-n
invariant-loop-n l = Filled l.pairs l.n × (length l.pairs ≡ length l.initial.pairs)
