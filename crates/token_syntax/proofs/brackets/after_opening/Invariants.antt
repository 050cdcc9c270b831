use mathlib.Core.Path.{◌≡◌}
use lib.ListN.{length}
use Rattle.token_syntax.specs.brackets.Brackets.{after_opening}
use Rattle.token_syntax.proofs.brackets.after_opening.Given as goal

abbrev pub invariant-loop-t : goal.invariant-loop-t
invariant-loop-t l = after_opening l.s ≡ after_opening l.t

abbrev pub decreases-loop-t : goal.decreases-loop-t
decreases-loop-t l = length l.t
