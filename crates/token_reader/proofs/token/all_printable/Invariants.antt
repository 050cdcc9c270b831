use mathlib.Core.Path.{◌≡◌}
use mathlib.Core.Bool.{cond, false}
use lib.ListN.{length}
use Rattle.token_reader.specs.token.Token.{all_printable}
use Rattle.token_reader.proofs.token.all_printable.Given as goal

abbrev pub invariant-loop-t : goal.invariant-loop-t
invariant-loop-t l = all_printable l.s ≡ cond l.all (all_printable l.t) false

abbrev pub decreases-loop-t : goal.decreases-loop-t
decreases-loop-t l = length l.t
