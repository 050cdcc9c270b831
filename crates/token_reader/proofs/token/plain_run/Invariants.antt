use lib.ListN.{take}
use Rattle.token_reader.specs.token.Short.{Plainly}
use Rattle.token_reader.proofs.token.plain_run.Given as goal

abbrev pub invariant-loop-i : goal.invariant-loop-i
invariant-loop-i l = Plainly (take l.i l.s)
