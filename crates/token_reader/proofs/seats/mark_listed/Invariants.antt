use lib.ListN.{take}
use Rattle.token_reader.specs.seats.Seats.{MarksAll, positions}
use Rattle.token_reader.proofs.seats.mark_listed.Given as goal

abbrev pub invariant-loop-bond : goal.invariant-loop-bond
invariant-loop-bond l = MarksAll l.initial.used (positions (take l.bond-index l.listed)) l.used
