use native.Mathlib.Omega.{arith}
use Rattle.token_reader.proofs.seats.Laws.{none-marked}
use Rattle.token_reader.proofs.seats.no_marks.Goals as goal

pub returns : goal.returns
returns c = record { room = omega arith; clear = none-marked 256 }
