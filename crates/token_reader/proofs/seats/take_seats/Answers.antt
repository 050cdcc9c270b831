use native.Mathlib.Nat.{sub-zero}
use native.Mathlib.Omega.{arith}
use Rattle.token_reader.proofs.seats.Laws.{no-seat, next-seat, all-seated, seat-next-fits}
use Rattle.token_reader.proofs.seats.take_seats.Goals as goal

pub loop-init : goal.loop-init
loop-init c = (rw (sub-zero c.args.missing), omega arith)

pub seat_from-requires : goal.seat_from-requires
seat_from-requires c = (omega arith, omega arith)

pub returns-in_default : goal.returns-in_default
returns-in_default c = search no-seat

pub overflow_add-from : goal.overflow_add-from
overflow_add-from c = search seat-next-fits

pub loop-preserved : goal.loop-preserved
loop-preserved c = (search next-seat, omega arith)

pub returns : goal.returns
returns c = search all-seated
