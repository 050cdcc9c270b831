use Prim.Native.Nat.{◌≤◌, ◌-◌}
use mathlib.Core.Path.{◌≡◌}
use Rattle.token_reader.specs.seats.Seats.{seats_from, used_in}
use Rattle.token_reader.proofs.seats.take_seats.Given as goal

abbrev pub invariant-loop : goal.invariant-loop
invariant-loop l = (seats_from l.carbon (used_in l.initial.used) l.start l.missing ≡ seats_from l.carbon (used_in l.used) l.from (l.missing - l.counter)) × (2 ≤ l.from)
