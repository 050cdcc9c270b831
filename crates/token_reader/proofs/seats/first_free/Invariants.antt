use Prim.Native.Nat.{◌-◌}
use mathlib.Core.Path.{◌≡◌}
use Rattle.token_reader.specs.seats.Seats.{first_free, used_in}
use Rattle.token_reader.proofs.seats.first_free.Given as goal

abbrev pub invariant-loop-p : goal.invariant-loop-p
invariant-loop-p l = first_free (used_in l.used) (l.to - l.from) l.from ≡ first_free (used_in l.used) (l.to - l.p) l.p
