use mathlib.Core.Path.{◌≡◌}
use lib.ListN.{take}
use Rattle.scanner.specs.part.Part.{ending}
use Rattle.scanner.proofs.spaces.text_end.Given as goal

abbrev pub invariant-loop-i : goal.invariant-loop-i
invariant-loop-i l = ending l.s ≡ ending (take l.i l.s)
