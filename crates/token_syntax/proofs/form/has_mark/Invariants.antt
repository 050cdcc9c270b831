use Prim.Native.Nat.{◌+◌}
use mathlib.Core.Path.{◌≡◌}
use lib.ListN.{length}
use Rattle.scanner.specs.scan.Part.{index_of, index_of_text}
use Rattle.token_syntax.specs.form.Form.{cy_text}
use Rattle.token_syntax.proofs.form.has_mark.Given as goal

abbrev pub invariant-loop-t : goal.invariant-loop-t
invariant-loop-t l = (index_of_text cy_text l.s + length l.t ≡ index_of_text cy_text l.t + length l.s) × (index_of 40 l.s + length l.t ≡ index_of 40 l.t + length l.s)

abbrev pub decreases-loop-t : goal.decreases-loop-t
decreases-loop-t l = length l.t
