use Prim.Native.Nat.{◌+◌}
use mathlib.Core.Path.{◌≡◌}
use lib.ListN.{length}
use Rattle.scanner.specs.scan.Part.{index_of_text}
use Rattle.token_syntax.specs.form.Form.{cy_text}
use Rattle.token_syntax.proofs.form.find_cy.Given as goal

abbrev pub invariant-loop-t : goal.invariant-loop-t
invariant-loop-t l = (index_of_text cy_text l.s ≡ l.i + index_of_text cy_text l.t) × (l.i + length l.t ≡ length l.s)

abbrev pub decreases-loop-t : goal.decreases-loop-t
decreases-loop-t l = length l.t
