use mathlib.Core.Path.{◌≡◌}
use lib.ListN.{drop}
use Rattle.chain_refusals.specs.refusals.Rising.{rings_rise}
use Rattle.chain_refusals.proofs.refusals.rings_rise.Given as goal

abbrev pub invariant-loop-ring : goal.invariant-loop-ring
invariant-loop-ring l = rings_rise l.least l.rings ≡ rings_rise l.next (drop l.ring-index l.rings)
