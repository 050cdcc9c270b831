use Rattle.carbons.proofs.Fronts.{behind-start, behind-turn, behind-end}
use Rattle.carbons.proofs.BondLaws.{rings-none, ring-set}
use Rattle.carbons.proofs.set_rings.Goals as goal

pub loop-ring-init : goal.loop-ring-init
loop-ring-init c = behind-start c.args.rings.now c.into_iter-ring-iterator.result.iter.rest.now (cc) (rings-none c.args.busy.now)

pub loop-ring-preserved : goal.loop-ring-preserved
loop-ring-preserved c =
    behind-turn c.args.rings.now c.loop-ring.ring-iterator.iter.rest.now c.next.new.self.iter.rest.now c.in-Some.ring.now c.in-Some.ensures.steps (ring-set c.in-Some.ring.now c.set_at.ensures c.set_at-in-loop-ring.ensures) c.loop-ring.invariant

pub returns : goal.returns
returns c = behind-end c.args.rings.now c.loop-ring.ring-iterator.iter.rest.now c.in-None.ensures.steps.0 c.loop-ring.invariant
