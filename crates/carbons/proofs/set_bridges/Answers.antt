use Rattle.carbons.proofs.Fronts.{behind-start, behind-turn, behind-end}
use Rattle.carbons.proofs.BondLaws.{bridges-none, bridge-set, bridge-not}
use Rattle.carbons.proofs.set_bridges.Goals as goal

pub loop-ring-init : goal.loop-ring-init
loop-ring-init c = behind-start c.args.rings.now c.into_iter-ring-iterator.result.iter.rest.now (cc) (bridges-none c.args.bonds.now)

pub loop-ring-preserved-in-Epoxide : goal.loop-ring-preserved-in-Epoxide
loop-ring-preserved-in-Epoxide c =
    behind-turn c.args.rings.now c.loop-ring.ring-iterator.iter.rest.now c.next.new.self.iter.rest.now c.in-Some.ring.now c.in-Some.ensures.steps (bridge-set c.in-Some.ring.now c.in-Epoxide.is c.set_at.ensures) c.loop-ring.invariant

pub loop-ring-preserved : goal.loop-ring-preserved
loop-ring-preserved c =
    behind-turn c.args.rings.now c.loop-ring.ring-iterator.iter.rest.now c.next.new.self.iter.rest.now c.in-Some.ring.now c.in-Some.ensures.steps (bridge-not c.in-Some.ring.now c.in-Carbocycle.is) c.loop-ring.invariant

pub returns : goal.returns
returns c = behind-end c.args.rings.now c.loop-ring.ring-iterator.iter.rest.now c.in-None.ensures.steps.0 c.loop-ring.invariant
