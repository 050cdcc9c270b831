use Rattle.carbons.proofs.Fronts.{behind-start, behind-turn, behind-end}
use Rattle.carbons.proofs.BondLaws.{doubles-none, double-set}
use Rattle.carbons.proofs.set_doubles.Goals as goal

pub loop-bond-init : goal.loop-bond-init
loop-bond-init c = behind-start c.args.doubles.now c.into_iter-bond-iterator.result.iter.rest.now (cc) (doubles-none c.args.bonds.now)

pub loop-bond-preserved : goal.loop-bond-preserved
loop-bond-preserved c =
    behind-turn c.args.doubles.now c.loop-bond.bond-iterator.iter.rest.now c.next.new.self.iter.rest.now c.in-Some.bond.now c.in-Some.ensures.steps (double-set c.in-Some.bond.now c.set_at.ensures) c.loop-bond.invariant

pub returns : goal.returns
returns c = behind-end c.args.doubles.now c.loop-bond.bond-iterator.iter.rest.now c.in-None.ensures.steps.0 c.loop-bond.invariant
