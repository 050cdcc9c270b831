use Rattle.carbons.proofs.Fronts.{behind-start, behind-turn, behind-end}
use Rattle.carbons.proofs.Loads.{added_none, group-added, added-room}
use Rattle.carbons.proofs.add_groups.Goals as goal

pub loop-group-init : goal.loop-group-init
loop-group-init c = behind-start c.args.groups.now c.into_iter-group-iterator.result.iter.rest.now (cc) (added_none c.args.busy.now)

pub add_at-requires : goal.add_at-requires
add_at-requires c =
    added-room c.in-Some.group.now.pos c.row_atoms.result c.in-Some.group.now.row _ c.in-Some.group.now c.requires.0 c.requires.1 c.in-Some.ensures.steps c.loop-group.invariant c.row_atoms.ensures

pub loop-group-preserved : goal.loop-group-preserved
loop-group-preserved c =
    behind-turn c.args.groups.now c.loop-group.group-iterator.iter.rest.now c.next.new.self.iter.rest.now c.in-Some.group.now c.in-Some.ensures.steps (group-added c.row_atoms.result c.in-Some.group.now c.row_atoms.ensures c.add_at.ensures) c.loop-group.invariant

pub returns : goal.returns
returns c = behind-end c.args.groups.now c.loop-group.group-iterator.iter.rest.now c.in-None.ensures.steps.0 c.loop-group.invariant
