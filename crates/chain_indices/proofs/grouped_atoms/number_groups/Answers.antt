use native.Mathlib.Omega.{arith}
use Rattle.chain_indices.proofs.grouped_atoms.Groups.{going-none, going-size, group-reaches, group-room, group-last, group-run, group-atoms, group-next, group-carbon, group-numbered, groups-numbered}
use Rattle.chain_indices.proofs.grouped_atoms.number_groups.Goals as goal

pub loop-group-init : goal.loop-group-init
loop-group-init c = search (going-none, arith)

pub overflow_sub-m : goal.overflow_sub-m
overflow_sub-m c = search group-reaches

pub fill-p-requires : goal.fill-p-requires
fill-p-requires c = (search group-room, search group-last)

pub overflow_cast-a : goal.overflow_cast-a
overflow_cast-a c = search group-run

pub overflow_add-a : goal.overflow_add-a
overflow_add-a c = search group-atoms

pub overflow_add-a-in-loop-group : goal.overflow_add-a-in-loop-group
overflow_add-a-in-loop-group c = search group-next

pub overflow_add-j : goal.overflow_add-j
overflow_add-j c = search group-carbon

pub loop-group-preserved : goal.loop-group-preserved
loop-group-preserved c = search (group-numbered, arith)

pub shape_of-index : goal.shape_of-index
shape_of-index c = search going-size

pub returns : goal.returns
returns c = search groups-numbered
