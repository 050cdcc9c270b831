use lib.ListN.{drop}
use Rattle.chain_indices.proofs.grouped_atoms.Groups.{Going}
use Rattle.chain_indices.proofs.grouped_atoms.number_groups.Given as goal

abbrev pub invariant-loop-group : goal.invariant-loop-group
invariant-loop-group l = Going l.next l.k l.groups l.initial.index l.at l.index l.p l.a l.j (drop l.group-index l.groups)
