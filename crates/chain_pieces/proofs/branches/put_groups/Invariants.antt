use lib.ListN.{drop}
use Rattle.chain_pieces.specs.branches.Text.{sitting, groups_text}
use Rattle.carbons.proofs.Left.{Left}
use Rattle.chain_pieces.proofs.branches.put_groups.Given as goal

abbrev pub invariant-loop-group : goal.invariant-loop-group
invariant-loop-group l = Left l.initial.out l.at (groups_text (sitting l.k l.groups)) l.out l.p (groups_text (sitting l.k (drop l.group-index l.groups)))
