use lib.ListN.{drop}
use Rattle.chain_pieces.specs.branches.Text.{floats_text}
use Rattle.carbons.proofs.Left.{Left}
use Rattle.chain_pieces.proofs.branches.put_floats.Given as goal

abbrev pub invariant-loop-group : goal.invariant-loop-group
invariant-loop-group l = Left l.initial.out l.at (floats_text l.floats) l.out l.p (floats_text (drop l.group-index l.floats))
