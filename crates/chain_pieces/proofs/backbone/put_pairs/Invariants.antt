use Rattle.chain_pieces.specs.backbone.Text.{pairs_text}
use Rattle.carbons.proofs.Left.{Left}
use Rattle.chain_pieces.proofs.backbone.put_pairs.Given as goal

abbrev pub invariant-loop-left : goal.invariant-loop-left
invariant-loop-left l = Left l.initial.out l.at (pairs_text l.n) l.out l.p (pairs_text l.left)

abbrev pub decreases-loop-left : goal.decreases-loop-left
decreases-loop-left l = l.left
