use Rattle.sn_labels.proofs.label_block.Laws.{near-past, near-low}
use Rattle.sn_labels.proofs.label_block.nearer.Goals as goal

pub returns-then-a-atom : goal.returns-then-a-atom
returns-then-a-atom c = search near-past

pub returns : goal.returns
returns c = search near-low
