use Rattle.line_blocks.proofs.blocks.Notes.{labels-put}
use Rattle.line_blocks.proofs.blocks.put_labels.Goals as goal

pub returns : goal.returns
returns c = search labels-put
