use Rattle.line_blocks.proofs.blocks.Notes.{swaps-put}
use Rattle.line_blocks.proofs.blocks.put_swaps.Goals as goal

pub returns : goal.returns
returns c = search swaps-put
