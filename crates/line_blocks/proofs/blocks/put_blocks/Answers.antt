use native.Mathlib.Omega.{arith}
use Rattle.line_blocks.proofs.blocks.Notes.{barred-put}
use Rattle.line_blocks.proofs.blocks.put_blocks.Goals as goal

pub returns : goal.returns
returns c = barred-put c.put_block_texts-b.ensures c.put_blocks_end.ensures (omega arith)
