use native.Mathlib.Omega.{arith}
use Rattle.line_blocks.proofs.blocks.Notes.{texts-put}
use Rattle.line_blocks.proofs.blocks.put_block_texts.Goals as goal

pub returns : goal.returns
returns c = texts-put _ _ _ c.put_labels-a.ensures c.put_all_marks-b.ensures c.put_all_sites.ensures (omega arith)
