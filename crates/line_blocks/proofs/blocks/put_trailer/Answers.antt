use native.Mathlib.Omega.{arith}
use Rattle.line_blocks.proofs.blocks.Notes.{trailer-put}
use Rattle.line_blocks.proofs.blocks.put_trailer.Goals as goal

pub returns : goal.returns
returns c = trailer-put _ _ c.put_swaps-a.ensures c.put_all_sums-b.ensures (omega arith)
