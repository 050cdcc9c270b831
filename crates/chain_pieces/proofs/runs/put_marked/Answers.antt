use native.Mathlib.Omega.{arith}
use Rattle.writer.proofs.emit.Laws.{written-append}
use Rattle.chain_pieces.proofs.runs.Laws.{two-room}
use Rattle.chain_pieces.proofs.runs.put_marked.Goals as goal

pub put_two-requires : goal.put_two-requires
put_two-requires c = search two-room

pub returns : goal.returns
returns c = search (written-append, arith)
