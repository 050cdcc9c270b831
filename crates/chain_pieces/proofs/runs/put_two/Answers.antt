use native.Mathlib.Omega.{arith}
use Rattle.writer.proofs.emit.Laws.{written-append}
use Rattle.chain_pieces.proofs.runs.Laws.{link-room}
use Rattle.chain_pieces.proofs.runs.put_two.Goals as goal

pub put_link-requires : goal.put_link-requires
put_link-requires c = search link-room

pub returns : goal.returns
returns c = search (written-append, arith)
