use native.Mathlib.Omega.{arith}
use Rattle.chain_pieces.proofs.runs.Laws.{three-room, three-linked}
use Rattle.chain_pieces.proofs.runs.put_three.Goals as goal

pub put_link-requires : goal.put_link-requires
put_link-requires c = search three-room

pub returns : goal.returns
returns c = search (three-linked, arith)
