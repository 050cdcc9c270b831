use native.Mathlib.Omega.{arith}
use Rattle.chain_pieces.proofs.runs.Laws.{links-then, links-room}
use borrow.Author.Rules.{rules}
use Rattle.chain_pieces.proofs.runs.put_free.Goals as goal

pub put_ones-requires : goal.put_ones-requires
put_ones-requires c = (omega arith, search rules, search rules, search rules, search rules, search links-room)

pub returns : goal.returns
returns c = search (links-then, arith)
