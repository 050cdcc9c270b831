use Rattle.chain_pieces.proofs.runs.Laws.{links-room, through-then}
use native.Mathlib.Omega.{arith}
use borrow.Author.Rules.{rules}
use Rattle.chain_pieces.proofs.runs.put_through.Goals as goal

pub link_ones-requires : goal.link_ones-requires
link_ones-requires c = (omega arith, omega arith, omega arith, search rules, search links-room)

pub returns : goal.returns
returns c = search through-then
