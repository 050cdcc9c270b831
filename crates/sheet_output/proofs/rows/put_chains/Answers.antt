use Rattle.chain_record.proofs.plain.Laws.{length-mapped}
use borrow.Author.Rules.{rules}
use Rattle.sheet_output.proofs.rows.Laws.{chains-start, rest-start, chains-more, chains-rest, chains-all}
use native.Mathlib.Omega.{arith}
use Rattle.writer.proofs.emit.Laws.{written-length}
use Rattle.sheet_output.proofs.rows.put_chains.Goals as goal

pub loop-i-init : goal.loop-i-init
loop-i-init c = (omega arith, omega arith, search length-mapped, search (chains-start, arith), search rest-start)

pub loop-i-preserved : goal.loop-i-preserved
loop-i-preserved c = (omega arith, omega arith, search rules, search (chains-more, arith), search chains-rest)

pub shape_of-out : goal.shape_of-out
shape_of-out c = search written-length

pub returns : goal.returns
returns c = search chains-all
