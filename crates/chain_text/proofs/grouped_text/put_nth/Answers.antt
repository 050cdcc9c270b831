use native.Mathlib.Omega.{arith}
use Rattle.chain_text.proofs.grouped_text.TurnLaws.{next-there, next-none}
use Rattle.chain_text.proofs.grouped_text.put_nth.Goals as goal

pub returns-then-i-groups : goal.returns-then-i-groups
returns-then-i-groups c = search next-there

pub returns : goal.returns
returns c = search (next-none, arith)
