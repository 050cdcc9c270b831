use native.Mathlib.Omega.{arith}
use Rattle.chain_indices.proofs.atoms.NumberLaws.{tail-empty, tail-numbers}
use Rattle.chain_indices.proofs.atoms.number_tail.Goals as goal

pub returns-then-n-eq0 : goal.returns-then-n-eq0
returns-then-n-eq0 c = search (tail-empty, arith)

pub returns : goal.returns
returns c = search tail-numbers
