use native.Mathlib.Omega.{arith}
use mathlib.Core.Bool.{false≢true}
use Rattle.chain_indices.proofs.atoms.Within.{four-idle}
use Rattle.chain_indices.proofs.atoms.idle_four.Goals as goal

pub returns-then-k-last : goal.returns-then-k-last
returns-then-k-last c = λ e. absurd (false≢true e)

pub returns-then-word-eq0 : goal.returns-then-word-eq0
returns-then-word-eq0 c = λ e. search (four-idle, arith)

pub returns : goal.returns
returns c = λ e. absurd (false≢true e)
