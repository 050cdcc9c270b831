use native.Mathlib.Omega.{arith}
use Rattle.judge.proofs.Laws.{told}
use Rattle.judge.proofs.read.Goals as goal

pub returns : goal.returns
returns c = told _ _ _ _ _ _ _ _ (omega (arith, c.told-bonds)) (omega (arith, c.told-groups)) (omega (arith, c.told-rings)) c.parse_token.ensures
