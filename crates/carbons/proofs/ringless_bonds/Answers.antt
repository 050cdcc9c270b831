use native.Mathlib.Omega.{arith}
use Rattle.carbons.proofs.TokenLaws.{ringless-marked, ringless-put}
use Rattle.carbons.proofs.ringless_bonds.Goals as goal

pub returns-then-put_rising : goal.returns-then-put_rising
returns-then-put_rising c = search ringless-put

pub returns : goal.returns
returns c =
    ringless-marked c.args.x c.args.part.now c.clear.ensures (omega arith) (omega arith) c.requires.part_value c.bonds-doubles.ensures c.set_doubles.ensures c.mark_any.ensures
