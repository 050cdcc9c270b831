use native.Mathlib.Omega.{arith}
use Rattle.chain_pieces.proofs.runs.Carbons.{not_seen, empty-asked}
use Rattle.chain_pieces.proofs.runs.sixteen_empty.Goals as goal

pub returns-then-not-eight_empty : goal.returns-then-not-eight_empty
returns-then-not-eight_empty c e = not_seen e

pub returns : goal.returns
returns c e =
    empty-asked c.args.bonds.now c.args.i 16 8 _ _ (omega arith) (omega arith) c.eight_empty.ensures c.if-not-eight_empty.false-raw c.eight_empty-2.ensures e
