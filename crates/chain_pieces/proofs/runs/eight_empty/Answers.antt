use native.Mathlib.Omega.{arith}
use Rattle.chain_pieces.proofs.runs.Carbons.{not_seen, empty-words}
use Rattle.chain_pieces.proofs.runs.eight_empty.Goals as goal

pub returns-then-word-ne0 : goal.returns-then-word-ne0
returns-then-word-ne0 c e = not_seen e

pub returns : goal.returns
returns c e =
    empty-words c.args.bonds.now c.args.i 8 _ _ (omega arith) (omega arith) c.word.ensures c.if-word-ne0.false c.word-2.ensures e
