use native.Mathlib.Omega.{arith}
use Rattle.chain_pieces.proofs.runs.Carbons.{not_seen, empty-words, empty-asked}
use Rattle.chain_pieces.proofs.runs.are_empty.Goals as goal

pub returns-then-n-lt4 : goal.returns-then-n-lt4
returns-then-n-lt4 c e = not_seen e

pub returns-then-n-gt32 : goal.returns-then-n-gt32
returns-then-n-gt32 c e = not_seen e

pub returns-then-word-ne0 : goal.returns-then-word-ne0
returns-then-word-ne0 c e = not_seen e

pub returns-then-n-lt8 : goal.returns-then-n-lt8
returns-then-n-lt8 c e =
    empty-words c.args.bonds.now c.args.i c.args.n _ _ (omega arith) (omega arith) c.word.ensures c.if-word-ne0.false c.word-then-n-lt8.ensures e

pub returns-then-not-eight_empty : goal.returns-then-not-eight_empty
returns-then-not-eight_empty c e = not_seen e

pub returns-then-n-lt16 : goal.returns-then-n-lt16
returns-then-n-lt16 c e =
    empty-asked c.args.bonds.now c.args.i c.args.n 8 _ _ (omega arith) (omega arith) c.eight_empty.ensures c.if-not-eight_empty.false-raw c.eight_empty-then-n-lt16.ensures e

pub returns-then-not-sixteen_empty : goal.returns-then-not-sixteen_empty
returns-then-not-sixteen_empty c e = not_seen e

pub returns : goal.returns
returns c e =
    empty-asked c.args.bonds.now c.args.i c.args.n 16 _ _ (omega arith) (omega arith) c.sixteen_empty.ensures c.if-not-sixteen_empty.false-raw c.sixteen_empty-2.ensures e
