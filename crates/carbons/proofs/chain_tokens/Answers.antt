use Rattle.carbons.proofs.TokenLaws.{tokens-say}
use native.Mathlib.Omega.{arith}
use borrow.Author.Rules.{rules}
use Rattle.carbons.proofs.chain_tokens.Goals as goal

pub returns : goal.returns
returns c =
    tokens-say (omega (arith, c.requires.noughts_2.1)) c.bonds.ensures c.groups.ensures.are c.rings-rings.ensures.are c.marked_bonds.ensures c.busy_carbons.ensures (search rules) c.literal_end.ensures (search rules)
