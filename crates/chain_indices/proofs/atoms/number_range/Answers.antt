use borrow.Author.Rules.{rules}
use native.Mathlib.Omega.{arith}
use Rattle.chain_indices.proofs.atoms.number_range.Goals as goal

pub overflow_cast-first : goal.overflow_cast-first
overflow_cast-first c = omega (arith, c.has_room.ensures c.if-has_room.true)

pub number_within-requires : goal.number_within-requires
number_within-requires c = record { roomy = c.has_room.ensures c.if-has_room.true; tokens_of = search rules }
