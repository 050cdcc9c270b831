use Rattle.placement.proofs.chain_strand.Laws.{carried_some, carried-read, carried-few, strand-laid}
use mathlib.Core.Path.{refl}
use native.Mathlib.Omega.{arith}
use Rattle.carbons.proofs.TokenLaws.{noughts}
use borrow.Author.Rules.{rules}
use Rattle.placement.proofs.chain_strand.put_laden.Goals as goal

pub chain_tokens-span-requires : goal.chain_tokens-span-requires
chain_tokens-span-requires c = record { draws_some = search carried_some; carbon_bound = omega arith; noughts = (noughts 256 refl, omega arith); noughts_2 = (noughts 256 refl, omega arith) }

pub build_chain_segment-next-requires : goal.build_chain_segment-next-requires
build_chain_segment-next-requires c = record { draws_read = search carried-read; label_bound = search rules; tokens_of = search rules }

pub put_indices-own-requires : goal.put_indices-own-requires
put_indices-own-requires c = record { draws_few = search carried-few; tokens_of = search rules }

pub put_rows-end-requires : goal.put_rows-end-requires
put_rows-end-requires c =
    carried_some c.requires.carried

pub returns : goal.returns
returns c = search strand-laid
