use Rattle.placement.proofs.chain_strand.Laws.{indexed}
use borrow.Author.Rules.{rules}
use Rattle.placement.proofs.chain_strand.bare_indices.Goals as goal

pub number_bare-own-requires : goal.number_bare-own-requires
number_bare-own-requires c = record { draws_few = search rules; grouped = search rules; bond_count_value = search rules; carbon_in_bounds = search rules }

pub returns : goal.returns
returns c = search indexed
