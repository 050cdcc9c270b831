use Rattle.placement.proofs.chain_strand.Laws.{grouped-heads, indexed}
use Rattle.placement.proofs.chain_strand.grouped_indices.Goals as goal

pub number_grouped-own-requires : goal.number_grouped-own-requires
number_grouped-own-requires c = record { draws_few = c.requires.draws_few; grouped = c.requires.grouped; bonds_by = c.requires.bonds_by; carbon_in_bounds = (grouped-heads _ c.head_count-heads.ensures c.requires.carbon_in_bounds.0 c.put_heads-p.ensures, c.requires.carbon_in_bounds.1) }

pub returns : goal.returns
returns c = search indexed
