use Rattle.placement.proofs.chain_strand.Laws.{carried-read, carried-few, bare-laid}
use borrow.Author.Rules.{rules}
use Rattle.placement.proofs.chain_strand.put_bare.Goals as goal

pub build_bare-next-requires : goal.build_bare-next-requires
build_bare-next-requires c = record { draws_read = search carried-read; grouped = search rules; bond_count_value = search rules; carbon_in_bounds = search rules }

pub bare_indices-own-requires : goal.bare_indices-own-requires
bare_indices-own-requires c = record { draws_few = search carried-few; grouped = search rules; bond_count_value = search rules; carbon_in_bounds = search rules }

pub returns : goal.returns
returns c = search bare-laid
