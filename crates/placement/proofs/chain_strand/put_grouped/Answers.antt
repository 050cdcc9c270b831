use mathlib.Core.Path.{refl}
use native.Mathlib.Omega.{arith}
use Rattle.carbons.proofs.TokenLaws.{noughts}
use Rattle.placement.proofs.chain_strand.Laws.{carried_some, carried-read, carried-few, grouped-laid}
use borrow.Author.Rules.{rules}
use Rattle.placement.proofs.chain_strand.put_grouped.Goals as goal

pub ringless_bonds-requires : goal.ringless_bonds-requires
ringless_bonds-requires c = record { noughts = (noughts 96 refl, omega arith, omega arith); part_value = c.requires.grouped.0.rings }

pub build_grouped-next-requires : goal.build_grouped-next-requires
build_grouped-next-requires c = record { draws_read = search carried-read; grouped = search rules; bonds_by = search rules; carbon_in_bounds = search rules }

pub grouped_indices-own-requires : goal.grouped_indices-own-requires
grouped_indices-own-requires c = record { draws_few = search carried-few; grouped = search rules; bonds_by = search rules; carbon_in_bounds = search rules }

pub put_rows-end-requires : goal.put_rows-end-requires
put_rows-end-requires c = search carried_some

pub returns : goal.returns
returns c = search grouped-laid
