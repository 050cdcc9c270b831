use borrow.Author.Rules.{rules}
use native.Mathlib.Omega.{arith}
use Rattle.chain_indices.proofs.grouped_atoms.Grouped.{groups-fit, carbon-within, rest-room, rest-small, rest-grows, chain-some, chain-room, grouped-numbered}
use Rattle.chain_indices.proofs.grouped_atoms.number_grouped.Goals as goal

pub number_groups-r-requires : goal.number_groups-r-requires
number_groups-r-requires c = rw c.groups.ensures.are (search groups-fit)

pub overflow_sub-rest : goal.overflow_sub-rest
overflow_sub-rest c =
    carbon-within _ _ _ c.requires.grouped c.carbonyl_atoms-lead.ensures c.requires.carbon_in_bounds.0 c.requires.carbon_in_bounds.1 (search rules) c.put_one-p.ensures _ (rw c.groups.ensures.are at c.number_groups-r.ensures)

pub fill-end-requires : goal.fill-end-requires
fill-end-requires c = (
  rest-room _ _ _ c.requires.grouped c.carbonyl_atoms-lead.ensures c.requires.carbon_in_bounds.0 c.requires.carbon_in_bounds.1 (search rules) c.put_one-p.ensures _ (rw c.groups.ensures.are at c.number_groups-r.ensures),
  rest-small _ _ _ c.requires.grouped c.carbonyl_atoms-lead.ensures c.requires.carbon_in_bounds.0 c.requires.carbon_in_bounds.1 (search rules) c.put_one-p.ensures _ (rw c.groups.ensures.are at c.number_groups-r.ensures),
)

pub overflow_add-next : goal.overflow_add-next
overflow_add-next c =
    record { fits = rest-small _ _ _ c.requires.grouped c.carbonyl_atoms-lead.ensures c.requires.carbon_in_bounds.0 c.requires.carbon_in_bounds.1 (search rules) c.put_one-p.ensures _ (rw c.groups.ensures.are at c.number_groups-r.ensures) }

pub overflow_sub-next : goal.overflow_sub-next
overflow_sub-next c =
    rest-grows _ _ _ c.requires.grouped c.carbonyl_atoms-lead.ensures c.requires.carbon_in_bounds.0 c.requires.carbon_in_bounds.1 (search rules) c.put_one-p.ensures _ (rw c.groups.ensures.are at c.number_groups-r.ensures)

pub overflow_sub-result : goal.overflow_sub-result
overflow_sub-result c = chain-some _ _ c.requires.grouped

pub overflow_add-result : goal.overflow_add-result
overflow_add-result c = record { fits = omega (arith, chain-room _ _ c.requires.grouped) }

pub returns : goal.returns
returns c =
    grouped-numbered _ _ _ c.requires.grouped c.carbonyl_atoms-lead.ensures c.requires.carbon_in_bounds.0 c.requires.carbon_in_bounds.1 (search rules) c.put_one-p.ensures _ (rw c.groups.ensures.are at c.number_groups-r.ensures) c.requires.bonds_by c.fill-end.ensures (omega arith)
