use native.Mathlib.Omega.{arith}
use Rattle.chain_text.proofs.grouped_text.SegmentLaws.{plain-room, plain_done, grouped-rising, grouped-room, grouped-done}
use Rattle.chain_text.proofs.grouped_text.build_grouped.Goals as goal

pub put_doubles-requires : goal.put_doubles-requires
put_doubles-requires c =
    let room = plain-room _ _ c.requires.grouped _ _ c.requires.carbon_in_bounds c.put_carbon-p.ensures c.put_carbonyl-q.ensures in
    (omega arith, omega arith, omega arith, omega arith, room)

pub returns-then-x-eq0 : goal.returns-then-x-eq0
returns-then-x-eq0 c =
    search (plain_done, c.requires.grouped, c.requires.bonds_by)

pub put_stretches-requires : goal.put_stretches-requires
put_stretches-requires c = let rising = grouped-rising _ _ c.requires.grouped c.groups.ensures.are in
    let room = grouped-room _ _ c.requires.grouped _ _ c.groups.ensures.are c.requires.carbon_in_bounds c.put_carbon-p.ensures c.put_carbonyl-q.ensures in
    record { rising = rising; le_k = (omega arith, omega arith, omega arith, omega arith); groups_in_bounds = room }

pub returns : goal.returns
returns c =
    search (grouped-done, c.requires.grouped, c.requires.bonds_by)
