use native.Mathlib.Omega.{arith}
use borrow.Author.Rules.{rules}
use Rattle.placement.proofs.chain_strand.put_strand.Goals as goal

pub put_bare-requires : goal.put_bare-requires
put_bare-requires c = let shape = c.is_grouped.ensures c.if-is_grouped.true in
    record { carried = search rules; grouped = shape.grouped; bond_count_value = (omega arith, omega arith); carbon_in_bounds = c.has_room.ensures c.if-has_room.true }

pub returns-then-x-eq0-2 : goal.returns-then-x-eq0-2
returns-then-x-eq0-2 c = c.put_bare.ensures _ _

pub put_grouped-requires : goal.put_grouped-requires
put_grouped-requires c = let shape = c.is_grouped.ensures c.if-is_grouped.true in
    record { carried = search rules; grouped = (shape.grouped, shape.short); carbon_in_bounds = c.has_room.ensures c.if-has_room.true }

pub returns-then-has_room : goal.returns-then-has_room
returns-then-has_room c = c.put_grouped.ensures _
