use Rattle.chain_refusals.proofs.pins.Far.{pins-rings, pins-groups}
use Rattle.chain_refusals.proofs.pins.no_pins.Goals as goal

pub returns-then-is_empty : goal.returns-then-is_empty
returns-then-is_empty c = search pins-rings

pub returns-else-is_empty : goal.returns-else-is_empty
returns-else-is_empty c = search pins-groups
