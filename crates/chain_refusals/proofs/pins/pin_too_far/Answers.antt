use Rattle.chain_refusals.proofs.pins.Far.{far-located, far_none, far-rings, far-not}
use Rattle.chain_refusals.proofs.pins.pin_too_far.Goals as goal

pub returns-then-x-eq0 : goal.returns-then-x-eq0
returns-then-x-eq0 c = search far-located

pub returns-then-no_pins : goal.returns-then-no_pins
returns-then-no_pins c = search far_none

pub returns-then-groups_past : goal.returns-then-groups_past
returns-then-groups_past c = search far-rings

pub returns : goal.returns
returns c = search far-not
