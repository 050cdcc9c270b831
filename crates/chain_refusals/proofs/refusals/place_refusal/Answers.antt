use Rattle.chain_refusals.proofs.refusals.Rising.{place-ether, place-rises}
use Rattle.chain_refusals.proofs.refusals.place_refusal.Goals as goal

pub returns-then-x : goal.returns-then-x
returns-then-x c = search place-ether

pub returns-then-rings_rise : goal.returns-then-rings_rise
returns-then-rings_rise c = search place-rises
