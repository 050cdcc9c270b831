use Rattle.chain_refusals.proofs.refusals.Place.{place-off, place-clash, place-fits}
use Rattle.chain_refusals.proofs.refusals.listed_refusal.Goals as goal

pub returns-then-off_chain : goal.returns-then-off_chain
returns-then-off_chain c = search place-off

pub returns-then-clash : goal.returns-then-clash
returns-then-clash c = search place-clash

pub returns : goal.returns
returns c = search place-fits
