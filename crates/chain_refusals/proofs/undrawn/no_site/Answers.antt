use Rattle.chain_refusals.proofs.undrawn.Draw.{site-none, site-some}
use Rattle.chain_refusals.proofs.undrawn.no_site.Goals as goal

pub returns-then-is_empty : goal.returns-then-is_empty
returns-then-is_empty c = search site-none

pub returns : goal.returns
returns c = search site-some
