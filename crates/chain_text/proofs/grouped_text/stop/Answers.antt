use Rattle.chain_text.proofs.grouped_text.TurnLaws.{stop-there, stop-last}
use Rattle.chain_text.proofs.grouped_text.stop.Goals as goal

pub returns-then-i-groups : goal.returns-then-i-groups
returns-then-i-groups c = search stop-there

pub returns : goal.returns
returns c = search stop-last
