use Rattle.token_segments.proofs.segment.Laws.{copies-start, copies-more, copies-end}
use Rattle.token_segments.proofs.segment.push_copies.Goals as goal

pub loop-left-init : goal.loop-left-init
loop-left-init c = search copies-start

pub loop-left-preserved : goal.loop-left-preserved
loop-left-preserved c = search copies-more

pub returns : goal.returns
returns c = search copies-end
