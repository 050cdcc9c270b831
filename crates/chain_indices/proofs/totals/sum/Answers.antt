use Rattle.chain_indices.proofs.totals.Laws.{sum-none, sum-short, sum-some}
use Rattle.chain_indices.proofs.totals.sum.Goals as goal

pub returns-then-n-eq0 : goal.returns-then-n-eq0
returns-then-n-eq0 c = search sum-none

pub returns-then-remaining-n : goal.returns-then-remaining-n
returns-then-remaining-n c = search sum-short

pub returns : goal.returns
returns c = search sum-some
