use Rattle.chain_indices.proofs.totals.Laws.{figures-are}
use Rattle.chain_indices.proofs.totals.figures_of.Goals as goal

pub returns : goal.returns
returns c = search figures-are
