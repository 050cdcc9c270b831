use Rattle.placement.proofs.chain_strand.Laws.{carried_some}
use Rattle.line_builder.proofs.Pushes.{fragment-pushed}
use Rattle.line_builder.proofs.Builder.push_fragment.Goals as goal

pub figures_of-own-requires : goal.figures_of-own-requires
figures_of-own-requires c = search carried_some

pub returns : goal.returns
returns c = search fragment-pushed
