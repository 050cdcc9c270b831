use Rattle.line_builder.proofs.Pushes.{bare-some, bare-pushed}
use Rattle.line_builder.proofs.Builder.push_bare.Goals as goal

pub push_chain-requires : goal.push_chain-requires
push_chain-requires c = search bare-some

pub returns : goal.returns
returns c = search bare-pushed
