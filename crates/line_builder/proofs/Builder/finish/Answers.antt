use Rattle.line_builder.proofs.Line.{finished}
use Rattle.line_builder.proofs.Builder.finish.Goals as goal

pub returns : goal.returns
returns c = search finished
