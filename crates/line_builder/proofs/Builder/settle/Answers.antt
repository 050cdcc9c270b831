use Rattle.line_builder.proofs.Pushes.{settled-more, settled-full}
use Rattle.line_builder.proofs.Builder.settle.Goals as goal

pub returns-then-i-lt-MAX_CHAINS : goal.returns-then-i-lt-MAX_CHAINS
returns-then-i-lt-MAX_CHAINS c = search settled-more

pub returns : goal.returns
returns c = search settled-full
