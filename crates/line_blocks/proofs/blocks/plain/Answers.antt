use Rattle.line_blocks.specs.blocks.Notes.{Bare}
use Rattle.line_blocks.proofs.blocks.Bare.{bare-more, plain-not, plain-all}
use Rattle.line_blocks.proofs.blocks.plain.Goals as goal

pub loop-p-init : goal.loop-p-init
unfolding Bare
loop-p-init c = tt

pub returns-then-p-gt0 : goal.returns-then-p-gt0
returns-then-p-gt0 c = plain-not _

pub returns-then-p-gt0-2 : goal.returns-then-p-gt0-2
returns-then-p-gt0-2 c = plain-not _

pub loop-p-preserved : goal.loop-p-preserved
loop-p-preserved c = search bare-more

pub returns : goal.returns
returns c = search plain-all
