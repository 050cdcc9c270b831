use Rattle.line_blocks.proofs.blocks.Notes.{labelled-all, labelled-few}
use Rattle.line_blocks.proofs.blocks.labelled.Goals as goal

pub returns-then-sited-gt1 : goal.returns-then-sited-gt1
returns-then-sited-gt1 c = search labelled-all

pub returns-then-swap : goal.returns-then-swap
returns-then-swap c = search labelled-few
