use Rattle.std.proofs.Common.{take}
use Rattle.line_blocks.specs.blocks.Notes.{Bare}
use Rattle.line_blocks.proofs.blocks.plain.Given as goal

abbrev pub invariant-loop-p : goal.invariant-loop-p
invariant-loop-p l = Bare (take l.p-index l.chains)
