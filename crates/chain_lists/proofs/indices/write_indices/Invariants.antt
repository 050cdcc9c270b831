use Rattle.std.proofs.Common.{take}
use Rattle.writer.specs.emit.Text.{Written}
use Rattle.chain_lists.specs.indices.Index.{indices_at}
use Rattle.chain_lists.proofs.indices.write_indices.Given as goal

abbrev pub invariant-loop-place : goal.invariant-loop-place
invariant-loop-place l = Written l.initial.out 0 (indices_at l.notes l.numbers (take l.place-index l.places)) l.out l.q
