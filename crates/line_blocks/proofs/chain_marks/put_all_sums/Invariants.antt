use Rattle.std.proofs.Common.{map, take}
use Rattle.reading_rules.specs.reading.Show.{show_sum}
use Rattle.line_blocks.specs.chain_marks.Put.{PutParts}
use Rattle.line_blocks.specs.chain_marks.Marks.{sums_in}
use Rattle.line_blocks.proofs.chain_marks.put_all_sums.Given as goal

abbrev pub invariant-loop-p : goal.invariant-loop-p
invariant-loop-p l = PutParts (map show_sum (sums_in (take l.p-index l.chains))) l.initial.out l.initial.b l.out l.b
