use Rattle.std.proofs.Common.{map, take}
use Rattle.reading_rules.specs.reading.Show.{show_mark}
use Rattle.line_blocks.specs.chain_marks.Put.{PutBlocks}
use Rattle.line_blocks.specs.chain_marks.Marks.{marks_in}
use Rattle.line_blocks.proofs.chain_marks.put_all_marks.Given as goal

abbrev pub invariant-loop-p : goal.invariant-loop-p
invariant-loop-p l = PutBlocks (map show_mark (marks_in (take l.p-index l.chains))) l.initial.out l.initial.b l.out l.b
