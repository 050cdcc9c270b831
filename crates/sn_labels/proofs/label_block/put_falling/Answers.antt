use borrow.Author.Rules.{rules}
use native.Mathlib.Omega.{arith}
use Rattle.chain_record.proofs.plain.Laws.{length-mapped}
use Rattle.writer.proofs.emit.Laws.{written-length}
use Rattle.sn_labels.proofs.label_block.FallingLaws.{shown-none, top-none, top_within, digit-behind, top-more, shown-more, shown-all}
use Rattle.sn_labels.proofs.label_block.put_falling.Goals as goal

pub loop-i-init : goal.loop-i-init
loop-i-init c =
    (omega arith, search length-mapped, search rules, search rules, search top-none, search (shown-none, arith))

pub overflow_sub-site : goal.overflow_sub-site
overflow_sub-site c = search top_within

pub put_label-p-requires : goal.put_label-p-requires
put_label-p-requires c = search digit-behind

pub loop-i-preserved : goal.loop-i-preserved
loop-i-preserved c =
    (omega arith, omega arith, search rules, search rules, search top-more, search (shown-more, arith))

pub shape_of-out : goal.shape_of-out
shape_of-out c = search written-length

pub returns : goal.returns
returns c = search shown-all
