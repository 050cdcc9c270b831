use native.Mathlib.Omega.{arith}
use Rattle.chain_record.proofs.plain.Laws.{length-mapped}
use Rattle.std.proofs.lemmas.Grind.{common_steps}
use Prim.Native.Nat.{max}
use Rattle.sn_labels.proofs.label_block.Laws.{end_more}
use mathlib.Core.Path.{◌≡◌, refl}
use Rattle.reading_rules.specs.reading.Show.{up_to_last}
use Rattle.line_parts.specs.shown.Notes.{labels_of}
use Rattle.sn_labels.proofs.label_block.label_end.Goals as goal

pub loop-i-init : goal.loop-i-init
unfolding up_to_last labels_of
loop-i-init c = (refl, search length-mapped)

pub loop-i-preserved : goal.loop-i-preserved
loop-i-preserved c =
    let m : c.max-end.result ≡ max c.loop-i.end c.past.result = grind (arith, common_steps) in
    (search end_more, omega arith)
