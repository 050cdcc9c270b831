use mathlib.Core.Path.{sym, ap}
use lib.Seq.{take-length}
use Rattle.scanner.specs.part.Part.{ending}
use Rattle.scanner.proofs.spaces.Laws.{end-space, end-turn, end_none}
use Rattle.scanner.proofs.spaces.text_end.Goals as goal

pub loop-i-init : goal.loop-i-init
loop-i-init c = ap ending (sym (take-length _))

pub returns-then-s-i-ne32 : goal.returns-then-s-i-ne32
returns-then-s-i-ne32 c = search end-turn

pub loop-i-preserved : goal.loop-i-preserved
loop-i-preserved c = search end-space

pub returns : goal.returns
returns c = search end_none
