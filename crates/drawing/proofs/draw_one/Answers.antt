use Rattle.drawing.proofs.Draw.{one-writable, drawn-one}
use native.Mathlib.Omega.{arith}
use mathlib.Core.Path.{refl}
use Rattle.drawing.proofs.draw_one.Goals as goal

pub build_line-built-requires : goal.build_line-built-requires
build_line-built-requires c = search one-writable

pub returns : goal.returns
returns c =
    drawn-one _ c.requires.count_value c.build_line-built.ensures refl (omega arith) c.requires.short_is c.lists_by_sn-listed.ensures
