use Rattle.drawing.proofs.Draw.{some-writable, drawn-some}
use native.Mathlib.Omega.{arith}
use mathlib.Core.Path.{refl}
use Rattle.drawing.proofs.draw_some.Goals as goal

pub build_line-built-requires : goal.build_line-built-requires
build_line-built-requires c = search some-writable

pub returns : goal.returns
returns c =
    drawn-some _ c.build_line-built.ensures c.requires.index_room refl (omega arith) c.requires.short_is c.lists_by_sn-listed.ensures c.write_indices-end.ensures
