use native.Mathlib.Omega.{arith}
use mathlib.Core.Path.{refl}
use Rattle.answers.proofs.room.Laws.{readied-writable, short-line, short-index}
use Rattle.answers.proofs.room.is_measured_short.Goals as goal

pub build_line-built-requires : goal.build_line-built-requires
build_line-built-requires c = search readied-writable

pub returns-then-line-built : goal.returns-then-line-built
returns-then-line-built c = short-line c.build_line-built.ensures refl refl c.if-line-built.true

pub returns : goal.returns
returns c = short-index c.build_line-built.ensures refl refl (omega arith) c.if-line-built.false
