use mathlib.Core.Path.{refl}
use Rattle.line_builder.proofs.Builder.new.Goals as goal

pub returns : goal.returns
returns c = record { at = refl; atoms = refl; variables = refl; labels = refl; used = refl; rows = refl; count = refl }
