-- What follows the text of a line, as the builder writes it.
-- Assumes nothing.
use Prim.Native.Nat.{ℕ}
use mathlib.Core.Path.{refl}
use mathlib.Core.Bool.{Bool}
use mathlib.Core.List.{List}
use lib.ListN.{take}
use Rattle.writer.specs.emit.Text.{Written}
use Rattle.writer.proofs.emit.Laws.{written-length}
use Rattle.line_parts.specs.shown.Notes.{labels_of}
use Rattle.template_rules.specs.Drawn.{labels}
use Rattle.placement.specs.declared.chain_notes.Placed.{Placed}
use Rattle.chain_lists.specs.declared.sn_sites.Sites.{Sites}
use Rattle.line_blocks.specs.blocks.Marks.{marks_in, sums_in}
use Rattle.line_blocks.specs.blocks.Sites.{site_lists_in}
use Rattle.line_blocks.specs.blocks.Notes.{notes_text}
use Rattle.line_builder.specs.declared.Builder.{Builder}
use Rattle.line_builder.specs.Build.{placed_in}
use Rattle.line_builder.specs.Line.{sites_in, notes_after, Finished}

pub finished : {swap : Bool} {s : Sites} {numbers rows xs ys : List ℕ} {notes : List Placed} {b : Builder} {next : ℕ}
    → Written xs b.at (notes_text (labels swap (labels_of (sites_in s))) (marks_in (take b.count notes)) (site_lists_in (take b.count notes) numbers rows) (sums_in (take b.count notes))) ys next
    → Finished swap s numbers rows notes xs b ys (record { at = next; atoms = b.atoms; variables = b.variables; labels = b.labels; used = b.used; rows = b.rows; count = b.count })
unfolding placed_in notes_after
finished u = record { size = written-length u; text = u; used = refl; count = refl }
