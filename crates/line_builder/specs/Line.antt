-- What the builder writes after the text. Assumes nothing.
use Rattle.std.specs.Prelude.{ℕ, ◌≤◌, ◌≡◌, Bool, List, length, take}
use Rattle.writer.specs.emit.Text.{Written}
use Rattle.template_rules.specs.Drawn.{labels}
use Rattle.line_parts.specs.declared.shown.Site.{Site}
use Rattle.line_parts.specs.shown.Notes.{labels_of, Digits}
use Rattle.placement.specs.declared.chain_notes.Placed.{Placed}
use Rattle.chain_lists.specs.declared.sn_sites.Sites.{Sites}
use Rattle.line_blocks.specs.blocks.Marks.{marks_in, sums_in}
use Rattle.line_blocks.specs.blocks.Sites.{site_lists_in}
use Rattle.line_blocks.specs.blocks.Notes.{notes_text}
use Rattle.line_builder.specs.declared.Builder.{Builder}
use Rattle.line_builder.specs.Build.{placed_in}

-- the sites that count
abbrev pub sites_in : Sites → List Site
sites_in s = take s.count s.items

-- a line has at most four sites, each with an sn of one digit
pub record Few (s : Sites) : Type 0 where
  pub count : s.count ≤ 4
  pub digits : Digits (sites_in s)

-- what follows the text of these chains, whose indices and rows stand end to end
unfoldable pub notes_after : Bool → List Site → List Placed → List ℕ → List ℕ → List ℕ
unfolding notes_text labels labels_of marks_in site_lists_in sums_in
notes_after swap ss ps numbers rows = notes_text (labels swap (labels_of ss)) (marks_in ps) (site_lists_in ps numbers rows) (sums_in ps)

-- it is written at the builder's place, and all else stands as it stood
pub record Finished (swap : Bool) (s : Sites) (numbers rows : List ℕ) (notes : List Placed) (xs : List ℕ) (b : Builder) (ys : List ℕ) (q : Builder) : Type 0 where
  pub size : length ys ≡ length xs
  pub text : Written xs b.at (notes_after swap (sites_in s) (placed_in b notes) numbers rows) ys q.at
  pub used : q.used ≡ b.used
  pub count : q.count ≡ b.count
