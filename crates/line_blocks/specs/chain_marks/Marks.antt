-- The marks and the sums of the chains of a line, by the numbers that are noted of them, in the order of the text. Assumes nothing.
use Rattle.std.specs.Prelude.{ℕ, ◌+◌, List}
use Rattle.reading_rules.specs.reading.Molecule.{At, Sum}
use Rattle.chain_rules.specs.chain.Drawing.{mark_list}
use Rattle.line_parts.specs.shown.Notes.{sum_list}
use Rattle.placement.specs.declared.chain_notes.Placed.{Placed}
use Rattle.writer.specs.index_runs.Index.{in_room}
use Rattle.placement.specs.chain_notes.Fragment.{gathered}

-- 01, Drawing a chain: "variables sit on P+2i for i < n and on P+2n+1"; "their sum is R−n−1"
unfoldable pub marks_of : Placed → List (At ℕ)
marks_of p = mark_list (in_room p.first + p.flexible) (in_room p.variable) p.unlocated

unfoldable pub sums_of : Placed → List Sum
sums_of p = sum_list (in_room p.variable) p.unlocated p.total

-- of all chains
unfoldable pub marks_in : List Placed → List (At ℕ)
unfolding gathered marks_of
marks_in ps = gathered marks_of ps

unfoldable pub sums_in : List Placed → List Sum
unfolding gathered sums_of
sums_in ps = gathered sums_of ps
