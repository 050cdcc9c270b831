-- The site lists of the chains of a line, by the numbers that are noted of them, in the order of the text. Assumes nothing.
use Rattle.std.specs.Prelude.{ℕ, ◌+◌, cond, List, [], ◌∷◌, ◌++◌, map, length, take, drop}
use Rattle.reading_rules.specs.reading.Molecule.{At}
use Rattle.chain_rules.specs.chain.Drawing.{branch_part, site_lists}
use Rattle.template_rules.specs.Written.{head_carbons}
use Rattle.placement.specs.declared.chain_notes.Placed.{Placed}
use Rattle.writer.specs.index_runs.Index.{in_room}

-- "sites are all drawn carbons but acyl C1": how many indices of a chain lead that are no sites
abbrev pub skipped : Placed → ℕ
skipped p = length (head_carbons p.role) + cond p.acyl 1 0

-- a site list at each floating atom of a chain with these indices, whose floating groups have these rows
unfoldable pub site_lists_of : Placed → List ℕ → List ℕ → List (At (List ℕ))
site_lists_of p is rs = site_lists (drop (skipped p) is) (in_room p.first + p.floats) (map branch_part rs)

-- of all chains, whose indices and rows stand end to end
unfoldable pub site_lists_in : List Placed → List ℕ → List ℕ → List (At (List ℕ))
unfolding site_lists_of
site_lists_in [] numbers rows = []
site_lists_in (p ∷ ps) numbers rows =
    site_lists_of p (take p.count numbers) (take p.float_count rows) ++ site_lists_in ps (drop p.count numbers) (drop p.float_count rows)
