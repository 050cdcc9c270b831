-- The text of carbons with the groups on them, the groups in the order of their carbons: what the contracts of the writers cite. Assumes
-- nothing.
use Rattle.std.specs.Prelude.{ℕ, ◌+◌, ◌-◌, List, [], ◌∷◌, ◌++◌}
use Rattle.chain_record.specs.declared.plain.Mod.{Mod}
use Rattle.chain_pieces.specs.branches.Text.{group_text}
use Rattle.chain_pieces.specs.runs.Links.{links_text}

-- the carbon of the next group; without one the last carbon
unfoldable pub stop_of : List Mod → ℕ → ℕ
stop_of [] c = c
stop_of (g ∷ gs) c = g.pos

-- the text of the next group
unfoldable pub next_text : List Mod → List ℕ
next_text [] = []
next_text (g ∷ gs) = group_text g.row

-- the carbons from C k to C c, and the groups on them and on the carbon before; bs has the bonds by carbon
unfoldable pub rest_text : List ℕ → ℕ → ℕ → List Mod → List ℕ
rest_text bs k c [] = links_text bs k (c + 1 - k)
rest_text bs k c (g ∷ gs) = links_text bs k (g.pos + 1 - k) ++ (group_text g.row ++ rest_text bs (g.pos + 1) c gs)
