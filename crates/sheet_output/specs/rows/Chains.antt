-- The chains of an answer as they are listed, and what follows the line of a row. Bytes: tab 9, LF 10.
-- Assumes nothing.
use Rattle.std.specs.Prelude.{ℕ, List, [], ◌∷◌, take, drop}
use Rattle.sheet_frame.specs.row_heads.Text.{ended, Carbons, chains_text}
use Rattle.chain_lists.specs.declared.listing.Listed.{Listed}

-- the chains of an answer: what is listed of them, by the number of their indices, and these end to end
unfoldable pub carbons_of : List Listed → List ℕ → List Carbons
carbons_of [] index = []
carbons_of (l ∷ ls) index = record { sn = l.sn; indices = take l.count index } ∷ carbons_of ls (drop l.count index)

-- what follows the line of a row
unfoldable pub rest_text : List Carbons → List ℕ
rest_text cs = 9 ∷ ended (chains_text cs) 10
