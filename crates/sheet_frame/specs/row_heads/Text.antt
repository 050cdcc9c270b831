-- What the batch program prints of a row, as bytes. 01, Batch program: "then per row: answer, token, line, chains as sn:indices (dots, `;`
-- between chains)." Bytes: tab 9, LF 10, dot 46, `:` 58, `;` 59. Assumes nothing.
use Rattle.std.specs.Prelude.{ℕ, List, [], ◌∷◌, ◌++◌, map}
use Rattle.writer.specs.emit.Text.{decimal}
use Rattle.reading_rules.specs.reading.Parting.{joined}

-- a text and the byte after it
unfoldable pub ended : List ℕ → ℕ → List ℕ
ended text b = text ++ b ∷ []

-- parts with a tab between each two, and LF at the end
unfoldable pub tabbed : List (List ℕ) → List ℕ
tabbed parts = ended (joined 9 parts) 10

-- the carbons of a chain: its sn, and their indices from C1 on
pub record Carbons : Type 0 where
  pub sn : ℕ
  pub indices : List ℕ

-- "sn:indices (dots"
unfoldable pub chain_text : Carbons → List ℕ
chain_text c = decimal c.sn ++ 58 ∷ joined 46 (map decimal c.indices)

-- "`;` between chains"
unfoldable pub chains_text : List Carbons → List ℕ
chains_text cs = joined 59 (map chain_text cs)

-- "per row: answer, token, line, chains"
unfoldable pub row_text : ℕ → ℕ → List ℕ → List Carbons → List ℕ
row_text answer token line cs = tabbed (decimal answer ∷ decimal token ∷ line ∷ chains_text cs ∷ [])

-- the answer and the token of a row, each with the tab after it
unfoldable pub head_text : ℕ → ℕ → List ℕ
head_text answer token = ended (decimal answer) 9 ++ ended (decimal token) 9
