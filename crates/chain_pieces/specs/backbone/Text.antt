-- The text of a carbon, of the bridge after it and of the flexible tail, said by `show` of their pieces: what the contracts of the writers
-- cite. Assumes nothing.
use Rattle.std.specs.Prelude.{ℕ, List, [], ◌∷◌, ◌++◌, eqb}
use Rattle.reading_rules.specs.reading.Ascii.{ascii}
use Rattle.reading_rules.specs.reading.Piece.{atom, show}
use Rattle.reading_rules.specs.reading.Chain.{mark_pieces, bridge_pieces, chain_pieces}
use Rattle.chain_rules.specs.chain.Bonds.{bridged, mark_of}
use Rattle.chain_rules.specs.chain.Drawing.{pairs, flexible}

-- the mark of the bond before a carbon, and the carbon
unfoldable pub carbon_text : ℕ → List ℕ
carbon_text b = show (mark_pieces (mark_of b) ++ (atom (ascii "C") [] ∷ []))

-- "an epoxide's O between k and k+1"
unfoldable pub bridge_text : ℕ → List ℕ
bridge_text b = show (bridge_pieces (eqb b bridged))

-- so many `C=C`
unfoldable pub pairs_text : ℕ → List ℕ
pairs_text n = show (chain_pieces [] 0 0 (pairs n))

-- the flexible tail after a bond: no ring ends there
unfoldable pub flexible_text : ℕ → ℕ → List ℕ
flexible_text b n = show (chain_pieces [] 0 0 (flexible (mark_of b) n))
