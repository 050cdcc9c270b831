-- The text of a line, read: its rows, or none where it is unreadable.
-- 01, The line and its reading: "The text is a run".
use Rattle.std.specs.Prelude.{ℕ, List}
use Rattle.std.proofs.Math.Option.{Option, none, some}
use Rattle.reading_rules.specs.smiles.Row.{Row}
use Rattle.reading_rules.specs.smiles.Piece.{Piece}
use Rattle.reading_rules.specs.smiles.Lexer.{pieces_of}
use Rattle.reading_rules.specs.smiles.Machine.{read_pieces}

unfoldable pub read_lexed : Option (List Piece) → Option (List Row)
unfolding read_pieces
read_lexed none = none
read_lexed (some us) = read_pieces us

unfoldable pub read_text : List ℕ → Option (List Row)
unfolding pieces_of read_lexed
read_text xs = read_lexed (pieces_of xs)
