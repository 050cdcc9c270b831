-- The text of the ring labels of a carbon: what the contracts of the writers cite. Assumes nothing.
use Rattle.std.specs.Prelude.{ℕ, List}
use Rattle.reading_rules.specs.reading.Piece.{show_labels}
use Rattle.reading_rules.specs.reading.Chain.{Ring, labels_at}

-- "labels `%10` on": those of carbon k, where the first ring has the label l
unfoldable pub labels_text : ℕ → ℕ → List Ring → List ℕ
labels_text k l rs = show_labels (labels_at k l rs)
