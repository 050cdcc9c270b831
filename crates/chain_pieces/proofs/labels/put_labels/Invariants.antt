use Prim.Native.Nat.{◌+◌}
use mathlib.Core.Path.{◌≡◌}
use lib.ListN.{drop}
use Rattle.chain_rules.specs.chain.Drawing.{ring_pairs}
use Rattle.chain_pieces.specs.labels.Text.{labels_text}
use Rattle.carbons.proofs.Left.{Left}
use Rattle.chain_pieces.proofs.labels.put_labels.Given as goal

abbrev pub invariant-loop-ring : goal.invariant-loop-ring
invariant-loop-ring l = (l.l ≡ l.label + l.ring-index) × Left l.initial.out l.at (labels_text l.k l.label (ring_pairs l.rings)) l.out l.p (labels_text l.k l.l (ring_pairs (drop l.ring-index l.rings)))
