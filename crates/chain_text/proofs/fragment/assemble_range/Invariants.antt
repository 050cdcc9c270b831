use Prim.Native.Nat.{suc, ◌≤◌, ◌<◌, ◌-◌}
use mathlib.Core.Path.{◌≡◌}
use lib.ListN.{length}
use Rattle.drawn_chain.specs.drawable.Drawn.{groups_drawn, rings_drawn, drawn_of}
use Rattle.chain_text.specs.fragment.Text.{carbons_text}
use Rattle.carbons.proofs.Left.{Left}
use Rattle.chain_text.proofs.fragment.assemble_range.Given as goal

abbrev pub invariant-loop-k : goal.invariant-loop-k
invariant-loop-k l =
    (1 ≤ l.k) × (l.end ≡ l.last) × (l.last < length l.bonds) × (l.last < length l.busy) × Left l.initial.out l.at (carbons_text l.x.acyl l.bonds (groups_drawn (drawn_of l.x l.part)) (rings_drawn (drawn_of l.x l.part)) l.label l.first (suc l.last - l.first)) l.out l.p (carbons_text l.x.acyl l.bonds (groups_drawn (drawn_of l.x l.part)) (rings_drawn (drawn_of l.x l.part)) l.label l.k (suc l.last - l.k))

abbrev pub decreases-loop-k : goal.decreases-loop-k
decreases-loop-k l =
    suc l.last - l.k
