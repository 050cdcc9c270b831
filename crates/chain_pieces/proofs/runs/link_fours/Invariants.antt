use Prim.Native.Nat.{◌+◌, ◌-◌, ◌*◌, ◌≤◌, ◌<◌}
use mathlib.Core.List.{[]}
use lib.ListN.{length}
use Rattle.chain_pieces.specs.runs.Links.{Links}
use Rattle.chain_pieces.proofs.runs.link_fours.Given as goal

abbrev pub invariant-loop-j : goal.invariant-loop-j
invariant-loop-j l = (1 ≤ l.k) × (l.last ≤ 255) × (l.last < length l.bonds) × (l.at + (l.last + 1 - l.k) * 2 ≤ length l.initial.out) × Links l.bonds [] l.k l.last l.initial.out l.at l.out l.p l.j

abbrev pub decreases-loop-j : goal.decreases-loop-j
decreases-loop-j l = l.last + 1 - l.j
