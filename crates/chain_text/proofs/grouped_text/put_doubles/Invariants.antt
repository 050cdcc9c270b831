use Prim.Native.Nat.{◌+◌, ◌-◌, ◌*◌, ◌≤◌, ◌<◌}
use mathlib.Core.List.{[]}
use lib.ListN.{length}
use Rattle.chain_pieces.specs.runs.Links.{Links}
use Rattle.chain_text.proofs.grouped_text.put_doubles.Given as goal

abbrev pub invariant-loop-double : goal.invariant-loop-double
invariant-loop-double l =
    (1 ≤ l.k) × (l.last ≤ 255) × (l.last < length l.bonds) × (l.at + (l.last + 1 - l.k) * 2 ≤ length l.initial.out) × Links l.bonds [] l.k l.last l.initial.out l.at l.out l.p l.j
