use Prim.Native.Nat.{◌≤◌, ◌<◌}
use lib.ListN.{length}
use Rattle.chain_text.specs.grouped_text.Text.{rest_text}
use Rattle.chain_text.proofs.grouped_text.TurnLaws.{Turn}
use Rattle.chain_text.proofs.grouped_text.put_stretches.Given as goal

abbrev pub invariant-loop-i : goal.invariant-loop-i
invariant-loop-i l =
    (l.last ≤ 255) × (l.last < length l.bonds) × Turn l.bonds l.last l.groups l.initial.out l.at (rest_text l.bonds l.k l.last l.groups) l.out l.p l.j l.i
