use Prim.Native.Nat.{◌-◌, ◌≤◌}
use lib.ListN.{length, drop}
use Rattle.token_syntax.specs.form.Parts.{parts_at}
use Rattle.chain_record.specs.parsed.Parsed.{gather, all_as, on}
use Rattle.token_head.specs.positions.Each.{each}
use Rattle.token_head.proofs.positions.Each.{Onward}
use Rattle.token_segments.specs.segment.Segment.{segment_at, segments}
use Rattle.token_segments.proofs.segment.read_segments.Given as goal

abbrev pub invariant-loop-so_far : goal.invariant-loop-so_far
invariant-loop-so_far l = Onward (on l.carbon all_as) (gather l.initial.so_far l.initial.bonds l.initial.groups l.initial.rings) (gather l.so_far l.bonds l.groups l.rings) (segments l.cursor) (each segment_at (parts_at 59 (drop l.at l.cursor))) × (l.at ≤ length l.cursor)

abbrev pub decreases-loop-so_far : goal.decreases-loop-so_far
decreases-loop-so_far l = length l.cursor - l.at
