use Prim.Native.Nat.{◌≤◌}
use mathlib.Core.List.{[]}
use lib.ListN.{length}
use Rattle.token_syntax.specs.form.Parts.{parts_at}
use Rattle.chain_record.specs.parsed.Parsed.{gather, unbonded_as, on}
use Rattle.token_head.specs.positions.Each.{each}
use Rattle.token_head.proofs.positions.Each.{Onward}
use Rattle.token_segments.specs.segment.Segment.{listed_at, plain_list}
use Rattle.token_segments.proofs.segment.parse_plain_position_list.Given as goal

abbrev pub invariant-loop-so_far : goal.invariant-loop-so_far
invariant-loop-so_far l = Onward (on l.carbon unbonded_as) (gather l.initial.so_far [] l.initial.groups l.initial.rings) (gather l.so_far [] l.groups l.rings) (plain_list l.feature l.s) (each (listed_at l.feature) (parts_at 44 l.t)) × (length l.t ≤ length l.s)

abbrev pub decreases-loop-so_far : goal.decreases-loop-so_far
decreases-loop-so_far l = length l.t
