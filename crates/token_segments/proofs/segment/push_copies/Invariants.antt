use Rattle.chain_record.specs.parsed.Parsed.{first}
use Rattle.token_segments.proofs.segment.Laws.{Copying}
use Rattle.token_segments.proofs.segment.push_copies.Given as goal

abbrev pub invariant-loop-left : goal.invariant-loop-left
invariant-loop-left l = Copying (first l.initial.so_far l.initial.groups) (first l.so_far l.groups) l.group l.n l.left

abbrev pub decreases-loop-left : goal.decreases-loop-left
decreases-loop-left l = l.left
