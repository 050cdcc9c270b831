use Rattle.line_blocks.proofs.chain_sites.Sites.{FloatsPut}
use Rattle.line_blocks.proofs.chain_sites.put_floats.Given as goal

abbrev pub invariant-loop-row : goal.invariant-loop-row
invariant-loop-row l = FloatsPut l.sites l.atom l.rows l.initial.out l.initial.b l.row-index l.out l.b l.here
