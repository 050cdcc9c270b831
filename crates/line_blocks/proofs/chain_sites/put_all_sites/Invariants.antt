use Rattle.line_blocks.proofs.chain_sites.Sites.{SitesTo}
use Rattle.line_blocks.proofs.chain_sites.put_all_sites.Given as goal

abbrev pub invariant-loop-p : goal.invariant-loop-p
invariant-loop-p l = SitesTo l.chains l.numbers l.rows l.initial.out l.initial.b l.p-index l.out l.b l.from l.row
