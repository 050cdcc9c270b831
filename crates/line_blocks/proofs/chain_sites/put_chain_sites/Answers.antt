use native.Mathlib.Omega.{arith}
use Rattle.line_blocks.proofs.chain_sites.Sites.{sites-none, sites-put}
use Rattle.line_blocks.proofs.chain_sites.put_chain_sites.Goals as goal

pub returns-then-p-eq0 : goal.returns-then-p-eq0
returns-then-p-eq0 c =
    let a = c.args in
    sites-none a.p.now a.numbers.now a.rows.now a.from a.row _ _ c.if-p-eq0.true (omega arith)

pub returns : goal.returns
returns c = sites-put _ _ _ _ _ _ c.within-to.ensures c.first_site.ensures c.within-start.ensures c.within-end.ensures c.within-begin.ensures c.in_room.ensures c.put_floats.ensures
