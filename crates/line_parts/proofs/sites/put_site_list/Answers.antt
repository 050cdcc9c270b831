use native.Mathlib.Omega.{arith}
use Rattle.writer.proofs.emit.Laws.{written-nil}
use Rattle.reading_rules.specs.reading.Parting.{joined}
use Rattle.line_parts.proofs.sites.Laws.{sites-more, sites-all}
use Rattle.line_parts.proofs.sites.put_site_list.Goals as goal

pub loop-place-init : goal.loop-place-init
unfolding joined
loop-place-init c = written-nil _ _ (omega arith)

pub loop-place-preserved : goal.loop-place-preserved
loop-place-preserved c = search (sites-more, arith)

pub returns : goal.returns
returns c = search sites-all
