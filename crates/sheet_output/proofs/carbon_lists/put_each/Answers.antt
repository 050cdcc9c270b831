use native.Mathlib.Omega.{arith}
use Rattle.writer.proofs.emit.Laws.{written-nil}
use Rattle.reading_rules.specs.reading.Parting.{joined}
use Rattle.line_parts.proofs.sites.Laws.{sites-more, sites-all}
use Rattle.sheet_output.proofs.carbon_lists.put_each.Goals as goal

pub loop-i-init : goal.loop-i-init
unfolding joined
loop-i-init c = written-nil _ _ (omega arith)

pub loop-i-preserved : goal.loop-i-preserved
loop-i-preserved c = search (sites-more, arith)

pub returns : goal.returns
returns c = search sites-all
