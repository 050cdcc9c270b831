use borrow.Author.Rules.{rules}
use native.Mathlib.Omega.{arith}
use mathlib.Core.Path.{refl}
use Rattle.writer.proofs.emit.Laws.{written-nil}
use Rattle.reading_rules.specs.reading.Parting.{joined}
use Rattle.line_parts.proofs.sites.Laws.{sites-all}
use Rattle.sheet_output.proofs.carbon_lists.Stored.{stored_more, stored-room, stored-less, stored-high}
use Rattle.sheet_output.proofs.carbon_lists.store_each.Goals as goal

pub loop-i-init : goal.loop-i-init
unfolding joined
loop-i-init c = (omega arith, omega arith, refl, written-nil _ _ (omega arith))

pub loop-i-smaller : goal.loop-i-smaller
loop-i-smaller c = search stored-less

pub loop-i-preserved : goal.loop-i-preserved
loop-i-preserved c = (search stored-high, search stored-room, search rules, search (stored_more, arith))

pub returns : goal.returns
returns c = search sites-all
