use Rattle.scanner.specs.scan.Ascii.{ascii}
use Rattle.group_table.proofs.groups.Laws.{ep-upper, ep-lower, epox-found, cyc-found, cyclo-found, no-alias}
use Rattle.group_table.proofs.aliases.alias_ring_size.Goals as goal

pub returns-then-same : goal.returns-then-same
unfolding ascii
returns-then-same c = search ep-upper

pub returns-then-same-2 : goal.returns-then-same-2
unfolding ascii
returns-then-same-2 c = search ep-lower

pub returns-then-same-3 : goal.returns-then-same-3
unfolding ascii
returns-then-same-3 c = search epox-found

pub returns-then-same-4 : goal.returns-then-same-4
unfolding ascii
returns-then-same-4 c = search cyc-found

pub returns-then-same-5 : goal.returns-then-same-5
unfolding ascii
returns-then-same-5 c = search cyclo-found

pub returns : goal.returns
unfolding ascii
returns c = search no-alias
