use Rattle.sheet_input.proofs.header.Laws.{is-class, is-swap, is-tail, is-sn1, is-sn2, is-sn3, is-sn4, is-unknown}
use Rattle.sheet_input.proofs.header.column_of.Goals as goal

pub returns-then-same : goal.returns-then-same
returns-then-same c = search is-class

pub returns-then-same-2 : goal.returns-then-same-2
returns-then-same-2 c = search is-swap

pub returns-then-same-3 : goal.returns-then-same-3
returns-then-same-3 c = search is-tail

pub returns-then-same-4 : goal.returns-then-same-4
returns-then-same-4 c = search is-sn1

pub returns-then-same-5 : goal.returns-then-same-5
returns-then-same-5 c = search is-sn2

pub returns-then-same-6 : goal.returns-then-same-6
returns-then-same-6 c = search is-sn3

pub returns-then-same-7 : goal.returns-then-same-7
returns-then-same-7 c = search is-sn4

pub returns : goal.returns
returns c = search is-unknown
