use Rattle.group_table.proofs.abbreviations.Laws.{key-none, key_one, key-two, key-three, key-four, key-long}
use Rattle.group_table.proofs.abbreviations.key.Goals as goal

pub returns-then-s-eq0 : goal.returns-then-s-eq0
returns-then-s-eq0 c = search key-none

pub returns-then-s-eq1 : goal.returns-then-s-eq1
returns-then-s-eq1 c = search key_one

pub returns-then-s-eq2 : goal.returns-then-s-eq2
returns-then-s-eq2 c = search key-two

pub returns-then-s-eq3 : goal.returns-then-s-eq3
returns-then-s-eq3 c = search key-three

pub returns-then-s-eq4 : goal.returns-then-s-eq4
returns-then-s-eq4 c = search key-four

pub returns : goal.returns
returns c = search key-long
