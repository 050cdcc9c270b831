use borrow.Author.Tests.{eq-eqb, ne_eqb}
use Rattle.token_head.specs.positions.Positions.{geometry_of}
use Rattle.token_head.proofs.positions.geometry_of.Goals as goal

pub returns-then-b-eq90 : goal.returns-then-b-eq90
unfolding geometry_of
returns-then-b-eq90 c = search eq-eqb

pub returns-then-b-eq122 : goal.returns-then-b-eq122
unfolding geometry_of
returns-then-b-eq122 c = search (eq-eqb, ne_eqb)

pub returns-then-b-eq69 : goal.returns-then-b-eq69
unfolding geometry_of
returns-then-b-eq69 c = search (eq-eqb, ne_eqb)

pub returns-then-b-eq101 : goal.returns-then-b-eq101
unfolding geometry_of
returns-then-b-eq101 c = search (eq-eqb, ne_eqb)

pub returns : goal.returns
unfolding geometry_of
returns c = search ne_eqb
