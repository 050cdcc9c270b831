use borrow.Author.Tests.{eq-eqb, ne_eqb}
use Rattle.token_head.specs.opening.Opening.{sphingoid_of}
use Rattle.token_head.proofs.opening.sphingoid.Goals as goal

pub returns-then-b-eq100 : goal.returns-then-b-eq100
unfolding sphingoid_of
returns-then-b-eq100 c = search eq-eqb

pub returns-then-b-eq68 : goal.returns-then-b-eq68
unfolding sphingoid_of
returns-then-b-eq68 c = search (eq-eqb, ne_eqb)

pub returns-then-b-eq116 : goal.returns-then-b-eq116
unfolding sphingoid_of
returns-then-b-eq116 c = search (eq-eqb, ne_eqb)

pub returns-then-b-eq84 : goal.returns-then-b-eq84
unfolding sphingoid_of
returns-then-b-eq84 c = search (eq-eqb, ne_eqb)

pub returns : goal.returns
unfolding sphingoid_of
returns c = search ne_eqb
