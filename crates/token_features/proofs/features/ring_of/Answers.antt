use borrow.Author.Tests.{lt-ltb, le-ltb, eq-eqb, ne_eqb}
use Rattle.token_features.specs.features.Features.{ring_of}
use Rattle.token_features.proofs.features.ring_of.Goals as goal

pub returns-then-end-start : goal.returns-then-end-start
unfolding ring_of
returns-then-end-start c = search (lt-ltb, le-ltb)

pub returns-then-carbon-end : goal.returns-then-carbon-end
unfolding ring_of
returns-then-carbon-end c = search (lt-ltb, le-ltb)

pub returns-then-end-start-2 : goal.returns-then-end-start-2
unfolding ring_of
returns-then-end-start-2 c = search (le-ltb, ne_eqb)

pub returns : goal.returns
unfolding ring_of
returns c = search (le-ltb, eq-eqb)
