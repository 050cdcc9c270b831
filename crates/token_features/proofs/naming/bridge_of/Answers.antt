use borrow.Author.Tests.{eq-eqb, ne_eqb}
use Rattle.token_features.specs.features.Features.{bridge_of}
use Rattle.token_features.proofs.naming.bridge_of.Goals as goal

pub returns-then-size-eq2 : goal.returns-then-size-eq2
unfolding bridge_of
returns-then-size-eq2 c = search eq-eqb

pub returns : goal.returns
unfolding bridge_of
returns c = search ne_eqb
