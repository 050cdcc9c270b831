use Rattle.token_features.proofs.naming.Laws.{feature-group}
use Rattle.token_features.proofs.features.Laws.{names-ring, names-nothing}
use Rattle.token_features.proofs.naming.feature_of.Goals as goal

pub returns-in-Some : goal.returns-in-Some
returns-in-Some c = search feature-group

pub returns-in_default-alias_ring_size : goal.returns-in_default-alias_ring_size
returns-in_default-alias_ring_size c = search names-nothing

pub returns : goal.returns
returns c = search names-ring
