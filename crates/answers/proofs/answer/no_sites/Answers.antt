-- src/lib.rt:49:1
use mathlib.Core.Path.{refl}
use Rattle.chain_lists.specs.listing.Four.{four}
use Rattle.answers.proofs.answer.no_sites.Goals as goal

pub returns : goal.returns
unfolding four
returns c = refl
