use Rattle.std.proofs.Common.{◌∙◌, rules, tests}
use Rattle.std.proofs.lemmas.Iterator.{YieldsList-from_slice}
use Rattle.std.proofs.lemmas.Iterator.Search.{any_from_yields_List}
use Rattle.chain_rules.specs.chain.Refusals.{epoxide_on}
use Rattle.drawn_chain.proofs.drawable.Turns.{any_is}
use Rattle.chain_refusals.proofs.clash.any_epoxide_on.Goals as goal

pub returns : goal.returns
returns c =
    any_from_yields_List (epoxide_on c.args.bonds.now) _ _ c.any.result c.any.ensures.ran (YieldsList-from_slice c.args.rings.now cc) (λ x b q k. search (rules, tests))
    ∙ any_is (epoxide_on c.args.bonds.now) c.args.rings.now
