use Rattle.std.proofs.Common.{◌∙◌, rules, tests}
use Rattle.std.proofs.lemmas.Iterator.{YieldsList-from_slice}
use Rattle.std.proofs.lemmas.Iterator.Search.{any_from_yields_List}
use Rattle.chain_rules.specs.chain.Refusals.{group_off}
use Rattle.drawn_chain.proofs.drawable.Turns.{any_is}
use Rattle.chain_refusals.proofs.offchain.any_group_off.Goals as goal

pub returns : goal.returns
returns c =
    any_from_yields_List (group_off c.args.first c.args.carbon) _ _ c.any.result c.any.ensures.ran (YieldsList-from_slice c.args.groups.now cc) (λ x b q k. search (rules, tests))
    ∙ any_is (group_off c.args.first c.args.carbon) c.args.groups.now
