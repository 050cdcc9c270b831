use Rattle.std.proofs.Common.{◌∙◌, rules, tests}
use Rattle.std.proofs.lemmas.Iterator.{YieldsList-from_slice}
use Rattle.std.proofs.lemmas.Iterator.Search.{any_from_yields_List}
use Rattle.drawn_chain.specs.drawable.Drawn.{group_at}
use Rattle.drawn_chain.proofs.drawable.Turns.{any_is}
use Rattle.drawn_chain.proofs.fitted.group_at.Goals as goal

pub returns : goal.returns
returns c =
    any_from_yields_List (group_at c.args.p) _ _ c.any.result c.any.ensures.ran (YieldsList-from_slice c.args.groups.now cc) (λ x b q k. search (rules, tests))
    ∙ any_is (group_at c.args.p) c.args.groups.now
