use Rattle.std.proofs.Common.{◌∙◌, rules, tests}
use Rattle.std.proofs.lemmas.Iterator.{YieldsList-from_slice}
use Rattle.std.proofs.lemmas.Iterator.Search.{any_from_yields_List}
use Rattle.chain_refusals.specs.clash.Places.{bond_at}
use Rattle.drawn_chain.proofs.drawable.Turns.{any_is}
use Rattle.chain_refusals.proofs.clash.any_bond_at.Goals as goal

pub returns : goal.returns
returns c =
    any_from_yields_List (bond_at c.args.p) _ _ c.any.result c.any.ensures.ran (YieldsList-from_slice c.args.bonds.now cc) (λ x b q k. search (rules, tests))
    ∙ any_is (bond_at c.args.p) c.args.bonds.now
