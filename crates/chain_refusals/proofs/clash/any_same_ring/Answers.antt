use Rattle.std.proofs.Common.{◌∙◌, rules, tests}
use Rattle.std.proofs.lemmas.Iterator.{YieldsList-from_slice}
use Rattle.std.proofs.lemmas.Iterator.Search.{any_from_yields_List}
use Rattle.chain_rules.specs.chain.Refusals.{same_ring}
use Rattle.drawn_chain.proofs.drawable.Turns.{any_is}
use Rattle.chain_refusals.proofs.clash.any_same_ring.Goals as goal

pub returns : goal.returns
returns c =
    any_from_yields_List (same_ring c.args.ring) _ _ c.any.result c.any.ensures.ran (YieldsList-from_slice c.args.rings.now cc) (λ x b q k. search (rules, tests))
    ∙ any_is (same_ring c.args.ring) c.args.rings.now
