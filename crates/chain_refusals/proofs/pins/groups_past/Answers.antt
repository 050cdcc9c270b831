use Rattle.std.proofs.Common.{◌∙◌, rules, tests, ltb}
use Rattle.std.proofs.lemmas.Iterator.{YieldsList-from_slice}
use Rattle.std.proofs.lemmas.Iterator.Search.{all_from_yields_List}
use Rattle.chain_record.specs.declared.plain.Mod.{Mod}
use Rattle.drawn_chain.specs.drawable.Drawn.{group_pin}
use Rattle.drawn_chain.proofs.drawable.Turns.{all_map_is}
use Rattle.chain_refusals.proofs.pins.groups_past.Goals as goal

pub returns : goal.returns
returns c =
    all_from_yields_List (λ (a : Mod). ltb c.args.bound (group_pin a)) _ _ c.all.result c.all.ensures.ran (YieldsList-from_slice c.args.groups.now cc) (λ x b q k. search (rules, tests))
    ∙ all_map_is (ltb c.args.bound) group_pin c.args.groups.now
