use Rattle.std.proofs.Common.{◌∙◌, rules, tests, ltb}
use Rattle.std.proofs.lemmas.Iterator.{YieldsList-from_slice}
use Rattle.std.proofs.lemmas.Iterator.Search.{all_from_yields_List}
use Rattle.chain_record.specs.declared.plain.Ring.{Ring}
use Rattle.chain_refusals.specs.pins.Pins.{ring_pin}
use Rattle.drawn_chain.proofs.drawable.Turns.{all_map_is}
use Rattle.chain_refusals.proofs.pins.rings_past.Goals as goal

pub returns : goal.returns
returns c =
    all_from_yields_List (λ (a : Ring). ltb c.args.bound (ring_pin a)) _ _ c.all.result c.all.ensures.ran (YieldsList-from_slice c.args.rings.now cc) (λ x b q k. search (rules, tests))
    ∙ all_map_is (ltb c.args.bound) ring_pin c.args.rings.now
