-- What the contracts of the test for 13 cite, beside the definitions of `chain_rules::chain`: what is pinned. Assumes nothing.
use Rattle.std.specs.Prelude.{ℕ, List, ◌++◌, map}
use Rattle.chain_record.specs.declared.plain.Mod.{Mod}
use Rattle.chain_record.specs.declared.plain.Ring.{Ring}
use Rattle.drawn_chain.specs.drawable.Drawn.{group_pin}

-- what a ring pins
abbrev pub ring_pin : Ring → ℕ
ring_pin x = x.start

-- 01, Drawing a chain: "a first pin (located group or ring start)"
abbrev pub pins_in : List Mod → List Ring → List ℕ
pins_in gs rs = map group_pin gs ++ map ring_pin rs
