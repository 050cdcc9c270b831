-- What is kept past the last chain of a line. Assumes nothing.
use Rattle.std.specs.Prelude.{false}
use Rattle.chain_rules.specs.declared.chain.Role.TheVariants.{Slot}
use Rattle.placement.specs.declared.chain_notes.Placed.{Placed}

-- past the last chain
abbrev pub nowhere : Placed
nowhere =
    record { sn = 0; role = Slot; first = 0; site = 0; variable = 0; count = 0; acyl = false; unlocated = 0; flexible = 0; floats = 0; total = 0; float_count = 0 }
