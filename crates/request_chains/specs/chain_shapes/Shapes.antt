-- The shapes of the chains of a request. Assumes nothing.
use Rattle.std.specs.Prelude.{ℕ, false, List}
use Rattle.drawn_chain.specs.declared.drawable.Shape.{Shape}
use Rattle.drawn_chain.specs.declared.rooms.Lists.{Lists}
use Rattle.drawn_chain.specs.drawable.Chains.{Chains, items_of}
use Rattle.request_chains.specs.declared.chain_shapes.Chains as lent

-- past the last chain
abbrev pub no_shape : Shape
no_shape =
    record { first = 0; carbon = 0; acyl = false; ether_base = false; unlocated = 0; bond_count = 0; group_count = 0; float_count = 0; ring_count = 0 }

-- the chains of a request, so many of them, by their shapes and their lists
abbrev pub chains_kept : ℕ → List Shape → List Lists → Chains
chains_kept count xs l = record { count = count; items = items_of xs l }

-- those that are lent
abbrev pub chains_lent : lent.Chains → Chains
chains_lent c = chains_kept c.count c.shapes.now c.lists.now
