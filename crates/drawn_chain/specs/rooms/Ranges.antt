-- Which lists stand for a chain among those of a request: what the contract of `rooms` cites. Assumes nothing.
use Rattle.std.specs.Prelude.{ℕ, ◌-◌, List, get_or}
use Rattle.drawn_chain.specs.declared.rooms.Lists.{Lists}
use Rattle.drawn_chain.specs.declared.rooms.TheConstants.{NO_LISTS}

-- the lists of the chain with an sn; past the last, those in which nothing stands
abbrev pub part_of : ℕ → List Lists → Lists
part_of sn l = get_or l (sn - 1) NO_LISTS
