-- The listed chains, by numbers alone. Assumes nothing.
use Rattle.std.specs.Prelude.{ℕ, List, map, length}
use Rattle.template_rules.specs.Drawn as request
use Rattle.template_rules.specs.Written.{indices_of}
use Rattle.placement.specs.declared.chain_notes.Placed.{Placed}
use Rattle.chain_lists.specs.rising.Four.{Filled}
use Rattle.chain_lists.specs.rising.Order.{picked}
use Rattle.chain_lists.specs.declared.listing.Listed.{Listed}
use Rattle.chain_lists.specs.declared.listing.Lists.{Lists}

-- what stands past the last
abbrev pub no_list : Listed
no_list = record { sn = 0; count = 0 }

-- a chain in its place: its sn, and how many indices it has
unfoldable pub list_of : request.Placed → Listed
unfolding indices_of
list_of p = record { sn = p.sn; count = length (indices_of p) }

-- the same, by numbers alone
abbrev pub list_in : Placed → Listed
list_in p = record { sn = p.sn; count = p.count }

-- those of the chains at some places
unfoldable pub lists_at : List Placed → List ℕ → List Listed
unfolding picked
lists_at ps ks = map list_in (picked ps ks)

-- r holds the first four of some listed chains; its other places are zero
abbrev pub ListsHeld : List Listed → Lists → Type 0
ListsHeld l r = Filled no_list l r.count r.items
