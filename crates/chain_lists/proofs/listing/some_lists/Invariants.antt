use Rattle.std.proofs.Common.{◌≤◌, ◌≡◌, length, take}
use Rattle.chain_lists.specs.rising.Four.{Filled}
use Rattle.chain_lists.specs.listing.Lists.{no_list, lists_at}
use Rattle.chain_lists.proofs.listing.some_lists.Given as goal

abbrev pub invariant-loop-place : goal.invariant-loop-place
invariant-loop-place l = (l.count ≤ l.place-index) × (length l.lists ≡ 4) × Filled no_list (lists_at l.notes (take l.place-index l.places)) l.count l.lists
