use Rattle.std.proofs.Common.{◌≤◌, ◌≡◌, length, take}
use Rattle.chain_lists.specs.rising.Four.{Filled}
use Rattle.chain_lists.specs.sn_sites.Sites.{no_site, sites_at}
use Rattle.chain_lists.proofs.sn_sites.some_sites.Given as goal

abbrev pub invariant-loop-place : goal.invariant-loop-place
invariant-loop-place l = (l.count ≤ l.place-index) × (length l.sites ≡ 4) × Filled no_site (sites_at l.notes (take l.place-index l.places)) l.count l.sites
