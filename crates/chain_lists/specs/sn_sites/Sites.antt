-- The sn sites of chains in their places, by numbers alone. Assumes nothing.
use Rattle.std.specs.Prelude.{ℕ, ◌≡◌, Bool, true, false, List, [], ◌∷◌, length, take}
use Rattle.chain_rules.specs.declared.chain.Role.{Role}
use Rattle.chain_rules.specs.declared.chain.Role.TheVariants.{Slot, Acyl, Base}
use Rattle.line_parts.specs.declared.shown.Site.{Site}
use Rattle.line_parts.specs.shown.Notes.{Digits}
use Rattle.placement.specs.declared.chain_notes.Placed.{Placed}
use Rattle.placement.specs.chain_notes.Fragment.{gathered}
use Rattle.chain_lists.specs.rising.Four.{four, Filled}
use Rattle.chain_lists.specs.rising.Order.{sns_of, places_from, picked}
use Rattle.chain_lists.specs.declared.sn_sites.Sites.{Sites}

-- what stands past the last site
abbrev pub no_site : Site
no_site = record { sn = 0; atom = 0 }

-- the site of a chain; a base has none
abbrev pub site_in : Role → Site → List Site
site_in Slot s = s ∷ []
site_in Acyl s = s ∷ []
site_in Base s = []

abbrev pub has_site : Role → Bool
has_site Slot = true
has_site Acyl = true
has_site Base = false

unfoldable pub site_list : Placed → List Site
site_list p = site_in p.role (record { sn = p.sn; atom = p.site })

-- those of the chains at some places
unfoldable pub sites_at : List Placed → List ℕ → List Site
unfolding gathered picked site_list
sites_at ps ks = gathered site_list (picked ps ks)

-- all of them, by rising sn
unfoldable pub all_site_list : List Placed → List Site
unfolding sites_at places_from sns_of
all_site_list ps = sites_at ps (places_from 1 4 (sns_of ps))

-- r holds the first four of some sites; its other places are zero
abbrev pub SitesHeld : List Site → Sites → Type 0
SitesHeld l r = Filled no_site l r.count r.items

-- the same, each with an sn of one digit
pub record SitesAre (l : List Site) (r : Sites) : Type 0 where
  pub count : r.count ≡ length (take 4 l)
  pub items : r.items ≡ four no_site l
  pub digits : Digits (take r.count r.items)
