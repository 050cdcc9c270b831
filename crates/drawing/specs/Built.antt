-- What a line has that was built, by which its answer is made. Assumes nothing.
use Rattle.std.specs.Prelude.{ℕ, ◌≡◌, Bool, List, map, take}
use Rattle.writer.specs.emit.Text.{Written}
use Rattle.chain_record.specs.plain.Chain.{Chain}
use Rattle.template_rules.specs.declared.Class.{Class}
use Rattle.template_rules.specs.Drawn.{placed}
use Rattle.template_rules.specs.Written.{indices_of, line_of}
use Rattle.placement.specs.declared.chain_notes.Placed.{Placed}
use Rattle.placement.specs.chain_notes.Fragment.{noted, gathered}
use Rattle.chain_lists.specs.declared.rising.Rising.{Rising}
use Rattle.chain_lists.specs.rising.Order.{InOrder}
use Rattle.chain_lists.specs.declared.sn_sites.Sites.{Sites}
use Rattle.chain_lists.specs.listing.Sites.{all_site_list, SitesAre}

-- the line of the chains ds was written into vs, which is then zs, and ends at a place; a number of places of l are those of its chains, by
-- rising sn in the order o, with the sites z; and the indices of the chains stand end to end at the start of some numbers
pub record Built (c : Class) (swap : Bool) (t : List ℕ) (ds : List Chain) (vs zs : List ℕ) (end count : ℕ) (l : List Placed) (o : Rising) (z : Sites) (numbers : List ℕ) (used : ℕ) : Type 0 where
  pub text : Written vs 0 (line_of c swap t ds) zs end
  pub places : take count l ≡ map noted (placed c t ds)
  pub order : InOrder (take count l) o
  pub sites : SitesAre (all_site_list (take count l)) z
  pub index : take used numbers ≡ gathered indices_of (placed c t ds)
