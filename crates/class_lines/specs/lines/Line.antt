-- The line of a class. Assumes nothing.
use Rattle.std.specs.Prelude.{ℕ, ◌≤◌, ◌≡◌, Bool, List, map, length, take}
use Rattle.writer.specs.emit.Text.{Written}
use Rattle.chain_record.specs.plain.Chain.{Chain}
use Rattle.drawn_chain.specs.drawable.Chains.{Chains}
use Rattle.template_rules.specs.declared.Class.{Class}
use Rattle.template_rules.specs.Drawn as request
use Rattle.template_rules.specs.Drawn.{placed}
use Rattle.template_rules.specs.Written.{indices_of, line_of}
use Rattle.chain_rules.specs.chain.Lists.{Each}
use Rattle.placement.specs.declared.chain_notes.Placed.{Placed}
use Rattle.placement.specs.chain_notes.Fragment.{noted, rows_of, gathered, Told}
use Rattle.chain_lists.specs.listing.Order.{InOrder}
use Rattle.chain_lists.specs.listing.Sites.{all_site_list, SitesAre}
use Rattle.line_builder.specs.Build.{Rooms, Sizes}
use Rattle.class_templates.specs.Classes.{InClass}
use Rattle.class_lines.specs.declared.lines.Line.{Line}

-- the chains of a line, in the order of the text, by what is noted of them
abbrev pub chains_of : Line → List Placed → List Placed
chains_of r ns = take r.count ns

-- there is room for the indices and rows of some chains
pub record Roomy (ps : List request.Placed) (xs : Rooms) : Type 0 where
  pub index : length (gathered indices_of ps) ≤ length xs.index
  pub rows : length (gathered rows_of ps) ≤ length xs.rows

-- the chains ds of a request are x, the numbers of their places leave room, and there is room for their indices and rows
pub record Writes (c : Class) (t : List ℕ) (k : ℕ) (x : Chains) (xs : Rooms) (ds : List Chain) : Type 0 where
  pub own : InClass c t k x ds
  pub told : Each Told (placed c t ds)
  pub room : Roomy (placed c t ds) xs

-- some request has these chains
pub record Writable (c : Class) (t : List ℕ) (k : ℕ) (x : Chains) (xs : Rooms) : Type 0 where
  pub chains : List Chain
  pub writes : Writes c t k x xs chains

-- the line is written from the first place on; its chains are noted, and their indices end to end in the slice
pub record LineIs (c : Class) (swap : Bool) (t : List ℕ) (ds : List Chain) (xs ys : Rooms) (r : Line) : Type 0 where
  pub text : Written xs.text 0 (line_of c swap t ds) ys.text r.at
  pub chains : chains_of r ys.notes ≡ map noted (placed c t ds)
  pub used : r.used ≡ length (gathered indices_of (placed c t ds))
  pub index : take r.used ys.index ≡ gathered indices_of (placed c t ds)
  pub indices : Written xs.index 0 (gathered indices_of (placed c t ds)) ys.index r.used

-- the line of every request that has them
pub record LineBuilt (c : Class) (swap : Bool) (t : List ℕ) (k : ℕ) (x : Chains) (xs ys : Rooms) (r : Line) : Type 0 where
  pub sizes : Sizes xs ys
  pub order : InOrder (chains_of r ys.notes) r.order
  pub sites : SitesAre (all_site_list (chains_of r ys.notes)) r.sites
  pub line : (ds : List Chain) → Writes c t k x xs ds → LineIs c swap t ds xs ys r
