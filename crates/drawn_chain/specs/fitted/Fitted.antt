-- What the contracts of `fitted` cite, beside the definitions of `chain_rules::chain` and `drawable`. Assumes nothing.
use Rattle.std.specs.Prelude.{ℕ, ◌≡◌, List, ◌++◌, length, take, min}
use Rattle.chain_record.specs.declared.plain.ChainPrefix.{ChainPrefix}
use Rattle.chain_record.specs.declared.plain.Geometry.TheVariants.{Unstated}
use Rattle.chain_record.specs.declared.plain.DbPos.{DbPos}
use Rattle.chain_record.specs.declared.plain.Mod.{Mod}
use Rattle.chain_record.specs.declared.plain.Ring.{Ring}
use Rattle.chain_record.specs.plain.Chain.{Chain, max_bonds, max_groups, max_rings}
use Rattle.chain_rules.specs.declared.chain.Role.{Role}
pub use Rattle.drawn_chain.specs.drawable.Drawn.{group_room}
use Rattle.drawn_chain.specs.drawable.Drawn.{Drawn, bonds_in, groups_in, rings_in, Draws}

-- the double bond that `P-` adds
abbrev pub alkenyl : DbPos
alkenyl = record { pos = 1; geom = Unstated }

-- the array ys holds the groups of l, and m is how many they are
pub record Parts (l : List Mod) (m : ℕ) (ys : List Mod) : Type 0 where
  pub groups : groups_in m ys ≡ l
  pub many : m ≡ length l

-- the array ys holds m groups: the n of xs and then those of l, as far as there is room; those of xs stand where they stood
pub record More (l : List Mod) (n : ℕ) (xs : List Mod) (m : ℕ) (ys : List Mod) : Type 0 where
  pub groups : groups_in m ys ≡ take group_room (groups_in n xs ++ l)
  pub kept : take n ys ≡ take n xs

-- what a token says of a chain as far as it is drawn: its lists are arrays, each with a count
pub record Pieces : Type 0 where
  pub prefix : ChainPrefix
  pub carbon : ℕ
  pub unlocated : ℕ
  pub bond_count : ℕ
  pub bonds : List DbPos
  pub group_count : ℕ
  pub groups : List Mod
  pub ring_count : ℕ
  pub rings : List Ring

abbrev pub pieces : ChainPrefix → ℕ → ℕ → ℕ → List DbPos → ℕ → List Mod → ℕ → List Ring → Pieces
pieces p c u nb bs ng gs nr rs = record { prefix = p; carbon = c; unlocated = u; bond_count = nb; bonds = bs; group_count = ng; groups = gs; ring_count = nr; rings = rs }

-- a chain d with these pieces, a count past its limit counting as the limit: what is not drawn of it is its own
abbrev pub pieces_as : Chain → Pieces → Chain
pieces_as d p =
    record { prefix = p.prefix; written = d.written; carbon = p.carbon; branched = d.branched; unlocated = p.unlocated; oxygens = d.oxygens; bonds = bonds_in (min p.bond_count max_bonds) p.bonds; groups = groups_in (min p.group_count max_groups) p.groups; rings = rings_in (min p.ring_count max_rings) p.rings }

-- x is what is drawn, where it stands as r, of every chain that has the pieces p
pub record Fits (r : Role) (p : Pieces) (x : Drawn) : Type 0 where
  pub draws : (d : Chain) → Draws r (pieces_as d p) x
