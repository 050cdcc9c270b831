-- Which lists a chain as it is drawn holds: what the contracts of `drawable` cite, beside the definitions of `chain_rules::chain`. Assumes nothing.
use Rattle.std.specs.Prelude.{ℕ, ◌≤◌, min, ◌≡◌, List, Bool, eqb, length, take}
use Rattle.chain_record.specs.declared.plain.Geometry.TheVariants.{Unstated}
use Rattle.chain_record.specs.declared.plain.Bridge.TheVariants.{Epoxide}
use Rattle.chain_record.specs.declared.plain.DbPos.{DbPos}
use Rattle.chain_record.specs.declared.plain.Mod.{Mod}
use Rattle.chain_record.specs.declared.plain.Ring.{Ring}
use Rattle.chain_record.specs.plain.Chain.{Chain, max_bonds, max_groups, max_rings}
use Rattle.chain_record.specs.declared.parsed.ParsedChain.{ParsedChain}
use Rattle.chain_rules.specs.declared.chain.Role.{Role}
use Rattle.chain_rules.specs.chain.Features.{first_drawn, is_acyl, doubles, groups_on, floating}
use Rattle.chain_rules.specs.chain.Refusals.{is_ether_base}
use Rattle.drawn_chain.specs.declared.drawable.Shape.{Shape}
use Rattle.drawn_chain.specs.declared.rooms.Lists.{Lists}

-- what an array with a count holds
abbrev pub bonds_in : ℕ → List DbPos → List DbPos
bonds_in n xs = take n xs

abbrev pub groups_in : ℕ → List Mod → List Mod
groups_in n xs = take n xs

abbrev pub rings_in : ℕ → List Ring → List Ring
rings_in n xs = take n xs

-- what stands past the last element
abbrev pub no_bond : DbPos
no_bond = record { pos = 0; geom = Unstated }

abbrev pub no_group : Mod
no_group = record { pos = 0; row = 0 }

abbrev pub no_ring : Ring
no_ring = record { start = 0; end = 0; bridge = Epoxide }

-- n is the length of a list, which has at most so many elements
pub record Length {A : Type 0} (room : ℕ) (l : List A) (n : ℕ) : Type 0 where
  pub is : n ≡ length l
  pub fits : n ≤ room

-- whether a group sits at p
abbrev pub group_at : ℕ → Mod → Bool
group_at p g = eqb g.pos p

-- what a group pins
abbrev pub group_pin : Mod → ℕ
group_pin g = g.pos

-- the chain that a record of the code holds, a count past its limit counting as the limit
unfoldable pub chain_of : ParsedChain → Chain
chain_of c =
    record { prefix = c.prefix; written = c.written; carbon = c.carbon; branched = c.branched; unlocated = c.unlocated; oxygens = c.oxygens; bonds = bonds_in (min c.bond_count max_bonds) c.bonds; groups = groups_in (min c.group_count max_groups) c.groups; rings = rings_in (min c.ring_count max_rings) c.rings }

-- ---- a chain as it is drawn

-- its numbers, and its lists
pub record Drawn : Type 0 where
  pub first : ℕ
  pub carbon : ℕ
  pub acyl : Bool
  pub ether_base : Bool
  pub unlocated : ℕ
  pub bond_count : ℕ
  pub group_count : ℕ
  pub float_count : ℕ
  pub ring_count : ℕ
  pub bonds : List DbPos
  pub groups : List Mod
  pub floats : List Mod
  pub rings : List Ring

-- 01, 31: 16 groups, and a base's own O's
abbrev pub group_room : ℕ
group_room = 18

-- the drawn chain that numbers and lists of the code say: of its groups, as many of each sort as there is room for
abbrev pub drawn_of : Shape → Lists → Drawn
drawn_of x l =
    record { first = x.first; carbon = x.carbon; acyl = x.acyl; ether_base = x.ether_base; unlocated = x.unlocated; bond_count = x.bond_count; group_count = x.group_count; float_count = x.float_count; ring_count = x.ring_count; bonds = l.bonds; groups = take group_room l.groups; floats = take group_room l.floats; rings = l.rings }

-- the lists of a drawn chain
abbrev pub bonds_drawn : Drawn → List DbPos
bonds_drawn x = bonds_in x.bond_count x.bonds

abbrev pub groups_drawn : Drawn → List Mod
groups_drawn x = groups_in x.group_count x.groups

abbrev pub floats_drawn : Drawn → List Mod
floats_drawn x = groups_in x.float_count x.floats

abbrev pub rings_drawn : Drawn → List Ring
rings_drawn x = rings_in x.ring_count x.rings

-- x is what is drawn of the chain d where it stands as r
pub record Draws (r : Role) (d : Chain) (x : Drawn) : Type 0 where
  pub first : x.first ≡ first_drawn r
  pub carbon : x.carbon ≡ d.carbon
  pub acyl : x.acyl ≡ is_acyl r d.prefix
  pub ether : x.ether_base ≡ is_ether_base r d.prefix
  pub unlocated : x.unlocated ≡ d.unlocated
  pub bonds : bonds_drawn x ≡ doubles r d
  pub groups : groups_drawn x ≡ groups_on r d
  pub floats : floats_drawn x ≡ floating d
  pub rings : rings_drawn x ≡ d.rings

-- x is what is drawn of some chain
pub record DrawsSome (x : Drawn) : Type 0 where
  pub role : Role
  pub chain : Chain
  pub draws : Draws role chain x

-- a is what f says of every chain that x draws
pub record Says {A : Type 0} (x : Drawn) (a : A) (f : Role → Chain → A) : Type 0 where
  pub is : (r : Role) (d : Chain) → Draws r d x → a ≡ f r d

-- n is what f says of every chain that x draws, and no carbon past its last
pub record SaysUpTo (x : Drawn) (n : ℕ) (f : Role → Chain → ℕ) : Type 0 where
  pub says : Says x n f
  pub fits : n ≤ x.carbon
