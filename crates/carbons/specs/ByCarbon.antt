-- What arrays by carbon hold: the bonds of a chain, the geometry stated at each, and which carbons carry anything. Assumes nothing.
use Rattle.std.specs.Prelude.{ℕ, suc, ◌+◌, ◌<◌, ◌≤◌, min, max, ◌≡◌, Bool, true, cond, ◌||◌, ◌&&◌, List, [], ◌∷◌, eqb, ltb, length, get_or, take}
use Prim.Native.Char.{code}
use Rattle.group_table.specs.groups.Groups.{entry_at}
use Rattle.chain_record.specs.declared.plain.Geometry.{Geometry}
use Rattle.chain_record.specs.declared.plain.Geometry.TheVariants.{Unstated, Cis, Trans}
use Rattle.chain_record.specs.declared.plain.DbPos.{DbPos}
use Rattle.chain_record.specs.declared.plain.Mod.{Mod}
use Rattle.chain_record.specs.declared.plain.Ring.{Ring}
use Rattle.chain_rules.specs.chain.Lists.{any_of}
use Rattle.chain_rules.specs.chain.Refusals.{is_epoxide}
use Rattle.chain_rules.specs.chain.Bonds.{double, geometry_at, mark_from, plain_bond, plain_bonds}

-- the byte of a stated geometry
abbrev pub geometry_byte : Geometry → ℕ
geometry_byte Unstated = 0
geometry_byte Cis = code "Z"
geometry_byte Trans = code "E"

unfoldable pub geometry_of : ℕ → Geometry
geometry_of b = cond (eqb b (code "Z")) Cis (cond (eqb b (code "E")) Trans Unstated)

-- whether a double bond stands at k
unfoldable pub double_at : List DbPos → ℕ → Bool
unfolding any_of
double_at bs k = any_of (λ b. eqb b.pos k) bs

-- whether the positions rise from past m: each double bond is further on than the one before it
unfoldable pub rises_from : ℕ → List DbPos → Bool
rises_from m [] = true
rises_from m (b ∷ bs) = ltb m b.pos && rises_from b.pos bs

-- whether an epoxide starts at k
unfoldable pub bridge_at : List Ring → ℕ → Bool
unfolding any_of
bridge_at rs k = any_of (λ x. is_epoxide x.bridge && eqb x.start k) rs

-- whether a group sits at k
unfoldable pub group_on : List Mod → ℕ → Bool
unfolding any_of
group_on gs k = any_of (λ g. eqb g.pos k) gs

-- whether a ring starts or ends at k
unfoldable pub ring_on : List Ring → ℕ → Bool
unfolding any_of
ring_on rs k = any_of (λ x. eqb x.start k || eqb x.end k) rs

-- whether k is the C1 of an acyl chain
unfoldable pub carbonyl_on : Bool → ℕ → Bool
carbonyl_on acyl k = acyl && eqb 1 k

-- whether C k carries a doubly bonded O, a group or a ring's end
unfoldable pub busy_at : Bool → List Mod → List Ring → ℕ → Bool
unfolding carbonyl_on group_on ring_on
busy_at acyl gs rs k = carbonyl_on acyl k || (group_on gs k || ring_on rs k)

-- n is the number of atoms of the branch of a row of the group table
pub record RowAtoms (row n : ℕ) : Type 0 where
  pub is : n ≡ (entry_at row).atoms
  pub few : n ≤ 5

-- the atoms of the groups that sit at k
unfoldable pub group_atoms : List Mod → ℕ → ℕ
group_atoms [] k = 0
group_atoms (g ∷ gs) k = cond (eqb g.pos k) (entry_at g.row).atoms 0 + group_atoms gs k

-- the atoms of C k with what it carries beside a bridge; 0 if that is nothing
unfoldable pub load_at : Bool → List Mod → List Ring → ℕ → ℕ
unfolding carbonyl_on busy_at group_atoms
load_at acyl gs rs k = cond (busy_at acyl gs rs k) (suc (cond (carbonyl_on acyl k) 1 0 + group_atoms gs k)) 0

-- an array of noughts
pub record Noughts (zs : List ℕ) : Type 0 where
  pub at : (k : ℕ) → get_or zs k 0 ≡ 0

-- an array by carbon with v where a test passes, elsewhere as it was
pub record SetWhere (test : ℕ → Bool) (v : ℕ) (before after : List ℕ) : Type 0 where
  pub size : length after ≡ length before
  pub at : (k : ℕ) → k < length before → get_or after k 0 ≡ cond (test k) v (get_or before k 0)

-- the atoms of groups added to an array by carbon, and the carbon itself where nothing stood
pub record Added (gs : List Mod) (before after : List ℕ) : Type 0 where
  pub size : length after ≡ length before
  pub at : (k : ℕ) → k < length before → get_or after k 0 ≡ cond (group_on gs k) (max (get_or before k 0) 1 + group_atoms gs k) (get_or before k 0)

-- the geometry stated at each carbon
pub record Geometries (bs : List DbPos) (geoms : List ℕ) : Type 0 where
  pub size : length geoms ≡ 256
  pub at : (k : ℕ) → k < 256 → get_or geoms k 0 ≡ geometry_byte (geometry_at k bs)

-- the marks of the double bonds whose geometries an array has
pub record Marks (c : ℕ) (geoms before after : List ℕ) : Type 0 where
  pub are : (bs : List DbPos) → Geometries bs geoms → after ≡ mark_from c bs 1 c before

-- the double bonds set in an array, and then marked
pub record DoublesPut (c : ℕ) (bs : List DbPos) (before after : List ℕ) : Type 0 where
  pub plain : List ℕ
  pub set : SetWhere (double_at bs) double before plain
  pub marked : after ≡ mark_from c bs 1 c plain

-- the bonds before any mark, as far as the array goes
pub record PlainBonds (bs : List DbPos) (rs : List Ring) (bonds : List ℕ) : Type 0 where
  pub at : (k : ℕ) → k < length bonds → get_or bonds k 0 ≡ plain_bond bs rs k

-- bonds 0 to c, with their marks; the array goes to c, or to carbon 255
pub record BondsBy (bs : List DbPos) (rs : List Ring) (c : ℕ) (bonds : List ℕ) : Type 0 where
  pub size : min c 255 < length bonds
  pub are : c ≤ 255 → take (suc c) bonds ≡ mark_from c bs 1 c (plain_bonds bs rs c)

-- the atoms of each carbon that carries anything beside a bridge, as far as the array goes
pub record Busy (acyl : Bool) (gs : List Mod) (rs : List Ring) (busy : List ℕ) : Type 0 where
  pub at : (k : ℕ) → k < length busy → get_or busy k 0 ≡ load_at acyl gs rs k
  pub few : (k : ℕ) → k < length busy → get_or busy k 0 ≤ 92
