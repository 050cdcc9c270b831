-- What the contracts of `longest` cite: a number that no line of some chains is longer than. Assumes nothing.
use Rattle.std.specs.Prelude.{ℕ, suc, ◌≤◌, ◌<◌, min, ◌≡◌, Bool, true, List, length, get_or}
use Rattle.chain_record.specs.plain.Chain.{Chain}
use Rattle.chain_rules.specs.declared.chain.Role.{Role}
use Rattle.drawn_chain.specs.declared.drawable.Shape.{Shape}
use Rattle.drawn_chain.specs.declared.rooms.Lists.{Lists}
use Rattle.request_chains.specs.chain_shapes.Shapes.{no_shape, chains_kept}
use Rattle.template_rules.specs.declared.Class.{Class}
use Rattle.template_rules.specs.Template.{has_tail}
use Rattle.template_rules.specs.Drawn.{nonempty, placed}
use Rattle.template_rules.specs.Written.{line_of}
use Rattle.chain_rules.specs.chain.Lists.{Each}
use Rattle.placement.specs.chain_notes.Fragment.{Stood, Told}
use Rattle.class_templates.specs.Templates.{TailOf}
use Rattle.class_templates.specs.Classes.{StoodIn}
use Rattle.class_lines.specs.longest.Longest.{numbers_most, chain_most_of}

-- a chain by some of its numbers: as many groups and rings as there is room for, and no more floating groups than that
unfoldable pub shape_most : Shape → ℕ
unfolding numbers_most
shape_most x = numbers_most x.carbon x.unlocated 18 (min x.float_count 18) 8

-- r is n, and at most m
pub record Bounded (m n r : ℕ) : Type 0 where
  pub is : r ≡ n
  pub few : r ≤ m

-- r is no less than what the chain at a place adds to the line of any chains that have these shapes; its sn is one more than its place
pub record ChainCovered (count : ℕ) (xs : List Shape) (i r : ℕ) : Type 0 where
  pub few : r ≤ 30000000
  pub covers : (ρ : ℕ → Role) (ds : List Chain) (l : List Lists) → Stood ρ ds (chains_kept count xs l) → chain_most_of (ρ (suc i)) (nonempty (suc i) ds) ≤ r

-- r is no less than the length of the line of any such chains, with a tail t of k atoms
pub record Covered (t : List ℕ) (k count : ℕ) (xs : List Shape) (r : ℕ) : Type 0 where
  pub covers : (c : Class) (swap : Bool) (ds : List Chain) (l : List Lists) → (has_tail c ≡ true → TailOf t k) → StoodIn c ds (chains_kept count xs l)
      → Each Told (placed c t ds) → length (line_of c swap t ds) ≤ r

-- a chain has at most m carbons, and at most m double bonds without a position
pub record SlightShape (m : ℕ) (x : Shape) : Type 0 where
  pub carbons : x.carbon ≤ m
  pub bonds : x.unlocated ≤ m

-- the chain at a place is such a one, if it counts
abbrev pub SlightAt : ℕ → ℕ → List Shape → ℕ → Type 0
SlightAt m count xs i = i < count → SlightShape m (get_or xs i no_shape)

-- so are all chains that count
pub record Slight (m count : ℕ) (xs : List Shape) : Type 0 where
  pub all : (i : ℕ) → SlightAt m count xs i

-- r is no less than the length of the line of any such chains, however many they are, with a tail t of k atoms
pub record SlightCovered (m : ℕ) (t : List ℕ) (k r : ℕ) : Type 0 where
  pub covers : (count : ℕ) (xs : List Shape) → Slight m count xs → Covered t k count xs r
