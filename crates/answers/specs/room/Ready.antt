-- A request that is ready to be drawn, and whether its slices have room. Assumes nothing.
use Rattle.std.specs.Prelude.{ℕ, ◌*◌, ◌≤◌, ◌≡◌, Bool, true, false, List, length}
use Rattle.chain_record.specs.plain.Chain.{Chain}
use Rattle.drawn_chain.specs.declared.drawable.Shape.{Shape}
use Rattle.drawn_chain.specs.declared.rooms.Lists.{Lists}
use Rattle.drawn_chain.specs.drawable.Chains.{Chains}
use Rattle.request_chains.specs.chain_shapes.Shapes.{chains_kept}
use Rattle.template_rules.specs.declared.Class.{Class}
use Rattle.template_rules.specs.Drawn.{placed}
use Rattle.template_rules.specs.Written.{indices_of}
use Rattle.chain_rules.specs.chain.Lists.{Each}
use Rattle.placement.specs.chain_notes.Fragment.{rows_of, gathered, Told}
use Rattle.class_templates.specs.Classes.{InClass}
use Rattle.answers.specs.answer.Answer.{short}

-- the chains ds of a class are x, with their tail of k atoms; there are no more of them than tokens, with at most so many floating groups, and no
-- more indices than carbons
pub record Ready (c : Class) (t : List ℕ) (k : ℕ) (x : Chains) (ds : List Chain) : Type 0 where
  pub own : InClass c t k x ds
  pub told : Each Told (placed c t ds)
  pub tokens : x.count ≤ 4
  pub few : length (placed c t ds) ≤ x.count
  pub index : length (gathered indices_of (placed c t ds)) ≤ 255 * x.count
  pub lists : (m : ℕ) → Each (λ p. p.chain.carbon ≤ m) (placed c t ds) → length (gathered indices_of (placed c t ds)) ≤ x.count * m
  pub rows : length (gathered rows_of (placed c t ds)) ≤ 16 * x.count

-- some request has these chains, and is ready to be drawn
pub record Readied (c : Class) (t : List ℕ) (k : ℕ) (x : Chains) : Type 0 where
  pub chains : List Chain
  pub ready : Ready c t k x chains

-- whether a slice is too short, for every such request and slices of these lengths
pub record ShortIs (c : Class) (swap : Bool) (t : List ℕ) (k : ℕ) (x : Chains) (line index : ℕ) (r : Bool) : Type 0 where
  pub is : (ds : List Chain) → Ready c t k x ds → r ≡ short c swap t ds line index

-- no slice is too short for any chains that have these shapes, in any class
pub record Ample (t : List ℕ) (k count : ℕ) (xs : List Shape) (line index : ℕ) : Type 0 where
  pub long : (c : Class) (swap : Bool) (l : List Lists) (ds : List Chain) → Ready c t k (chains_kept count xs l) ds → short c swap t ds line index ≡ false

abbrev pub AmpleIf : Bool → List ℕ → ℕ → ℕ → List Shape → ℕ → ℕ → Type 0
AmpleIf b t k count xs line index = b ≡ true → Ample t k count xs line index
