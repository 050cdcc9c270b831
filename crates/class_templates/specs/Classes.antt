-- What the template of a class leaves, with the chains of its tokens. Assumes nothing.
use Rattle.std.specs.Prelude.{ℕ, ◌≡◌, true, List}
use Rattle.chain_record.specs.plain.Chain.{Chain}
use Rattle.drawn_chain.specs.drawable.Chains.{Chains}
use Rattle.template_rules.specs.declared.Class.{Class}
use Rattle.template_rules.specs.Template.{elements, role_of, has_tail}
use Rattle.placement.specs.chain_notes.Fragment.{Stood}
use Rattle.line_builder.specs.declared.Builder.{Builder}
use Rattle.line_builder.specs.Build.{Rooms, Sizes}
use Rattle.class_templates.specs.Templates.{FitsAll, TailOf, Built}

-- the chains of a request, each in its role
abbrev pub StoodIn : Class → List Chain → Chains → Type 0
StoodIn c ds x = Stood (role_of c) ds x

-- the chains ds of a request are x, each in its role; the tail, where the class has one, has k atoms; and what all of it leads to can be kept
pub record InClass (c : Class) (t : List ℕ) (k : ℕ) (x : Chains) (ds : List Chain) : Type 0 where
  pub tail : has_tail c ≡ true → TailOf t k
  pub stood : StoodIn c ds x
  pub fits : FitsAll t ds (elements c)

-- some request has these chains
pub record Classed (c : Class) (t : List ℕ) (k : ℕ) (x : Chains) : Type 0 where
  pub chains : List Chain
  pub own : InClass c t k x chains

-- what is left of every request that has them
pub record ClassBuilt (c : Class) (t : List ℕ) (k : ℕ) (x : Chains) (xs ys : Rooms) (b : Builder) : Type 0 where
  pub sizes : Sizes xs ys
  pub built : (ds : List Chain) → InClass c t k x ds → Built t ds (elements c) xs ys b
