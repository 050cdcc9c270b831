-- What a template leaves in the line and the builder. Assumes nothing.
use Rattle.std.specs.Prelude.{ℕ, ◌≡◌, List, map}
use Rattle.writer.specs.emit.Text.{Written}
use Rattle.chain_record.specs.plain.Chain.{Chain}
use Rattle.reading_rules.specs.reading.Piece.{show}
use Rattle.reading_rules.specs.reading.Template.{template_pieces}
use Rattle.chain_rules.specs.declared.chain.Role.{Role}
use Rattle.chain_rules.specs.declared.chain.Role.TheVariants.{Slot}
use Rattle.drawn_chain.specs.drawable.Chains.{Chains}
use Rattle.template_rules.specs.Template.{Element}
use Rattle.template_rules.specs.Drawn as request
use Rattle.template_rules.specs.Drawn.{all_items, placed_from, tail_part}
use Rattle.template_rules.specs.Built.{atoms_from, variables_from, labels_from}
use Rattle.placement.specs.chain_notes.Fragment.{Stood, noted, index_list, rows_of, gathered}
use Rattle.line_builder.specs.declared.Builder.{Builder}
use Rattle.line_builder.specs.Build.{Rooms, Sizes, Counts, Fits}

-- a template of slots alone
abbrev pub all_slots : ℕ → Role
all_slots sn = Slot

-- what a template leads to can be kept
abbrev pub FitsAll : List ℕ → List Chain → List Element → Type 0
FitsAll t ds es = Fits (atoms_from t ds 0 es) (variables_from ds 0 es) (labels_from ds 10 es) (map noted (placed_from t ds 0 0 es))

-- a text, and the indices and rows of its chains, are written from the first places of the slices on, and the builder then has these numbers
pub record BuiltBy (ts : List ℕ) (n v l : ℕ) (cs : List request.Placed) (xs ys : Rooms) (b : Builder) : Type 0 where
  pub text : Written xs.text 0 ts ys.text b.at
  pub index : Written xs.index 0 (gathered index_list cs) ys.index b.used
  pub rows : Written xs.rows 0 (gathered rows_of cs) ys.rows b.rows
  pub counts : Counts b ys.notes n v l (map noted cs)

-- some elements of a template
abbrev pub Built : List ℕ → List Chain → List Element → Rooms → Rooms → Builder → Type 0
Built t ds es xs ys b = BuiltBy (show (template_pieces 10 (all_items t ds es))) (atoms_from t ds 0 es) (variables_from ds 0 es) (labels_from ds 10 es) (placed_from t ds 0 0 es) xs ys b

-- the chains ds stand in their roles, and what a template with the tail t leads to can be kept
pub record Fills (t : List ℕ) (es : List Element) (ρ : ℕ → Role) (x : Chains) (ds : List Chain) : Type 0 where
  pub stood : Stood ρ ds x
  pub fits : FitsAll t ds es

-- ---- a template without a tail

-- some chains fill it
pub record FilledTailless (es : List Element) (ρ : ℕ → Role) (x : Chains) : Type 0 where
  pub tail : List ℕ
  pub chains : List Chain
  pub fills : Fills tail es ρ x chains

-- what is left by every chains that fill it
pub record Tailless (es : List Element) (ρ : ℕ → Role) (x : Chains) (xs ys : Rooms) (b : Builder) : Type 0 where
  pub sizes : Sizes xs ys
  pub built : (t : List ℕ) (ds : List Chain) → Fills t es ρ x ds → Built t ds es xs ys b

-- ---- a template with a tail

-- the tail reads by itself, and has k atoms
pub record TailOf (t : List ℕ) (k : ℕ) : Type 0 where
  pub shown : show (tail_part t).pieces ≡ t
  pub size : (tail_part t).size ≡ k

pub record FilledTailed (t : List ℕ) (es : List Element) (ρ : ℕ → Role) (x : Chains) : Type 0 where
  pub chains : List Chain
  pub fills : Fills t es ρ x chains

pub record Tailed (t : List ℕ) (es : List Element) (ρ : ℕ → Role) (x : Chains) (xs ys : Rooms) (b : Builder) : Type 0 where
  pub sizes : Sizes xs ys
  pub built : (ds : List Chain) → Fills t es ρ x ds → Built t ds es xs ys b
