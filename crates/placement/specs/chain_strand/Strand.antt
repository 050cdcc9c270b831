-- What a chain leaves that is laid down at its place. Assumes nothing.
use Rattle.std.specs.Prelude.{ℕ, ◌≤◌, ◌<◌, ◌≡◌, List, ◌++◌, length}
use Rattle.writer.specs.emit.Text.{Written}
use Rattle.chain_record.specs.plain.Chain.{Chain}
use Rattle.reading_rules.specs.reading.Piece.{show}
use Rattle.reading_rules.specs.reading.Chain.{chain_end}
use Rattle.reading_rules.specs.reading.Template.{chain, item_pieces}
use Rattle.chain_rules.specs.declared.chain.Role.{Role}
use Rattle.chain_rules.specs.chain.Features.{floating, drawn_count}
use Rattle.chain_rules.specs.chain.Drawing.{chain_drawn, carbons, carbon_atoms, flexible_atom, atoms_end}
use Rattle.drawn_chain.specs.declared.drawable.Shape.{Shape}
use Rattle.drawn_chain.specs.declared.rooms.Lists.{Lists}
use Rattle.drawn_chain.specs.drawable.Drawn.{Drawn, drawn_of, Draws}
use Rattle.carbons.specs.Tokens.{Grouped}
use Rattle.chain_pieces.specs.branches.Text.{rows_in}
use Rattle.chain_text.specs.fragment.Segment.{Readable}
use Rattle.chain_indices.specs.declared.atoms.ChainAtoms.{ChainAtoms}
use Rattle.writer.specs.index_runs.Index.{indices}
use Rattle.template_rules.specs.Written.{head_carbons}
use Rattle.placement.specs.chain_notes.Fragment.{Carries}
use Rattle.placement.specs.declared.chain_strand.Strand.{Strand}

-- ---- the indices

abbrev pub head_count : Role → ℕ
head_count ρ = length (head_carbons ρ)

-- those of a chain whose first atom is n: the template's carbons, and those that are drawn
abbrev pub indexes_of : Role → Chain → ℕ → List ℕ
indexes_of ρ d n = head_carbons ρ ++ indices n (carbon_atoms ρ d 0)

-- the numbers of a chain, counted from its first atom; its indices are written at a place
pub record Numbers (ρ : Role) (d : Chain) (first : ℕ) (xs : List ℕ) (at : ℕ) (ys : List ℕ) (next count flexible floats end : ℕ) : Type 0 where
  pub written : Written xs at (indexes_of ρ d first) ys next
  pub counted : count ≡ length (indexes_of ρ d first)
  pub flexes : flexible ≡ flexible_atom ρ d 0
  pub floating : floats ≡ chain_end 0 (carbons ρ d)
  pub ends : end ≡ atoms_end ρ d 0

-- those of every chain that x draws
pub record Indexed (ρ : Role) (first : ℕ) (x : Drawn) (xs : List ℕ) (at : ℕ) (ys : List ℕ) (n : ChainAtoms) : Type 0 where
  pub numbers : (d : Chain) → Draws ρ d x → Readable d → drawn_count ρ d ≤ 256 → Numbers ρ d first xs at ys n.at n.count n.flexible n.floats n.end
  pub size : length ys ≡ length xs

-- ---- a chain that is laid down

-- the slices: of the line, of the indices and of the rows
pub record Rooms : Type 0 where
  pub text : List ℕ
  pub index : List ℕ
  pub rows : List ℕ

abbrev pub rooms : List ℕ → List ℕ → List ℕ → Rooms
rooms a b c = record { text = a; index = b; rows = c }

pub record Sizes (x y : Rooms) : Type 0 where
  pub text : length y.text ≡ length x.text
  pub index : length y.index ≡ length x.index
  pub rows : length y.rows ≡ length x.rows

-- its text with labels from l on, its indices and the rows of its floating groups, each written at a place
pub record Laid (ρ : Role) (d : Chain) (first l : ℕ) (xs : Rooms) (at used row : ℕ) (ys : Rooms) (s : Strand) : Type 0 where
  pub text : Written xs.text at (show (item_pieces l (chain (chain_drawn ρ d)))) ys.text s.at
  pub numbers : Numbers ρ d first xs.index used ys.index s.used s.count s.flexible s.floats s.end
  pub rows : Written xs.rows row (rows_in (floating d)) ys.rows s.rows

-- x is some chain, where it stands as ρ
pub record Carried (ρ : Role) (x : Drawn) : Type 0 where
  pub chain : Chain
  pub carries : Carries ρ chain x

-- those of every chain that x is there
pub record StrandOf (ρ : Role) (first l : ℕ) (x : Drawn) (xs : Rooms) (at used row : ℕ) (ys : Rooms) (s : Strand) : Type 0 where
  pub laid : (d : Chain) → Carries ρ d x → Laid ρ d first l xs at used row ys s
  pub sizes : Sizes xs ys

-- a chain with these numbers and lists is short, and its groups stand in the order of their carbons
pub record GroupedShape (x : Shape) (l : Lists) : Type 0 where
  pub short : x.carbon < 96
  pub grouped : Grouped (drawn_of x l)
