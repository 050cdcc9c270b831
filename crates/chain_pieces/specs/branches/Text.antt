-- The text of groups, on their carbons and without a position, said by `show` of their pieces: what the contracts of the writers cite.
-- Assumes nothing.
use Rattle.std.specs.Prelude.{ℕ, Bool, cond, ◌≡◌, List, [], ◌∷◌, map, eqb, length}
use Rattle.writer.specs.emit.Text.{Written}
use Rattle.group_table.specs.groups.Groups.{keto}
use Rattle.chain_record.specs.declared.plain.Mod.{Mod}
use Rattle.chain_record.specs.plain.Chain.{Chain}
use Rattle.reading_rules.specs.reading.Piece.{show}
use Rattle.reading_rules.specs.reading.Part.{Part}
use Rattle.reading_rules.specs.reading.Chain.{part_pieces, float_pieces}
use Rattle.chain_rules.specs.declared.chain.Role.{Role}
use Rattle.chain_rules.specs.chain.Lists.{only}
use Rattle.chain_rules.specs.chain.Features.{floating}
use Rattle.chain_rules.specs.chain.Drawing.{branch_part, branches}
use Rattle.drawn_chain.specs.drawable.Drawn.{Drawn, Draws}

-- the branch of a row of the group table
unfoldable pub branch_text : ℕ → List ℕ
branch_text row = show (branch_part row).pieces

-- 01, Drawing a chain: "`(branch)`"
unfoldable pub group_text : ℕ → List ℕ
group_text row = show (part_pieces (branch_part row ∷ []))

-- the groups that sit at carbon k, in order
unfoldable pub sitting : ℕ → List Mod → List Mod
sitting k gs = only (λ g. eqb g.pos k) gs

unfoldable pub groups_text : List Mod → List ℕ
groups_text gs = show (part_pieces (branches gs))

-- "Unlocated groups append `.*branch`"
unfoldable pub float_text : ℕ → List ℕ
float_text row = show (float_pieces (branch_part row ∷ []))

unfoldable pub floats_text : List Mod → List ℕ
floats_text gs = show (float_pieces (branches gs))

-- "on acyl C1 a doubly bonded O"
unfoldable pub carbonyl_of : Bool → ℕ → List Part
carbonyl_of acyl k = cond acyl (cond (eqb k 1) (branch_part keto ∷ []) []) []

unfoldable pub carbonyl_text : Bool → ℕ → List ℕ
carbonyl_text acyl k = show (part_pieces (carbonyl_of acyl k))

-- ---- the rows of groups

unfoldable pub rows_in : List Mod → List ℕ
rows_in gs = map (λ g. g.row) gs

-- the rows of the floating groups of every chain that x draws are written
pub record RowsPut (x : Drawn) (xs : List ℕ) (at : ℕ) (ys : List ℕ) (r : ℕ) : Type 0 where
  pub rows : (ρ : Role) (d : Chain) → Draws ρ d x → Written xs at (rows_in (floating d)) ys r
  pub size : length ys ≡ length xs
