-- Laws of the cells of a row: a cell by its place, and a cell of a row that is cut. Assumes nothing.
use Prim.Native.Nat.{ℕ, zero, suc, ◌+◌, ◌-◌, ◌≤◌, ◌<◌}
use native.Mathlib.Numerals.{unary_clauses}
use native.Mathlib.Omega.{arith}
use mathlib.Core.Path.{◌≡◌, refl, sym, ◌∙◌}
use mathlib.Core.Bool.{cond}
use mathlib.Core.List.{List, [], ◌∷◌}
use lib.Dec.{eqb}
use lib.ListN.{length, get_or, take, drop, get_or-eq_default}
use denote.Bor.{Bor}
use Rattle.std.specs.Prelude.{Option, Some, None}
use Rattle.std.specs.List.{slice_split, onto_first, slice_get}
use Rattle.std.specs.Option.{unwrap_or, option_map}
use Rattle.std.proofs.lemmas.Option.{unwrap_or-slice_get}
use Rattle.token_syntax.specs.form.Parts.{onto, parts_at}
use Rattle.sheet_input.specs.header.Header.{cells_of}
use Rattle.sheet_input.specs.cutting.Cut.{Between, Cut}
use Rattle.sheet_input.specs.cells.Cells.{cell_at}

-- ---- a cell by its place

pub cell-none : (place : ℕ) (row : List ℕ) → place ≡ 0 → take (0 - 0) row ≡ cell_at place (cells_of row)
unfolding cell_at
cell-none place row e = rw e

cell-get : (row : List ℕ) (place : ℕ) → (place ≡ 0 → ⊥) → get_or (cells_of row) (place - 1) [] ≡ cell_at place (cells_of row)
unfolding cell_at
cell-get row zero z = absurd (z refl)
cell-get row (suc i) z = simp unary_clauses refl

-- the parts that the library's `split` gives
split-parts : (b : ℕ) (xs : List ℕ) → slice_split (λ x. eqb x b) xs ≡ parts_at b xs
unfolding parts_at
split-parts b [] = refl
split-parts b (x ∷ xs) = rw (split-parts b xs) (go (parts_at b xs))
  where
    go : (ps : List (List ℕ)) → cond (eqb x b) ([] ∷ ps) (onto_first x ps) ≡ cond (eqb x b) ([] ∷ ps) (onto x ps)
    go [] = refl
    go (p ∷ ps) = refl

pub now-or : (o : Option (Bor (List ℕ))) (d : Bor (List ℕ)) → d.now ≡ [] → (unwrap_or o d).now ≡ unwrap_or (option_map (λ x. x.now) o) []
now-or (Some b) d e = refl
now-or None d e = e

pub cell-split : (row : List ℕ) (place : ℕ) (o : Option (List ℕ)) → (place ≡ 0 → ⊥) → o ≡ slice_get (slice_split (λ x. eqb x 9) row) (place - 1)
    → unwrap_or o [] ≡ cell_at place (cells_of row)
cell-split row place o z e = rw (e, split-parts 9 row) (unwrap_or-slice_get (cells_of row) (place - 1) [] ∙ cell-get row place z)

-- a column past the last
pub cell-left-out : (places row : List ℕ) (column : ℕ) → 7 ≤ column → length places ≡ 7 → take (0 - 0) row ≡ cell_at (get_or places column 0) (cells_of row)
unfolding cell_at
cell-left-out places row column g l = let w = get_or-eq_default places 0 {n = column} (omega arith) in rw w

-- ---- a cell of a row that is cut

module _ (row starts : List ℕ) (n place : ℕ) (c : Cut row starts n) where
  pub cell-over : n < place → take (0 - 0) row ≡ cell_at place (cells_of row)
  unfolding cell_at
  cell-over h = go place h
    where
      go : (place : ℕ) → n < place → [] ≡ cell_at place (cells_of row)
      go zero h = refl
      go (suc i) h = sym (get_or-eq_default (cells_of row) [] {n = i} (omega (arith, c.count)))

  module _ (z : place ≡ 0 → ⊥) (h : place ≤ n) (l : place < length starts) where
    pub between : Between row starts (place - 1)
    between = c.cells (place - 1) (omega arith) (omega arith)

    same_place : place - 1 + 1 ≡ place
    same_place = omega arith

    pub cell-low : get_or starts (place - 1) 0 < get_or starts place 0
    cell-low = rw same_place at between.low

    pub cell-high : get_or starts place 0 ≤ length row + 1
    cell-high = rw same_place at between.high

    pub cell_cut : take (get_or starts place 0 - 1 - get_or starts (place - 1) 0) (drop (get_or starts (place - 1) 0) row) ≡ cell_at place (cells_of row)
    cell_cut = (rw same_place at between.cell) ∙ cell-get row place z
