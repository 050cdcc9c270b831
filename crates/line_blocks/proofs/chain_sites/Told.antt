-- The site lists by numbers are those that the chains' drawings say. Assumes nothing.
use Prim.Native.Nat.{ℕ}
use mathlib.Core.Path.{◌≡◌, refl, sym, ap, ap₂, ◌∙◌}
use mathlib.Core.Bool.{cond}
use mathlib.Core.List.{List, [], ◌∷◌, ◌++◌, append_assoc, map}
use lib.ListN.{length, take, drop, take-append-drop}
use lib.Seq.{take_at, drop_at, drop-append-add}
use Rattle.chain_record.specs.declared.plain.Mod.{Mod}
use Rattle.reading_rules.specs.reading.Molecule.{At}
use Rattle.reading_rules.specs.reading.Part.{Part}
use Rattle.chain_pieces.specs.branches.Text.{rows_in}
use Rattle.chain_rules.specs.chain.Features.{is_acyl, site_skip, floating}
use Rattle.chain_rules.specs.chain.Drawing.{branch_part, branches, site_lists, site_atoms, carbon_atoms}
use Rattle.chain_rules.specs.chain.Drawing as draw
use Rattle.writer.proofs.index_runs.IndexLaws.{room-is}
use Rattle.chain_indices.proofs.atoms.NumberLaws.{chain-end-shift}
use Rattle.template_rules.specs.Drawn as request
use Rattle.template_rules.specs.Written.{head_carbons, indices_of}
use Rattle.template_rules.specs.Drawn.{all_sites}
use Rattle.chain_rules.specs.chain.Lists.{Each}
use Rattle.placement.specs.chain_notes.Fragment.{noted, rows_of, gathered, Told}
use Rattle.placement.proofs.chain_notes.Laws.{row_count}
use Rattle.line_blocks.specs.chain_sites.Sites.{site_lists_of, site_lists_in}

-- ---- a chain

rows-branches : (gs : List Mod) → map branch_part (rows_in gs) ≡ branches gs
unfolding rows_in branches
rows-branches [] = refl
rows-branches (g ∷ gs) = ap (λ (l : List Part). branch_part g.row ∷ l) (rows-branches gs)

sites-of : (p : request.Placed) → Told p → site_lists_of (noted p) (indices_of p) (rows_of p) ≡ draw.sites p.role p.chain p.first
unfolding site_lists_of noted indices_of rows_of draw.sites site_atoms site_skip draw.floats
sites-of p t =
    rw (drop-append-add (head_carbons p.role) (carbon_atoms p.role p.chain p.first) (cond (is_acyl p.role p.chain.prefix) 1 0), room-is p.first t.first, ← chain-end-shift p.role p.chain p.first, rows-branches (floating p.chain))

count-is : (p : request.Placed) → length (indices_of p) ≡ (noted p).count
unfolding noted
count-is p = refl

-- ---- all chains

sites-gathered : (ps : List request.Placed) (is rs : List ℕ) → Each Told ps → site_lists_in (map noted ps) (gathered indices_of ps ++ is) (gathered rows_of ps ++ rs) ≡ all_sites ps
unfolding site_lists_in gathered all_sites
sites-gathered [] is rs h = refl
sites-gathered (p ∷ ps) is rs h =
    let a : (indices_of p ++ gathered indices_of ps) ++ is ≡ indices_of p ++ (gathered indices_of ps ++ is) = append_assoc (indices_of p) (gathered indices_of ps) is in
    let b : (rows_of p ++ gathered rows_of ps) ++ rs ≡ rows_of p ++ (gathered rows_of ps ++ rs) = append_assoc (rows_of p) (gathered rows_of ps) rs in
    rw (a, b, take_at (indices_of p) (gathered indices_of ps ++ is) (noted p).count (count-is p), take_at (rows_of p) (gathered rows_of ps ++ rs) (noted p).float_count (row_count p), drop_at (indices_of p) (gathered indices_of ps ++ is) (noted p).count (count-is p), drop_at (rows_of p) (gathered rows_of ps ++ rs) (noted p).float_count (row_count p))
    (ap₂ (λ (x y : List (At (List ℕ))). x ++ y) (sites-of p h.0) (sites-gathered ps is rs h.1))

-- THE SITE LISTS of chains whose indices and rows stand end to end at the start of two lists
pub sites-told : (ps : List request.Placed) (numbers rows : List ℕ) (n m : ℕ) → Each Told ps → take n numbers ≡ gathered indices_of ps → take m rows ≡ gathered rows_of ps
    → site_lists_in (map noted ps) numbers rows ≡ all_sites ps
sites-told ps numbers rows n m h e f =
    let a : numbers ≡ gathered indices_of ps ++ drop n numbers = sym (take-append-drop n numbers) ∙ ap (λ (l : List ℕ). l ++ drop n numbers) e in
    let b : rows ≡ gathered rows_of ps ++ drop m rows = sym (take-append-drop m rows) ∙ ap (λ (l : List ℕ). l ++ drop m rows) f in
    ap₂ (λ (x y : List ℕ). site_lists_in (map noted ps) x y) a b ∙ sites-gathered ps (drop n numbers) (drop m rows) h
