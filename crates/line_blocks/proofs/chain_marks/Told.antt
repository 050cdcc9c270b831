-- The marks and the sums by numbers are those that the chains' drawings say. Assumes nothing.
use Prim.Native.Nat.{ℕ, zero, suc, ◌-◌}
use native.Mathlib.Omega.{arith}
use mathlib.Core.Path.{◌≡◌, refl, ap₂}
use mathlib.Core.Bool.{cond}
use mathlib.Core.List.{List, [], ◌∷◌, ◌++◌, map}
use lib.Dec.{eqb}
use borrow.Author.Tests.{ne_eqb}
use Rattle.reading_rules.specs.reading.Molecule.{At, Sum}
use Rattle.chain_rules.specs.chain.Lists.{values_from, Each}
use Rattle.chain_rules.specs.chain.Features.{remaining}
use Rattle.chain_rules.specs.chain.Drawing.{mark_list}
use Rattle.chain_rules.specs.chain.Drawing as draw
use Rattle.chain_indices.proofs.atoms.NumberLaws.{flexible-atom-shift}
use Rattle.template_rules.specs.Drawn as request
use Rattle.template_rules.specs.Drawn.{all_marks, all_sums}
use Rattle.line_parts.specs.shown.Notes.{sum_list}
use Rattle.line_parts.proofs.shown.Chained.{sums-are}
use Rattle.placement.specs.chain_notes.Fragment.{noted, gathered, Told}
use Rattle.writer.proofs.index_runs.IndexLaws.{room-is}
use Rattle.line_blocks.specs.chain_marks.Marks.{marks_of, sums_of, marks_in, sums_in}

-- ---- a chain

-- what stands for the sum of a chain without variables is not told
sum-listed : (v n total : ℕ) → sum_list v n (cond (eqb n 0) 0 total) ≡ sum_list v n total
unfolding sum_list
sum-listed v zero total = refl
sum-listed v (suc n) total = rw (ne_eqb (suc n) 0 (λ e. omega arith))

module _ (p : request.Placed) (t : Told p) where
  marks-of : marks_of (noted p) ≡ draw.marks p.role p.chain p.first p.variable
  unfolding marks_of noted draw.marks
  marks-of = rw (room-is p.first t.first, room-is p.variable t.variable, ← flexible-atom-shift p.role p.chain p.first)

  sums-of : sums_of (noted p) ≡ draw.sums p.role p.chain p.variable
  unfolding sums_of noted
  sums-of =
      let d = p.chain in
      rw (room-is p.variable t.variable, sums-are p.role d p.variable) (sum-listed p.variable d.unlocated (remaining p.role d - d.unlocated - 1))

-- ---- all chains

pub marks-told : (ps : List request.Placed) → Each Told ps → marks_in (map noted ps) ≡ all_marks ps
unfolding marks_in gathered all_marks
marks-told [] h = refl
marks-told (p ∷ ps) h = ap₂ (λ (a b : List (At ℕ)). a ++ b) (marks-of p h.0) (marks-told ps h.1)

pub sums-told : (ps : List request.Placed) → Each Told ps → sums_in (map noted ps) ≡ all_sums ps
unfolding sums_in gathered all_sums
sums-told [] h = refl
sums-told (p ∷ ps) h = ap₂ (λ (a b : List Sum). a ++ b) (sums-of p h.0) (sums-told ps h.1)

-- ---- sums stand only with marks

none-marked : (p v n total : ℕ) (ms : List (At ℕ)) → mark_list p v n ++ ms ≡ [] → (sum_list v n total ≡ []) × (ms ≡ [])
unfolding mark_list sum_list values_from
none-marked p v zero total ms e = (refl, e)
none-marked p v (suc n) total ms e = let z : ◌≡◌ {A = ℕ} 0 1 = cc in absurd (omega arith)

pub marked-sums : (ps : List request.Placed) → all_marks ps ≡ [] → all_sums ps ≡ []
unfolding all_marks all_sums draw.marks
marked-sums [] h = refl
marked-sums (p ∷ ps) h =
    let d = p.chain in
    let z = none-marked (draw.flexible_atom p.role d p.first) p.variable d.unlocated (remaining p.role d - d.unlocated - 1) (all_marks ps) h in
    rw (sums-are p.role d p.variable, z.0) (marked-sums ps z.1)
