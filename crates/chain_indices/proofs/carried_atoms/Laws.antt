-- Laws of the atoms of a branch and of a carbonyl. Assumes nothing.
use Prim.Native.Nat.{ℕ}
use native.Mathlib.Omega.{arith}
use mathlib.Core.Path.{◌≡◌, refl, sym, ◌∙◌}
use mathlib.Core.Bool.{Bool, true, false}
use borrow.Author.Tests.{eq-eqb, ne_eqb}
use Rattle.group_table.specs.groups.Groups.{entries, entry_at}
use Rattle.reading_rules.specs.reading.Chain.{parts_end}
use Rattle.chain_rules.specs.chain.Drawing.{branch_part}
use Rattle.carbons.specs.ByCarbon.{RowAtoms}
use Rattle.chain_pieces.specs.branches.Text.{carbonyl_of}
use Rattle.chain_pieces.proofs.branches.Laws.{branch-size}
use Rattle.chain_indices.specs.carried_atoms.Counts.{Counts}

pub branch-counted : (row n m : ℕ) → RowAtoms row m → n ≡ m → Counts 5 (branch_part row).size n
branch-counted row n m r e = record { is = e ∙ (r.is ∙ sym (branch-size row)); few = omega (arith, r.few) }

keto-atoms : (entry_at 12).atoms ≡ 1
unfolding entry_at entries
keto-atoms = refl

module _ (acyl : Bool) (k : ℕ) where
  pub carbonyl-one : acyl ≡ true → k ≡ 1 → Counts 1 (parts_end 0 (carbonyl_of acyl k)) 1
  unfolding carbonyl_of parts_end
  carbonyl-one e f =
      let z : (branch_part 12).size ≡ 1 = branch-size 12 ∙ keto-atoms in
      record { is = rw (e, eq-eqb k 1 f, z); few = omega arith }

  pub carbonyl-zero : acyl ≡ true → (k ≡ 1 → ⊥) → Counts 1 (parts_end 0 (carbonyl_of acyl k)) 0
  unfolding carbonyl_of parts_end
  carbonyl-zero e f = record { is = rw (e, ne_eqb k 1 f); few = omega arith }

  pub carbonyl-not : acyl ≡ false → Counts 1 (parts_end 0 (carbonyl_of acyl k)) 0
  unfolding carbonyl_of parts_end
  carbonyl-not e = record { is = rw e; few = omega arith }
