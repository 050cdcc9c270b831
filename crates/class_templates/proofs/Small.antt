-- What a template of chains that can be drawn leads to can be kept.
-- Assumes nothing.
use Prim.Native.Nat.{ℕ, suc, ◌+◌, ◌*◌, ◌≤◌}
use native.Mathlib.Omega.{arith}
use mathlib.Core.Path.{◌≡◌, refl}
use mathlib.Core.Bool.{Bool, true, false, cond}
use mathlib.Core.Option.{Option, none, some}
use mathlib.Core.List.{List, [], ◌∷◌}
use lib.Dec.{eqb}
use lib.ListN.{length, length-map}
use Rattle.chain_record.specs.plain.Chain.{Chain}
use Rattle.reading_rules.proofs.reading.PartingLaws.{All}
use Rattle.chain_rules.specs.declared.chain.Role.{Role}
use Rattle.chain_rules.specs.declared.chain.Role.TheVariants.{Slot}
use Rattle.chain_rules.specs.chain.Drawing.{variables}
use Rattle.chain_rules.proofs.chain.Accepted.{Drawable, unlocated-most}
use Rattle.chain_rules.proofs.chain.Few.{atoms-most}
use Rattle.template_rules.specs.Template.{Element, fixed, tail, slot, chain}
use Rattle.template_rules.specs.Drawn.{nonempty, fixed_pieces, tail_part, atoms_of_pieces, atoms_after, variables_after, placed_from}
use Rattle.template_rules.specs.Built.{chain_in, labels_after, element_atoms, element_variables, element_labels, atoms_from, variables_from, labels_from}
use Rattle.template_rules.proofs.Templates.{sns_of}
use Rattle.template_rules.proofs.Sorted.{length-placed}
use Rattle.placement.specs.chain_notes.Fragment.{noted}
use Rattle.class_templates.specs.Templates.{FitsAll}

-- an element adds little
pub record Small (t : List ℕ) (ds : List Chain) (e : Element) : Type 0 where
  pub atoms : (n : ℕ) → element_atoms t ds n e ≤ n + 70000
  pub variables : (v : ℕ) → element_variables ds v e ≤ v + 70000
  pub labels : (l : ℕ) → element_labels ds l e ≤ l + 8

module _ (t : List ℕ) (ds : List Chain) where
  atoms-small : (es : List Element) (n : ℕ) → All (Small t ds) es → atoms_from t ds n es ≤ n + 70000 * length es
  unfolding atoms_from
  atoms-small [] n h = omega arith
  atoms-small (e ∷ es) n h = omega (arith, h.0.atoms n, atoms-small es (element_atoms t ds n e) h.1)

  variables-small : (es : List Element) (v : ℕ) → All (Small t ds) es → variables_from ds v es ≤ v + 70000 * length es
  unfolding variables_from
  variables-small [] v h = omega arith
  variables-small (e ∷ es) v h = omega (arith, h.0.variables v, variables-small es (element_variables ds v e) h.1)

  labels-small : (es : List Element) (l : ℕ) → All (Small t ds) es → labels_from ds l es ≤ l + 8 * length es
  unfolding labels_from
  labels-small [] l h = omega arith
  labels-small (e ∷ es) l h = omega (arith, h.0.labels l, labels-small es (element_labels ds l e) h.1)

  -- a template of at most 16 elements, with at most four chains
  pub fits-small : (es : List Element) → length es ≤ 16 → length (sns_of es) ≤ 4 → All (Small t ds) es → FitsAll t ds es
  fits-small es few four h =
      record {
        atoms = omega (arith, few, atoms-small es 0 h);
        variables = omega (arith, few, variables-small es 0 h);
        labels = omega (arith, few, labels-small es 10 h);
        places = omega (arith, four, length-map (placed_from t ds 0 0 es) noted, length-placed t ds 0 0 es);
      }

  -- ---- each element

  -- the chain of an sn can be drawn, where there is one
  abbrev pub Fine : Role → ℕ → Type 0
  Fine r sn = (d : Chain) → nonempty sn ds ≡ some d → Drawable r d

  variables-most : (r : Role) (o : Option Chain) (v : ℕ) → ((d : Chain) → o ≡ some d → Drawable r d) → variables_after v o ≤ v + 70000
  unfolding variables
  variables-most r none v k = omega arith
  variables-most r (some d) v k = omega (arith, unlocated-most r d (k d refl), most (eqb d.unlocated 0))
    where
      most : (b : Bool) → cond b 0 (suc d.unlocated) ≤ suc d.unlocated
      most true = omega arith
      most false = omega arith

  labels-most : (r : Role) (o : Option Chain) (l : ℕ) → ((d : Chain) → o ≡ some d → Drawable r d) → labels_after l o ≤ l + 8
  labels-most r none l k = omega arith
  labels-most r (some d) l k = omega (arith, (k d refl).sound.within.rings)

  after-most : (r : Role) (o : Option Chain) (n : ℕ) → ((d : Chain) → o ≡ some d → Drawable r d) → atoms_after r n o ≤ n + 65535
  after-most r none n k = omega arith
  after-most r (some d) n k = omega (arith, atoms-most r d n (k d refl))

  pub small_slot : (sn : ℕ) → Fine Slot sn → Small t ds (slot sn)
  unfolding element_atoms element_variables element_labels chain_in
  small_slot sn k =
      record {
        atoms = λ n. omega (arith, after-most Slot (nonempty sn ds) (suc n) k);
        variables = λ v. variables-most Slot (nonempty sn ds) v k;
        labels = λ l. labels-most Slot (nonempty sn ds) l k;
      }

  pub small-chain : (sn : ℕ) (r : Role) → Fine r sn → Small t ds (chain sn r)
  unfolding element_atoms element_variables element_labels chain_in
  small-chain sn r k =
      record {
        atoms = λ n. omega (arith, after-most r (nonempty sn ds) n k);
        variables = λ v. variables-most r (nonempty sn ds) v k;
        labels = λ l. labels-most r (nonempty sn ds) l k;
      }

  pub small-fixed : (b : List ℕ) → atoms_of_pieces (fixed_pieces b) ≤ 255 → Small t ds (fixed b)
  unfolding element_atoms element_variables element_labels chain_in
  small-fixed b h = record { atoms = λ n. omega arith; variables = λ v. omega arith; labels = λ l. omega arith }

  pub small-tail : (tail_part t).size ≤ 65535 → Small t ds tail
  unfolding element_atoms element_variables element_labels chain_in
  small-tail h = record { atoms = λ n. omega arith; variables = λ v. omega arith; labels = λ l. omega arith }
