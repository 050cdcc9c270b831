-- What the builder has after some elements of a template: its three counters, and the chains that it placed. Assumes nothing.
use Rattle.std.specs.Prelude.{ℕ, suc, ◌+◌, List, [], ◌∷◌, length}
use Rattle.std.proofs.Math.Option.{Option, none, some}
use Rattle.chain_record.specs.plain.Chain.{Chain}
use Rattle.chain_rules.specs.declared.chain.Role.TheVariants as role
use Rattle.template_rules.specs.Template.{Element, fixed, tail, slot, chain}
use Rattle.template_rules.specs.Drawn.{Placed, place, site_of, nonempty, fixed_pieces, tail_part, atoms_of_pieces, atoms_after, variables_after}

-- the chain of an element, where it has one
unfoldable pub chain_in : List Chain → Element → Option Chain
unfolding nonempty
chain_in ds (fixed b) = none
chain_in ds tail = none
chain_in ds (slot sn) = nonempty sn ds
chain_in ds (chain sn r) = nonempty sn ds

-- the atoms after an element, with n before it
unfoldable pub element_atoms : List ℕ → List Chain → ℕ → Element → ℕ
unfolding atoms_of_pieces fixed_pieces tail_part nonempty
element_atoms t ds n (fixed b) = n + atoms_of_pieces (fixed_pieces b)
element_atoms t ds n tail = n + (tail_part t).size
element_atoms t ds n (slot sn) = atoms_after role.Slot (suc n) (nonempty sn ds)
element_atoms t ds n (chain sn r) = atoms_after r n (nonempty sn ds)

-- the variables after an element, with v before it
unfoldable pub element_variables : List Chain → ℕ → Element → ℕ
unfolding chain_in
element_variables ds v e = variables_after v (chain_in ds e)

abbrev pub labels_after : ℕ → Option Chain → ℕ
labels_after l none = l
labels_after l (some d) = l + length d.rings

-- the next label after an element, with l before it
unfoldable pub element_labels : List Chain → ℕ → Element → ℕ
unfolding chain_in
element_labels ds l e = labels_after l (chain_in ds e)

-- the chain that an element places
unfoldable pub element_placed : List Chain → ℕ → ℕ → Element → List Placed
unfolding nonempty
element_placed ds n v (fixed b) = []
element_placed ds n v tail = []
element_placed ds n v (slot sn) = place sn role.Slot (site_of role.Slot n) (suc n) v (nonempty sn ds)
element_placed ds n v (chain sn r) = place sn r (site_of r n) n v (nonempty sn ds)

-- after several elements
unfoldable pub atoms_from : List ℕ → List Chain → ℕ → List Element → ℕ
unfolding element_atoms
atoms_from t ds n [] = n
atoms_from t ds n (e ∷ es) = atoms_from t ds (element_atoms t ds n e) es

unfoldable pub variables_from : List Chain → ℕ → List Element → ℕ
unfolding element_variables
variables_from ds v [] = v
variables_from ds v (e ∷ es) = variables_from ds (element_variables ds v e) es

unfoldable pub labels_from : List Chain → ℕ → List Element → ℕ
unfolding element_labels
labels_from ds l [] = l
labels_from ds l (e ∷ es) = labels_from ds (element_labels ds l e) es
