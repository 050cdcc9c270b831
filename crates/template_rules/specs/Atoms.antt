-- What a molecule says of its atoms, its bonds and its sums: how the promise looks at what is read from a line. Assumes nothing.
use Rattle.std.specs.Prelude.{ℕ, zero, suc, ◌≡◌, ◌⊎◌, List, [], ◌∷◌, map}
use Rattle.std.proofs.Math.Option.{Option, none, some}
use Rattle.reading_rules.specs.reading.Row.{Row}
use Rattle.reading_rules.specs.reading.Molecule.{Atom, atom, At, at, Bond, Sum, Molecule, molecule}

-- ---- of one atom

unfoldable pub atom_at : ℕ → List Atom → Option Atom
atom_at i [] = none
atom_at zero (a ∷ r) = some a
atom_at (suc i) (a ∷ r) = atom_at i r

abbrev pub bytes_of : Option Atom → Option (List ℕ)
bytes_of none = none
bytes_of (some (atom b l v s)) = some b

abbrev pub label_of : Option Atom → Option ℕ
label_of none = none
label_of (some (atom b l v s)) = l

abbrev pub variable_of : Option Atom → Option ℕ
variable_of none = none
variable_of (some (atom b l v s)) = v

unfoldable pub bytes_at : Molecule → ℕ → Option (List ℕ)
unfolding atom_at
bytes_at (molecule atoms bonds sums) i = bytes_of (atom_at i atoms)

-- its sn label
unfoldable pub label_at : Molecule → ℕ → Option ℕ
unfolding atom_at
label_at (molecule atoms bonds sums) i = label_of (atom_at i atoms)

-- the variable that marks it
unfoldable pub variable_at : Molecule → ℕ → Option ℕ
unfolding atom_at
variable_at (molecule atoms bonds sums) i = variable_of (atom_at i atoms)

-- ---- of all atoms, by rising number

abbrev pub mark_in : Atom → Option ℕ
mark_in (atom b l v s) = v

abbrev pub site_list_in : Atom → Option (List ℕ)
site_list_in (atom b l v s) = s

-- what stands at atoms, of which the first is atom n
unfoldable pub noted : {A : Type 0} → ℕ → List (Option A) → List (At A)
noted n [] = []
noted n (none ∷ r) = noted (suc n) r
noted n (some a ∷ r) = at n a ∷ noted (suc n) r

-- all repeat marks
unfoldable pub marks_in : Molecule → List (At ℕ)
unfolding noted
marks_in (molecule atoms bonds sums) = noted 0 (map mark_in atoms)

-- all site lists
unfoldable pub site_lists_in : Molecule → List (At (List ℕ))
unfolding noted
site_lists_in (molecule atoms bonds sums) = noted 0 (map site_list_in atoms)

-- ---- bonds, sums and rows

unfoldable pub bonds_in : Molecule → List Bond
bonds_in (molecule atoms bonds sums) = bonds

unfoldable pub sums_in : Molecule → List Sum
sums_in (molecule atoms bonds sums) = sums

-- an element of a list
abbrev pub Among : {A : Type 0} → A → List A → Type 0
Among a [] = ⊥
Among a (b ∷ l) = (a ≡ b) ⊎ Among a l

-- row i of the rows that a molecule is made of
unfoldable pub row_at : ℕ → List Row → Option Row
row_at i [] = none
row_at zero (r ∷ rs) = some r
row_at (suc i) (r ∷ rs) = row_at i rs
