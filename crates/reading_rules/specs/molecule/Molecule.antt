-- What a line reads to. 01, The line and its reading: "A molecule is its atoms by number, each with its bytes and, where it has them, its sn
-- label, repeat mark (a variable) and site list; the set of its bonds, each with the lower atom, the higher atom and its mark, `-` counting
-- as none; and the set of its sums, each its variables in order and its number. All of this is compared."
use Rattle.std.specs.Prelude.{ℕ, zero, suc, Bool, true, false, cond, ◌||◌, ◌&&◌, List, [], ◌∷◌, ◌++◌, eqb, ltb}
use Rattle.std.proofs.Math.Option.{Option, none, some}
use Rattle.reading_rules.specs.smiles.Row.{Link, link, Row, row}

-- ---- the parts of a molecule

-- an atom: its bytes, sn label, variable and site list
pub data Atom : Type 0 where
  atom : List ℕ → Option ℕ → Option ℕ → Option (List ℕ) → Atom

-- a bond: the lower atom, the higher atom, and the mark's byte, 0 for none
pub data Bond : Type 0 where
  bond : ℕ → ℕ → ℕ → Bond

-- a sum: its variables in order, and its number
pub data Sum : Type 0 where
  sum : List ℕ → ℕ → Sum

abbrev pub variables_of : Sum → List ℕ
variables_of (sum vs n) = vs

abbrev pub number_of : Sum → ℕ
number_of (sum vs n) = n

pub data Molecule : Type 0 where
  molecule : List Atom → List Bond → List Sum → Molecule

-- ---- sets

-- A set is its elements by rising key, each once. Keys tell any two elements apart, so two sets with the same elements are the same list, and
-- molecules are compared by plain equality.

-- the order of keys, number by number
unfoldable pub before : List ℕ → List ℕ → Bool
before [] [] = false
before [] (y ∷ ys) = true
before (x ∷ xs) [] = false
before (x ∷ xs) (y ∷ ys) = ltb x y || eqb x y && before xs ys

-- a put into a set
unfoldable pub insert : {A : Type 0} → (A → List ℕ) → A → List A → List A
unfolding before
insert key a [] = a ∷ []
insert key a (b ∷ bs) =
    let more = insert key a bs in
    cond (before (key a) (key b)) (a ∷ b ∷ bs) (cond (before (key b) (key a)) (b ∷ more) (b ∷ bs))

-- the set of the elements of a list
unfoldable pub set_of : {A : Type 0} → (A → List ℕ) → List A → List A
unfolding insert
set_of key [] = []
set_of key (a ∷ r) = insert key a (set_of key r)

-- bonds stand by lower, then by higher atom
unfoldable pub bond_key : Bond → List ℕ
bond_key (bond a b m) = a ∷ b ∷ m ∷ []

unfoldable pub sum_key : Sum → List ℕ
sum_key (sum vs n) = n ∷ vs

-- the bonds of atom n to lower atoms
unfoldable pub bonds_to : ℕ → List Link → List Bond
bonds_to n [] = []
bonds_to n (link a m ∷ ks) = bond a n m ∷ bonds_to n ks

-- the bonds of rows that are numbered from n
unfoldable pub bonds_from : ℕ → List Row → List Bond
unfolding bonds_to
bonds_from n [] = []
bonds_from n (row b ks ∷ rs) = bonds_to n ks ++ bonds_from (suc n) rs

-- the set of the bonds of rows
unfoldable pub bonds_of : List Row → List Bond
unfolding set_of bond_key bonds_from
bonds_of rs = set_of bond_key (bonds_from zero rs)

-- ---- what is noted of atoms

-- something that stands at an atom: the atom's number, and what it is
pub data At (A : Type 0) : Type 0 where
  at : ℕ → A → At A

-- the atoms at which something stands, and what stands there, in the list's order
unfoldable pub atoms_of : {A : Type 0} → List (At A) → List ℕ
atoms_of [] = []
atoms_of (at i a ∷ r) = i ∷ atoms_of r

unfoldable pub notes_of : {A : Type 0} → List (At A) → List A
notes_of [] = []
notes_of (at i a ∷ r) = a ∷ notes_of r

-- what stands at atom i
unfoldable pub look : {A : Type 0} → ℕ → List (At A) → Option A
look i [] = none
look i (at j a ∷ r) = cond (eqb i j) (some a) (look i r)

-- the atoms of rows that are numbered from n, with their labels, marks and sites
unfoldable pub atoms_from : ℕ → List Row → List (At ℕ) → List (At ℕ) → List (At (List ℕ)) → List Atom
unfolding look
atoms_from n [] labels marks sites = []
atoms_from n (row b ks ∷ rs) labels marks sites = atom b (look n labels) (look n marks) (look n sites) ∷ atoms_from (suc n) rs labels marks sites

-- the molecule of rows with sn labels, marks and site lists at some of their atoms, and with sums
unfoldable pub molecule_of : List Row → List (At ℕ) → List (At ℕ) → List (At (List ℕ)) → List Sum → Molecule
unfolding atoms_from bonds_of set_of sum_key
molecule_of rs labels marks sites sums = molecule (atoms_from zero rs labels marks sites) (bonds_of rs) (set_of sum_key sums)
