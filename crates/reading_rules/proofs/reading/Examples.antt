-- Worked examples of the OpenSMILES document that 01 reads the same way, as one list with one proof: the number of atoms and the bonds of
-- each, or that it is malformed. The last refusals are 01's own: OpenSMILES reads those texts (docs/DIFFERENCES.md).
use Prim.Native.Nat.{ℕ}
use Prim.Native.Char.{code}
use Prim.Native.String.{String}
use mathlib.Core.Path.{◌≡◌, refl}
use mathlib.Core.Option.{Option, none, some}
use mathlib.Core.List.{List, [], ◌∷◌, map}
use lib.ListN.{length}
use Rattle.reading_rules.specs.smiles.Ascii.{ascii}
use Rattle.reading_rules.specs.smiles.Row.{Row}
use Rattle.reading_rules.specs.smiles.Text.{read_text}
use Rattle.reading_rules.specs.molecule.Molecule.{Bond, bond, bonds_of}

pub data Example : Type 0 where
  reads : String → ℕ → List Bond → Example
  refused : String → Example

pub data Answer : Type 0 where
  molecule : ℕ → List Bond → Answer
  unreadable : Answer

answer_of : Option (List Row) → Answer
answer_of none = unreadable
answer_of (some rs) = molecule (length rs) (bonds_of rs)

pub found : Example → Answer
unfolding answer_of
found (reads s n bs) = answer_of (read_text (ascii s))
found (refused s) = answer_of (read_text (ascii s))

pub expected : Example → Answer
expected (reads s n bs) = molecule n bs
expected (refused s) = unreadable

plain : ℕ → ℕ → Bond
plain a b = bond a b 0

double : ℕ → ℕ → Bond
double a b = bond a b (code "=")

triple : ℕ → ℕ → Bond
triple a b = bond a b (code "#")

up : ℕ → ℕ → Bond
up a b = bond a b (code "/")

down : ℕ → ℕ → Bond
down a b = bond a b (code "\\")

pub examples : List Example
examples =
    -- atoms and bonds
    reads "C" 1 []
    ∷ reads "[Au]" 1 []
    ∷ reads "[13CH4]" 1 []
    ∷ reads "CCO" 3 (plain 0 1 ∷ plain 1 2 ∷ [])
    ∷ reads "C-C-O" 3 (plain 0 1 ∷ plain 1 2 ∷ [])
    ∷ reads "C=C" 2 (double 0 1 ∷ [])
    ∷ reads "C#N" 2 (triple 0 1 ∷ [])
    ∷ reads "ClCBr" 3 (plain 0 1 ∷ plain 1 2 ∷ [])
    ∷ reads "F/C=C/F" 4 (up 0 1 ∷ double 1 2 ∷ up 2 3 ∷ [])
    ∷ reads "C(\\F)=C/F" 4 (down 0 1 ∷ double 0 2 ∷ up 2 3 ∷ [])
    -- branches: the atom after a branch joins the one before it
    ∷ reads "CCC(CC)CO" 7 (plain 0 1 ∷ plain 1 2 ∷ plain 2 3 ∷ plain 2 5 ∷ plain 3 4 ∷ plain 5 6 ∷ [])
    ∷ reads "OS(=O)(=S)O" 5 (plain 0 1 ∷ double 1 2 ∷ double 1 3 ∷ plain 1 4 ∷ [])
    ∷ reads "C(C(C(C)))C" 5 (plain 0 1 ∷ plain 0 4 ∷ plain 1 2 ∷ plain 2 3 ∷ [])
    -- rings
    ∷ reads "C1CCCCC1" 6 (plain 0 1 ∷ plain 0 5 ∷ plain 1 2 ∷ plain 2 3 ∷ plain 3 4 ∷ plain 4 5 ∷ [])
    ∷ reads "C%25CC%25" 3 (plain 0 1 ∷ plain 0 2 ∷ plain 1 2 ∷ [])
    ∷ reads "C1CC1C1CC1" 6 (plain 0 1 ∷ plain 0 2 ∷ plain 1 2 ∷ plain 2 3 ∷ plain 3 4 ∷ plain 3 5 ∷ plain 4 5 ∷ [])
    ∷ reads "C12(CC1)CC2" 5 (plain 0 1 ∷ plain 0 2 ∷ plain 0 3 ∷ plain 0 4 ∷ plain 1 2 ∷ plain 3 4 ∷ [])
    ∷ reads "C1CC2CC21" 5 (plain 0 1 ∷ plain 0 4 ∷ plain 1 2 ∷ plain 2 3 ∷ plain 2 4 ∷ plain 3 4 ∷ [])
    -- parts that nothing joins
    ∷ reads "[Na+].[Cl-]" 2 []
    ∷ reads "C1.C1" 2 (plain 0 1 ∷ [])
    ∷ reads "C1.C12.C2" 3 (plain 0 1 ∷ plain 1 2 ∷ [])
    ∷ reads "C(O.N)C" 4 (plain 0 1 ∷ plain 0 3 ∷ [])
    -- malformed
    ∷ refused "C1CC"
    ∷ refused "C11"
    ∷ refused "C1C1"
    ∷ refused "C12CCCCC12"
    ∷ refused "C12C2CCC1"
    ∷ refused "C("
    ∷ refused "C(C"
    ∷ refused "C)"
    ∷ refused "C()C"
    ∷ refused "(CC)"
    ∷ refused "C((C)C)C"
    ∷ refused "CC(C)("
    ∷ refused "C(C)1CC1"
    ∷ refused "C==C"
    ∷ refused "C="
    ∷ refused "=C"
    ∷ refused "C=(C)C"
    ∷ refused "C(=)C"
    ∷ refused "C..C"
    ∷ refused "C.=C"
    ∷ refused ".C"
    ∷ refused "C."
    ∷ refused "1CC1"
    ∷ refused "C%1CC%1"
    ∷ refused "[C"
    ∷ refused "[]"
    ∷ refused "Cr"
    -- more than OpenSMILES asks of a text, by 01
    ∷ refused ""
    ∷ refused "C0CC0"
    ∷ refused "C%09CC%09"
    ∷ refused "C=1CCCCC=1"
    ∷ refused "C(.C)C"
    ∷ refused "c:c"
    ∷ refused "C$C"
    ∷ refused "C%(100)CC%(100)"
    ∷ refused "[CH4:2]"
    ∷ refused "[*]"
    ∷ refused "[CCCCCCCCCCCCCCCCC]"
    ∷ []

pub worked-examples : map found examples ≡ map expected examples
unfolding examples found expected read_text ascii bonds_of plain double triple up down
worked-examples = refl
