-- Tails and what are none, as one list with one proof.
use Prim.Native.Nat.{ℕ}
use Prim.Native.String.{String}
use mathlib.Core.Path.{◌≡◌, refl}
use mathlib.Core.Bool.{Bool, true, false}
use mathlib.Core.List.{List, [], ◌∷◌, map}
use Rattle.reading_rules.specs.reading.Ascii.{ascii}
use Rattle.tail_grammar.specs.ringdigits.Grammar.{atoms_of_tail, is_tail}

pub data Example : Type 0 where
  tail : String → Example
  none : String → Example

pub found : Example → Bool
found (tail s) = is_tail (ascii s)
found (none s) = is_tail (ascii s)

pub expected : Example → Bool
expected (tail s) = true
expected (none s) = false

pub examples : List Example
examples =
    tail "O"
    ∷ tail "OP(=O)(O)OCC[N+](C)(C)C"
    ∷ tail "OC1C(O)CC=CC1"
    ∷ tail "=C-O"
    ∷ tail "Cl"
    ∷ tail "C/C=C\\C"
    ∷ tail "C(=O)(Br)C"
    -- a digit may be used again once it is closed, on the same atom too
    ∷ tail "C1CC11CC1"
    ∷ tail "C1CC1C1CC1"
    ∷ tail "C12CC1C2"
    -- sixteen branches in one another, sixteen bytes in a bracket
    ∷ tail "C(C(C(C(C(C(C(C(C(C(C(C(C(C(C(C(C))))))))))))))))"
    ∷ tail "[abcdefghijklmnop]"
    ∷ none "C(C(C(C(C(C(C(C(C(C(C(C(C(C(C(C(C(C)))))))))))))))))"
    ∷ none "[abcdefghijklmnopq]"
    ∷ none "[]"
    ∷ none ""
    -- a digit that does not close, that closes on its own atom, or on one that is bonded already
    ∷ none "C1CC"
    ∷ none "C11"
    ∷ none "C1C1"
    ∷ none "C12CC12"
    ∷ none "C1(C1)C"
    ∷ none "C1CC=1"
    ∷ none "C(C)1CC1"
    ∷ none "C0CC0"
    ∷ none "C%10CC%10"
    -- branches
    ∷ none "(C)C"
    ∷ none "C()"
    ∷ none "C(C"
    ∷ none "CC)"
    ∷ none "C((C))"
    ∷ none "C=(C)"
    ∷ none "C(C=)"
    -- the rest
    ∷ none "C.C"
    ∷ none "C=="
    ∷ none "C="
    ∷ none "Cr"
    ∷ none "C C"
    ∷ []

pub worked-examples : map found examples ≡ map expected examples
unfolding found expected examples is_tail ascii
worked-examples = refl

-- how many atoms some of them have: a bracket is one, two letters may be one, and marks, digits and parentheses are none
pub counted : List (String × ℕ)
counted =
    ("O", 1)
    ∷ ("OP(=O)(O)OCC[N+](C)(C)C", 11)
    ∷ ("OC1C(O)CC=CC1", 8)
    ∷ ("Cl", 1)
    ∷ ("C(=O)(Br)C", 4)
    ∷ ("[abcdefghijklmnop]", 1)
    ∷ ("C(C", 0)
    ∷ ("", 0)
    ∷ []

pub counted-examples : map (λ (e : String × ℕ). atoms_of_tail (ascii e.0)) counted ≡ map (λ (e : String × ℕ). e.1) counted
unfolding counted atoms_of_tail ascii
counted-examples = refl
