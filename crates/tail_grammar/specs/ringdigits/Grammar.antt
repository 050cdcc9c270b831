-- The grammar of a tail: a reader that goes from byte to byte.
-- 01, Templates and the builder: "Its grammar, 1 to 255 bytes: one or more atoms, each after at most one bond (`- = # / \`, of which `-` is
-- plain) (B C N O P S F I Cl Br b c n o s p * or brackets of 1 to 16 letters, digits, `+ - @`), digits 1 to 9 straight after an atom, closed
-- inside the tail between two otherwise unbonded atoms, and branches in branches to depth 16, each opening as a tail does. A branch follows
-- an atom, its digits or another branch."
use Rattle.std.specs.Prelude.{ℕ, suc, ◌+◌, ◌-◌, Bool, true, false, not, cond, ◌||◌, ◌&&◌, List, [], ◌∷◌, length, get_or, set, replicate, eqb, ltb}
use Prim.Native.Char.{code}
use Rattle.reading_rules.specs.reading.Lexer.{memb, within, organic, marks, bracketed, pairs}

-- ---- the atoms and digits so far

-- `Rings` counts the atoms of the tail from 1, atom 0 being the one that the tail hangs on. It has the last atom; the current one; the one
-- that this joined; by digit the atom on which it is open, 0 for none; and by atom the last one that a digit joined to it
pub record Rings : Type 0 where
  pub last : ℕ
  pub current : ℕ
  pub parent : ℕ
  pub opened : List ℕ
  pub joined : List ℕ

abbrev pub no_rings : Rings
no_rings = record { last = 0; current = 0; parent = 0; opened = replicate 10 0; joined = replicate 256 0 }

-- one more atom, which joins the current one
abbrev pub with_atom : Rings → Rings
with_atom r = record { last = r.last + 1; current = r.last + 1; parent = r.current; opened = r.opened; joined = r.joined }

-- the atom a is the current one again, after a branch
abbrev pub back_to : ℕ → Rings → Rings
back_to a r = record { last = r.last; current = a; parent = r.parent; opened = r.opened; joined = r.joined }

-- the atom a is the current one, or bonded to it: joined by it, or by a digit
unfoldable pub bonded : ℕ → Rings → Bool
bonded a r = eqb a r.current || (eqb a r.parent || eqb (get_or r.joined a 0) r.current)

-- the digit d is open on an atom to which there can be no further bond: "between two otherwise unbonded atoms"
unfoldable pub clashes : ℕ → Rings → Bool
unfolding bonded
clashes d r = cond (eqb (get_or r.opened d 0) 0) false (bonded (get_or r.opened d 0) r)

-- the digit d on the current atom: it opens, or closes
unfoldable pub with_digit : ℕ → Rings → Rings
with_digit d r =
    cond (eqb (get_or r.opened d 0) 0)
    (record { last = r.last; current = r.current; parent = r.parent; opened = set r.opened d r.current; joined = r.joined })
    (record { last = r.last; current = r.current; parent = r.parent; opened = set r.opened d 0; joined = set r.joined (get_or r.opened d 0) r.current })

-- no digit is open: "closed inside the tail"
unfoldable pub none_open : List ℕ → Bool
none_open [] = true
none_open (a ∷ rest) = cond (eqb a 0) (none_open rest) false

-- ---- one byte

-- Where the reader stands: at an opening, where a bond or an atom comes; after a bond; after a letter, which may be the first of two; in a
-- bracket, with so many bytes in it; after an atom or its digits; after a branch
pub data Place : Type 0 where
  opening after_bond whole closed : Place
  letter inside : ℕ → Place

-- a place, the atoms at which the open branches started, the atoms and digits so far; or no tail goes on so
pub data State : Type 0 where
  wrong : State
  stands : Place → List ℕ → Rings → State

-- an atom has to begin: "B C N O P S F I Cl Br b c n o s p * or brackets"
unfoldable pub atom_begins : ℕ → List ℕ → Rings → State
unfolding memb organic
atom_begins x stk r = cond (memb x organic) (stands (letter x) stk (with_atom r)) (cond (eqb x (code "[")) (stands (inside 0) stk (with_atom r)) wrong)

-- "one or more atoms, each after at most one bond"
unfoldable pub bond_or_atom : ℕ → List ℕ → Rings → State
unfolding memb marks atom_begins
bond_or_atom x stk r = cond (memb x marks) (stands after_bond stk r) (atom_begins x stk r)

-- the branch that was opened last ends; the next atom joins the one at which it started
unfoldable pub branch_closes : List ℕ → Rings → State
branch_closes [] r = wrong
branch_closes (a ∷ stk) r = stands closed stk (back_to a r)

-- "branches in branches to depth 16, each opening as a tail does"
unfoldable pub branch_opens : List ℕ → Rings → State
branch_opens stk r = cond (ltb (length stk) 16) (stands opening (r.current ∷ stk) r) wrong

-- "A branch follows an atom, its digits or another branch"; so does an atom, and the end of a branch
unfoldable pub goes_on : ℕ → List ℕ → Rings → State
unfolding branch_closes branch_opens bond_or_atom
goes_on x stk r = cond (eqb x (code ")")) (branch_closes stk r) (cond (eqb x (code "(")) (branch_opens stk r) (bond_or_atom x stk r))

-- "digits 1 to 9 straight after an atom"
unfoldable pub digit_or : ℕ → List ℕ → Rings → State
unfolding within clashes with_digit goes_on
digit_or x stk r =
    cond (within (code "1") (code "9") x) (cond (clashes (x - code "0") r) wrong (stands whole stk (with_digit (x - code "0") r))) (goes_on x stk r)

-- "brackets of 1 to 16 letters, digits, `+ - @`"; k bytes of it stand there
unfoldable pub bracket_on : ℕ → ℕ → List ℕ → Rings → State
unfolding bracketed within
bracket_on x k stk r = cond (bracketed x) (stands (inside (suc k)) stk r) (cond (eqb x (code "]") && within 1 16 k) (stands whole stk r) wrong)

unfoldable pub step : State → ℕ → State
unfolding bond_or_atom atom_begins digit_or goes_on bracket_on pairs
step wrong x = wrong
step (stands opening stk r) x = bond_or_atom x stk r
step (stands after_bond stk r) x = atom_begins x stk r
step (stands (letter a) stk r) x = cond (pairs a x) (stands whole stk r) (digit_or x stk r)
step (stands (inside k) stk r) x = bracket_on x k stk r
step (stands whole stk r) x = digit_or x stk r
step (stands closed stk r) x = goes_on x stk r

-- ---- all bytes

-- The number of atoms of a tail that ends here, and 0 where it may not end. It may after an atom, its digits or a branch, with no branch and
-- no digit open
unfoldable pub finished : List ℕ → Rings → ℕ
unfolding none_open
finished [] r = cond (none_open r.opened) r.last 0
finished (a ∷ stk) r = 0

unfoldable pub done : State → ℕ
unfolding finished
done wrong = 0
done (stands opening stk r) = 0
done (stands after_bond stk r) = 0
done (stands (letter a) stk r) = finished stk r
done (stands (inside k) stk r) = 0
done (stands whole stk r) = finished stk r
done (stands closed stk r) = finished stk r

-- the number of atoms of a tail that goes on so from a state, and 0 where none does
unfoldable pub scan : State → List ℕ → ℕ
unfolding step done
scan q [] = done q
scan q (x ∷ xs) = scan (step q x) xs

-- the number of atoms of a tail, and 0 of what is none: "1 to 255 bytes". It is the size of the part that the tail reads to:
-- `tail-part-atoms` of `tail`
unfoldable pub atoms_of_tail : List ℕ → ℕ
unfolding scan within
atoms_of_tail xs = cond (within 1 255 (length xs)) (scan (stands opening [] no_rings) xs) 0

-- whether the bytes are a tail: "one or more atoms". Exactly those that read by themselves, hung on an atom, with digits for labels, no dot
-- and at most 16 branches in one another: `tail-alone` and `only-tails` of `tail`
unfoldable pub is_tail : List ℕ → Bool
unfolding atoms_of_tail
is_tail xs = not (eqb (atoms_of_tail xs) 0)
