-- What the functions of `src/` promise, in terms of the grammar: a tail goes on from the place where a function starts as it goes on from
-- the place where the function leaves off.
use Rattle.std.specs.Prelude.{ℕ, ◌+◌, ◌≤◌, ◌<◌, ◌≡◌, Bool, true, false, cond, Option, Some, None, List, length, drop, get_or}
use Rattle.reading_rules.specs.reading.Lexer.{within, pairs}
use Rattle.tail_grammar.specs.ringdigits.Grammar as Grammar
use Rattle.tail_grammar.specs.ringdigits.Grammar.{Rings, State, stands, opening, after_bond, closed, whole, letter, scan}
use Rattle.tail_grammar.specs.ringdigits.Digits.{rings_of}
use Rattle.tail_grammar.specs.declared.tail.Place.{Place}
use Rattle.tail_grammar.specs.declared.tail.Place.TheVariants.{Opening, Bonded, Closed, Whole, Letter}
use Rattle.tail_grammar.specs.declared.tail.Reached.{Reached}

-- ---- what the code holds in parts

-- the place that the code's stands for
abbrev pub place_of : Place → Grammar.Place
place_of Opening = opening
place_of Bonded = after_bond
place_of Closed = closed
place_of Whole = whole
place_of (Letter a) = letter a

-- a bond came last
abbrev pub follows_bond : Place → Bool
follows_bond Opening = false
follows_bond Bonded = true
follows_bond Closed = false
follows_bond Whole = false
follows_bond (Letter a) = false

-- an atom, its digits or a branch came last
abbrev pub follows_atom : Place → Bool
follows_atom Opening = false
follows_atom Bonded = false
follows_atom Closed = true
follows_atom Whole = true
follows_atom (Letter a) = true

-- an atom came last, and no digit of it
abbrev pub ends_atom : Place → Bool
ends_atom Opening = false
ends_atom Bonded = false
ends_atom Closed = false
ends_atom Whole = true
ends_atom (Letter a) = true

-- the byte x is a digit 1 to 9, and p is a place after an atom
abbrev pub takes_digit : Place → ℕ → Bool
takes_digit p x = cond (within 49 57 x) (ends_atom p) false

-- the letter x makes one atom with the letter before it
abbrev pub pairs_at : Place → ℕ → Bool
pairs_at Opening x = false
pairs_at Bonded x = false
pairs_at Closed x = false
pairs_at Whole x = false
pairs_at (Letter a) x = pairs a x

-- `stk` are the atoms at which the open branches started, the last one first
abbrev pub state_of : Reached → List ℕ → List ℕ → List ℕ → State
state_of r stk opened joined = stands (place_of r.place) stk (rings_of r.atoms opened joined)

-- ---- what is asked

-- what is left of the text is room for the atoms' numbers: each takes a byte
pub record Room (s : List ℕ) (at last : ℕ) : Type 0 where
  pub within : at ≤ length s
  pub short : length s ≤ 255
  pub few : last ≤ at

-- what was read is within the text, and what is left of it is room for the atoms' numbers: each takes a byte
pub record Fits (s : List ℕ) (r : Reached) : Type 0 where
  pub within : r.next ≤ length s
  pub short : length s ≤ 255
  pub few : r.atoms.last ≤ r.next

-- there is a byte to be read
pub record Inside (s : List ℕ) (r : Reached) : Type 0 where
  pub fits : Fits s r
  pub more : r.next < length s

-- it is x
pub record At (s : List ℕ) (r : Reached) (x : ℕ) : Type 0 where
  pub inside : Inside s r
  pub byte : get_or s r.next 0 ≡ x

-- it is no parenthesis
pub record Item (s : List ℕ) (r : Reached) : Type 0 where
  pub inside : Inside s r
  pub opens : get_or s r.next 0 ≡ 40 → ⊥
  pub closes : get_or s r.next 0 ≡ 41 → ⊥

-- it is a digit that the atom before it takes
pub record Ringed (s : List ℕ) (r : Reached) : Type 0 where
  pub inside : Inside s r
  pub takes : takes_digit r.place (get_or s r.next 0) ≡ true

-- nor does the atom before it take it as a digit or as a second letter
pub record Other (s : List ℕ) (r : Reached) : Type 0 where
  pub item : Item s r
  pub takes : takes_digit r.place (get_or s r.next 0) ≡ false
  pub single : pairs_at r.place (get_or s r.next 0) ≡ false

-- ---- what is promised

-- a tail in state q where r leaves off goes on as one in state q' where r' does
pub record GoesTo (s : List ℕ) (r : Reached) (q : State) (r' : Reached) (q' : State) : Type 0 where
  pub same : scan q (drop r.next s) ≡ scan q' (drop r'.next s)
  pub further : r.next < r'.next
  pub fits : Fits s r'

-- What each answer says of a tail in state q where r leaves off, with the branches and digits that are open then. `Some r'`: it goes on as
-- where r' leaves off. `None`: no tail goes on so
abbrev pub GoesOn : List ℕ → Reached → State → Option Reached → List ℕ → List ℕ → List ℕ → Type 0
GoesOn s r q (Some r') stk o j = GoesTo s r q r' (state_of r' stk o j)
GoesOn s r q None stk o j = scan q (drop r.next s) ≡ 0

-- next is the place after at most one bond
pub record PastMark (s : List ℕ) (r : Reached) (next : ℕ) : Type 0 where
  pub same : (stk : List ℕ) (q : Rings) → scan (stands (place_of r.place) stk q) (drop r.next s) ≡ scan (stands after_bond stk q) (drop next s)
  pub least : r.next ≤ next
  pub within : next ≤ length s

-- a run at `at`, with `depth` more branches allowed in it, was read up to a `)` or the end
pub record RunTo (s : List ℕ) (at depth : ℕ) (q : Rings) (r : Reached) (o j : List ℕ) : Type 0 where
  pub same : (stk : List ℕ) → length stk + depth ≡ 16 → scan (stands opening stk q) (drop at s) ≡ scan (state_of r stk o j) (drop r.next s)
  pub stops : r.next < length s → get_or s r.next 0 ≡ 41
  pub least : at ≤ r.next
  pub fits : Fits s r

-- what each answer says of such a run. `Some r`: it was read so. `None`: no tail goes on so
abbrev pub RunRead : List ℕ → ℕ → ℕ → Rings → Option Reached → List ℕ → List ℕ → Type 0
RunRead s at depth q (Some r) o j = RunTo s at depth q r o j
RunRead s at depth q None o j = (stk : List ℕ) → length stk + depth ≡ 16 → scan (stands opening stk q) (drop at s) ≡ 0
