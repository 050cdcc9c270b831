-- What the reader of digits promises, in terms of the grammar: a tail goes on from the place where it starts as it goes on from the place
-- where it leaves off.
use Rattle.std.specs.Prelude.{ℕ, ◌≤◌, ◌≡◌, Option, Some, None, List, length, drop}
use Rattle.tail_grammar.specs.declared.ringdigits.Atoms.{Atoms}
use Rattle.tail_grammar.specs.ringdigits.Grammar.{Rings, stands, whole, closed, scan}

-- ---- what the code holds in parts

-- the atoms so far and the two lent arrays
abbrev pub rings_of : Atoms → List ℕ → List ℕ → Rings
rings_of a opened joined = record { last = a.last; current = a.current; parent = a.parent; opened = opened; joined = joined }

-- ---- what is promised

-- the place is within the text, and each atom so far took a byte before it
pub record Digits (s : List ℕ) (at last : ℕ) : Type 0 where
  pub within : at ≤ length s
  pub few : last ≤ at

pub record IsDigit (b : ℕ) : Type 0 where
  pub low : 49 ≤ b
  pub high : b ≤ 57

-- the digits at `at` were read up to `next`: a tail goes on as after an atom with all its digits, or after a branch
pub record DigitsTo (s : List ℕ) (at next : ℕ) (q q' : Rings) : Type 0 where
  pub same : (stk : List ℕ) → scan (stands whole stk q) (drop at s) ≡ scan (stands closed stk q') (drop next s)
  pub least : at ≤ next
  pub within : next ≤ length s
  pub few : q'.last ≤ next

-- the digits at `at`, after which the atoms and digits are q'. `Some next`: they end before `next`. `None`: one joins two atoms that are bonded
-- already, so no tail goes on so
abbrev pub PastDigits : List ℕ → ℕ → Rings → Option ℕ → Rings → Type 0
PastDigits s at q (Some next) q' = DigitsTo s at next q q'
PastDigits s at q None q' = (stk : List ℕ) → scan (stands whole stk q) (drop at s) ≡ 0
