-- The bond and the atom that stand at a place of a tail. 01, Templates and the builder: "one or more atoms, each after at most one bond
-- (`- = # / \`, of which `-` is plain) (B C N O P S F I Cl Br b c n o s p * or brackets of 1 to 16 letters, digits, `+ - @`)". Past the end
-- of a text a 0 is read, which is no bond and begins no atom.
use Rattle.std.specs.Prelude.{ℕ, suc, ◌+◌, ◌≤◌, ◌<◌, ◌≡◌, cond, ◌&&◌, Option, Some, None, List, [], ◌∷◌, eqb, length, drop, get_or}
use Prim.Native.Char.{code}
use Rattle.reading_rules.specs.reading.Lexer.{memb, within, organic, marks, bracketed, pairs}
use Rattle.tail_grammar.specs.ringdigits.Grammar.{Rings, stands, after_bond, scan}

-- ---- a bond

-- "at most one bond": the place after it, where one stands at `at`
unfoldable pub bond_at : List ℕ → ℕ → ℕ
unfolding memb marks
bond_at s at = cond (memb (get_or s at 0) marks) (at + 1) at

-- next is that place
pub record BondIs (s : List ℕ) (at next : ℕ) : Type 0 where
  pub is : next ≡ bond_at s at
  pub least : at ≤ next
  pub within : next ≤ length s

-- ---- an atom

-- how many bytes lead that may stand in a bracket: "letters, digits, `+ - @`"
unfoldable pub bracket_run : List ℕ → ℕ
unfolding bracketed
bracket_run [] = 0
bracket_run (x ∷ xs) = cond (bracketed x) (suc (bracket_run xs)) 0

-- "brackets of 1 to 16": the place after the `]` that follows n bytes from `at` on
unfoldable pub closed_at : List ℕ → ℕ → ℕ → Option ℕ
unfolding within
closed_at s at n = cond (eqb (get_or s (at + n) 0) (code "]") && within 1 16 n) (Some (at + n + 1)) None

-- the place after a bracket of which the first byte inside stands at `at`
unfoldable pub bracket_at : List ℕ → ℕ → Option ℕ
unfolding bracket_run closed_at
bracket_at s at = closed_at s at (bracket_run (drop at s))

-- "B C N O P S F I Cl Br b c n o s p * or brackets": the place after the atom that stands at `at`, or none
unfoldable pub atom_at : List ℕ → ℕ → Option ℕ
unfolding memb organic pairs bracket_at
atom_at s at =
    cond (memb (get_or s at 0) organic) (Some (cond (pairs (get_or s at 0) (get_or s (at + 1) 0)) (at + 1 + 1) (at + 1)))
    (cond (eqb (get_or s at 0) (code "[")) (bracket_at s (at + 1)) None)

-- What each answer says, in 01's terms. `Some p`: an atom stands there, and ends before p. `None`: none does, so that bytes which need one
-- there are no tail, however they begin: "tail outside the grammar", 23
abbrev pub Says : List ℕ → ℕ → Option ℕ → Type 0
Says s at (Some p) = (at < p) × (p ≤ length s)
Says s at None = (stk : List ℕ) (q : Rings) → scan (stands after_bond stk q) (drop at s) ≡ 0

-- what is found at `at` is the atom there
pub record AtomIs (s : List ℕ) (at : ℕ) (found : Option ℕ) : Type 0 where
  pub is : found ≡ atom_at s at
  pub says : Says s at found
