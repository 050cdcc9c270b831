-- Laws of the numbers in a segment: each way out, and what callers use.
-- Assumes nothing.
use Prim.Native.Nat.{ℕ}
use native.Mathlib.Omega.{arith}
use mathlib.Core.Path.{◌≡◌, refl, ◌∙◌}
use mathlib.Core.List.{List, [], ◌∷◌}
use lib.ListN.{length}
use mir.Syntax.{w32}
use mir.Val.{Fits}
use Rattle.scanner.proofs.scan.Laws.{number_bound, digits-value-bound}
use Rattle.scanner.specs.scan.Part.{trimmed}
use Rattle.scanner.specs.scan.Number.{digits_up_to, number_up_to, number_limit, ring_count_limit}
use Rattle.std.specs.Prelude.{Option, Some}
use Rattle.token_syntax.specs.numbers.Numbers.{unless_blank, ring_count, leading_position, number_or_one}
pub use Rattle.token_syntax.proofs.padded.Laws.{trimmed-fits}

-- ---- the numbers

blank : (m : ℕ) (u : List ℕ) (r : Option ℕ) → length u ≡ 0 → Some m ≡ unless_blank m u r
blank m [] r h = refl
blank m (x ∷ xs) r h = absurd (omega arith)

some : (m : ℕ) (u : List ℕ) (r : Option ℕ) → (length u ≡ 0 → ⊥) → r ≡ unless_blank m u r
some m [] r h = absurd (h refl)
some m (x ∷ xs) r h = refl

pub count-blank : (s t : List ℕ) → t ≡ trimmed s → length t ≡ 0 → Some 0 ≡ ring_count s
unfolding ring_count
count-blank s t e h = rw (← e) (blank 0 t (number_up_to ring_count_limit t) h)

pub count-number : (s t : List ℕ) (r : Option ℕ) → t ≡ trimmed s → (length t ≡ 0 → ⊥) → r ≡ number_up_to ring_count_limit t → r ≡ ring_count s
unfolding ring_count
count-number s t r e h f = f ∙ rw (← e) (some 0 t (number_up_to ring_count_limit t) h)

pub position-blank : (s : List ℕ) → length s ≡ 0 → Some 0 ≡ leading_position s
unfolding leading_position
position-blank s h = blank 0 s (digits_up_to number_limit s) h

pub position-number : (s : List ℕ) (r : Option ℕ) → (length s ≡ 0 → ⊥) → r ≡ digits_up_to number_limit s → r ≡ leading_position s
unfolding leading_position
position-number s r h f = f ∙ some 0 s (digits_up_to number_limit s) h

pub one-blank : (s : List ℕ) → length s ≡ 0 → Some 1 ≡ number_or_one s
unfolding number_or_one
one-blank s h = blank 1 s (number_up_to number_limit s) h

pub one_number : (s : List ℕ) (r : Option ℕ) → (length s ≡ 0 → ⊥) → r ≡ number_up_to number_limit s → r ≡ number_or_one s
unfolding number_or_one
one_number s r h f = f ∙ some 1 s (number_up_to number_limit s) h

-- a number that was read fits 32 bits
pub position-fits : (s : List ℕ) (r : Option ℕ) (n : ℕ) → r ≡ leading_position s → r ≡ Some n → Fits w32 n
unfolding leading_position
position-fits [] r n e f = let z : 0 ≡ n = cc in record { fits = omega arith }
position-fits (x ∷ xs) r n e f = record { fits = omega (arith, digits-value-bound number_limit (x ∷ xs) r n e f) }

pub one-fits : (s : List ℕ) (r : Option ℕ) (n : ℕ) → r ≡ number_or_one s → r ≡ Some n → Fits w32 n
unfolding number_or_one
one-fits [] r n e f = let z : 1 ≡ n = cc in record { fits = omega arith }
one-fits (x ∷ xs) r n e f = record { fits = omega (arith, number_bound number_limit (x ∷ xs) r n e f) }
