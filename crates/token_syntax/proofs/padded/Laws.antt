-- Laws of a number with spaces around it: each way out, and what callers use.
-- Assumes nothing.
use Prim.Native.Nat.{ℕ, ◌+◌, ◌*◌, ◌-◌, ◌≤◌}
use native.Mathlib.Omega.{arith}
use mathlib.Core.Path.{◌≡◌, sym, ◌∙◌}
use mathlib.Core.Bool.{Bool, true, false, not, cond, true≢false}
use mathlib.Core.List.{List, [], ◌∷◌}
use lib.ListN.{length, get_or}
use lib.Dec.{ltb, leb}
use borrow.Author.Tests.{le-ltb, leb-true, ne_eqb, not-false}
use mir.Syntax.{w32}
use mir.Val.{Fits}
use Rattle.scanner.proofs.scan.Laws.{number_bound, digit-from}
use Rattle.scanner.proofs.spaces.Laws.{trim-whole}
use Rattle.scanner.specs.scan.Part.{trimmed}
use Rattle.scanner.specs.scan.Number.{is_digit, all_digits, value_from, checked, digits_up_to, after_plus, number_up_to, number_limit}
use Rattle.std.specs.Prelude.{Option, Some, None}
use Rattle.token_syntax.specs.padded.Padded.{trimmed_number, Shortly}

-- ---- one or two digits

digit-most : (b : ℕ) → is_digit b ≡ true → b ≤ 57
unfolding is_digit
digit-most b e = go (ltb b 48) e
  where
    go : (c : Bool) → cond c false (leb b 57) ≡ true → b ≤ 57
    go true e = absurd (true≢false (sym e))
    go false e = leb-true b 57 e

pub digit-is : (b : ℕ) (d : Bool) → d ≡ is_digit b → not d ≡ false → is_digit b ≡ true
digit-is b d e n = sym e ∙ not-false d n

pub figure-most : (b : ℕ) → is_digit b ≡ true → b - 48 ≤ 9
figure-most b e = omega (arith, digit-most b e)

number-one : (s : List ℕ) (d : Bool) (x : ℕ) → length s ≡ 1 → d ≡ is_digit (get_or s 0 0) → not d ≡ false → x ≡ get_or s 0 0 - 48 → Some x ≡ trimmed_number s
unfolding trimmed_number number_up_to after_plus digits_up_to checked all_digits value_from
number-one [] d x l e n f = absurd (omega arith)
number-one (y ∷ z ∷ s) d x l e n f = absurd (omega arith)
number-one (y ∷ []) d x l e n f =
    let i = digit-is y d e n in
    let a : 48 ≤ y = digit-from y i in
    let t : y ∷ [] ≡ trimmed (y ∷ []) = trim-whole (y ∷ []) (λ z. omega arith) (λ z. omega arith) (λ z. omega arith) in
    let v : 0 * 10 + (y - 48) ≡ y - 48 = omega arith in
    rw (f, ← t, ne_eqb y 43 (λ z. omega arith), i, v, le-ltb number_limit (y - 48) (omega (arith, digit-most y i)))

number-two : (s : List ℕ) (d k : Bool) (x y : ℕ) → length s ≡ 2 → d ≡ is_digit (get_or s 0 0) → not d ≡ false → k ≡ is_digit (get_or s 1 0) → not k ≡ false → x ≡ get_or s 0 0 - 48 → y ≡ get_or s 1 0 - 48
    → Some (x * 10 + y) ≡ trimmed_number s
unfolding trimmed_number number_up_to after_plus digits_up_to checked all_digits value_from
number-two [] d k x y l e n f m g h = absurd (omega arith)
number-two (a ∷ []) d k x y l e n f m g h = absurd (omega arith)
number-two (a ∷ b ∷ c ∷ s) d k x y l e n f m g h = absurd (omega arith)
number-two (a ∷ b ∷ []) d k x y l e n f m g h =
    let i = digit-is a d e n in
    let j = digit-is b k f m in
    let p : 48 ≤ a = digit-from a i in
    let q : 48 ≤ b = digit-from b j in
    let t : a ∷ b ∷ [] ≡ trimmed (a ∷ b ∷ []) = trim-whole (a ∷ b ∷ []) (λ z. omega arith) (λ z. omega arith) (λ z. omega arith) in
    let v : (0 * 10 + (a - 48)) * 10 + (b - 48) ≡ (a - 48) * 10 + (b - 48) = omega arith in
    rw (g, h, ← t, ne_eqb a 43 (λ z. omega arith), i, j, v, le-ltb number_limit ((a - 48) * 10 + (b - 48)) (omega (arith, digit-most a i, digit-most b j)))

pub short_none : (s : List ℕ) → Shortly s None
short_none s = record { is = λ n e. let z : ◌≡◌ {A = ℕ} 0 1 = cc in absurd (omega arith) }

pub short-one : (s : List ℕ) (d : Bool) (x : ℕ) → length s ≡ 1 → d ≡ is_digit (get_or s 0 0) → not d ≡ false → x ≡ get_or s 0 0 - 48 → Shortly s (Some x)
short-one s d x l e n f = record { is = λ m h. number-one s d x l e n f }

pub short-two : (s : List ℕ) (d k : Bool) (x y : ℕ) → length s ≡ 2 → d ≡ is_digit (get_or s 0 0) → not d ≡ false → k ≡ is_digit (get_or s 1 0) → not k ≡ false → x ≡ get_or s 0 0 - 48 → y ≡ get_or s 1 0 - 48
    → Shortly s (Some (x * 10 + y))
short-two s d k x y l e n f m g h = record { is = λ i j. number-two s d k x y l e n f m g h }

-- ---- the number

pub trimmed-number-is : (s t : List ℕ) (r : Option ℕ) → t ≡ trimmed s → r ≡ number_up_to number_limit t → r ≡ trimmed_number s
unfolding trimmed_number
trimmed-number-is s t r e f = f ∙ rw e

-- a number that was read fits 32 bits
pub trimmed-fits : (s : List ℕ) (r : Option ℕ) (n : ℕ) → r ≡ trimmed_number s → r ≡ Some n → Fits w32 n
unfolding trimmed_number
trimmed-fits s r n e f = record { fits = omega (arith, number_bound number_limit (trimmed s) r n e f) }
