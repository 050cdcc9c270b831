-- A number's decimal digits are read as that number.
-- Assumes nothing.
use Prim.Native.Nat.{ℕ, zero, suc, ◌+◌, ◌*◌, ◌-◌, ◌/◌, ◌%◌, ◌^◌, ◌≤◌, ◌<◌}
use native.Mathlib.Decide.{dec_le}
use native.Mathlib.Omega.{arith}
use mathlib.Core.Path.{◌≡◌, refl, sym, ap, ap₂, ◌∙◌}
use mathlib.Core.Bool.{Bool, true, false, cond, ◌&&◌, false≢true}
use mathlib.Core.Option.{none, some}
use mathlib.Core.List.{List, [], ◌∷◌, ◌++◌, append_assoc, append-nil}
use lib.Dec.{eqb, ltb, leb}
use borrow.Author.Tests.{ne_eqb, eqb-false, ltb-false, leb-true, not-true}
use Rattle.scanner.specs.scan.Number.{after_plus, is_digit, all_digits, value_from, checked, digits_up_to, number_up_to, number_limit}
use Rattle.std.specs.Prelude.{Option, Some, None}
use Rattle.writer.specs.emit.Text.{decimal}
use Rattle.writer.proofs.emit.Laws.{decimal-small, decimal_step}
use Rattle.writer.proofs.emit.ReadsBack.{decimal-reads-back}
use Rattle.reading_rules.specs.words.Numeral.{leads, value_of, number}
use Rattle.reading_rules.proofs.words.PartingLaws.{and_left, and_right, every}

-- the first byte is a digit, and of a number of two digits or more it is no zero
record Led (n : ℕ) (xs : List ℕ) : Type 0 where
  first : ℕ
  others : List ℕ
  is : xs ≡ (48 + first) ∷ others
  above : 1 ≤ n → 1 ≤ first
  lone : n < 10 → others ≡ []

led : (k n : ℕ) → n < k → Led n (decimal n)
led zero n h = absurd (omega arith)
led (suc k) n h = go (dec_le 10 n) (led k (n / 10))
  where
    go : Dec (10 ≤ n) → (n / 10 < k → Led (n / 10) (decimal (n / 10))) → Led n (decimal n)
    go (yes l) f =
        let s : Led (n / 10) (decimal (n / 10)) = f (omega arith) in
        record {
          first = s.first;
          others = s.others ++ ((48 + n % 10) ∷ []);
          is = decimal_step n l ∙ ap (λ (z : List ℕ). z ++ ((48 + n % 10) ∷ [])) s.is;
          above = λ _. s.above (omega arith);
          lone = λ g. absurd (omega arith);
        }
    go (no l) f = record { first = n; others = []; is = decimal-small n (omega arith); above = λ g. g; lone = λ g. refl }

decimal-leads : (n : ℕ) → leads (decimal n) ≡ true
unfolding leads
decimal-leads n = go (led (suc n) n (omega arith)) (dec_le 10 n)
  where
    long : (d : ℕ) (ys : List ℕ) → 1 ≤ d → leads ((48 + d) ∷ ys) ≡ true
    long d [] h = refl
    long d (y ∷ ys) h = rw (ne_eqb (48 + d) 48 (λ e. omega arith))

    go : Led n (decimal n) → Dec (10 ≤ n) → leads (decimal n) ≡ true
    go s (yes l) = rw s.is (long s.first s.others (s.above (omega arith)))
    go s (no l) = rw (s.is, s.lone (omega arith))

no_plus : (n : ℕ) → after_plus (decimal n) ≡ decimal n
unfolding after_plus
no_plus n = let s : Led n (decimal n) = led (suc n) n (omega arith) in rw (s.is, ne_eqb (48 + s.first) 43 (λ e. omega arith))

digits_value : (m n : ℕ) → n ≤ m → digits_up_to m (decimal n) ≡ Some n
unfolding number_up_to
digits_value m n h = let e : digits_up_to m (after_plus (decimal n)) ≡ Some n = decimal-reads-back m n h in rw no_plus at e

all-every : (xs : List ℕ) → all_digits xs ≡ true → every is_digit xs ≡ true
unfolding all_digits every
all-every [] h = refl
all-every (x ∷ xs) h = go (is_digit x) h (all-every xs)
  where
    go : (b : Bool) → cond b (all_digits xs) false ≡ true → (all_digits xs ≡ true → every is_digit xs ≡ true) → (b && every is_digit xs) ≡ true
    go true e f = f e
    go false e f = e

-- every byte of a decimal number is a digit
pub decimal-digits : (n : ℕ) → every is_digit (decimal n) ≡ true
unfolding digits_up_to checked
decimal-digits n = all-every (decimal n) (go (decimal n) (digits_value n n (omega arith)))
  where
    tested : (xs : List ℕ) (b : Bool) (o : Option ℕ) → cond b o None ≡ Some n → b ≡ true
    tested xs true o e = refl
    tested xs false o e = cc

    go : (xs : List ℕ) → digits_up_to n xs ≡ Some n → all_digits xs ≡ true
    go [] e = cc
    go (x ∷ xs) e = tested xs (all_digits (x ∷ xs)) (cond (ltb n (value_from 0 (x ∷ xs))) None (Some (value_from 0 (x ∷ xs)))) e

-- a number below 2^32 that is shown in decimal is read as itself
pub number-decimal : (n : ℕ) → n < 2 ^ 32 → number (decimal n) ≡ some n
unfolding number
number-decimal n h = rw (decimal-leads n, digits_value number_limit n (omega arith))

-- ---- and what is read as a number is its decimal digits

digit_value : (d : ℕ) → is_digit d ≡ true → (48 ≤ d) × (d ≤ 57)
unfolding is_digit
digit_value d h = go (ltb d 48) refl h
  where
    go : (b : Bool) → ltb d 48 ≡ b → cond b false (leb d 57) ≡ true → (48 ≤ d) × (d ≤ 57)
    go true e p = absurd (false≢true p)
    go false e p = (ltb-false d 48 e, leb-true d 57 p)

decimal-more : (v d : ℕ) → 1 ≤ v → 48 ≤ d → d ≤ 57 → decimal (v * 10 + (d - 48)) ≡ decimal v ++ (d ∷ [])
decimal-more v d h a b =
    let n : ℕ = v * 10 + (d - 48) in
    let q : n / 10 ≡ v = omega arith in
    let r : 48 + n % 10 ≡ d = omega arith in
    decimal_step n (omega arith) ∙ ap₂ (λ (z w : ℕ). decimal z ++ (w ∷ [])) q r

decimal-value : (v : ℕ) (ds : List ℕ) → 1 ≤ v → every is_digit ds ≡ true → decimal (value_from v ds) ≡ decimal v ++ ds
unfolding value_from every
decimal-value v [] h e = sym (append-nil (decimal v))
decimal-value v (d ∷ ds) h e =
    let w : (48 ≤ d) × (d ≤ 57) = digit_value d (and_left (is_digit d) (every is_digit ds) e) in
    decimal-value (v * 10 + (d - 48)) ds (omega arith) (and_right (is_digit d) (every is_digit ds) e)
    ∙ (ap (λ (z : List ℕ). z ++ ds) (decimal-more v d h w.0 w.1) ∙ append_assoc (decimal v) (d ∷ []) ds)

led-value : (xs : List ℕ) → leads xs ≡ true → every is_digit xs ≡ true → decimal (value_from 0 xs) ≡ xs
unfolding leads every value_from
led-value [] l e = absurd (false≢true l)
led-value (x ∷ []) l e =
    let w : (48 ≤ x) × (x ≤ 57) = digit_value x (and_left (is_digit x) true e) in
    decimal-small (0 * 10 + (x - 48)) (omega arith) ∙ ap (λ (z : ℕ). z ∷ []) (omega arith)
led-value (x ∷ y ∷ xs) l e =
    let w : (48 ≤ x) × (x ≤ 57) = digit_value x (and_left (is_digit x) (every is_digit (y ∷ xs)) e) in
    let n : x ≡ 48 → ⊥ = eqb-false x 48 (not-true (eqb x 48) l) in
    decimal-value (0 * 10 + (x - 48)) (y ∷ xs) (omega arith) (and_right (is_digit x) (every is_digit (y ∷ xs)) e)
    ∙ ap (λ (z : List ℕ). z ++ (y ∷ xs)) (decimal-small (0 * 10 + (x - 48)) (omega arith) ∙ ap (λ (z : ℕ). z ∷ []) (omega arith))

-- digits that are accepted up to a limit: all are digits, and the value is within the limit
record Checked (limit n : ℕ) (xs : List ℕ) : Type 0 where
  all : every is_digit xs ≡ true
  value : value_from 0 xs ≡ n
  within : n ≤ limit

checked-told : (limit n : ℕ) (xs : List ℕ) → value_of (digits_up_to limit xs) ≡ some n → Checked limit n xs
unfolding value_of digits_up_to checked
checked-told limit n [] e = let z : ◌≡◌ {A = ℕ} 0 1 = cc in absurd (omega arith)
checked-told limit n (x ∷ xs) e = go (all_digits (x ∷ xs)) refl (ltb limit (value_from 0 (x ∷ xs))) refl e
  where
    go : (a : Bool) → all_digits (x ∷ xs) ≡ a → (b : Bool) → ltb limit (value_from 0 (x ∷ xs)) ≡ b
        → value_of (cond a (cond b None (Some (value_from 0 (x ∷ xs)))) None) ≡ some n → Checked limit n (x ∷ xs)
    go false p b q e = let z : ◌≡◌ {A = ℕ} 0 1 = cc in absurd (omega arith)
    go true p true q e = let z : ◌≡◌ {A = ℕ} 0 1 = cc in absurd (omega arith)
    go true p false q e =
        let v : value_from 0 (x ∷ xs) ≡ n = cc in
        record { all = all-every (x ∷ xs) p; value = v; within = omega (arith, ltb-false limit (value_from 0 (x ∷ xs)) q) }

-- a text is read as a number exactly where it is that number's decimal digits, below 2^32: no leading zero, no sign, no blank
pub number-told : (xs : List ℕ) (n : ℕ) → number xs ≡ some n → (n < 2 ^ 32) × (decimal n ≡ xs)
unfolding number
number-told xs n h = go (leads xs) refl h
  where
    go : (b : Bool) → leads xs ≡ b → cond b (value_of (digits_up_to number_limit xs)) none ≡ some n → (n < 2 ^ 32) × (decimal n ≡ xs)
    go false l e = let z : ◌≡◌ {A = ℕ} 0 1 = cc in absurd (omega arith)
    go true l e =
        let c : Checked number_limit n xs = checked-told number_limit n xs e in
        (omega (arith, c.within), ap decimal (sym c.value) ∙ led-value xs l c.all)
