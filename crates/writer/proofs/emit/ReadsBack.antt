-- Reading the digits of a number gives the number back.
-- Assumes nothing.
use Prim.Native.Nat.{ℕ, zero, suc, ◌+◌, ◌*◌, ◌-◌, ◌/◌, ◌%◌, ◌≤◌, ◌<◌}
use native.Mathlib.Nat.{not-suc-le-zero}
use native.Mathlib.Decide.{dec_le}
use native.Mathlib.Omega.{arith}
use mathlib.Core.Path.{◌≡◌, refl, ◌∙◌}
use mathlib.Core.Bool.{Bool, true, false, cond, false≢true}
use mathlib.Core.List.{List, [], ◌∷◌, ◌++◌}
use lib.Dec.{ltb}
use borrow.Author.Tests.{lt-ltb, le-ltb, le-leb, ne_eqb}
use Rattle.writer.specs.store.Text.{digits, decimal, pick_list}
use Rattle.scanner.specs.scan.Number.{after_plus, is_digit, all_digits, value_from, checked, digits_up_to, number_up_to}
use Rattle.std.specs.Prelude.{Some}

value-snoc : (v : ℕ) (a : List ℕ) (d : ℕ) → value_from v (a ++ (d ∷ [])) ≡ value_from v a * 10 + (d - 48)
unfolding value_from
value-snoc v [] d = refl
value-snoc v (x ∷ a) d = value-snoc (v * 10 + (x - 48)) a d

digit : (x : ℕ) → x < 10 → is_digit (48 + x) ≡ true
unfolding is_digit
digit x h = rw (le-ltb (48 + x) 48 (omega arith)) (le-leb (48 + x) 57 (omega arith))

all_snoc : (a : List ℕ) (d : ℕ) → all_digits a ≡ true → is_digit d ≡ true → all_digits (a ++ (d ∷ [])) ≡ true
unfolding all_digits
all_snoc [] d h i = rw i
all_snoc (x ∷ a) d h i = go (is_digit x) h (all_snoc a d)
  where
    go : (b : Bool) → cond b (all_digits a) false ≡ true → (all_digits a ≡ true → is_digit d ≡ true → all_digits (a ++ (d ∷ [])) ≡ true) → cond b (all_digits (a ++ (d ∷ []))) false ≡ true
    go true h f = f h i
    go false h f = h

-- what the digits say, as long as there is fuel
module _ (k n : ℕ) where
  Says : Type 0
  Says = (value_from 0 (digits k n) ≡ n) × (all_digits (digits k n) ≡ true)

says : (k n : ℕ) → n < k → Says k n
unfolding digits Says all_digits value_from
says zero n h = absurd (not-suc-le-zero h)
says (suc k) n h = go (says k (n / 10)) (dec_le 10 n)
  where
    go : (n / 10 < k → Says k (n / 10)) → Dec (10 ≤ n) → Says (suc k) n
    go f (yes l) =
        let e = f (omega arith) in
        rw (le-ltb n 10 l) (value-snoc 0 (digits k (n / 10)) (48 + n % 10) ∙ omega (arith, e.0), all_snoc (digits k (n / 10)) (48 + n % 10) e.1 (digit (n % 10) (omega arith)))
    go f (no l) = rw (lt-ltb n 10 (omega arith)) (omega arith, rw (digit n (omega arith)))

head_plain : (l : List ℕ) → all_digits l ≡ true → after_plus l ≡ l
unfolding all_digits after_plus is_digit
head_plain [] h = refl
head_plain (x ∷ l) h = rw (ne_eqb x 43 (λ e. false≢true (rw e at h)))

some-digits : (m k n : ℕ) → digits_up_to m (digits (suc k) n) ≡ checked m 0 (digits (suc k) n)
unfolding digits digits_up_to
some-digits m k n = go (ltb n 10) (digits k (n / 10))
  where
    go : (b : Bool) (a : List ℕ) → digits_up_to m (pick_list b ((48 + n) ∷ []) (a ++ ((48 + n % 10) ∷ []))) ≡ checked m 0 (pick_list b ((48 + n) ∷ []) (a ++ ((48 + n % 10) ∷ [])))
    go true a = refl
    go false [] = refl
    go false (x ∷ a) = refl

-- the decimal digits of n read as the number n, by any limit that n keeps
pub decimal-reads-back : (m n : ℕ) → n ≤ m → number_up_to m (decimal n) ≡ Some n
unfolding decimal number_up_to checked
decimal-reads-back m n h =
    let e = says (suc n) n (omega arith) in
    let f : (value_from 0 (digits (suc n) n) ≡ n) × (all_digits (digits (suc n) n) ≡ true) = unfold Says in e in
    rw (head_plain _ f.1, some-digits m n n, f.1, f.0, le-ltb m n h)
