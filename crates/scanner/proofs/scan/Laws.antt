-- Laws of numbers: for each loop a turn and each way out, and what callers use, of parts and places too.
-- Assumes nothing.
use Prim.Native.Nat.{ℕ, zero, suc, ◌+◌, ◌*◌, ◌-◌, ◌/◌, ◌≤◌, ◌<◌}
use native.Mathlib.Nat.{le_trans, le_refl}
use native.Mathlib.Omega.{arith}
use mir.Syntax.{w64}
use mir.Val.{Fits}
use mathlib.Core.Path.{◌≡◌, refl, sym, ap, ◌∙◌}
use mathlib.Core.Bool.{Bool, true, false, not, cond, true≢false}
use mathlib.Core.List.{List, [], ◌∷◌}
use lib.ListN.{length, take, drop, get_or, length-drop}
use lib.Dec.{ltb, leb}
use borrow.Author.Tests.{lt-ltb, le-ltb, eq-eqb, ne_eqb, ltb-false, leb-true}
use Rattle.std.specs.Prelude.{Option, Some, None}
use Rattle.scanner.specs.scan.Number.{is_digit, all_digits, value_from, checked, digits_up_to, after_plus, number_up_to}
pub use Rattle.scanner.proofs.part.Laws.{to_end, starts-length, found-room, same-equal}

-- ---- digits

pub digit-from : (b : ℕ) → is_digit b ≡ true → 48 ≤ b
unfolding is_digit
digit-from b e = go (ltb b 48) refl e
  where
    go : (c : Bool) → ltb b 48 ≡ c → cond c false (leb b 57) ≡ true → 48 ≤ b
    go true h e = absurd (true≢false (sym e))
    go false h e = ltb-false b 48 h

value_grows : (v : ℕ) (t : List ℕ) → v ≤ value_from v t
unfolding value_from
value_grows v [] = le_refl v
value_grows v (x ∷ xs) = le_trans (omega arith) (value_grows (v * 10 + (x - 48)) xs)

digit-to : (b : ℕ) → is_digit b ≡ true → b ≤ 57
unfolding is_digit
digit-to b e = go (ltb b 48) e
  where
    go : (c : Bool) → cond c false (leb b 57) ≡ true → b ≤ 57
    go true e = absurd (true≢false (sym e))
    go false e = leb-true b 57 e

pub digits-none : (limit : ℕ) (s : List ℕ) → length s ≡ 0 → None ≡ digits_up_to limit s
unfolding digits_up_to
digits-none limit [] l = refl
digits-none limit (x ∷ xs) l = absurd (omega arith)

pub digits-start : (limit : ℕ) (s : List ℕ) → (length s ≡ 0 → ⊥) → digits_up_to limit s ≡ checked limit 0 s
unfolding digits_up_to
digits-start limit [] l = absurd (l refl)
digits-start limit (x ∷ xs) l = refl

large-unreadable : (limit w : ℕ) (t : List ℕ) → limit < w → checked limit w t ≡ None
unfolding checked
large-unreadable limit w t h = rw (lt-ltb limit (value_from w t) (le_trans h (value_grows w t))) (go (all_digits t))
  where
    go : (b : Bool) → cond {A = Option ℕ} b None None ≡ None
    go true = refl
    go false = refl

checked-digit : (limit : ℕ) (t : List ℕ) (v d : ℕ) → 0 < length t → d ≡ get_or t 0 0 → is_digit d ≡ true
    → checked limit v t ≡ checked limit (v * 10 + (d - 48)) (drop 1 t)
unfolding checked all_digits value_from
checked-digit limit [] v d l e a = absurd (omega arith)
checked-digit limit (x ∷ xs) v d l e a = rw (sym e, a)

checked-other : (limit : ℕ) (t : List ℕ) (v : ℕ) → 0 < length t → is_digit (get_or t 0 0) ≡ false → checked limit v t ≡ None
unfolding checked all_digits
checked-other limit [] v l e = absurd (omega arith)
checked-other limit (x ∷ xs) v l e = rw e

module _ (A : Option ℕ) (limit : ℕ) where
  pub digits-other : (t : List ℕ) (v : ℕ) (b : Bool) → 0 < length t → b ≡ is_digit (get_or t 0 0) → not b ≡ true → A ≡ checked limit v t → None ≡ A
  digits-other t v true l e n h = absurd (true≢false (sym n))
  digits-other t v false l e n h = sym (h ∙ checked-other limit t v l (sym e))

  module _ (t : List ℕ) (v d : ℕ) (b : Bool) (l : 0 < length t) (f : b ≡ is_digit (get_or t 0 0)) (n : not b ≡ false) (e : d ≡ get_or t 0 0) (h : A ≡ checked limit v t) where
    is : is_digit d ≡ true
    is = go b f n
      where
        go : (c : Bool) → c ≡ is_digit (get_or t 0 0) → not c ≡ false → is_digit d ≡ true
        go true f n = ap is_digit e ∙ sym f
        go false f n = absurd (true≢false n)

    large : limit < v * 10 + (d - 48) → None ≡ A
    large g = sym (h ∙ checked-digit limit t v d l e is ∙ large-unreadable limit _ _ g)

    pub digits-over : limit < d - 48 → None ≡ A
    digits-over g = large (omega arith)

    pub digits-past : d - 48 ≤ limit → (limit - (d - 48)) / 10 < v → None ≡ A
    digits-past k g = large (omega arith)

    pub digits_more : A ≡ checked limit (v * 10 + (d - 48)) (take (length t - 1) (drop 1 t))
    digits_more = rw (to_end 1 t) (h ∙ checked-digit limit t v d l e is)

  pub digits-large : (t : List ℕ) (v : ℕ) → limit < v → A ≡ checked limit v t → None ≡ A
  digits-large t v g h = sym (h ∙ large-unreadable limit v t g)

  pub digits-end : (t : List ℕ) (v : ℕ) → length t ≤ 0 → v ≤ limit → A ≡ checked limit v t → Some v ≡ A
  unfolding checked all_digits value_from
  digits-end [] v l b h = sym (rw (le-ltb limit v b) at h)
  digits-end (x ∷ xs) v l b h = absurd (omega arith)

-- a digit is at least `0`
pub digit-least : (t : List ℕ) (d : ℕ) (b : Bool) → b ≡ is_digit (get_or t 0 0) → not b ≡ false → d ≡ get_or t 0 0 → 48 ≤ d
digit-least t d true f n e = digit-from d (ap is_digit e ∙ sym f)
digit-least t d false f n e = absurd (true≢false n)

-- ---- few digits

-- the most that k digits say
unfoldable pub most : ℕ → ℕ
most zero = 0
most (suc k) = most k * 10 + 9

most-grows : (k n : ℕ) → most k ≤ most (n + k)
unfolding most
most-grows k zero = let e : 0 + k ≡ k = omega arith in rw e (le_refl (most k))
most-grows k (suc n) = let e : suc n + k ≡ suc (n + k) = omega arith in rw e (omega (arith, most-grows k n))

most-small : (k : ℕ) → k ≤ 9 → most k ≤ 999999999
unfolding most
most-small k h = let e : 9 - k + k ≡ 9 = omega arith in rw e at (most-grows k (9 - k))

-- one digit more, of at most nine
module _ (t : List ℕ) (v d : ℕ) (b : Bool) (l : 0 < length t) (m : length t ≤ 9) (f : b ≡ is_digit (get_or t 0 0)) (n : not b ≡ false) (e : d ≡ get_or t 0 0) where
  digit-most : d - 48 ≤ 9
  digit-most = go b f n
    where
      go : (c : Bool) → c ≡ is_digit (get_or t 0 0) → not c ≡ false → d - 48 ≤ 9
      go true f n = omega (arith, digit-to d (ap is_digit e ∙ sym f))
      go false f n = absurd (true≢false n)

  pub few-more : v ≤ most (9 - length t) → v * 10 + (d - 48) ≤ most (9 - length (take (length t - 1) (drop 1 t)))
  unfolding most
  few-more h =
      let k : 9 - length (take (length t - 1) (drop 1 t)) ≡ suc (9 - length t) = rw (to_end 1 t, length-drop 1 t) (omega arith) in
      rw k (omega (arith, digit-most))

  pub few-small : v ≤ most (9 - length t) → v * 10 + (d - 48) ≤ 999999999
  few-small h = le_trans (few-more h) (most-small (9 - length (take (length t - 1) (drop 1 t))) (omega arith))

  pub few-fits : v ≤ 999999999 → Fits w64 (v * 10 + (d - 48))
  few-fits h = record { fits = omega (arith, digit-most) }

-- ---- one plus sign

pub plus_none : (s : List ℕ) → length s ≡ 0 → s ≡ after_plus s
unfolding after_plus
plus_none [] e = refl
plus_none (x ∷ xs) e = absurd (omega arith)

pub plus-some : (s : List ℕ) → (length s ≡ 0 → ⊥) → get_or s 0 0 ≡ 43 → take (length s - 1) (drop 1 s) ≡ after_plus s
unfolding after_plus
plus-some [] l e = absurd (l refl)
plus-some (x ∷ xs) l e = rw (eq-eqb x 43 e) (to_end 1 (x ∷ xs))

pub plus-other : (s : List ℕ) → (length s ≡ 0 → ⊥) → (get_or s 0 0 ≡ 43 → ⊥) → s ≡ after_plus s
unfolding after_plus
plus-other [] l e = absurd (l refl)
plus-other (x ∷ xs) l e = rw (ne_eqb x 43 e)

pub number_is : (limit : ℕ) (s t : List ℕ) (r : Option ℕ) → t ≡ after_plus s → r ≡ digits_up_to limit t → r ≡ number_up_to limit s
unfolding number_up_to
number_is limit s t r e f = f ∙ ap (digits_up_to limit) e

-- ---- what callers use of a number

checked-bound : (limit v : ℕ) (t : List ℕ) (n : ℕ) → checked limit v t ≡ Some n → n ≤ limit
unfolding checked
checked-bound limit v t n e = go (all_digits t) (ltb limit (value_from v t)) refl e
  where
    go : (b c : Bool) → ltb limit (value_from v t) ≡ c → cond b (cond c None (Some (value_from v t))) None ≡ Some n → n ≤ limit
    go true true h f = let z : ◌≡◌ {A = ℕ} 0 1 = cc in absurd (omega arith)
    go true false h f = let z : value_from v t ≡ n = cc in omega (arith, ltb-false limit (value_from v t) h)
    go false c h f = let z : ◌≡◌ {A = ℕ} 0 1 = cc in absurd (omega arith)

digits-bound : (limit : ℕ) (t : List ℕ) (n : ℕ) → digits_up_to limit t ≡ Some n → n ≤ limit
unfolding digits_up_to
digits-bound limit [] n e = let z : ◌≡◌ {A = ℕ} 0 1 = cc in absurd (omega arith)
digits-bound limit (x ∷ t) n e = checked-bound limit 0 (x ∷ t) n e

-- a number that was read is at most the limit
pub number_bound : (limit : ℕ) (t : List ℕ) (r : Option ℕ) (n : ℕ) → r ≡ number_up_to limit t → r ≡ Some n → n ≤ limit
unfolding number_up_to
number_bound limit t r n e f = digits-bound limit (after_plus t) n (sym e ∙ f)

pub digits-value-bound : (limit : ℕ) (t : List ℕ) (r : Option ℕ) (n : ℕ) → r ≡ digits_up_to limit t → r ≡ Some n → n ≤ limit
digits-value-bound limit t r n e f = digits-bound limit t n (sym e ∙ f)
