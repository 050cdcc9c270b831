-- Laws of the scan: a byte and no byte, and each way through the reader of digits as steps of the grammar.
use Prim.Native.Nat.{ℕ, ◌+◌, ◌-◌, ◌≤◌, ◌<◌}
use native.Mathlib.Numerals.{add-one}
use native.Mathlib.Omega.{arith}
use mathlib.Core.Path.{◌≡◌, refl, sym, ap, ◌∙◌}
use mathlib.Core.Bool.{Bool, true, false, not, cond}
use mathlib.Core.List.{List, [], ◌∷◌}
use lib.ListN.{length, drop, get_or}
use lib.Seq.{drop-cons, drop-length}
use lib.Dec.{eqb}
use Rattle.std.specs.Prelude.{Some, None}
use borrow.Author.Tests.{not-true, not-false}
use Rattle.reading_rules.specs.reading.Lexer.{within}
use Rattle.reading_rules.proofs.reading.ShowLex.{within_both}
use Rattle.tail_grammar.specs.ringdigits.Grammar.{Rings, clashes, with_digit, State, wrong, stands, whole, closed, digit_or, step, done, scan}
use Rattle.tail_grammar.specs.ringdigits.Digits.{Digits, IsDigit, PastDigits}

-- ---- one byte and no byte

pub scan-wrong : (l : List ℕ) → scan wrong l ≡ 0
unfolding scan step done
scan-wrong [] = refl
scan-wrong (x ∷ xs) = scan-wrong xs

pub scan-at : (q : State) (s : List ℕ) (i : ℕ) → i < length s → scan q (drop i s) ≡ scan (step q (get_or s i 0)) (drop (i + 1) s)
unfolding scan
scan-at q s i h = rw (add-one i, drop-cons s i 0 h)

pub scan-end : (q : State) (s : List ℕ) (i : ℕ) → i ≡ length s → scan q (drop i s) ≡ done q
unfolding scan
scan-end q s i h = rw (h, drop-length s)

pub wrong-at : (q : State) (s : List ℕ) (i : ℕ) → i < length s → step q (get_or s i 0) ≡ wrong → scan q (drop i s) ≡ 0
wrong-at q s i h e = scan-at q s i h ∙ rw e (scan-wrong (drop (i + 1) s))

-- two states that go on the same way from a byte
pub same_at : (p q : State) (s : List ℕ) (i : ℕ) → i < length s → step p (get_or s i 0) ≡ step q (get_or s i 0) → scan p (drop i s) ≡ scan q (drop i s)
same_at p q s i h e = scan-at p s i h ∙ ap (λ (z : State). scan z (drop (i + 1) s)) e ∙ sym (scan-at q s i h)

-- ---- digits

either-last : (b : Bool) (x y : Rings) (n : ℕ) → x.last ≡ n → y.last ≡ n → (cond {A = Rings} b x y).last ≡ n
either-last true x y n h g = h
either-last false x y n h g = g

pub digit-last : (d : ℕ) (q : Rings) → (with_digit d q).last ≡ q.last
unfolding with_digit
digit-last d q = either-last (eqb (get_or q.opened d 0) 0) _ _ q.last refl refl

-- the loop's invariant: the digits before i were passed, and came to q
pub record InDigits (s : List ℕ) (at : ℕ) (q₀ : Rings) (i : ℕ) (q : Rings) : Type 0 where
  pub same : (stk : List ℕ) → scan (stands whole stk q₀) (drop at s) ≡ scan (stands whole stk q) (drop i s)
  pub least : at ≤ i
  pub within : i ≤ length s
  pub few : q.last ≤ i

pub digits-first : (s : List ℕ) (at : ℕ) (q : Rings) → Digits s at q.last → InDigits s at q at q
digits-first s at q h = record { same = λ stk. refl; least = omega arith; within = h.within; few = h.few }

pub a-digit : (x : ℕ) (a : Bool) → a ≡ within 49 57 x → not a ≡ false → IsDigit x
a-digit x a e f = let w : (49 ≤ x) × (x ≤ 57) = within_both 49 57 x (sym e ∙ not-false a f) in record { low = w.0; high = w.1 }

module _ (s : List ℕ) (at : ℕ) (q₀ : Rings) (i : ℕ) (q : Rings) (v : InDigits s at q₀ i q) where
  pub digits-end : length s ≤ i → PastDigits s at q₀ (Some (length s)) q
  unfolding done
  digits-end h =
      let k : i ≡ length s = omega (arith, v.within) in
      record {
        same = λ stk. v.same stk ∙ (scan-end (stands whole stk q) s i k ∙ sym (scan-end (stands closed stk q) s (length s) refl));
        least = omega (arith, v.least);
        within = omega arith;
        few = omega (arith, v.few);
      }

  module _ (h : i < length s) (a : Bool) (e : a ≡ within 49 57 (get_or s i 0)) where
    pub digits-over : not a ≡ true → PastDigits s at q₀ (Some i) q
    unfolding step digit_or
    digits-over f =
        record {
          same = λ stk. v.same stk ∙ same_at (stands whole stk q) (stands closed stk q) s i h (rw (sym e ∙ not-true a f));
          least = v.least;
          within = v.within;
          few = v.few;
        }

    module _ (f : not a ≡ false) (d : ℕ) (k : d ≡ get_or s i 0 - 48) (c : Bool) (j : c ≡ clashes d q) where
      pub digit-clash : c ≡ true → PastDigits s at q₀ None q
      unfolding step digit_or
      digit-clash g =
          let m : clashes (get_or s i 0 - 48) q ≡ true = ap (λ (z : ℕ). clashes z q) (sym k) ∙ (sym j ∙ g) in
          λ stk. v.same stk ∙ wrong-at (stands whole stk q) s i h (rw (sym e ∙ not-false a f, m))

      pub digit-on : (w : Rings) → c ≡ false → w ≡ with_digit d q → InDigits s at q₀ (i + 1) w
      unfolding step digit_or
      digit-on w g x =
          let m : clashes (get_or s i 0 - 48) q ≡ false = ap (λ (z : ℕ). clashes z q) (sym k) ∙ (sym j ∙ g) in
          let y : with_digit (get_or s i 0 - 48) q ≡ w = ap (λ (z : ℕ). with_digit z q) (sym k) ∙ sym x in
          record {
            same = λ stk. v.same stk ∙ (scan-at (stands whole stk q) s i h ∙ rw (sym e ∙ not-false a f, m, y));
            least = omega (arith, v.least);
            within = omega arith;
            few = omega (arith, ap (λ (z : Rings). z.last) x, digit-last d q, v.few);
          }
