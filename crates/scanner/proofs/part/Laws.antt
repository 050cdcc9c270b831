-- Laws of parts and places: what the library's searches and comparisons answer, and what callers use.
-- Assumes nothing.
use Prim.Native.Nat.{ℕ, suc, ◌+◌, ◌-◌, ◌≤◌, ◌<◌}
use native.Mathlib.Omega.{arith}
use mathlib.Core.Path.{◌≡◌, refl, sym, ap, ◌∙◌}
use mathlib.Core.Bool.{Bool, true, false, cond, ◌&&◌, true≢false}
use mathlib.Core.List.{List, [], ◌∷◌}
use lib.ListN.{length, take, drop, get_or, length-drop}
use lib.Seq.{take_all}
use lib.Dec.{eqb, ltb}
use lib.Pointwise.{pointwise}
use borrow.Author.Tests.{eq-eqb, ne_eqb, eqb-true, eqb-false, ltb-false}
use Rattle.std.proofs.lemmas.List.Recursion.{is_position_or_len}
use Rattle.std.specs.List.{position, position_or_len}
use Rattle.std.specs.Prelude.{Option, None, Some}
use Rattle.std.specs.Option.{unwrap_or}
use Rattle.scanner.specs.part.Part.{Place, first_byte, starts_with, index_of_text, same_bytes}

-- the part `&t[a..]` is what is left after a elements
pub to_end : (a : ℕ) (t : List ℕ) → take (length t - a) (drop a t) ≡ drop a t
to_end a t = take_all (length t - a) (drop a t) (omega (arith, length-drop a t))

-- ---- the first byte that passes a test

pub first-within : (test : ℕ → Bool) (t : List ℕ) → first_byte test t ≤ length t
unfolding first_byte
first-within test [] = omega arith
first-within test (x ∷ xs) = go (test x) (first-within test xs)
  where
    go : (b : Bool) → first_byte test xs ≤ length xs → cond b 0 (suc (first_byte test xs)) ≤ suc (length xs)
    go true h = omega arith
    go false h = omega arith

module _ (test : ℕ → Bool) (s t : List ℕ) (i : ℕ) (h : first_byte test s ≡ i + first_byte test t) where
  first-at : first_byte test t ≡ 0 → Place s (first_byte test s) i
  first-at e = record { is = omega arith; within = omega (arith, first-within test s) }

pub first-here : (test : ℕ → Bool) (s t : List ℕ) (i : ℕ) → first_byte test s ≡ i + first_byte test t → 0 < length t → test (get_or t 0 0) ≡ true
    → Place s (first_byte test s) i
unfolding first_byte
first-here test s [] i h l e = absurd (omega arith)
first-here test s (x ∷ xs) i h l e = first-at test s (x ∷ xs) i h (rw e)

-- ---- what the library's searches give

first-position : (test : ℕ → Bool) (s : List ℕ) → first_byte test s ≡ position_or_len test s
unfolding first_byte
first-position test s =
    is_position_or_len (first_byte test) test refl (λ x xs. let e : suc (first_byte test xs) ≡ 1 + first_byte test xs = omega arith in ap (cond (test x) 0) e) s

or_end : (n l : ℕ) → n ≤ l → unwrap_or (cond (ltb n l) (Some n) None) l ≡ n
or_end n l h = go (ltb n l) refl
  where
    go : (b : Bool) → ltb n l ≡ b → unwrap_or (cond b (Some n) None) l ≡ n
    go true e = refl
    go false e = omega (arith, ltb-false n l e)

-- the place of the first byte that passes a test, or the end
pub first-found : (test : ℕ → Bool) (s : List ℕ) (r : Option ℕ) (n : ℕ) → r ≡ position test s → n ≡ unwrap_or r (length s) → Place s (first_byte test s) n
first-found test s r n e f =
    let w = first-within test s in
    let o : unwrap_or (position test s) (length s) ≡ first_byte test s =
    rw (← first-position test s) (or_end (first_byte test s) (length s) w) in
    rw (f, e, o) (record { is = refl; within = w })

-- ---- a start, and its first place

eqb-sym : (x y : ℕ) → eqb x y ≡ eqb y x
eqb-sym x y = go (eqb y x) refl
  where
    go : (b : Bool) → eqb y x ≡ b → eqb x y ≡ b
    go true e = eq-eqb x y (sym (eqb-true y x e))
    go false e = ne_eqb x y (λ d. eqb-false y x e (sym d))

starts-told : (p s : List ℕ) → pointwise eqb p (take (length p) s) ≡ starts_with p s
unfolding starts_with
starts-told [] s = refl
starts-told (y ∷ p) [] = refl
starts-told (y ∷ p) (x ∷ s) = rw (starts-told p s, eqb-sym y x) (go (eqb x y) (starts_with p s))
  where
    go : (a b : Bool) → (a && b) ≡ cond a b false
    go true b = refl
    go false b = refl

-- what the library answers of a start is what is said here
pub starts-answer : (p s : List ℕ) (r : Bool) → r ≡ pointwise eqb p (take (length p) s) → r ≡ starts_with p s
starts-answer p s r e = e ∙ starts-told p s

pub starts-length : (p l : List ℕ) → starts_with p l ≡ true → length p ≤ length l
unfolding starts_with
starts-length [] l e = omega arith
starts-length (y ∷ p) [] e = absurd (true≢false (sym e))
starts-length (y ∷ p) (x ∷ l) e = go (eqb x y) e (starts-length p l)
  where
    go : (b : Bool) → cond b (starts_with p l) false ≡ true → (starts_with p l ≡ true → length p ≤ length l) → suc (length p) ≤ suc (length l)
    go true e f = omega (arith, f e)
    go false e f = absurd (true≢false (sym e))

text-within : (p l : List ℕ) → index_of_text p l ≤ length l
unfolding index_of_text
text-within p [] = omega arith
text-within p (x ∷ l) = go (starts_with p (x ∷ l)) (text-within p l)
  where
    go : (b : Bool) → index_of_text p l ≤ length l → cond b 0 (suc (index_of_text p l)) ≤ suc (length l)
    go true h = omega arith
    go false h = omega arith

text-room : (p l : List ℕ) → (index_of_text p l ≡ length l → ⊥) → index_of_text p l + length p ≤ length l
unfolding index_of_text
text-room p [] n = absurd (n refl)
text-room p (x ∷ l) n = go (starts_with p (x ∷ l)) refl n (text-room p l)
  where
    go : (b : Bool) → starts_with p (x ∷ l) ≡ b → (cond b 0 (suc (index_of_text p l)) ≡ suc (length l) → ⊥)
        → ((index_of_text p l ≡ length l → ⊥) → index_of_text p l + length p ≤ length l) → cond b 0 (suc (index_of_text p l)) + length p ≤ suc (length l)
    go true e n f = omega (arith, starts-length p (x ∷ l) e)
    go false e n f = omega (arith, f (λ k. n (ap suc k)))

-- a text that was found ends within the bytes
pub found-room : (p s : List ℕ) (r : ℕ) → Place s (index_of_text p s) r → (r ≡ length s → ⊥) → r + length p ≤ length s
found-room p s r f n = omega (arith, f.is, text-room p s (λ e. n (f.is ∙ e)))

module _ (p s : List ℕ) (i : ℕ) where
  text_at : i ≡ index_of_text p s → Place s (index_of_text p s) i
  text_at e = record { is = e; within = omega (arith, text-within p s) }

  pub text-here : (t : List ℕ) (b : Bool) → 0 < length t → b ≡ starts_with p t → b ≡ true → index_of_text p s ≡ i + index_of_text p t → Place s (index_of_text p s) i
  unfolding index_of_text
  text-here [] b h e f v = absurd (omega arith)
  text-here (x ∷ t) b h e f v = let z = rw (sym e ∙ f) at v in text_at (omega arith)

  pub text-more : (t : List ℕ) (b : Bool) → 0 < length t → b ≡ starts_with p t → b ≡ false → index_of_text p s ≡ i + index_of_text p t
      → index_of_text p s ≡ i + 1 + index_of_text p (take (length t - 1) (drop 1 t))
  unfolding index_of_text
  text-more [] b h e f v = absurd (omega arith)
  text-more (x ∷ t) b h e f v = rw (to_end 1 (x ∷ t)) (let z = rw (sym e ∙ f) at v in omega arith)

  pub text-none : (t : List ℕ) → length t ≤ 0 → index_of_text p s ≡ i + index_of_text p t → Place s (index_of_text p s) i
  unfolding index_of_text
  text-none [] h v = text_at (omega arith)
  text-none (x ∷ t) h v = absurd (omega arith)

-- ---- the same bytes

same-told : (a b : List ℕ) → pointwise eqb a b ≡ same_bytes a b
unfolding same_bytes
same-told [] [] = refl
same-told [] (y ∷ b) = refl
same-told (x ∷ a) [] = refl
same-told (x ∷ a) (y ∷ b) = rw (same-told a b) (go (eqb x y) (same_bytes a b))
  where
    go : (a b : Bool) → (a && b) ≡ cond a b false
    go true b = refl
    go false b = refl

-- what the library answers of two slices is what is said here
pub same-answer : (a b : List ℕ) (r : Bool) → r ≡ pointwise eqb a b → r ≡ same_bytes a b
same-answer a b r e = e ∙ same-told a b

-- bytes that are the same are equal lists
pub same-equal : (a b : List ℕ) → same_bytes a b ≡ true → a ≡ b
unfolding same_bytes
same-equal [] [] e = refl
same-equal [] (y ∷ b) e = absurd (true≢false (sym e))
same-equal (x ∷ a) [] e = absurd (true≢false (sym e))
same-equal (x ∷ a) (y ∷ b) e = go (eqb x y) refl e (same-equal a b)
  where
    go : (c : Bool) → eqb x y ≡ c → cond c (same_bytes a b) false ≡ true → (same_bytes a b ≡ true → a ≡ b) → x ∷ a ≡ y ∷ b
    go true h e f = rw (eqb-true x y h, f e)
    go false h e f = absurd (true≢false (sym e))
