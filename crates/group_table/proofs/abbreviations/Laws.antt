-- Laws of keys: each way out of the function that makes one, the text of a key, and what a key says of an abbreviation.
-- Assumes nothing.
use Prim.Native.Nat.{ℕ, zero, suc, ◌+◌, ◌-◌, ◌*◌, ◌/◌, ◌%◌, ◌≤◌, ◌<◌}
use native.Mathlib.Omega.{arith}
use mathlib.Core.Path.{◌≡◌, refl, sym, ap, ◌∙◌}
use mathlib.Core.Bool.{Bool, true, false, cond}
use mathlib.Core.List.{List, [], ◌∷◌, ◌++◌, append-nil, map}
use mir.Val.{Fits}
use mir.Syntax.{w8}
use lib.Dec.{leb, eqb}
use lib.ListN.{length, get_or, drop, drop_of_length-le}
use lib.Seq.{drop-cons}
use borrow.Author.Tests.{ne_eqb, leb-true, le-leb, lt-leb}
use Rattle.scanner.proofs.part.Laws.{same-equal}
use Rattle.scanner.specs.scan.Part.{same_bytes}
use Rattle.std.specs.Prelude.{Option, None}
use Rattle.group_table.specs.groups.Groups.{Entry, entries, lookup_from, substituent_of, hydroxy_text, keto_text}
use Rattle.group_table.specs.abbreviations.Key.{number_from, key_of}

-- ---- a key is made

-- one more byte is in the number
number-next : (s : List ℕ) (i k j : ℕ) → i < length s → j ≡ k * 256 + get_or s i 0 → number_from k (drop i s) ≡ number_from j (drop (suc i) s)
unfolding number_from
number-next s i k j h e = rw (drop-cons s i 0 h, e)

-- all of a short text is
number-end : (s : List ℕ) (i k : ℕ) → length s ≡ i → i ≤ 4 → number_from 1 s ≡ number_from k (drop i s) → k ≡ key_of s
unfolding key_of number_from
number-end s i k l h e = sym (rw (le-leb (length s) 4 (omega arith)) (e ∙ rw (drop_of_length-le s {i = i} (omega arith))))

module _ (s : List ℕ) where
  pub key-none : length s ≡ 0 → 1 ≡ key_of s
  key-none l = number-end s 0 1 l (omega arith) refl

  pub key-long : (length s ≡ 0 → ⊥) → (length s ≡ 1 → ⊥) → (length s ≡ 2 → ⊥) → (length s ≡ 3 → ⊥) → (length s ≡ 4 → ⊥) → 0 ≡ key_of s
  unfolding key_of
  key-long a b c d e = rw (lt-leb (length s) 4 (omega arith))

  module _ (k₁ : ℕ) (e₁ : k₁ ≡ 1 * 256 + get_or s 0 0) where
    pub key_one : length s ≡ 1 → k₁ ≡ key_of s
    key_one l = number-end s 1 k₁ l (omega arith) (number-next s 0 1 k₁ (omega arith) e₁)

    module _ (k₂ : ℕ) (e₂ : k₂ ≡ k₁ * 256 + get_or s 1 0) where
      two-read : 1 < length s → number_from 1 s ≡ number_from k₂ (drop 2 s)
      two-read h = number-next s 0 1 k₁ (omega arith) e₁ ∙ number-next s 1 k₁ k₂ h e₂

      pub key-two : length s ≡ 2 → k₂ ≡ key_of s
      key-two l = number-end s 2 k₂ l (omega arith) (two-read (omega arith))

      module _ (k₃ : ℕ) (e₃ : k₃ ≡ k₂ * 256 + get_or s 2 0) where
        pub key-three : length s ≡ 3 → k₃ ≡ key_of s
        key-three l = number-end s 3 k₃ l (omega arith) (two-read (omega arith) ∙ number-next s 2 k₂ k₃ (omega arith) e₃)

        pub key-four : (k₄ : ℕ) → k₄ ≡ k₃ * 256 + get_or s 3 0 → length s ≡ 4 → k₄ ≡ key_of s
        key-four k₄ e₄ l =
            number-end s 4 k₄ l (omega arith)
            (two-read (omega arith) ∙ number-next s 2 k₂ k₃ (omega arith) e₃ ∙ number-next s 3 k₃ k₄ (omega arith) e₄)

-- ---- the text of a key

-- the text before t, of the digits of k after its leading 1, at most n of them
unfoldable pub text_from : ℕ → ℕ → List ℕ → List ℕ
text_from zero k t = t
text_from (suc n) k t = cond (eqb k 1) t (text_from n (k / 256) (k % 256 ∷ t))

unfoldable pub text_of : ℕ → List ℕ
text_of k = text_from 4 k []

text-last : (n k x : ℕ) (t : List ℕ) → 1 ≤ k → x < 256 → text_from (suc n) (k * 256 + x) t ≡ text_from n k (x ∷ t)
unfolding text_from
text-last n k x t h b =
    let d : (k * 256 + x) / 256 ≡ k = omega arith in
    let m : (k * 256 + x) % 256 ≡ x = omega arith in
    rw (ne_eqb (k * 256 + x) 1 (omega arith), d, m)

text-end : (n : ℕ) (t : List ℕ) → text_from n 1 t ≡ t
unfolding text_from
text-end zero t = refl
text-end (suc n) t = refl

text-back : (m n k : ℕ) (s t : List ℕ) → m ≡ length s + n → 1 ≤ k → ((i : ℕ) → get_or s i 0 < 256) → text_from m (number_from k s) t ≡ text_from n k (s ++ t)
unfolding number_from
text-back m n k [] t e h b = ap (λ (j : ℕ). text_from j k t) (omega arith)
text-back m n k (x ∷ s) t e h b =
    text-back m (suc n) (k * 256 + x) s t (omega arith) (omega arith) (λ i. b (suc i)) ∙ text-last n k x (s ++ t) h (b 0)

-- a key but 0 gives its text back, and so what the text names
module _ (s : List ℕ) (k : ℕ) (b : (i : ℕ) → Fits w8 (get_or s i 0)) (e : k ≡ key_of s) where
  key-text : (l : ℕ) → k ≡ l → leb 1 l ≡ true → text_of l ≡ s
  unfolding key_of text_of
  key-text l f g = go (leb (length s) 4) refl e
    where
      go : (c : Bool) → leb (length s) 4 ≡ c → k ≡ cond c (number_from 1 s) 0 → text_from 4 l [] ≡ s
      go true p q =
          rw (sym f ∙ q)
          (text-back 4 (4 - length s) 1 s [] (omega (arith, leb-true (length s) 4 p)) (omega arith) (λ i. (b i).fits) ∙ text-end (4 - length s) (s ++ []) ∙ append-nil s)
      go false p q = absurd (omega (arith, leb-true 1 l g))

  pub named_by : (r : Option ℕ) (l : ℕ) → k ≡ l → leb 1 l ≡ true → r ≡ substituent_of (text_of l) → r ≡ substituent_of s
  named_by r l f g h = h ∙ ap substituent_of (key-text l f g)

-- ---- a key that no abbreviation has

-- k is none of some numbers, as a match says it of its last arm, after what is known as A
abbrev pub NoneOf : Type 0 → ℕ → List ℕ → Type 0
NoneOf A k [] = A
NoneOf A k (l ∷ ls) = NoneOf (A × (k ≡ l → ⊥)) k ls

none_first : (A : Type 0) (k : ℕ) (ls : List ℕ) → NoneOf A k ls → A
none_first A k [] a = a
none_first A k (l ∷ ls) a = (none_first (A × (k ≡ l → ⊥)) k ls a).0

-- a text with another key is another text
unlike : (s t : List ℕ) (k : ℕ) → k ≡ key_of s → (k ≡ key_of t → ⊥) → same_bytes s t ≡ false
unlike s t k e n = go (same_bytes s t) refl
  where
    go : (b : Bool) → same_bytes s t ≡ b → b ≡ false
    go true p = absurd (n (e ∙ ap key_of (same-equal s t p)))
    go false p = refl

-- the keys of rows, in their order
abbrev pub row_keys : List Entry → List ℕ
row_keys es = map (λ (e : Entry). key_of e.abbr) es

no_row : (A : Type 0) (i : ℕ) (es : List Entry) (s : List ℕ) (k : ℕ) → k ≡ key_of s → NoneOf A k (row_keys es) → lookup_from i es s ≡ None
unfolding lookup_from
no_row A i [] s k e a = refl
no_row A i (x ∷ es) s k e a =
    rw (unlike s x.abbr k e (none_first (A × (k ≡ key_of x.abbr → ⊥)) k (row_keys es) a).1) (no_row (A × (k ≡ key_of x.abbr → ⊥)) (suc i) es s k e a)

-- neither keto nor a row has the key, and the text is not hydroxy
pub names-none : (s : List ℕ) (k : ℕ) (b : Bool) → k ≡ key_of s → NoneOf Unit k (key_of keto_text ∷ row_keys entries) → b ≡ same_bytes s hydroxy_text → b ≡ false
    → None ≡ substituent_of s
unfolding substituent_of
names-none s k b e a f n =
    sym
    (rw (sym f ∙ n, unlike s keto_text k e (none_first (Unit × (k ≡ key_of keto_text → ⊥)) k (row_keys entries) a).1)
    (no_row (Unit × (k ≡ key_of keto_text → ⊥)) 0 entries s k e a))
