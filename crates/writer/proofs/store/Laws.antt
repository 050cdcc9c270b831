-- Laws of the writers: lists written one after the other, and a number's digits.
-- Assumes nothing.
use Prim.Native.Nat.{ℕ, zero, suc, ◌+◌, ◌/◌, ◌%◌, ◌^◌, ◌≤◌, ◌<◌}
use native.Mathlib.Nat.{not-suc-le-zero, add-zero, add-suc, suc-add, min-eq_left}
use native.Mathlib.Numerals.{add-one}
use native.Mathlib.Decide.{dec_le}
use native.Mathlib.Omega.{arith}
use mathlib.Core.Path.{◌≡◌, refl, sym, ap, ◌∙◌}
use mathlib.Core.List.{List, [], ◌∷◌, ◌++◌}
use lib.ListN.{length, replicate, set, take, get_or, length-append}
use lib.Seq.{take-suc, take_all, sets, length-sets, set_out, drop-drop}
use Rattle.std.proofs.Common.{append_assoc}
use borrow.Rule.Slice.PartMut.{put_mid}
use Rattle.std.proofs.lemmas.List.Edits.{sets-eq}
use borrow.Author.Tests.{lt-ltb, le-ltb}
use Rattle.writer.specs.store.Text.{Written, after, digits, decimal}

-- past the end nothing is stored
sets-out : {A : Type 0} (ts xs : List A) (p : ℕ) → length xs ≤ p → sets xs p ts ≡ xs
sets-out [] xs p h = refl
sets-out (t ∷ ts) xs p h = rw (set_out xs p t h) (sets-out ts xs (suc p) (omega arith))

sets-after : {A : Type 0} (xs ts : List A) (p n : ℕ) → length xs < 2 ^ 64 → sets xs (after p n) ts ≡ sets xs (p + n) ts
sets-after {A} xs ts p n h = go (dec_le (p + n) 18446744073709551615)
  where
    go : Dec (p + n ≤ 18446744073709551615) → sets xs (after p n) ts ≡ sets xs (p + n) ts
    go (yes l) = ap (λ (k : ℕ). sets xs k ts) (min-eq_left l)
    go (no l) = sets-out ts xs (after p n) (omega arith) ∙ sym (sets-out ts xs (p + n) (omega arith))

-- one list stored after the other is the two joined
pub sets-append : {A : Type 0} (a b xs : List A) (at : ℕ) → sets xs at (a ++ b) ≡ sets (sets xs at a) (at + length a) b
sets-append [] b xs at = rw add-zero
sets-append (t ∷ a) b xs at = rw (add-suc, ← suc-add at (length a)) (sets-append a b (set xs at t) (suc at))

-- one element past the end
pub written-past : {A : Type 0} (xs : List A) (at : ℕ) (b : A) (r : ℕ) → length xs ≤ at → r ≡ after at 1 → Written xs at (b ∷ []) xs r
written-past xs at b r h e = record { elements = sym (set_out xs at b h); next = e }

-- nothing written
pub written-nil : {A : Type 0} (xs : List A) (at : ℕ) → at < 2 ^ 64 → Written xs at [] xs at
written-nil xs at h = record { elements = refl; next = omega arith }

-- one list after the other is the two joined
pub written-append : {A : Type 0} {xs ys zs a b : List A} {at p q : ℕ} → length xs < 2 ^ 64
    → Written xs at a ys p → Written ys p b zs q → Written xs at (a ++ b) zs q
written-append {A} {xs} {ys} {zs} {a} {b} {at} {p} {q} h v w = record { elements = bs; next = omega (arith, v.next, w.next, length-append a b) }
  where
    n : length (sets xs at a) < 2 ^ 64
    n = rw length-sets h

    bs : zs ≡ sets xs at (a ++ b)
    bs = w.elements ∙ (rw (v.elements, v.next, sets-after (sets xs at a) b at (length a) n) (sym (sets-append a b xs at)))

pub written-length : {A : Type 0} {xs ys a : List A} {at p : ℕ} → Written xs at a ys p → length ys ≡ length xs
written-length {xs = xs} {a = a} {at} w = ap length w.elements ∙ length-sets xs at a

-- a turn of a loop that writes a list one by one
pub written_one : {A : Type 0} {xs ys zs : List A} {at p q : ℕ} (t : List A) (i : ℕ) (x : A) → length xs < 2 ^ 64 → i < length t → x ≡ get_or t i x
    → Written xs at (take i t) ys p → Written ys p (x ∷ []) zs q → Written xs at (take (i + 1) t) zs q
written_one t i x g h e v w = rw (add-one, take-suc t i x h, ← e) (written-append g v w)

pub written-whole : {A : Type 0} {xs ys : List A} {at p : ℕ} (t : List A) (i : ℕ) → i ≤ length t → length t ≤ i → Written xs at (take i t) ys p → Written xs at t ys p
written-whole t i h k w = rw (take_all i t k) at w

-- a list stored at once
pub written-part : {A : Type 0} (xs ts : List A) (at : ℕ) → length xs < 2 ^ 64 → at + length ts ≤ length xs → Written xs at ts (put_mid at (length ts) xs ts) (at + length ts)
written-part xs ts at g h = record { elements = rw (drop-drop (length ts) at xs, ← append_assoc) (sym (sets-eq ts xs at h)); next = omega arith }

-- nothing of a list copied, where there is room for it, and an element more of it
pub copy-none : {A : Type 0} (xs ts : List A) (at : ℕ) → at < 2 ^ 64 → Written xs at (take 0 ts) xs (at + 0)
copy-none xs ts at h = rw add-zero (written-nil xs at h)

pub copy-more : {A : Type 0} {xs ys : List A} {at : ℕ} (t : List A) (i : ℕ) (x : A) → length xs < 2 ^ 64 → at + length t ≤ length xs → i < length t → x ≡ get_or t i x
    → Written xs at (take i t) ys (at + i) → Written xs at (take (i + 1) t) (set ys (at + i) x) (at + (i + 1))
copy-more {ys = ys} {at} t i x g h k e w = written_one t i x g k e w (record { elements = refl; next = omega arith })

-- ---- one element so many times

same-last : {A : Type 0} (n : ℕ) (x : A) → replicate (n + 1) x ≡ replicate n x ++ (x ∷ [])
same-last {A} n x = rw add-one (go n)
  where
    go : (n : ℕ) → x ∷ replicate n x ≡ replicate n x ++ (x ∷ [])
    go zero = refl
    go (suc n) = ap (λ (l : List A). x ∷ l) (go n)

pub same-none : {A : Type 0} (xs : List A) (at : ℕ) (x : A) → at < 2 ^ 64 → Written xs at (replicate 0 x) xs at
same-none xs at x h = written-nil xs at h

-- a turn of a loop that writes it once more
pub same-more : {A : Type 0} {xs ys zs : List A} {at p q : ℕ} (i : ℕ) (x : A) → length xs < 2 ^ 64
    → Written xs at (replicate i x) ys p → Written ys p (x ∷ []) zs q → Written xs at (replicate (i + 1) x) zs q
same-more i x g w u = rw (same-last i x) (written-append g w u)

-- and the same where there is room for it
pub fill-none : {A : Type 0} (xs : List A) (at : ℕ) (x : A) → at < 2 ^ 64 → Written xs at (replicate 0 x) xs (at + 0)
fill-none xs at x h = rw add-zero (written-nil xs at h)

pub fill-more : {A : Type 0} {xs ys : List A} {at : ℕ} (i n : ℕ) (x : A) → length xs < 2 ^ 64 → at + n ≤ length xs → i < n → Written xs at (replicate i x) ys (at + i)
    → Written xs at (replicate (i + 1) x) (set ys (at + i) x) (at + (i + 1))
fill-more {ys = ys} {at} i n x g h k w = same-more i x g w (record { elements = refl; next = omega arith })

-- the fuel does not matter, once there is enough
digits-enough : (k j n : ℕ) → n < k → n < j → digits k n ≡ digits j n
unfolding digits
digits-enough zero j n h i = absurd (not-suc-le-zero h)
digits-enough (suc k) zero n h i = absurd (not-suc-le-zero i)
digits-enough (suc k) (suc j) n h i = go (λ l. digits-enough k j (n / 10) (omega arith) (omega arith)) (dec_le 10 n)
  where
    go : (10 ≤ n → digits k (n / 10) ≡ digits j (n / 10)) → Dec (10 ≤ n) → digits (suc k) n ≡ digits (suc j) n
    go e (yes l) = rw (le-ltb n 10 l, e l)
    go e (no l) = rw (lt-ltb n 10 (omega arith))

pub decimal-small : (n : ℕ) → n < 10 → decimal n ≡ (48 + n) ∷ []
unfolding digits decimal
decimal-small n h = rw (lt-ltb n 10 h)

pub decimal_step : (n : ℕ) → 10 ≤ n → decimal n ≡ decimal (n / 10) ++ ((48 + n % 10) ∷ [])
unfolding digits decimal
decimal_step n h = rw (le-ltb n 10 h) (ap (λ (l : List ℕ). l ++ ((48 + n % 10) ∷ [])) (digits-enough n (suc (n / 10)) (n / 10) (omega arith) (omega arith)))

pub written_small : {xs ys : List ℕ} {at p : ℕ} (n : ℕ) → n < 10 → Written xs at ((48 + n) ∷ []) ys p → Written xs at (decimal n) ys p
written_small n h w = rw (decimal-small n h) w

pub written-digit : {xs ys zs : List ℕ} {at p q : ℕ} (n : ℕ) → length xs < 2 ^ 64 → 10 ≤ n
    → Written xs at (decimal (n / 10)) ys p → Written ys p ((48 + n % 10) ∷ []) zs q → Written xs at (decimal n) zs q
written-digit n g h v w = rw (decimal_step n h) (written-append g v w)

-- two digits
pub written-two : {xs ys zs : List ℕ} {at p q : ℕ} (n : ℕ) → length xs < 2 ^ 64 → 10 ≤ n → n < 100
    → Written xs at ((48 + n / 10) ∷ []) ys p → Written ys p ((48 + n % 10) ∷ []) zs q → Written xs at (decimal n) zs q
written-two n g h l v w = written-digit n g h (written_small (n / 10) (omega arith) v) w

-- one digit after two
pub written-three : {xs ys zs : List ℕ} {at p q : ℕ} (n : ℕ) → length xs < 2 ^ 64 → 100 ≤ n
    → Written xs at (decimal (n / 10)) ys p → Written ys p ((48 + n % 10) ∷ []) zs q → Written xs at (decimal n) zs q
written-three n g h v w = written-digit n g (omega arith) v w

-- an empty slice stays empty: it measures
pub written-empty : {A : Type 0} {ys t : List A} {at p : ℕ} → Written [] at t ys p → ys ≡ []
written-empty {t = t} {at} w = w.elements ∙ sets-out t [] at (omega arith)

-- a worked example, computed
largest : decimal 4294967295 ≡ 52 ∷ 50 ∷ 57 ∷ 52 ∷ 57 ∷ 54 ∷ 55 ∷ 50 ∷ 57 ∷ 53 ∷ []
unfolding digits decimal
largest = refl
