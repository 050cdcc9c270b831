-- Laws of tests over lists, of values at numbers that follow one another, and of numbers that rise.
-- Assumes nothing.
use Prim.Native.Nat.{ℕ, zero, suc, ◌+◌, ◌≤◌, ◌<◌, max}
use native.Mathlib.Omega.{arith}
use mathlib.Core.Path.{◌≡◌, refl, sym, ap, ◌∙◌}
use mathlib.Core.Logic.{◌≢◌}
use mathlib.Core.Bool.{Bool, true, false, cond, not, ◌||◌, false≢true}
use mathlib.Core.List.{List, [], ◌∷◌, ◌++◌, map}
use lib.ListN.{length, get_or, set, drop}
use lib.Dec.{eqb, ltb}
use borrow.Author.Tests.{eqb-true, eqb-false, eq-eqb, ne_eqb, lt-ltb}
use Rattle.chain_rules.specs.chain.Lists.{any_of, Each, only, values_from, largest}
use Rattle.reading_rules.specs.reading.Lexer.{memb}
use Rattle.reading_rules.specs.reading.Line.{distinct, times, rising}
use Rattle.reading_rules.proofs.reading.PartingLaws.{All, all_map, and_both}

-- ---- what holds of every element

pub all-each : {A : Type 0} (P : A → Type 0) (l : List A) → All P l → Each P l
all-each P [] h = tt
all-each P (x ∷ l) h = (h.0, all-each P l h.1)

pub each_all : {A : Type 0} (P : A → Type 0) (l : List A) → Each P l → All P l
each_all P [] h = tt
each_all P (x ∷ l) h = (h.0, each_all P l h.1)

-- ---- tests

pub or_left : (a b : Bool) → (a || b) ≡ false → a ≡ false
or_left true b e = e
or_left false b e = refl

pub or_right : (a b : Bool) → (a || b) ≡ false → b ≡ false
or_right true b e = absurd (false≢true (sym e))
or_right false b e = e

-- a test that fails on no element
pub none_of : {A : Type 0} (test : A → Bool) (l : List A) → any_of test l ≡ false → All (λ a. test a ≡ false) l
unfolding any_of
none_of test [] h = tt
none_of test (a ∷ l) h = (or_left (test a) (any_of test l) h, none_of test l (or_right (test a) (any_of test l) h))

-- ---- what holds of each element

pub all_append : {A : Type 0} (P : A → Type 0) (xs ys : List A) → All P xs → All P ys → All P (xs ++ ys)
all_append P [] ys h g = g
all_append P (x ∷ xs) ys h g = (h.0, all_append P xs ys h.1 g)

pub all_left : {A : Type 0} (P : A → Type 0) (xs ys : List A) → All P (xs ++ ys) → All P xs
all_left P [] ys h = tt
all_left P (x ∷ xs) ys h = (h.0, all_left P xs ys h.1)

pub all_right : {A : Type 0} (P : A → Type 0) (xs ys : List A) → All P (xs ++ ys) → All P ys
all_right P [] ys h = h
all_right P (x ∷ xs) ys h = all_right P xs ys h.1

pub all_both : {A : Type 0} (P Q : A → Type 0) (xs : List A) → All P xs → All Q xs → All (λ x. P x × Q x) xs
all_both P Q [] h g = tt
all_both P Q (x ∷ xs) h g = ((h.0, g.0), all_both P Q xs h.1 g.1)

pub all-mapped : {A B : Type 0} (P : B → Type 0) (f : A → B) (xs : List A) → All (λ x. P (f x)) xs → All P (map f xs)
all-mapped P f [] h = tt
all-mapped P f (x ∷ xs) h = (h.0, all-mapped P f xs h.1)

pub all-of-mapped : {A B : Type 0} (P : B → Type 0) (f : A → B) (xs : List A) → All P (map f xs) → All (λ x. P (f x)) xs
all-of-mapped P f [] h = tt
all-of-mapped P f (x ∷ xs) h = (h.0, all-of-mapped P f xs h.1)

pub all-only : {A : Type 0} (P : A → Type 0) (test : A → Bool) (l : List A) → All P l → All P (only test l)
unfolding only
all-only P test [] h = tt
all-only P test (a ∷ l) h = go (test a) (all-only P test l h.1)
  where
    go : (b : Bool) → All P (only test l) → All P (cond b (a ∷ only test l) (only test l))
    go true r = (h.0, r)
    go false r = r

pub length-only : {A : Type 0} (test : A → Bool) (l : List A) → length (only test l) ≤ length l
unfolding only
length-only test [] = omega arith
length-only test (a ∷ l) = go (test a) (length-only test l)
  where
    go : (b : Bool) → length (only test l) ≤ length l → length (cond b (a ∷ only test l) (only test l)) ≤ suc (length l)
    go true r = omega arith
    go false r = omega arith

pub all_drop : {A : Type 0} (P : A → Type 0) (n : ℕ) (xs : List A) → All P xs → All P (drop n xs)
all_drop P zero xs h = h
all_drop P (suc n) [] h = tt
all_drop P (suc n) (x ∷ xs) h = all_drop P n xs h.1

pub all_set : {A : Type 0} (P : A → Type 0) (xs : List A) (i : ℕ) (a : A) → P a → All P xs → All P (set xs i a)
all_set P [] i a p h = tt
all_set P (x ∷ xs) zero a p h = (p, h.1)
all_set P (x ∷ xs) (suc i) a p h = (h.0, all_set P xs i a p h.1)

pub all_get_d : {A : Type 0} (P : A → Type 0) (xs : List A) (i : ℕ) (a : A) → P a → All P xs → P (get_or xs i a)
all_get_d P [] i a p h = p
all_get_d P (x ∷ xs) zero a p h = h.0
all_get_d P (x ∷ xs) (suc i) a p h = all_get_d P xs i a p h.1

-- ---- values at numbers that follow one another

pub length-values : {A : Type 0} (f : ℕ → A) (k n : ℕ) → length (values_from f k n) ≡ n
unfolding values_from
length-values f k zero = refl
length-values f k (suc n) = ap suc (length-values f (suc k) n)

pub all-values : {A : Type 0} (P : A → Type 0) (f : ℕ → A) (k n : ℕ) → ((i : ℕ) → k ≤ i → i < k + n → P (f i)) → All P (values_from f k n)
unfolding values_from
all-values P f k zero h = tt
all-values P f k (suc n) h = (h k (omega arith) (omega arith), all-values P f (suc k) n (λ i a b. h i (omega arith) (omega arith)))

pub get_d-values : {A : Type 0} (f : ℕ → A) (k n i : ℕ) (x : A) → i < n → get_or (values_from f k n) i x ≡ f (k + i)
unfolding values_from
get_d-values f k zero i x h = absurd (omega arith)
get_d-values f k (suc n) zero x h = ap f (omega arith)
get_d-values f k (suc n) (suc i) x h = get_d-values f (suc k) n i x (omega arith) ∙ ap f (omega arith)

-- a value stands among the values
pub times-value : (f : ℕ → ℕ) (k n i : ℕ) → k ≤ i → i < k + n → 1 ≤ times (f i) (values_from f k n)
unfolding values_from times
times-value f k zero i h g = absurd (omega arith)
times-value f k (suc n) i h g = go (eqb i k) refl (times-value f (suc k) n i)
  where
    more : (b : Bool) (m : ℕ) → 1 ≤ m → 1 ≤ cond b (suc m) m
    more true m h = omega arith
    more false m h = h

    here : (m : ℕ) → i ≡ k → 1 ≤ cond (eqb (f i) (f k)) (suc m) m
    here m e = rw (eq-eqb (f i) (f k) (ap f e)) (omega arith)

    go : (b : Bool) → eqb i k ≡ b → (suc k ≤ i → i < suc k + n → 1 ≤ times (f i) (values_from f (suc k) n))
        → 1 ≤ cond (eqb (f i) (f k)) (suc (times (f i) (values_from f (suc k) n))) (times (f i) (values_from f (suc k) n))
    go true e ih = here (times (f i) (values_from f (suc k) n)) (eqb-true i k e)
    go false e ih =
        let q : i ≢ k = eqb-false i k e in
        more (eqb (f i) (f k)) (times (f i) (values_from f (suc k) n)) (ih (omega arith) (omega arith))

-- ---- the largest

pub largest-from : (m : ℕ) (xs : List ℕ) → m ≤ largest m xs
unfolding largest
largest-from m [] = omega arith
largest-from m (x ∷ xs) = omega (arith, largest-from (max m x) xs)

pub largest-all : (m : ℕ) (xs : List ℕ) → All (λ x. x ≤ largest m xs) xs
unfolding largest
largest-all m [] = tt
largest-all m (x ∷ xs) = (omega (arith, largest-from (max m x) xs), largest-all (max m x) xs)

-- ---- numbers that rise

-- they rise from `lo` on, each once, and stay below `hi`
abbrev pub Rises : ℕ → ℕ → List ℕ → Type 0
Rises lo hi [] = lo ≤ hi
Rises lo hi (x ∷ xs) = (lo ≤ x) × Rises (suc x) hi xs

pub rises-le : (a b : ℕ) (xs : List ℕ) → Rises a b xs → a ≤ b
rises-le a b [] h = h
rises-le a b (x ∷ xs) h = omega (arith, rises-le (suc x) b xs h.1)

pub rises-from : (a b c : ℕ) (xs : List ℕ) → a ≤ b → Rises b c xs → Rises a c xs
rises-from a b c [] h g = omega arith
rises-from a b c (x ∷ xs) h g = (omega (arith, g.0), g.1)

pub rises-to : (a b c : ℕ) (xs : List ℕ) → Rises a b xs → b ≤ c → Rises a c xs
rises-to a b c [] h g = omega arith
rises-to a b c (x ∷ xs) h g = (h.0, rises-to (suc x) b c xs h.1 g)

pub rises-append : (a b c : ℕ) (xs ys : List ℕ) → Rises a b xs → Rises b c ys → Rises a c (xs ++ ys)
rises-append a b c [] ys h g = rises-from a b c ys h g
rises-append a b c (x ∷ xs) ys h g = (h.0, rises-append (suc x) b c xs ys h.1 g)

pub rises-within : (a b : ℕ) (xs : List ℕ) → Rises a b xs → All (λ x. (a ≤ x) × (x < b)) xs
rises-within a b [] h = tt
rises-within a b (x ∷ xs) h =
    ((h.0, rises-le (suc x) b xs h.1), all_map (λ y q. (omega (arith, q.0, h.0), q.1)) xs (rises-within (suc x) b xs h.1))

pub rises-drop : (n a b : ℕ) (xs : List ℕ) → Rises a b xs → Rises a b (drop n xs)
rises-drop zero a b xs h = h
rises-drop (suc n) a b [] h = h
rises-drop (suc n) a b (x ∷ xs) h = rises-from a (suc x) b (drop n xs) (omega (arith, h.0)) (rises-drop n (suc x) b xs h.1)

pub rises-none : (a b z : ℕ) (xs : List ℕ) → Rises a b xs → z < a → memb z xs ≡ false
unfolding memb
rises-none a b z [] h g = refl
rises-none a b z (x ∷ xs) h g = rw (ne_eqb z x (λ e. omega (arith, h.0))) (rises-none (suc x) b z xs h.1 (omega (arith, h.0)))

pub rises-distinct : (a b : ℕ) (xs : List ℕ) → Rises a b xs → distinct xs ≡ true
unfolding distinct
rises-distinct a b [] h = refl
rises-distinct a b (x ∷ xs) h =
    and_both (not (memb x xs)) (distinct xs) (ap not (rises-none (suc x) b x xs h.1 (omega arith))) (rises-distinct (suc x) b xs h.1)

pub rises-rising : (a b : ℕ) (xs : List ℕ) → Rises a b xs → rising xs ≡ true
unfolding rising
rises-rising a b [] h = refl
rises-rising a b (x ∷ []) h = refl
rises-rising a b (x ∷ y ∷ xs) h = and_both (ltb x y) (rising (y ∷ xs)) (lt-ltb x y h.1.0) (rises-rising (suc x) b (y ∷ xs) h.1)

-- the values of a function that rises
pub rises-values : (f : ℕ → ℕ) (k n lo hi : ℕ) → ((i : ℕ) → k ≤ i → f i < f (suc i)) → lo ≤ f k → lo ≤ hi → ((i : ℕ) → k ≤ i → i < k + n → f i < hi)
    → Rises lo hi (values_from f k n)
unfolding values_from
rises-values f k zero lo hi up l h b = h
rises-values f k (suc n) lo hi up l h b =
    (l, rises-values f (suc k) n (suc (f k)) hi (λ i q. up i (omega arith)) (up k (omega arith)) (b k (omega arith) (omega arith)) (λ i p q. b i (omega arith) (omega arith)))
