-- The tests that a line's numbers meet: below a bound, distinct, rising, each exactly once.
-- Assumes nothing.
use Prim.Native.Nat.{ℕ, suc, ◌≤◌, ◌<◌}
use native.Mathlib.Omega.{arith}
use mathlib.Core.Path.{◌≡◌, refl, sym, ap, ◌∙◌}
use mathlib.Core.Bool.{Bool, true, false, cond, not, ◌||◌, false≢true}
use mathlib.Core.List.{List, [], ◌∷◌, ◌++◌}
use lib.Dec.{eqb, ltb}
use borrow.Author.Tests.{eqb-true, eq-eqb, ne_eqb, ltb-true, lt-ltb, not-true}
use Rattle.reading_rules.specs.smiles.Lexer.{memb}
use Rattle.reading_rules.specs.reading.Line.{below, distinct, times, once, rising}
use Rattle.reading_rules.proofs.words.PartingLaws.{All, and_left, and_right, and_both}

-- ---- below

pub below_all : (n : ℕ) (is : List ℕ) → below n is ≡ true → All (λ i. i < n) is
unfolding below
below_all n [] h = tt
below_all n (i ∷ is) h = (ltb-true i n (and_left (ltb i n) (below n is) h), below_all n is (and_right (ltb i n) (below n is) h))

pub all-below : (n : ℕ) (is : List ℕ) → All (λ i. i < n) is → below n is ≡ true
unfolding below
all-below n [] h = refl
all-below n (i ∷ is) h = and_both (ltb i n) (below n is) (lt-ltb i n h.0) (all-below n is h.1)

-- ---- how often

times_none : (x : ℕ) (ys : List ℕ) → memb x ys ≡ false → times x ys ≡ 0
unfolding times memb
times_none x [] h = refl
times_none x (y ∷ ys) h = go (eqb x y) h (times_none x ys)
  where
    go : (b : Bool) → (b || memb x ys) ≡ false → (memb x ys ≡ false → times x ys ≡ 0) → cond b (suc (times x ys)) (times x ys) ≡ 0
    go true e f = absurd (false≢true (sym e))
    go false e f = f e

-- an element more
times_more : (x y : ℕ) (ys : List ℕ) → times x ys ≤ times x (y ∷ ys)
unfolding times
times_more x y ys = go (eqb x y)
  where
    go : (b : Bool) → times x ys ≤ cond b (suc (times x ys)) (times x ys)
    go true = omega arith
    go false = omega arith

times-here : (x : ℕ) (ys : List ℕ) → 1 ≤ times x (x ∷ ys)
unfolding times
times-here x ys = rw (eq-eqb x x refl) (omega arith)

-- what holds of every number that stands in the list
pub times-all : (P : ℕ → Type 0) (xs : List ℕ) → All P xs → (x : ℕ) → 1 ≤ times x xs → P x
unfolding times
times-all P [] h x t = absurd (omega arith)
times-all P (y ∷ ys) h x t = go (eqb x y) refl t (times-all P ys h.1 x)
  where
    go : (b : Bool) → eqb x y ≡ b → 1 ≤ cond b (suc (times x ys)) (times x ys) → (1 ≤ times x ys → P x) → P x
    go true e u f = rw (eqb-true x y e) h.0
    go false e u f = f u

pub all-times : {P : ℕ → Type 0} (xs : List ℕ) → ((x : ℕ) → 1 ≤ times x xs → P x) → All P xs
all-times [] f = tt
all-times (y ∷ ys) f = (f y (times-here y ys), all-times ys (λ x t. f x (omega (arith, times_more x y ys))))

-- ---- each exactly once

once-all : (xs ys : List ℕ) → once xs ys ≡ true → All (λ x. times x ys ≡ 1) xs
unfolding once
once-all [] ys h = tt
once-all (x ∷ xs) ys h =
    (eqb-true (times x ys) 1 (and_left (eqb (times x ys) 1) (once xs ys) h), once-all xs ys (and_right (eqb (times x ys) 1) (once xs ys) h))

all_once : (xs ys : List ℕ) → All (λ x. times x ys ≡ 1) xs → once xs ys ≡ true
unfolding once
all_once [] ys h = refl
all_once (x ∷ xs) ys h = and_both (eqb (times x ys) 1) (once xs ys) (eq-eqb (times x ys) 1 h.0) (all_once xs ys h.1)

pub once-elim : (xs ys : List ℕ) → once xs ys ≡ true → (x : ℕ) → 1 ≤ times x xs → times x ys ≡ 1
once-elim xs ys h x t = times-all (λ z. times z ys ≡ 1) xs (once-all xs ys h) x t

pub once-intro : (xs ys : List ℕ) → ((x : ℕ) → 1 ≤ times x xs → times x ys ≡ 1) → once xs ys ≡ true
once-intro xs ys f = all_once xs ys (all-times {P = λ z. times z ys ≡ 1} xs f)

-- ---- distinct and rising

pub distinct-times : (xs : List ℕ) → distinct xs ≡ true → (x : ℕ) → times x xs ≤ 1
unfolding distinct times
distinct-times [] h x = omega arith
distinct-times (y ∷ ys) h x =
    go (eqb x y) refl (times_none y ys (not-true (memb y ys) (and_left (not (memb y ys)) (distinct ys) h)))
    (distinct-times ys (and_right (not (memb y ys)) (distinct ys) h) x)
  where
    go : (b : Bool) → eqb x y ≡ b → times y ys ≡ 0 → times x ys ≤ 1 → cond b (suc (times x ys)) (times x ys) ≤ 1
    go true e z r = let p : x ≡ y = eqb-true x y e in let q : times x ys ≡ 0 = ap (λ (w : ℕ). times w ys) p ∙ z in omega arith
    go false e z r = r

-- distinct numbers stand each once in their own list
pub once-self : (xs : List ℕ) → distinct xs ≡ true → once xs xs ≡ true
once-self xs h = once-intro xs xs (λ x t. omega (arith, distinct-times xs h x))

rising_none : (x : ℕ) (ys : List ℕ) (z : ℕ) → rising (x ∷ ys) ≡ true → z ≤ x → memb z ys ≡ false
unfolding rising memb
rising_none x [] z h l = refl
rising_none x (y ∷ ys) z h l =
    let b : x < y = ltb-true x y (and_left (ltb x y) (rising (y ∷ ys)) h) in
    rw (ne_eqb z y (λ e. omega arith)) (rising_none y ys z (and_right (ltb x y) (rising (y ∷ ys)) h) (omega arith))

rising-tail : (x : ℕ) (xs : List ℕ) → rising (x ∷ xs) ≡ true → rising xs ≡ true
unfolding rising
rising-tail x [] h = refl
rising-tail x (y ∷ ys) h = and_right (ltb x y) (rising (y ∷ ys)) h

pub rising-distinct : (xs : List ℕ) → rising xs ≡ true → distinct xs ≡ true
unfolding distinct
rising-distinct [] h = refl
rising-distinct (x ∷ xs) h =
    and_both (not (memb x xs)) (distinct xs) (ap not (rising_none x xs x h (omega arith))) (rising-distinct xs (rising-tail x xs h))

-- ---- lists end to end

pub below-append : (n : ℕ) (xs ys : List ℕ) → below n xs ≡ true → below n ys ≡ true → below n (xs ++ ys) ≡ true
unfolding below
below-append n [] ys h g = g
below-append n (x ∷ xs) ys h g =
    and_both (ltb x n) (below n (xs ++ ys)) (and_left (ltb x n) (below n xs) h) (below-append n xs ys (and_right (ltb x n) (below n xs) h) g)

pub below_more : (n m : ℕ) (xs : List ℕ) → n ≤ m → below n xs ≡ true → below m xs ≡ true
unfolding below
below_more n m [] l h = refl
below_more n m (x ∷ xs) l h =
    let b : x < n = ltb-true x n (and_left (ltb x n) (below n xs) h) in
    and_both (ltb x m) (below m xs) (lt-ltb x m (omega arith)) (below_more n m xs l (and_right (ltb x n) (below n xs) h))

-- what rises below m, and then what rises from m on, rises
pub rising-append : (m : ℕ) (xs ys : List ℕ) → rising xs ≡ true → below m xs ≡ true → rising ys ≡ true → All (λ y. m ≤ y) ys → rising (xs ++ ys) ≡ true
rising-append m [] ys r b s a = s
rising-append m (x ∷ []) ys r b s a = first ys s a
  where
    small : x < m
    small = unfold below in ltb-true x m (and_left (ltb x m) true b)

    first : (ys : List ℕ) → rising ys ≡ true → All (λ y. m ≤ y) ys → rising (x ∷ ys) ≡ true
    first [] s a = unfold rising in refl
    first (y ∷ ys) s a = unfold rising in and_both (ltb x y) (rising (y ∷ ys)) (lt-ltb x y (omega (arith, small))) s
rising-append m (x ∷ y ∷ xs) ys r b s a =
    go (rising-append m (y ∷ xs) ys (rising-tail x (y ∷ xs) r) (unfold below in and_right (ltb x m) (below m (y ∷ xs)) b) s a)
  where
    go : rising (y ∷ (xs ++ ys)) ≡ true → rising (x ∷ y ∷ (xs ++ ys)) ≡ true
    go h = unfold rising in and_both (ltb x y) (rising (y ∷ (xs ++ ys))) (and_left (ltb x y) (rising (y ∷ xs)) r) h
