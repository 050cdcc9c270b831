-- Sets as lists by rising key: two lists of bonds, or of sums, give the same set exactly where they have the same elements.
-- Assumes nothing.
use Prim.Native.Nat.{ℕ, ◌<◌}
use native.Mathlib.Omega.{arith}
use mathlib.Core.Path.{◌≡◌, refl, sym, ap, ap₂, ◌∙◌, subst}
use mathlib.Core.Bool.{Bool, true, false, cond, false≢true}
use mathlib.Core.Logic.{◌⊎◌, inl, inr, ⊎_elim}
use mathlib.Core.List.{List, [], ◌∷◌}
use lib.Dec.{eqb, ltb}
use borrow.Author.Tests.{ltb-true, ltb-false, lt-ltb, le-ltb, eqb-true, eqb-false, eq-eqb, ne_eqb}
use Rattle.reading_rules.specs.molecule.Molecule.{Bond, bond, Sum, sum, before, insert, set_of, bond_key, sum_key}
use Rattle.reading_rules.proofs.words.PartingLaws.{All, all_map}

-- ---- the order of keys

-- how two numbers stand, as the order sees it
data Side (x y : ℕ) : Type 0 where
  less : ltb x y ≡ true → Side x y
  same : ltb x y ≡ false → eqb x y ≡ true → x ≡ y → Side x y
  more : ltb x y ≡ false → eqb x y ≡ false → y < x → Side x y

side : (x y : ℕ) → Side x y
side x y = go (ltb x y) refl (eqb x y) refl
  where
    go : (a : Bool) → ltb x y ≡ a → (b : Bool) → eqb x y ≡ b → Side x y
    go true p b q = less p
    go false p true q = same p q (eqb-true x y q)
    go false p false q = more p q (let n : x ≡ y → ⊥ = eqb-false x y q in omega (arith, ltb-false x y p))

before-irrefl : (a : List ℕ) → before a a ≡ false
unfolding before
before-irrefl [] = refl
before-irrefl (x ∷ a) = rw (le-ltb x x (omega arith), eq-eqb x x refl) (before-irrefl a)

-- a key before another differs from it first by a smaller number
before-less : (x y : ℕ) (a b : List ℕ) → x < y → before (x ∷ a) (y ∷ b) ≡ true
unfolding before
before-less x y a b h = rw (lt-ltb x y h)

before_same : (x : ℕ) (a b : List ℕ) → before (x ∷ a) (x ∷ b) ≡ before a b
unfolding before
before_same x a b = rw (le-ltb x x (omega arith), eq-eqb x x refl)

before_more : (x y : ℕ) (a b : List ℕ) → y < x → before (x ∷ a) (y ∷ b) ≡ false
unfolding before
before_more x y a b h = rw (le-ltb x y (omega arith), ne_eqb x y (λ e. omega arith))

before-trans : (a b c : List ℕ) → before a b ≡ true → before b c ≡ true → before a c ≡ true
before-trans [] [] c p q = q
before-trans [] (y ∷ b) [] p q = unfold before in absurd (false≢true q)
before-trans [] (y ∷ b) (z ∷ c) p q = unfold before in refl
before-trans (x ∷ a) [] c p q = unfold before in absurd (false≢true p)
before-trans (x ∷ a) (y ∷ b) [] p q = unfold before in absurd (false≢true q)
before-trans (x ∷ a) (y ∷ b) (z ∷ c) p q = go (side x y) (side y z) (before-trans a b c)
  where
    go : Side x y → Side y z → (before a b ≡ true → before b c ≡ true → before a c ≡ true) → before (x ∷ a) (z ∷ c) ≡ true
    go (less l) (less m) f = before-less x z a c (omega (arith, ltb-true x y l, ltb-true y z m))
    go (less l) (same m n e) f = before-less x z a c (omega (arith, ltb-true x y l))
    go (less l) (more m n g) f = absurd (false≢true (sym (before_more y z b c g) ∙ q))
    go (same l k d) (less m) f = before-less x z a c (omega (arith, ltb-true y z m))
    go (same l k d) (same m n e) f =
        let p' : before a b ≡ true = sym (before_same y a b) ∙ (ap (λ (w : ℕ). before (w ∷ a) (y ∷ b)) (sym d) ∙ p) in
        let q' : before b c ≡ true = sym (before_same y b c) ∙ (ap (λ (w : ℕ). before (y ∷ b) (w ∷ c)) e ∙ q) in
        ap (λ (w : ℕ). before (w ∷ a) (z ∷ c)) (d ∙ e) ∙ (before_same z a c ∙ f p' q')
    go (same l k d) (more m n g) f = absurd (false≢true (sym (before_more y z b c g) ∙ q))
    go (more l k g) s f = absurd (false≢true (sym (before_more x y a b g) ∙ p))

before-total : (a b : List ℕ) → before a b ≡ false → before b a ≡ false → a ≡ b
before-total [] [] p q = refl
before-total [] (y ∷ b) p q = unfold before in absurd (false≢true (sym p))
before-total (x ∷ a) [] p q = unfold before in absurd (false≢true (sym q))
before-total (x ∷ a) (y ∷ b) p q = go (side x y) (before-total a b)
  where
    go : Side x y → (before a b ≡ false → before b a ≡ false → a ≡ b) → ◌≡◌ {A = List ℕ} (x ∷ a) (y ∷ b)
    go (less l) f = absurd (false≢true (sym p ∙ before-less x y a b (ltb-true x y l)))
    go (same l k d) f =
        let p' : before a b ≡ false = sym (before_same y a b) ∙ (ap (λ (w : ℕ). before (w ∷ a) (y ∷ b)) (sym d) ∙ p) in
        let q' : before b a ≡ false = sym (before_same y b a) ∙ (ap (λ (w : ℕ). before (y ∷ b) (w ∷ a)) (sym d) ∙ q) in
        ap₂ (λ (w : ℕ) (t : List ℕ). w ∷ t) d (f p' q')
    go (more l k g) f = absurd (false≢true (sym q ∙ before-less y x b a g))

-- ---- sets

abbrev pub Has : {A : Type 0} → A → List A → Type 0
Has a [] = ⊥
Has a (b ∷ bs) = (a ≡ b) ⊎ Has a bs

module _ {A : Type 0} (key : A → List ℕ) (tells : (a b : A) → key a ≡ key b → a ≡ b) where
  -- every element's key is before those of the elements after it
  abbrev Sorted : List A → Type 0
  Sorted [] = Unit {0}
  Sorted (a ∷ l) = All (λ b. before (key a) (key b) ≡ true) l × Sorted l

  -- what insertion does with the first element
  data Put (a b : A) (bs more : List A) : List A → Type 0 where
    front : before (key a) (key b) ≡ true → Put a b bs more (a ∷ b ∷ bs)
    behind : before (key b) (key a) ≡ true → Put a b bs more (b ∷ more)
    there : a ≡ b → Put a b bs more (b ∷ bs)

  put : (a b : A) (bs : List A) → Put a b bs (insert key a bs) (insert key a (b ∷ bs))
  put a b bs = unfold insert in go (before (key a) (key b)) refl (before (key b) (key a)) refl
    where
      go : (p : Bool) → before (key a) (key b) ≡ p → (q : Bool) → before (key b) (key a) ≡ q
          → Put a b bs (insert key a bs) (cond p (a ∷ b ∷ bs) (cond q (b ∷ insert key a bs) (b ∷ bs)))
      go true e q f = front e
      go false e true f = behind f
      go false e false f = there (tells a b (before-total (key a) (key b) e f))

  insert_all : (P : A → Type 0) (a : A) (l : List A) → P a → All P l → All P (insert key a l)
  insert_all P a [] p h = unfold insert in (p, tt)
  insert_all P a (b ∷ bs) p h = go (insert key a (b ∷ bs)) (put a b bs) (insert_all P a bs p h.1)
    where
      go : (r : List A) → Put a b bs (insert key a bs) r → All P (insert key a bs) → All P r
      go r (front e) ih = (p, h)
      go r (behind e) ih = (h.0, ih)
      go r (there e) ih = h

  insert-sorted : (a : A) (l : List A) → Sorted l → Sorted (insert key a l)
  insert-sorted a [] h = unfold insert in (tt, tt)
  insert-sorted a (b ∷ bs) h = go (insert key a (b ∷ bs)) (put a b bs) (insert-sorted a bs h.1)
    where
      go : (r : List A) → Put a b bs (insert key a bs) r → Sorted (insert key a bs) → Sorted r
      go r (front e) ih = ((e, all_map (λ c p. before-trans (key a) (key b) (key c) e p) bs h.0), h)
      go r (behind e) ih = (insert_all (λ c. before (key b) (key c) ≡ true) a bs e h.0, ih)
      go r (there e) ih = h

  insert-to : (x a : A) (l : List A) → Has x (insert key a l) → (x ≡ a) ⊎ Has x l
  insert-to x a [] h = unfold insert in h
  insert-to x a (b ∷ bs) h = go (insert key a (b ∷ bs)) (put a b bs) h (insert-to x a bs)
    where
      go : (r : List A) → Put a b bs (insert key a bs) r → Has x r → (Has x (insert key a bs) → (x ≡ a) ⊎ Has x bs) → (x ≡ a) ⊎ ((x ≡ b) ⊎ Has x bs)
      go r (front e) i f = i
      go r (behind e) i f = ⊎_elim (λ q. inr (inl q)) (λ q. ⊎_elim (λ u. inl u) (λ u. inr (inr u)) (f q)) i
      go r (there e) i f = inr i

  insert-from : (x a : A) (l : List A) → (x ≡ a) ⊎ Has x l → Has x (insert key a l)
  insert-from x a [] h = unfold insert in h
  insert-from x a (b ∷ bs) h = go (insert key a (b ∷ bs)) (put a b bs) h (insert-from x a bs)
    where
      go : (r : List A) → Put a b bs (insert key a bs) r → (x ≡ a) ⊎ ((x ≡ b) ⊎ Has x bs) → ((x ≡ a) ⊎ Has x bs → Has x (insert key a bs)) → Has x r
      go r (front e) i f = i
      go r (behind e) i f = ⊎_elim (λ q. inr (f (inl q))) (λ q. ⊎_elim (λ u. inl u) (λ u. inr (f (inr u))) q) i
      go r (there e) i f = ⊎_elim (λ q. inl (q ∙ e)) (λ q. q) i

  set-sorted : (l : List A) → Sorted (set_of key l)
  unfolding set_of
  set-sorted [] = tt
  set-sorted (a ∷ l) = insert-sorted a (set_of key l) (set-sorted l)

  -- a set has the elements of its list, and no others
  pub set_to : (x : A) (l : List A) → Has x (set_of key l) → Has x l
  unfolding set_of
  set_to x [] h = h
  set_to x (a ∷ l) h = ⊎_elim (λ q. inl q) (λ q. inr (set_to x l q)) (insert-to x a (set_of key l) h)

  pub set-from : (x : A) (l : List A) → Has x l → Has x (set_of key l)
  unfolding set_of
  set-from x [] h = h
  set-from x (a ∷ l) h = insert-from x a (set_of key l) (⊎_elim (λ q. inl q) (λ q. inr (set-from x l q)) h)

  all-has : (P : A → Type 0) (x : A) (l : List A) → All P l → Has x l → P x
  all-has P x [] a h = absurd h
  all-has P x (b ∷ l) a h = ⊎_elim (λ e. subst P (sym e) a.0) (λ r. all-has P x l a.1 r) h

  never : (a b : A) {X : Type 0} → before (key a) (key b) ≡ true → before (key b) (key a) ≡ true → X
  never a b p q = absurd (false≢true (sym (before-irrefl (key a)) ∙ before-trans (key a) (key b) (key a) p q))

  -- a sorted list is told by its elements
  sorted-unique : (l r : List A) → Sorted l → Sorted r → ((x : A) → Has x l → Has x r) → ((x : A) → Has x r → Has x l) → l ≡ r
  sorted-unique [] [] s t f g = refl
  sorted-unique [] (b ∷ r) s t f g = absurd (g b (inl refl))
  sorted-unique (a ∷ l) [] s t f g = absurd (f a (inl refl))
  sorted-unique (a ∷ l) (b ∷ r) s t f g = ap₂ (λ (z : A) (q : List A). z ∷ q) heads (sorted-unique l r s.1 t.1 into back)
    where
      heads : a ≡ b
      heads =
          ⊎_elim (λ e. e)
          (λ i. ⊎_elim (λ e. sym e)
          (λ j. never a b (all-has (λ c. before (key a) (key c) ≡ true) b l s.0 j) (all-has (λ c. before (key b) (key c) ≡ true) a r t.0 i)) (g b (inl refl)))
          (f a (inl refl))

      into : (x : A) → Has x l → Has x r
      into x i =
          let p : before (key a) (key x) ≡ true = all-has (λ c. before (key a) (key c) ≡ true) x l s.0 i in
          ⊎_elim (λ e. let q : before (key x) (key x) ≡ true = subst (λ (z : A). before (key z) (key x) ≡ true) (heads ∙ sym e) p in never x x q q) (λ j. j) (f x (inr i))

      back : (x : A) → Has x r → Has x l
      back x i =
          let p : before (key b) (key x) ≡ true = all-has (λ c. before (key b) (key c) ≡ true) x r t.0 i in
          ⊎_elim (λ e. let q : before (key x) (key x) ≡ true = subst (λ (z : A). before (key z) (key x) ≡ true) (sym heads ∙ sym e) p in never x x q q) (λ j. j) (g x (inr i))

  -- lists with the same elements give the same set
  pub set_same : (l r : List A) → ((x : A) → Has x l → Has x r) → ((x : A) → Has x r → Has x l) → set_of key l ≡ set_of key r
  set_same l r f g =
      sorted-unique (set_of key l) (set_of key r) (set-sorted l) (set-sorted r) (λ x h. set-from x r (f x (set_to x l h))) (λ x h. set-from x l (g x (set_to x r h)))

  -- and the other way round
  pub set_told : (l r : List A) → set_of key l ≡ set_of key r → (x : A) → Has x l → Has x r
  set_told l r e x h = set_to x r (subst (λ (z : List A). Has x z) e (set-from x l h))

-- ---- bonds and sums

pub bond-told : (a b : Bond) → bond_key a ≡ bond_key b → a ≡ b
unfolding bond_key
bond-told (bond i j m) (bond i' j' m') e = cc

pub sum_told : (a b : Sum) → sum_key a ≡ sum_key b → a ≡ b
unfolding sum_key
sum_told (sum vs n) (sum vs' n') e = cc

-- the set of bonds, and the set of sums, is the same exactly where the elements are
pub bonds-same : (l r : List Bond) → ((x : Bond) → Has x l → Has x r) → ((x : Bond) → Has x r → Has x l) → set_of bond_key l ≡ set_of bond_key r
bonds-same = set_same bond_key bond-told

pub bonds-told : (l r : List Bond) → set_of bond_key l ≡ set_of bond_key r → (x : Bond) → Has x l → Has x r
bonds-told = set_told bond_key bond-told

pub sums_same : (l r : List Sum) → ((x : Sum) → Has x l → Has x r) → ((x : Sum) → Has x r → Has x l) → set_of sum_key l ≡ set_of sum_key r
sums_same = set_same sum_key sum_told

pub sums-told : (l r : List Sum) → set_of sum_key l ≡ set_of sum_key r → (x : Sum) → Has x l → Has x r
sums-told = set_told sum_key sum_told
