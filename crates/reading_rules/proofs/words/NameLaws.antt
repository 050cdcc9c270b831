-- Names of variables: shown, then read, an index comes back, so two indices below name_count have two names.
-- Assumes nothing.
use Prim.Native.Nat.{ℕ, ◌+◌, ◌*◌, ◌-◌, ◌/◌, ◌%◌, ◌≤◌, ◌<◌}
use native.Mathlib.Decide.{dec_le}
use native.Mathlib.Omega.{arith}
use mathlib.Core.Path.{◌≡◌, refl, sym, ap, ap₂, ◌∙◌}
use mathlib.Core.Bool.{Bool, true, false, cond, ◌&&◌}
use mathlib.Core.Option.{none, some}
use mathlib.Core.List.{List, [], ◌∷◌}
use lib.Dec.{ltb, leb}
use borrow.Author.Tests.{lt-ltb, le-ltb, le-leb, leb-true}
use Rattle.reading_rules.specs.smiles.Lexer.{within}
use Rattle.reading_rules.specs.words.Names.{name_count, small, name_below, name_of, variable}
use Rattle.reading_rules.proofs.words.PartingLaws.{and_left, and_right, every}

small-yes : (d : ℕ) → d < 26 → small (97 + d) ≡ true
unfolding small within
small-yes d h = rw (le-leb 97 (97 + d) (omega arith), le-leb (97 + d) 122 (omega arith))

below-small : (i : ℕ) → i < name_count → every small (name_below i) ≡ true
unfolding name_below every
below-small i h = go (dec_le 26 i)
  where
    go : Dec (26 ≤ i) → every small (cond (ltb i 26) ((97 + i) ∷ []) ((97 + (i - 26) / 26) ∷ (97 + (i - 26) % 26) ∷ [])) ≡ true
    go (yes l) = rw (le-ltb i 26 l, small-yes ((i - 26) / 26) (omega arith), small-yes ((i - 26) % 26) (omega arith))
    go (no l) = rw (lt-ltb i 26 (omega arith), small-yes i (omega arith))

-- every byte of a name is a small letter
pub name-small : (i : ℕ) → every small (name_of i) ≡ true
unfolding name_of
name-small i = below-small (i % name_count) (omega arith)

variable-below : (i : ℕ) → i < name_count → variable (name_below i) ≡ some i
unfolding name_below variable
variable-below i h = go (dec_le 26 i)
  where
    go : Dec (26 ≤ i) → variable (cond (ltb i 26) ((97 + i) ∷ []) ((97 + (i - 26) / 26) ∷ (97 + (i - 26) % 26) ∷ [])) ≡ some i
    go (yes l) =
        rw (le-ltb i 26 l, small-yes ((i - 26) / 26) (omega arith), small-yes ((i - 26) % 26) (omega arith))
        (ap (λ (z : ℕ). some z) (omega arith))
    go (no l) = rw (lt-ltb i 26 (omega arith), small-yes i (omega arith)) (ap (λ (z : ℕ). some z) (omega arith))

-- a name that is shown is read as its index
pub variable-name : (i : ℕ) → i < name_count → variable (name_of i) ≡ some i
unfolding name_of
variable-name i h = let e : i % name_count ≡ i = omega arith in rw e (variable-below i h)

-- two indices below name_count have two names
pub names-differ : (i j : ℕ) → i < name_count → j < name_count → name_of i ≡ name_of j → i ≡ j
names-differ i j h g e =
    let p : variable (name_of i) ≡ some i = variable-name i h in
    let q : variable (name_of j) ≡ some j = variable-name j g in
    let r : variable (name_of i) ≡ variable (name_of j) = ap variable e in
    cc

small-both : (x : ℕ) → small x ≡ true → (97 ≤ x) × (x ≤ 122)
unfolding small within
small-both x e = (leb-true 97 x (and_left (leb 97 x) (leb x 122) e), leb-true x 122 (and_right (leb 97 x) (leb x 122) e))

below_one : (i : ℕ) → i < 26 → name_of i ≡ (97 + i) ∷ []
unfolding name_of name_below
below_one i h = let e : i % name_count ≡ i = omega arith in rw (e, lt-ltb i 26 h)

below_two : (a b : ℕ) → a < 26 → b < 26 → name_of (26 + 26 * a + b) ≡ (97 + a) ∷ (97 + b) ∷ []
unfolding name_of name_below
below_two a b h g =
    let i : ℕ = 26 + 26 * a + b in
    let e : i % name_count ≡ i = omega arith in
    let p : (i - 26) / 26 ≡ a = omega arith in
    let q : (i - 26) % 26 ≡ b = omega arith in
    rw (e, le-ltb i 26 (omega arith), p, q)

-- and a name that is read is shown as itself: every name of one or two small letters is that of one index below 702
pub name-variable : (xs : List ℕ) (i : ℕ) → variable xs ≡ some i → (i < name_count) × (name_of i ≡ xs)
unfolding variable
name-variable [] i e = let z : ◌≡◌ {A = ℕ} 0 1 = cc in absurd (omega arith)
name-variable (x ∷ []) i e = go (small x) refl e
  where
    go : (b : Bool) → small x ≡ b → cond b (some (x - 97)) none ≡ some i → (i < name_count) × (name_of i ≡ x ∷ [])
    go false s p = let z : ◌≡◌ {A = ℕ} 0 1 = cc in absurd (omega arith)
    go true s p =
        let w : (97 ≤ x) × (x ≤ 122) = small-both x s in
        let q : x - 97 ≡ i = cc in
        (omega arith, below_one i (omega arith) ∙ ap (λ (z : ℕ). z ∷ []) (omega arith))
name-variable (x ∷ y ∷ []) i e = go (small x) refl (small y) refl e
  where
    go : (b : Bool) → small x ≡ b → (c : Bool) → small y ≡ c → cond (b && c) (some (26 + 26 * (x - 97) + (y - 97))) none ≡ some i
        → (i < name_count) × (name_of i ≡ x ∷ y ∷ [])
    go false s c t p = let z : ◌≡◌ {A = ℕ} 0 1 = cc in absurd (omega arith)
    go true s false t p = let z : ◌≡◌ {A = ℕ} 0 1 = cc in absurd (omega arith)
    go true s true t p =
        let w : (97 ≤ x) × (x ≤ 122) = small-both x s in
        let u : (97 ≤ y) × (y ≤ 122) = small-both y t in
        let q : 26 + 26 * (x - 97) + (y - 97) ≡ i = cc in (
          omega arith,
          ap name_of (sym q) ∙ (below_two (x - 97) (y - 97) (omega arith) (omega arith) ∙ ap₂ (λ (z z' : ℕ). z ∷ z' ∷ []) (omega arith) (omega arith)),
        )
name-variable (x ∷ y ∷ z ∷ xs) i e = let w : ◌≡◌ {A = ℕ} 0 1 = cc in absurd (omega arith)
