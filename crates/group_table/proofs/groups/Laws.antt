-- Laws of the group table: its rule by one computed test over the whole table, the look through its rows, and what callers use.
-- Assumes nothing.
use Prim.Native.Nat.{ℕ, zero, suc, ◌+◌, ◌≤◌, ◌<◌}
use native.Mathlib.Nat.{not-suc-le-zero, le_of_suc-le-suc}
use native.Mathlib.Omega.{arith}
use mathlib.Core.Path.{◌≡◌, refl, sym, ap, ◌∙◌}
use mathlib.Core.Bool.{Bool, true, false, cond, true≢false}
use mathlib.Core.List.{List, [], ◌∷◌, map}
use lib.Dec.{leb}
use lib.ListN.{length, get_or}
use borrow.Author.Tests.{leb-true, eqb-true}
use Rattle.scanner.specs.scan.Part.{same_bytes}
use Rattle.std.specs.Prelude.{Some, None}
use Rattle.group_table.specs.declared.groups.Row.{Row}
use Rattle.group_table.specs.groups.Groups.{Entry, entries, blank, entry_at, entry_of, RowIs, lookup_from, substituent_of, alias_ring_size, atoms_in, atoms_from, opens_atom, count_is_right, hydroxy, hydroxy_text, keto_text, ep_upper_text, ep_lower_text, epox_text, cyc_text, cyclo_text}

-- ---- a table's rule

pub mapped : {A B : Type 0} (f : A → B) (l : List A) (i : ℕ) (d : A) (b : B) → i < length l → f (get_or l i d) ≡ get_or (map f l) i b
mapped f [] i d b h = absurd (not-suc-le-zero h)
mapped f (x ∷ l) zero d b h = refl
mapped f (x ∷ l) (suc i) d b h = mapped f l i d b (le_of_suc-le-suc h)

-- whether each entry passes a test
abbrev pub every : {A : Type 0} → (A → Bool) → List A → Bool
every f [] = true
every f (x ∷ l) = cond (f x) (every f l) false

pub every-at : {A : Type 0} (f : A → Bool) (l : List A) (i : ℕ) (d : A) → every f l ≡ true → i < length l → f (get_or l i d) ≡ true
every-at f [] i d e h = absurd (not-suc-le-zero h)
every-at f (x ∷ l) zero d e h = first (f x) e
  where
    first : (b : Bool) → cond b (every f l) false ≡ true → b ≡ true
    first true e = refl
    first false e = e
every-at f (x ∷ l) (suc i) d e h = every-at f l i d (rest (f x) e) (le_of_suc-le-suc h)
  where
    rest : (b : Bool) → cond b (every f l) false ≡ true → every f l ≡ true
    rest true e = e
    rest false e = absurd (true≢false (sym e))

abbrev pub short : Row → Bool
short r = cond (leb r.abbr_len 4) (leb r.branch_len 12) false

both : (a b : Bool) → cond a b false ≡ true → (a ≡ true) × (b ≡ true)
both true b e = (refl, e)
both false b e = absurd (true≢false (sym e))

pub long : length entries ≡ 17
unfolding entries
long = refl

pub row-rule : (l : List Row) (i : ℕ) (d : Row) → map entry_of l ≡ entries → every short l ≡ true → i < length l → RowIs i (get_or l i d)
unfolding entry_at
row-rule l i d e f h =
    let s = both (leb (get_or l i d).abbr_len 4) (leb (get_or l i d).branch_len 12) (every-at short l i d f h) in
    record {
      entry-is = mapped entry_of l i d blank h ∙ ap (λ (k : List Entry). get_or k i blank) e;
      abbr-fits = leb-true _ 4 s.0;
      branch_fits = leb-true _ 12 s.1;
    }

get_d_past : {A : Type 0} (l : List A) (i : ℕ) (d : A) → length l ≤ i → get_or l i d ≡ d
get_d_past [] i d h = refl
get_d_past (x ∷ l) zero d h = absurd (omega arith)
get_d_past (x ∷ l) (suc i) d h = get_d_past l i d (le_of_suc-le-suc h)

pub row-past : (i : ℕ) (r : Row) → 17 ≤ i → entry_of r ≡ blank → r.abbr_len ≤ 4 → r.branch_len ≤ 12 → RowIs i r
unfolding entry_at
row-past i r h e a b = record { entry-is = e ∙ sym (get_d_past entries i blank (omega (arith, long))); abbr-fits = a; branch_fits = b }

-- ---- a row's branch

pub branch-within : (i : ℕ) (r : Row) → RowIs i r → length r.branch ≡ 12 → r.branch_len ≤ length r.branch
branch-within i r w l = omega (arith, w.branch_fits)

-- ---- the atom counts, by one computed test over the whole table

pub counts-right : every count_is_right entries ≡ true
unfolding entries count_is_right atoms_in atoms_from opens_atom
counts-right = refl

-- a row's count is that of its branch by the reading rules
pub atoms-right : (i : ℕ) → i < 17 → (entry_at i).atoms ≡ atoms_in (entry_at i).branch
unfolding entry_at count_is_right
atoms-right i h = eqb-true _ _ (every-at count_is_right entries i blank counts-right (omega (arith, long)))

-- ---- the tests of an abbreviation, in order

module _ (s : List ℕ) (a₁ : Bool) (e₁ : a₁ ≡ same_bytes s ep_upper_text) where
  pub ep-upper : a₁ ≡ true → Some 2 ≡ alias_ring_size s
  unfolding alias_ring_size
  ep-upper t = rw (sym e₁ ∙ t)

  module _ (n₁ : a₁ ≡ false) (a₂ : Bool) (e₂ : a₂ ≡ same_bytes s ep_lower_text) where
    pub ep-lower : a₂ ≡ true → Some 2 ≡ alias_ring_size s
    unfolding alias_ring_size
    ep-lower t = rw (sym e₁ ∙ n₁, sym e₂ ∙ t)

    module _ (n₂ : a₂ ≡ false) (a₃ : Bool) (e₃ : a₃ ≡ same_bytes s epox_text) where
      pub epox-found : a₃ ≡ true → Some 2 ≡ alias_ring_size s
      unfolding alias_ring_size
      epox-found t = rw (sym e₁ ∙ n₁, sym e₂ ∙ n₂, sym e₃ ∙ t)

      module _ (n₃ : a₃ ≡ false) (a₄ : Bool) (e₄ : a₄ ≡ same_bytes s cyc_text) where
        pub cyc-found : a₄ ≡ true → Some 3 ≡ alias_ring_size s
        unfolding alias_ring_size
        cyc-found t = rw (sym e₁ ∙ n₁, sym e₂ ∙ n₂, sym e₃ ∙ n₃, sym e₄ ∙ t)

        module _ (n₄ : a₄ ≡ false) (a₅ : Bool) (e₅ : a₅ ≡ same_bytes s cyclo_text) where
          pub cyclo-found : a₅ ≡ true → Some 3 ≡ alias_ring_size s
          unfolding alias_ring_size
          cyclo-found t = rw (sym e₁ ∙ n₁, sym e₂ ∙ n₂, sym e₃ ∙ n₃, sym e₄ ∙ n₄, sym e₅ ∙ t)

          pub no-alias : a₅ ≡ false → None ≡ alias_ring_size s
          unfolding alias_ring_size
          no-alias t = rw (sym e₁ ∙ n₁, sym e₂ ∙ n₂, sym e₃ ∙ n₃, sym e₄ ∙ n₄, sym e₅ ∙ t)

module _ (s : List ℕ) (a₁ : Bool) (e₁ : a₁ ≡ same_bytes s hydroxy_text) where
  pub hydroxy-found : a₁ ≡ true → Some hydroxy ≡ substituent_of s
  unfolding substituent_of
  hydroxy-found t = rw (sym e₁ ∙ t)

-- ---- what callers use

lookup-row : (i : ℕ) (es : List Entry) (s : List ℕ) (n : ℕ) → lookup_from i es s ≡ Some n → n < i + length es
unfolding lookup_from
lookup-row i [] s n e = let z : ◌≡◌ {A = ℕ} 0 1 = cc in absurd (omega arith)
lookup-row i (x ∷ es) s n e = go (same_bytes s x.abbr) e (lookup-row (suc i) es s n)
  where
    go : (b : Bool) → cond b (Some i) (lookup_from (suc i) es s) ≡ Some n → (lookup_from (suc i) es s ≡ Some n → n < suc i + length es) → n < i + suc (length es)
    go true e f = let z : i ≡ n = cc in omega arith
    go false e f = omega (arith, f e)

-- a row that was found is one of the 17
pub substituent-row : (s : List ℕ) (n : ℕ) → substituent_of s ≡ Some n → n < 17
unfolding substituent_of
substituent-row s n e = go (same_bytes s hydroxy_text) (same_bytes s keto_text) e
  where
    go : (a b : Bool) → cond a (Some 11) (cond b (Some 12) (lookup_from 0 entries s)) ≡ Some n → n < 17
    go true b e = let z : 11 ≡ n = cc in omega arith
    go false true e = let z : 12 ≡ n = cc in omega arith
    go false false e = omega (arith, lookup-row 0 entries s n e, long)

-- an alias ring spans two carbons or three
pub alias-spans : (s : List ℕ) (n : ℕ) → alias_ring_size s ≡ Some n → (2 ≤ n) × (n ≤ 3)
unfolding alias_ring_size
alias-spans s n e =
    go (same_bytes s ep_upper_text) (same_bytes s ep_lower_text) (same_bytes s epox_text) (same_bytes s cyc_text) (same_bytes s cyclo_text) e
  where
    two : Some 2 ≡ Some n → (2 ≤ n) × (n ≤ 3)
    two e = let z : 2 ≡ n = cc in (omega arith, omega arith)

    three : Some 3 ≡ Some n → (2 ≤ n) × (n ≤ 3)
    three e = let z : 3 ≡ n = cc in (omega arith, omega arith)

    go : (a b c d f : Bool) → cond a (Some 2) (cond b (Some 2) (cond c (Some 2) (cond d (Some 3) (cond f (Some 3) None)))) ≡ Some n
        → (2 ≤ n) × (n ≤ 3)
    go true b c d f e = two e
    go false true c d f e = two e
    go false false true d f e = two e
    go false false false true f e = three e
    go false false false false true e = three e
    go false false false false false e = let z : ◌≡◌ {A = ℕ} 0 1 = cc in absurd (omega arith)
