-- Laws of a segment's form: each way out, and what callers use, of its parts and numbers too.
-- Assumes nothing.
use Prim.Native.Nat.{ℕ, suc, ◌+◌, ◌-◌, ◌≤◌, ◌<◌}
use native.Mathlib.Nat.{sub-zero}
use native.Mathlib.Numerals.{add-one}
use native.Mathlib.Omega.{arith}
use mathlib.Core.Path.{◌≡◌, refl, sym, ◌∙◌}
use mathlib.Core.Bool.{Bool, true, false, not, cond, true≢false}
use mathlib.Core.List.{List, [], ◌∷◌}
use lib.ListN.{length, take, drop, get_or, length-take, drop_of_length-le}
use lib.Dec.{eqb}
use borrow.Author.Tests.{eq-eqb, ne_eqb, not-true, not-false}
use Rattle.scanner.proofs.scan.Laws.{to_end, found-room}
use Rattle.scanner.specs.scan.Part.{Place, first_byte, index_of, index_of_text, starts_with}
use Rattle.token_syntax.specs.declared.form.Form.{Form}
use Rattle.token_syntax.specs.declared.form.Form.TheVariants.{Ring, Repeated, Listed, Parts}
use Rattle.token_syntax.specs.form.Form.{cy_text, group_form, span_form, form_of, PlacedIn, Formed, ends_in_parenthesis, after_place}
pub use Rattle.token_syntax.proofs.split.Laws.{parts_last, parts_more, parts_first, list-none, list-some}
pub use Rattle.token_syntax.proofs.numbers.Laws.{trimmed-fits, position-fits, one-fits}

-- ---- no `c` and no `(`

-- a byte that is no `c`: the first `cy` is as far from the end of the rest
pub unmarked-cy : (s t : List ℕ) → 0 < length t → (get_or t 0 0 ≡ 99 → ⊥) → index_of_text cy_text s + length t ≡ index_of_text cy_text t + length s
    → index_of_text cy_text s + length (take (length t - 1) (drop 1 t)) ≡ index_of_text cy_text (take (length t - 1) (drop 1 t)) + length s
unfolding index_of_text starts_with
unmarked-cy s [] l n v = absurd (omega arith)
unmarked-cy s (x ∷ t) l n v = rw (to_end 1 (x ∷ t)) (let z = rw (ne_eqb x 99 n) at v in omega arith)

-- and the first `(`, of a byte that is none
pub unmarked-open : (s t : List ℕ) → 0 < length t → (get_or t 0 0 ≡ 40 → ⊥) → index_of 40 s + length t ≡ index_of 40 t + length s
    → index_of 40 s + length (take (length t - 1) (drop 1 t)) ≡ index_of 40 (take (length t - 1) (drop 1 t)) + length s
unfolding first_byte
unmarked-open s [] l n v = absurd (omega arith)
unmarked-open s (x ∷ t) l n v = rw (to_end 1 (x ∷ t)) (let z = rw (ne_eqb x 40 n) at v in omega arith)

pub unmarked-end : (s t : List ℕ) → length t ≤ 0 → index_of_text cy_text s + length t ≡ index_of_text cy_text t + length s → index_of 40 s + length t ≡ index_of 40 t + length s
    → (index_of_text cy_text s ≡ length s) × (index_of 40 s ≡ length s)
unfolding index_of_text first_byte
unmarked-end s [] l v w = (omega arith, omega arith)
unmarked-end s (x ∷ t) l v w = absurd (omega arith)

-- ---- `cy`

module _ (a b : ℕ) where
  pub cy-second : a ≡ 99 → eqb b 121 ≡ cond (eqb a 99) (eqb b 121) false
  cy-second e = rw (eq-eqb a 99 e)

  pub cy-other : (a ≡ 99 → ⊥) → false ≡ cond (eqb a 99) (eqb b 121) false
  cy-other n = rw (ne_eqb a 99 n)

pub cy-starts : (s : List ℕ) (r : Bool) → 1 < length s → r ≡ cond (eqb (get_or s 0 0) 99) (eqb (get_or s 1 0) 121) false → r ≡ starts_with cy_text s
unfolding starts_with
cy-starts [] r h e = absurd (omega arith)
cy-starts (x ∷ []) r h e = absurd (omega arith)
cy-starts (x ∷ y ∷ s) r h e = e ∙ go (eqb x 99) (eqb y 121)
  where
    go : (a b : Bool) → cond a b false ≡ cond a (cond b true false) false
    go true true = refl
    go true false = refl
    go false b = refl

pub cy-short : (s : List ℕ) → length s ≤ 1 → false ≡ starts_with cy_text s
unfolding starts_with
cy-short [] h = refl
cy-short (x ∷ []) h = go (eqb x 99)
  where
    go : (a : Bool) → false ≡ cond a false false
    go true = refl
    go false = refl
cy-short (x ∷ y ∷ s) h = absurd (omega arith)

-- ---- the form

pub form-plain : (s : List ℕ) (b : Bool) → (b ≡ false → (index_of_text cy_text s ≡ length s) × (index_of 40 s ≡ length s)) → not b ≡ true → Formed s (form_of s) Parts
unfolding form_of group_form
form-plain s b f n =
    let w = f (not-true b n) in
    record { is = rw (eq-eqb (index_of_text cy_text s) (length s) w.0, eq-eqb (index_of 40 s) (length s) w.1); placed = tt }

module _ (s : List ℕ) (n : ℕ) (f : Place s (index_of 40 s) n) where
  pub form-parts : n ≡ length s → Formed s (group_form s) Parts
  unfolding group_form
  form-parts e = record { is = rw (← f.is, eq-eqb n (length s) e); placed = tt }

  module _ (d : n ≡ length s → ⊥) where
    pub form-repeated : n ≡ 0 → Formed s (group_form s) Repeated
    unfolding group_form
    form-repeated e = record { is = rw (← f.is, ne_eqb n (length s) d, eq-eqb n 0 e); placed = tt }

    pub form-listed : (n ≡ 0 → ⊥) → Formed s (group_form s) (Listed n)
    unfolding group_form
    form-listed e = record { is = rw (← f.is, ne_eqb n (length s) d, ne_eqb n 0 e); placed = f.within }

module _ (s : List ℕ) (k : ℕ) (f : Place s (index_of_text cy_text s) k) where
  pub form-no-cy : (r : Form) → k ≡ length s → Formed s (group_form s) r → Formed s (form_of s) r
  unfolding form_of
  form-no-cy r e g = record { is = g.is ∙ rw (← f.is, eq-eqb k (length s) e); placed = g.placed }

  module _ (n : k ≡ length s → ⊥) (d : ℕ) (g : Place (take (k - 0) s) (index_of 45 (take (k - 0) s)) d) where
    span : form_of s ≡ span_form s d k
    unfolding form_of
    span = rw (← f.is, ne_eqb k (length s) n, ← sub-zero k, ← g.is)

    pub form-no-dash : (r : Form) → d ≡ k → Formed s (group_form s) r → Formed s (form_of s) r
    unfolding span_form
    form-no-dash r e h = record { is = h.is ∙ sym (span ∙ rw (eq-eqb d k e)); placed = h.placed }

    pub form-ring : (d ≡ k → ⊥) → Formed s (form_of s) (Ring d k)
    unfolding span_form
    form-ring e =
        let b : d ≤ k = omega (arith, g.within, length-take (k - 0) s) in
        record { is = sym (span ∙ rw (ne_eqb d k e)); placed = (omega (arith, e), found-room cy_text s k f n) }

-- what callers use: the places of a form lie in the segment
module _ (s : List ℕ) (f r : Form) (w : Formed s f r) where
  placed-as : (q : Form) → r ≡ q → PlacedIn s q
  placed-as q h = rw (sym h) w.placed

  pub listed-place : (n : ℕ) → r ≡ Listed n → n ≤ length s
  listed-place n h = placed-as (Listed n) h

  pub ring-dash : (d k : ℕ) → r ≡ Ring d k → d < k
  ring-dash d k h = (placed-as (Ring d k) h).0

  pub ring-cy : (d k : ℕ) → r ≡ Ring d k → k + 2 ≤ length s
  ring-cy d k h = (placed-as (Ring d k) h).1

-- ---- what follows a place, and the last parenthesis

pub after-some : (s : List ℕ) (n : ℕ) → take (length s - (n + 1)) (drop (n + 1) s) ≡ after_place n s
after-some s n = rw (to_end (n + 1) s, add-one n)

pub after_none : (s : List ℕ) (n : ℕ) → length s ≤ n → take (0 - 0) s ≡ after_place n s
after_none s n h = sym (drop_of_length-le s {i = suc n} (omega arith))

pub parenthesis-none : (s : List ℕ) → length s ≡ 0 → false ≡ ends_in_parenthesis s
unfolding ends_in_parenthesis
parenthesis-none s h = rw (eq-eqb (length s) 0 h)

pub parenthesis-last : (s : List ℕ) → (length s ≡ 0 → ⊥) → eqb (get_or s (length s - 1) 0) 41 ≡ ends_in_parenthesis s
unfolding ends_in_parenthesis
parenthesis-last s h = rw (ne_eqb (length s) 0 h)

-- what ends in `)` is not empty
pub parenthesis-room : (s : List ℕ) (b : Bool) → b ≡ ends_in_parenthesis s → not b ≡ false → 1 ≤ length s
unfolding ends_in_parenthesis
parenthesis-room [] b e h = absurd (true≢false (sym (not-false b h) ∙ e))
parenthesis-room (x ∷ xs) b e h = omega arith
