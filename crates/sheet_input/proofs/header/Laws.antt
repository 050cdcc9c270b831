-- Laws of the header: its names, and of the loop over them a turn and each way out.
-- Assumes nothing.
use Prim.Native.Nat.{ℕ, zero, suc, ◌+◌, ◌-◌, ◌<◌}
use native.Mathlib.Numerals.{add-one}
use native.Mathlib.Omega.{arith}
use mathlib.Core.Path.{◌≡◌, refl, sym, ap, ◌∙◌}
use mathlib.Core.Bool.{Bool, true, false}
use mathlib.Core.List.{List, [], ◌∷◌}
use lib.ListN.{length, get_or, set, take, drop, replicate}
use lib.Dec.{eqb}
use borrow.Author.Tests.{eq-eqb, ne_eqb}
use Rattle.std.specs.Prelude.{Option, None, Some}
use Rattle.scanner.specs.scan.Part.{Place, index_of, same_bytes}
use Rattle.reading_rules.specs.reading.Ascii.{ascii}
use Rattle.token_syntax.proofs.form.Laws.{parts_last, parts_more, parts_first}
use Rattle.sheet_input.specs.declared.header.Column.{Column}
use Rattle.sheet_input.specs.declared.header.Column.TheVariants.{Class, Swap, Tail, Sn1, Sn2, Sn3, Sn4}
use Rattle.sheet_input.specs.declared.header.Plan.{Plan}
use Rattle.sheet_input.specs.header.Header.{cells_of, column_index, column_of, plan_from, plan_of}

-- ---- the names of a header

module _ (s : List ℕ) (a₁ : Bool) (e₁ : a₁ ≡ same_bytes s (99 ∷ 108 ∷ 97 ∷ 115 ∷ 115 ∷ [])) where
  pub is-class : a₁ ≡ true → Some Class ≡ column_of s
  unfolding column_of ascii
  is-class t = rw (sym e₁ ∙ t)

  module _ (n₁ : a₁ ≡ false) (a₂ : Bool) (e₂ : a₂ ≡ same_bytes s (115 ∷ 119 ∷ 97 ∷ 112 ∷ [])) where
    pub is-swap : a₂ ≡ true → Some Swap ≡ column_of s
    unfolding column_of ascii
    is-swap t = rw (sym e₁ ∙ n₁, sym e₂ ∙ t)

    module _ (n₂ : a₂ ≡ false) (a₃ : Bool) (e₃ : a₃ ≡ same_bytes s (116 ∷ 97 ∷ 105 ∷ 108 ∷ [])) where
      pub is-tail : a₃ ≡ true → Some Tail ≡ column_of s
      unfolding column_of ascii
      is-tail t = rw (sym e₁ ∙ n₁, sym e₂ ∙ n₂, sym e₃ ∙ t)

      module _ (n₃ : a₃ ≡ false) (a₄ : Bool) (e₄ : a₄ ≡ same_bytes s (115 ∷ 110 ∷ 49 ∷ [])) where
        pub is-sn1 : a₄ ≡ true → Some Sn1 ≡ column_of s
        unfolding column_of ascii
        is-sn1 t = rw (sym e₁ ∙ n₁, sym e₂ ∙ n₂, sym e₃ ∙ n₃, sym e₄ ∙ t)

        module _ (n₄ : a₄ ≡ false) (a₅ : Bool) (e₅ : a₅ ≡ same_bytes s (115 ∷ 110 ∷ 50 ∷ [])) where
          pub is-sn2 : a₅ ≡ true → Some Sn2 ≡ column_of s
          unfolding column_of ascii
          is-sn2 t = rw (sym e₁ ∙ n₁, sym e₂ ∙ n₂, sym e₃ ∙ n₃, sym e₄ ∙ n₄, sym e₅ ∙ t)

          module _ (n₅ : a₅ ≡ false) (a₆ : Bool) (e₆ : a₆ ≡ same_bytes s (115 ∷ 110 ∷ 51 ∷ [])) where
            pub is-sn3 : a₆ ≡ true → Some Sn3 ≡ column_of s
            unfolding column_of ascii
            is-sn3 t = rw (sym e₁ ∙ n₁, sym e₂ ∙ n₂, sym e₃ ∙ n₃, sym e₄ ∙ n₄, sym e₅ ∙ n₅, sym e₆ ∙ t)

            module _ (n₆ : a₆ ≡ false) (a₇ : Bool) (e₇ : a₇ ≡ same_bytes s (115 ∷ 110 ∷ 52 ∷ [])) where
              pub is-sn4 : a₇ ≡ true → Some Sn4 ≡ column_of s
              unfolding column_of ascii
              is-sn4 t = rw (sym e₁ ∙ n₁, sym e₂ ∙ n₂, sym e₃ ∙ n₃, sym e₄ ∙ n₄, sym e₅ ∙ n₅, sym e₆ ∙ n₆, sym e₇ ∙ t)

              pub is-unknown : a₇ ≡ false → ◌≡◌ {A = Option Column} None (column_of s)
              unfolding column_of ascii
              is-unknown t = rw (sym e₁ ∙ n₁, sym e₂ ∙ n₂, sym e₃ ∙ n₃, sym e₄ ∙ n₄, sym e₅ ∙ n₅, sym e₆ ∙ n₆, sym e₇ ∙ t)

-- ---- the plan

module _ (n : ℕ) (places : List ℕ) (i : ℕ) (g : (i ≡ column_index Class) × (i < 7)) where
  pub whole-none : get_or places i 0 ≡ 0 → None ≡ plan_from n places []
  unfolding plan_from
  whole-none e = let z : get_or places 0 0 ≡ 0 = rw g.0 at e in rw (eq-eqb _ 0 z)

  pub whole-some : (get_or places i 0 ≡ 0 → ⊥) → Some (record { cells = n; places = places }) ≡ plan_from n places []
  unfolding plan_from
  whole-some e = let z : get_or places 0 0 ≡ 0 → ⊥ = rw g.0 at e in rw (ne_eqb _ 0 z)

-- within a list it does not matter what stands past its end
get_d-within : (l : List ℕ) (i d e : ℕ) → i < length l → get_or l i d ≡ get_or l i e
get_d-within [] i d e h = absurd (omega arith)
get_d-within (x ∷ l) zero d e h = refl
get_d-within (x ∷ l) (suc i) d e h = get_d-within l i d e (omega arith)

module _ (A : Option Plan) (n : ℕ) (places t : List ℕ) (k : ℕ) (o : Option Column) (f : Place t (index_of 9 t) k) (e : o ≡ column_of (take (k - 0) t))
    (h : A ≡ plan_from n places (cells_of t)) where
  pub plan-unknown : o ≡ None → None ≡ A
  unfolding plan_from
  plan-unknown w = let p = parts_first 9 t k f in sym (h ∙ ap (plan_from n places) p.1 ∙ (rw (sym e, w)))

  module _ (column : Column) (w : o ≡ Some column) (i : ℕ) (g : (i ≡ column_index column) × (i < 7)) (l : length places ≡ 7) where
    pub plan-doubled : (get_or places i 0 ≡ 0 → ⊥) → None ≡ A
    unfolding plan_from
    plan-doubled d =
        let p = parts_first 9 t k f in
        let z : get_or places i 1 ≡ 0 → ⊥ = λ z. d (get_d-within places i 0 1 (omega (arith, g.1)) ∙ z) in
        sym (h ∙ ap (plan_from n places) p.1 ∙ (rw (sym e, w, sym g.0, ne_eqb _ 0 z)))

    module _ (d : get_or places i 0 ≡ 0) where
      free : eqb (get_or places i 1) 0 ≡ true
      free = eq-eqb _ 0 (get_d-within places i 1 0 (omega (arith, g.1)) ∙ d)

      pub plan-last : (r : Option Plan) → k ≡ length t → r ≡ plan_from (n + 1) (set places i (n + 1)) [] → r ≡ A
      unfolding plan_from
      plan-last r z q = q ∙ sym (h ∙ ap (plan_from n places) (parts_last 9 t k f z) ∙ (rw (sym e, w, sym g.0, free, add-one n)))

      pub plan-more : (k ≡ length t → ⊥) → A ≡ plan_from (n + 1) (set places i (n + 1)) (cells_of (take (length t - (k + 1)) (drop (k + 1) t)))
      unfolding plan_from
      plan-more z = h ∙ ap (plan_from n places) (parts_more 9 t k f z) ∙ (rw (sym e, w, sym g.0, free, add-one n))

pub plan-start : (s : List ℕ) → plan_of s ≡ plan_from 0 (replicate 7 0) (cells_of s)
unfolding plan_of
plan-start s = refl
