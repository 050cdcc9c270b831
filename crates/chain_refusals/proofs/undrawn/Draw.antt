-- Laws of the tests for 12, 14 and 15, and of 12 to 15 in order: one for each way out.
-- Assumes nothing.
use Prim.Native.Nat.{ℕ, ◌+◌, ◌*◌}
use mathlib.Core.Path.{◌≡◌, sym, ◌∙◌}
use mathlib.Core.Bool.{Bool, true, false, cond}
use mathlib.Core.List.{List}
use lib.Dec.{eqb, ltb, leb}
use Rattle.chain_record.specs.declared.plain.Mod.{Mod}
use lib.ListN.{length}
use borrow.Author.Tests.{eq-eqb, ne_eqb}
use Rattle.chain_rules.specs.chain.Lists.{any_of, is_empty}
use Rattle.chain_rules.specs.chain.Features.{remaining, drawn_count, site_skip}
use Rattle.chain_rules.specs.chain.Refusals.{group_on_carbonyl, pin_too_far, tail_too_short, no_site, draw_refusal}
use Rattle.drawn_chain.specs.drawable.Drawn.{Drawn, groups_drawn, floats_drawn, group_at, Says}
use Rattle.drawn_chain.proofs.drawable.Lists.{empty-length}

-- ---- 12

pub carbonyl-groups : (x : Drawn) (t : Bool) {gs : List Mod} → x.acyl ≡ true → gs ≡ groups_drawn x → t ≡ any_of (group_at 1) gs → Says x t group_on_carbonyl
unfolding group_on_carbonyl
carbonyl-groups x t h s e = record { is = λ r d w. rw (← w.acyl, h, ← w.groups) (rw s at e) }

pub no-carbonyl : (x : Drawn) → x.acyl ≡ false → Says x false group_on_carbonyl
unfolding group_on_carbonyl
no-carbonyl x h = record { is = λ r d w. rw (← w.acyl, h) }

-- ---- 14

pub tail_none : (x : Drawn) → x.unlocated ≡ 0 → Says x false tail_too_short
unfolding tail_too_short
tail_none x h = record { is = λ r d w. rw (← w.unlocated, eq-eqb x.unlocated 0 h) }

pub tail-some : (x : Drawn) (m : ℕ) → (x.unlocated ≡ 0 → ⊥) → Says x m remaining → Says x (ltb m (2 * x.unlocated + 2)) tail_too_short
unfolding tail_too_short
tail-some x m h s = record { is = λ r d w. rw (← w.unlocated, ne_eqb x.unlocated 0 h, ← s.is r d w) }

-- ---- 15

module _ (x : Drawn) {fs : List Mod} (p : fs ≡ floats_drawn x) (t : Bool) (e : t ≡ eqb (length fs) 0) where
  none : {u : Bool} → t ≡ u → is_empty (floats_drawn x) ≡ u
  none f = sym (empty-length (floats_drawn x)) ∙ sym (rw p at e) ∙ f

  pub site-none : t ≡ true → Says x false no_site
  unfolding no_site
  site-none f = record { is = λ r d w. rw (← w.floats, none f) }

  pub site-some : (k m : ℕ) → t ≡ false → k ≡ cond x.acyl 1 0 → Says x m drawn_count → Says x (leb m k) no_site
  unfolding no_site site_skip
  site-some k m f i s = record { is = λ r d w. rw (← w.floats, none f, ← s.is r d w, ← w.acyl, ← i) }

-- ---- 12 to 15, in order

module _ (x : Drawn) (t₁ : Bool) (s₁ : Says x t₁ group_on_carbonyl) where
  pub draw-carbonyl : t₁ ≡ true → Says x 12 draw_refusal
  unfolding draw_refusal
  draw-carbonyl f₁ = record { is = λ r d w. rw (sym (s₁.is r d w) ∙ f₁) }

  module _ (f₁ : t₁ ≡ false) (t₂ : Bool) (s₂ : Says x t₂ pin_too_far) where
    pub draw-pin : t₂ ≡ true → Says x 13 draw_refusal
    unfolding draw_refusal
    draw-pin f₂ = record { is = λ r d w. rw (sym (s₁.is r d w) ∙ f₁, sym (s₂.is r d w) ∙ f₂) }

    module _ (f₂ : t₂ ≡ false) (t₃ : Bool) (s₃ : Says x t₃ tail_too_short) where
      pub draw-tail : t₃ ≡ true → Says x 14 draw_refusal
      unfolding draw_refusal
      draw-tail f₃ = record { is = λ r d w. rw (sym (s₁.is r d w) ∙ f₁, sym (s₂.is r d w) ∙ f₂, sym (s₃.is r d w) ∙ f₃) }

      module _ (f₃ : t₃ ≡ false) (t₄ : Bool) (s₄ : Says x t₄ no_site) where
        pub draw-site : t₄ ≡ true → Says x 15 draw_refusal
        unfolding draw_refusal
        draw-site f₄ = record { is = λ r d w. rw (sym (s₁.is r d w) ∙ f₁, sym (s₂.is r d w) ∙ f₂, sym (s₃.is r d w) ∙ f₃, sym (s₄.is r d w) ∙ f₄) }

        pub draw-fits : t₄ ≡ false → Says x 0 draw_refusal
        unfolding draw_refusal
        draw-fits f₄ = record { is = λ r d w. rw (sym (s₁.is r d w) ∙ f₁, sym (s₂.is r d w) ∙ f₂, sym (s₃.is r d w) ∙ f₃, sym (s₄.is r d w) ∙ f₄) }
