-- Laws of the tests for 32 and 33 in order: one for each way out.
-- Assumes nothing.
use mathlib.Core.Path.{◌≡◌, sym, ◌∙◌}
use mathlib.Core.Bool.{Bool, true, false}
use Rattle.chain_rules.specs.chain.Refusals.{off_chain, clashes, place_refusal}
use Rattle.drawn_chain.specs.drawable.Drawn.{Drawn, Says}

-- ---- 32, then 33

module _ (x : Drawn) (t₁ : Bool) (s₁ : Says x t₁ off_chain) where
  pub place-off : t₁ ≡ true → Says x 32 place_refusal
  unfolding place_refusal
  place-off f₁ = record { is = λ r d w. rw (sym (s₁.is r d w) ∙ f₁) }

  module _ (f₁ : t₁ ≡ false) (t₂ : Bool) (s₂ : Says x t₂ clashes) where
    pub place-clash : t₂ ≡ true → Says x 33 place_refusal
    unfolding place_refusal
    place-clash f₂ = record { is = λ r d w. rw (sym (s₁.is r d w) ∙ f₁, sym (s₂.is r d w) ∙ f₂) }

    pub place-fits : t₂ ≡ false → Says x 0 place_refusal
    unfolding place_refusal
    place-fits f₂ = record { is = λ r d w. rw (sym (s₁.is r d w) ∙ f₁, sym (s₂.is r d w) ∙ f₂) }
