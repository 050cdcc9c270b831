-- Laws of the test for 22: one for each way out.
-- Assumes nothing.
use Prim.Native.Nat.{ℕ}
use mathlib.Core.Path.{◌≡◌, sym, ap, ◌∙◌}
use mathlib.Core.Bool.{Bool, true, false, not}
use lib.Dec.{eqb, ltb}
use borrow.Author.Tests.{not-false, not-true}
use Rattle.chain_record.specs.declared.plain.ChainPrefix.{ChainPrefix}
use Rattle.chain_rules.specs.declared.chain.Role.{Role}
use Rattle.chain_rules.specs.declared.chain.Role.TheVariants.{Slot, Acyl, Base}
use Rattle.chain_rules.specs.chain.Features.{is_acyl}
use Rattle.chain_rules.specs.chain.Refusals.{is_sphingoid, wrong_kind}
use Rattle.chain_rules.specs.kind.Kind.{Kind}

module _ (r : Role) (p : ChainPrefix) (c : ℕ) (t : Bool) where
  pub slot-sphingoid : r ≡ Slot → t ≡ is_sphingoid p → t ≡ true → Kind r p c (ltb 0 c)
  unfolding wrong_kind
  slot-sphingoid h e f = record { is = λ d g k. rw (h, g, k, sym e ∙ f) }

  pub slot-other : r ≡ Slot → t ≡ is_sphingoid p → t ≡ false → Kind r p c t
  unfolding wrong_kind
  slot-other h e f = record { is = λ d g k. rw (h, g, k, ← e, f) }

  pub acyl-plain : r ≡ Acyl → t ≡ is_acyl r p → not t ≡ false → Kind r p c (eqb c 0)
  unfolding wrong_kind
  acyl-plain h e f = record { is = λ d g k. rw (h, g, k, sym (ap (λ (q : Role). is_acyl q p) h) ∙ sym e ∙ not-false t f) }

  pub acyl-other : r ≡ Acyl → t ≡ is_acyl r p → not t ≡ true → Kind r p c (not t)
  unfolding wrong_kind
  acyl-other h e f = record { is = λ d g k. rw (h, g, k, sym (ap (λ (q : Role). is_acyl q p) h) ∙ sym e ∙ not-true t f, f) }

pub base-long : (r : Role) (p : ChainPrefix) (c : ℕ) → r ≡ Base → Kind r p c (ltb c 4)
unfolding wrong_kind
base-long r p c h = record { is = λ d g k. rw (h, k) }
