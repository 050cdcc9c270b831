-- Laws of the roles in SA: the base first, then an acyl chain.
-- Assumes nothing.
use Prim.Native.Nat.{ℕ}
use mathlib.Core.Path.{◌≡◌, sym, ap, ◌∙◌}
use borrow.Author.Tests.{eq-eqb, ne_eqb}
use Rattle.chain_rules.specs.declared.chain.Role.{Role}
use Rattle.chain_rules.specs.declared.chain.Role.TheVariants.{Acyl, Base}
use Rattle.template_rules.specs.declared.Class.{Class}
use Rattle.template_rules.specs.declared.Class.TheVariants.{Sa}
use Rattle.template_rules.specs.Template.{role_of}

pub first-base : (sn : ℕ) → sn ≡ 1 → Base ≡ role_of Sa sn
first-base sn e = rw (eq-eqb sn 1 e)

pub other-acyl : (sn : ℕ) → (sn ≡ 1 → ⊥) → Acyl ≡ role_of Sa sn
other-acyl sn e = rw (ne_eqb sn 1 e)

pub sa-role : (c : Class) (sn : ℕ) (r : Role) → r ≡ role_of Sa sn → c ≡ Sa → r ≡ role_of c sn
sa-role c sn r e f = e ∙ ap (λ (x : Class). role_of x sn) (sym f)
