-- An acyl place is as a slot.
-- Assumes nothing.
use mathlib.Core.Path.{◌≡◌, refl, ◌∙◌}
use mathlib.Core.Bool.{Bool}
use Rattle.chain_record.specs.declared.plain.ChainPrefix.{ChainPrefix}
use Rattle.chain_record.specs.declared.plain.ChainPrefix.TheVariants as prefix
use Rattle.chain_rules.specs.declared.chain.Role.{Role}
use Rattle.chain_rules.specs.declared.chain.Role.TheVariants.{Slot, Acyl}
use Rattle.chain_rules.specs.chain.Features.{is_acyl}

pub acyl-as-slot : (p : ChainPrefix) → is_acyl Slot p ≡ is_acyl Acyl p
unfolding is_acyl
acyl-as-slot prefix.Acyl = refl
acyl-as-slot prefix.EtherAlkyl = refl
acyl-as-slot prefix.EtherAlkenyl = refl
acyl-as-slot prefix.SphingoidD = refl
acyl-as-slot prefix.SphingoidT = refl

pub acyl-slot : (r : Role) (p : ChainPrefix) (a : Bool) → r ≡ Acyl → a ≡ is_acyl Slot p → a ≡ is_acyl r p
acyl-slot r p a h e = rw h (e ∙ acyl-as-slot p)
