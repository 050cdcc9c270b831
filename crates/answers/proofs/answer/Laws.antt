-- Laws of the answer.
-- Assumes nothing.
use Prim.Native.Nat.{ℕ}
use mathlib.Core.Path.{◌≡◌}
use mathlib.Core.List.{[]}
use Rattle.chain_lists.specs.declared.listing.Lists.{Lists}
use Rattle.chain_lists.specs.declared.sn_sites.Sites.{Sites}
use Rattle.answers.specs.answer.Answer.{lists_of, sites_of, refusal}

-- a refusal
pub refused-is : (n p : ℕ) (l : Lists) (s : Sites) → l ≡ lists_of [] → s ≡ sites_of []
    → record { number = n; token = p; length = 0; lists = l; sites = s } ≡ refusal n p
refused-is n p l s e f = rw (e, f)
