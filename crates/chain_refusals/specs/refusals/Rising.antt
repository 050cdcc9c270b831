-- Lists that give neither 32 nor 33, told by one look at each: what the contracts of those looks cite, beside the definitions of `chain_rules::chain`.
-- Assumes nothing.
use Rattle.std.specs.Prelude.{ℕ, ◌+◌, ◌≡◌, Bool, true, false, cond, not, ◌&&◌, List, [], ◌∷◌, ltb, leb}
use Rattle.chain_record.specs.declared.plain.DbPos.{DbPos}
use Rattle.chain_record.specs.declared.plain.Ring.{Ring}
use Rattle.chain_rules.specs.chain.Refusals.{is_epoxide}

-- t is true only where u is
pub record Only (t u : Bool) : Type 0 where
  pub told : t ≡ true → u ≡ true

-- whether each double bond stands past the one before, the first past m, and the last before c
unfoldable pub bonds_rise : ℕ → ℕ → List DbPos → Bool
bonds_rise c m [] = ltb m c
bonds_rise c m (b ∷ bs) = cond (ltb m b.pos) (bonds_rise c b.pos bs) false

-- whether a ring is a carbocycle of three atoms or more that starts at m or past it
unfoldable pub ring_past : ℕ → Ring → Bool
ring_past m x = leb m x.start && not (is_epoxide x.bridge) && leb (x.start + 2) x.end

-- whether each ring is one, and starts past the start of the one before
unfoldable pub rings_rise : ℕ → List Ring → Bool
unfolding ring_past
rings_rise m [] = true
rings_rise m (x ∷ xs) = cond (ring_past m x) (rings_rise (x.start + 1) xs) false
