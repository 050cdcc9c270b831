-- Parts read one after the other into a chain. Assumes nothing.
use Rattle.std.specs.Prelude.{ℕ, List, [], ◌∷◌}
use Rattle.chain_record.specs.plain.Chain.{Chain, Outcome, Read, and_then}

-- each part in turn, by f, up to the first refusal
unfoldable pub each : (List ℕ → Chain → Outcome) → List (List ℕ) → Chain → Outcome
each f [] d = Read d
each f (s ∷ ss) d = and_then (f s d) (each f ss)
