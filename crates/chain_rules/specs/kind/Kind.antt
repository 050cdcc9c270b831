-- What the contract of the test for 22 cites, beside the definitions of `chain`. Assumes nothing.
use Rattle.std.specs.Prelude.{ℕ, ◌≡◌, Bool}
use Rattle.chain_record.specs.declared.plain.ChainPrefix.{ChainPrefix}
use Rattle.chain_record.specs.plain.Chain.{Chain}
use Rattle.chain_rules.specs.declared.chain.Role.{Role}
use Rattle.chain_rules.specs.chain.Refusals.{wrong_kind}

-- t says of every chain with a prefix p and c carbons whether it is of the wrong kind for its place
pub record Kind (r : Role) (p : ChainPrefix) (c : ℕ) (t : Bool) : Type 0 where
  pub is : (d : Chain) → d.prefix ≡ p → d.carbon ≡ c → t ≡ wrong_kind r d
