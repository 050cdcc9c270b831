-- What the variables of a chain add up to. Assumes nothing.
use Rattle.std.specs.Prelude.{ℕ, ◌-◌, cond, eqb}
use Rattle.chain_record.specs.plain.Chain.{Chain}
use Rattle.chain_rules.specs.declared.chain.Role.{Role}
use Rattle.chain_rules.specs.chain.Features.{remaining}

-- 01, Drawing a chain: "their sum is R−n−1". A chain with no double bond without a position has no variables and so no sum: 0 stands for it
abbrev pub sum_of : Role → Chain → ℕ
sum_of r d = cond (eqb d.unlocated 0) 0 (remaining r d - d.unlocated - 1)
