-- What the contracts of `reach` cite, beside the definitions of `chain_rules::chain`: where a double bond and a ring end, and the carbons of the flexible
-- tail. Assumes nothing.
use Rattle.std.specs.Prelude.{ℕ, ◌+◌, ◌*◌, ◌≤◌, ◌≡◌, cond, eqb}
use Rattle.chain_record.specs.declared.plain.DbPos.{DbPos}
use Rattle.chain_record.specs.declared.plain.Ring.{Ring}

-- the carbon at which a double bond ends
abbrev pub bond_reach : DbPos → ℕ
bond_reach b = b.pos + 1

-- the carbon at which a ring ends
abbrev pub ring_reach : Ring → ℕ
ring_reach x = x.end

-- m is the number of carbons that n double bonds without a position take
pub record Flexible (n m : ℕ) : Type 0 where
  pub is : m ≡ cond (eqb n 0) 0 (2 * n + 2)
  pub fits : m ≤ 131072
