-- What the contracts of the test for 33 cite, beside the definitions of `chain_rules::chain`: where a double bond stands. Assumes nothing.
use Rattle.std.specs.Prelude.{ℕ, Bool, eqb}
use Rattle.chain_record.specs.declared.plain.DbPos.{DbPos}

-- whether a double bond stands at p
abbrev pub bond_at : ℕ → DbPos → Bool
bond_at p b = eqb b.pos p
