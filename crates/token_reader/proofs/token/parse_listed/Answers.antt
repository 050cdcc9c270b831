use Prim.Native.Nat.{◌≤◌}
use Rattle.token_reader.proofs.token.Laws.{list_open, listed-refused, listed-few-bonds, listed-read}
use borrow.Author.Rules.{rules}
use Rattle.token_reader.proofs.token.parse_listed.Goals as goal

pub returns-then-n-s : goal.returns-then-n-s
returns-then-n-s c = search list_open

pub missing_bonds-missing-requires : goal.missing_bonds-missing-requires
missing_bonds-missing-requires c = let h : c.in_ok-more.more.bonds ≤ 32 = search (listed-few-bonds, c.in_ok-more.was) in record { carbon_le_max_carbons = search rules; n_in_bounds = search rules }

pub returns-in_err-more : goal.returns-in_err-more
returns-in_err-more c = search (listed-refused, c.in_err-more.was, c.from_residual.ensures)

pub returns : goal.returns
returns c = search (listed-read, c.in_ok-more.was)
