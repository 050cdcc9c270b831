use Rattle.token_reader.proofs.token.Laws.{no-colon, carbons-refused, carbons-then}
use Rattle.token_head.proofs.opening.Laws.{start-few}
use borrow.Author.Rules.{rules}
use Rattle.token_reader.proofs.token.parse_named.Goals as goal

pub returns-then-n-s : goal.returns-then-n-s
returns-then-n-s c = search no-colon

pub parse_bonds-ended-requires : goal.parse_bonds-ended-requires
parse_bonds-ended-requires c = record { carbon_le_max_carbons = search (start-few, c.in_ok-start.was); bonds_le_max_bonds = search rules }

pub returns-in_err-start : goal.returns-in_err-start
returns-in_err-start c = search (carbons-refused, c.in_err-start.was, c.from_residual.ensures)

pub returns : goal.returns
returns c = search (carbons-then, c.in_ok-start.was)
