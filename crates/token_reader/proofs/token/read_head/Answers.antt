use borrow.Author.Rules.{rules}
use Rattle.token_reader.proofs.token.Short.{head_plain, head-letter}
use Rattle.token_reader.proofs.token.read_head.Goals as goal

pub returns-then-is_digit : goal.returns-then-is_digit
returns-then-is_digit c = head_plain _ _ c.head_at.ensures

pub returns : goal.returns
returns c = head-letter _ c.read_opening-opening.result _ (search rules) (search rules) (search rules) c.head_at-2.ensures
