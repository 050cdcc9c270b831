use Rattle.token_reader.proofs.token.Grouping.{lead-one, lead-two}
use Rattle.token_reader.proofs.token.read_lead.Goals as goal

pub returns-then-not-is_digit-2 : goal.returns-then-not-is_digit-2
returns-then-not-is_digit-2 c = search lead-one

pub returns : goal.returns
returns c = search lead-two
