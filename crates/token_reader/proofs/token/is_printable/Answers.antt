use Rattle.token_reader.proofs.token.Laws.{printable-low, printable-test}
use Rattle.token_reader.proofs.token.is_printable.Goals as goal

pub returns-then-b-lt32 : goal.returns-then-b-lt32
returns-then-b-lt32 c = search printable-low

pub returns : goal.returns
returns c = search printable-test
