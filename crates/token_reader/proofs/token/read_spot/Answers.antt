use borrow.Author.Rules.{rules}
use Rattle.token_reader.proofs.token.Short.{spot-one, spot-two}
use Rattle.token_reader.proofs.token.read_spot.Goals as goal

pub returns-then-not-is_digit-2 : goal.returns-then-not-is_digit-2
returns-then-not-is_digit-2 c = spot-one c.args.t.now c.figure-first.result _ c.is_digit.result (search rules) (search rules) (search rules) (search rules) c.lettered.ensures

pub returns : goal.returns
returns c = spot-two c.args.t.now c.figure-first.result c.figure-one.result _ c.is_digit.result c.is_digit-2.result (search rules) (search rules) (search rules) (search rules) (search rules) (search rules) (search rules) c.lettered-2.ensures
