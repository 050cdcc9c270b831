use Rattle.std.proofs.Common.{arith}
use Rattle.std.proofs.lemmas.Bool.Decides.{nat_tests}
use Rattle.tail_grammar.proofs.ringdigits.Digits.{clash-unopened, clash-open}
use Rattle.tail_grammar.proofs.ringdigits.digit_clashes.Goals as goal

pub returns-then-a-eq0 : goal.returns-then-a-eq0
returns-then-a-eq0 c = search clash-unopened

pub returns-then-a-atoms-2 : goal.returns-then-a-atoms-2
returns-then-a-atoms-2 c = let e = clash-open c.args.digit c.args.atoms c.args.opened.now c.args.joined.now c.if-a-eq0.false in grind (arith, nat_tests, e)

pub returns-else-a-atoms-2 : goal.returns-else-a-atoms-2
returns-else-a-atoms-2 c = let e = clash-open c.args.digit c.args.atoms c.args.opened.now c.args.joined.now c.if-a-eq0.false in grind (arith, nat_tests, e)
