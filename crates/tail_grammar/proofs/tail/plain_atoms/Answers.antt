use borrow.Author.Rules.{rules}
use native.Mathlib.Omega.{arith}
use Rattle.tail_grammar.proofs.tail.Plain.{plain-first, plain-letter, plain-opens, plain-closes, plain-bond, bracket-less, plain-bracket, plain-ends}
use Rattle.tail_grammar.proofs.tail.plain_atoms.Goals as goal

pub loop-i-init : goal.loop-i-init
loop-i-init c = (plain-first _, omega arith, omega arith)

pub loop-i-preserved-then-is_capital : goal.loop-i-preserved-then-is_capital
loop-i-preserved-then-is_capital c = (search plain-letter, search rules, search rules)

pub loop-i-preserved-then-b-eq40 : goal.loop-i-preserved-then-b-eq40
loop-i-preserved-then-b-eq40 c = (search plain-opens, search rules, search rules)

pub loop-i-preserved-then-b-eq41 : goal.loop-i-preserved-then-b-eq41
loop-i-preserved-then-b-eq41 c = (search plain-closes, search rules, search rules)

pub loop-i-smaller : goal.loop-i-smaller
loop-i-smaller c = bracket-less _ _ _ _ _ c.loop-i.invariant.0 c.loop-i-test.true _ c.in_ok-i.ensures

pub loop-i-preserved : goal.loop-i-preserved
loop-i-preserved c = (plain-bracket _ _ _ _ _ c.loop-i.invariant.0 c.loop-i-test.true _ c.in_ok-i.ensures c.if-b-ne91.false, search rules, search rules)

pub returns : goal.returns
returns c = search plain-ends

pub loop-i-preserved-then-b-eq61 : goal.loop-i-preserved-then-b-eq61
loop-i-preserved-then-b-eq61 c = (search plain-bond, search rules, search rules)
