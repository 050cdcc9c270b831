use Rattle.tail_grammar.proofs.tail.Scan.{letter-read, second-read}
use Rattle.tail_grammar.proofs.tail.read_next.Goals as goal

pub returns-then-is_capital : goal.returns-then-is_capital
returns-then-is_capital c = letter-read _ _ c.requires.inside _ c.is_capital.ensures c.if-is_capital.true _ c.with_atom.ensures _ _

pub returns-then-takes_second : goal.returns-then-takes_second
returns-then-takes_second c = second-read _ _ c.requires.inside _ c.takes_second.ensures c.if-takes_second.true _ _
