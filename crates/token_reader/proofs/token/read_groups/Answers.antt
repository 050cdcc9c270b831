use borrow.Author.Rules.{rules}
use Rattle.token_reader.proofs.token.Grouping.{onto-none, onto-last, onto-more}
use Rattle.token_reader.proofs.token.read_groups.Goals as goal

pub loop-count-init : goal.loop-count-init
loop-count-init c = (search onto-none, search rules, search rules)

pub returns-then-n-t : goal.returns-then-n-t
returns-then-n-t c = search (onto-last, c.in_ok-item.ensures)

pub loop-count-preserved : goal.loop-count-preserved
loop-count-preserved c = (search (onto-more, c.in_ok-item.ensures), search rules, search rules)
