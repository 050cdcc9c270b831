use Rattle.tail_grammar.proofs.tail.Scan.{closes-early, branch_closes_lem}
use Rattle.tail_grammar.proofs.tail.close_branch.Goals as goal

pub returns-then-not-follows_atom : goal.returns-then-not-follows_atom
returns-then-not-follows_atom c = search closes-early

pub returns : goal.returns
returns c = search branch_closes_lem
