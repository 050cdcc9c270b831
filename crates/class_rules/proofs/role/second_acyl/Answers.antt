use Rattle.class_rules.proofs.role.Laws.{first-base, other-acyl}
use Rattle.class_rules.proofs.role.second_acyl.Goals as goal

pub returns-then-sn-eq1 : goal.returns-then-sn-eq1
returns-then-sn-eq1 c = search first-base

pub returns : goal.returns
returns c = search other-acyl
