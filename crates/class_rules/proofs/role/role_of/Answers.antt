use Rattle.class_rules.proofs.role.Laws.{sa-role}
use Rattle.class_rules.proofs.role.role_of.Goals as goal

pub returns-in-Sa : goal.returns-in-Sa
returns-in-Sa c = search sa-role
