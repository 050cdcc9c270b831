use Rattle.chain_rules.proofs.kind.Wrong.{slot-sphingoid, acyl-plain, slot-other, acyl-other, base-long}
use Rattle.chain_rules.proofs.kind.wrong_kind.Goals as goal

pub returns-then-is_sphingoid : goal.returns-then-is_sphingoid
returns-then-is_sphingoid c = search slot-sphingoid

pub returns-else-is_sphingoid : goal.returns-else-is_sphingoid
returns-else-is_sphingoid c = search slot-other

pub returns-then-not-is_acyl : goal.returns-then-not-is_acyl
returns-then-not-is_acyl c = search acyl-other

pub returns-else-not-is_acyl : goal.returns-else-not-is_acyl
returns-else-not-is_acyl c = search acyl-plain

pub returns-in-Base : goal.returns-in-Base
returns-in-Base c = search base-long
