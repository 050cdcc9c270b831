use Rattle.carbons.proofs.TokenLaws.{carbonyl-set, carbonyl-none}
use Rattle.carbons.proofs.set_carbonyl.Goals as goal

pub returns-then-acyl : goal.returns-then-acyl
returns-then-acyl c = search carbonyl-set

pub returns-else-acyl : goal.returns-else-acyl
returns-else-acyl c = search carbonyl-none
