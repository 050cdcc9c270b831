use Rattle.group_table.specs.groups.Groups.{entries, entry_at}
use Rattle.chain_pieces.proofs.branches.Laws.{branch-known}
use Rattle.chain_pieces.proofs.branches.put_branch.Goals as goal

pub returns-then-row-eq-HYDROXY : goal.returns-then-row-eq-HYDROXY
unfolding entry_at entries
returns-then-row-eq-HYDROXY c = search branch-known

pub returns-then-row-eq-KETO : goal.returns-then-row-eq-KETO
unfolding entry_at entries
returns-then-row-eq-KETO c = search branch-known

pub returns-then-row-eq-METHYL : goal.returns-then-row-eq-METHYL
unfolding entry_at entries
returns-then-row-eq-METHYL c = search branch-known
