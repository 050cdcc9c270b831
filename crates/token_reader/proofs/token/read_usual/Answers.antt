use Rattle.token_reader.proofs.token.Short.{usual-bare, usual-groups, usual-read}
use Rattle.token_reader.proofs.token.read_usual.Goals as goal

pub returns-then-v-eq0 : goal.returns-then-v-eq0
returns-then-v-eq0 c = search (usual-bare, c.in_ok-head.ensures)

pub returns-in-Some : goal.returns-in-Some
returns-in-Some c = search (usual-groups, c.in_ok-head.ensures, c.in-Some.ensures)

pub returns : goal.returns
returns c = search (usual-read, c.in_ok-head.ensures)
