use Rattle.token_reader.proofs.token.Laws.{no-oxygens, with-groups, with-rings}
use Rattle.token_reader.proofs.token.bare_oxygens.Goals as goal

pub returns-then-counts-eq0 : goal.returns-then-counts-eq0
returns-then-counts-eq0 c = search no-oxygens

pub returns-then-counts-ne0 : goal.returns-then-counts-ne0
returns-then-counts-ne0 c = search with-groups

pub returns : goal.returns
returns c = search with-rings
