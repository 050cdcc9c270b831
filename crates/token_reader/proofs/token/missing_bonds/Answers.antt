use Rattle.token_reader.proofs.token.Laws.{given-many, not-seated, seated-fits, all-seated}
use Rattle.token_reader.proofs.token.missing_bonds.Goals as goal

pub returns-then-declared-given : goal.returns-then-declared-given
returns-then-declared-given c = search given-many

pub returns-then-not-placeholder_positions : goal.returns-then-not-placeholder_positions
returns-then-not-placeholder_positions c = search not-seated

pub overflow_cast-result : goal.overflow_cast-result
overflow_cast-result c = search seated-fits

pub returns : goal.returns
returns c = search all-seated
