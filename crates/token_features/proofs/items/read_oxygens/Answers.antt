use Rattle.token_features.proofs.features.Laws.{no-abbreviation, no-oxygen, oxygen-counted}
use Rattle.token_features.proofs.items.read_oxygens.Goals as goal

pub returns-then-abbr-eq0 : goal.returns-then-abbr-eq0
returns-then-abbr-eq0 c = search no-abbreviation

pub returns-then-abbr-ne79 : goal.returns-then-abbr-ne79
returns-then-abbr-ne79 c = search no-oxygen

pub returns : goal.returns
returns c = search oxygen-counted
