use Rattle.token_head.proofs.positions.Laws.{position-blank, position-plain, position-cis, position-trans}
use Rattle.token_head.proofs.positions.read_position.Goals as goal

pub returns-then-t-eq0 : goal.returns-then-t-eq0
returns-then-t-eq0 c = search position-blank

pub returns-in-Unstated : goal.returns-in-Unstated
returns-in-Unstated c = search position-plain

pub returns-in-Cis : goal.returns-in-Cis
returns-in-Cis c = search position-cis

pub returns-in-Trans : goal.returns-in-Trans
returns-in-Trans c = search position-trans
