use Rattle.writer.proofs.store.Laws.{written_small}
use Rattle.writer.proofs.figures.put_number.Goals as goal

pub returns-then-n-lt10 : goal.returns-then-n-lt10
returns-then-n-lt10 c = search written_small
