use Rattle.sheet_frame.proofs.beginning.Laws.{titles-text}
use Rattle.sheet_frame.proofs.beginning.put_titles.Goals as goal

pub returns : goal.returns
returns c = search titles-text
