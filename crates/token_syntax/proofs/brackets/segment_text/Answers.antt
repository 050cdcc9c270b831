use Rattle.token_syntax.proofs.brackets.Laws.{segment-is}
use Rattle.token_syntax.proofs.brackets.segment_text.Goals as goal

pub returns : goal.returns
returns c = search segment-is
