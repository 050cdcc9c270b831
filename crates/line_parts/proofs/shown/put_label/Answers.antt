use Rattle.line_parts.proofs.shown.Laws.{label-text}
use Rattle.line_parts.proofs.shown.put_label.Goals as goal

pub returns : goal.returns
returns c = search label-text
