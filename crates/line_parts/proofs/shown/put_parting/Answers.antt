use native.Mathlib.Omega.{arith}
use Rattle.line_parts.proofs.shown.Laws.{parting-more, parting-none}
use Rattle.line_parts.proofs.shown.put_parting.Goals as goal

pub returns-then-more : goal.returns-then-more
returns-then-more c = search parting-more

pub returns : goal.returns
returns c = search (parting-none, arith)
