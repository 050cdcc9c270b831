use native.Mathlib.Omega.{arith}
use Rattle.line_parts.proofs.shown.Laws.{part-text}
use Rattle.line_parts.proofs.sites.put_site.Goals as goal

pub returns : goal.returns
returns c = search (part-text, arith)
