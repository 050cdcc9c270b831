use native.Mathlib.Omega.{arith}
use Rattle.line_parts.proofs.shown.Chained.{one-shown}
use Rattle.line_parts.proofs.sites.put_sites.Goals as goal

pub returns : goal.returns
returns c = search (one-shown, arith)
