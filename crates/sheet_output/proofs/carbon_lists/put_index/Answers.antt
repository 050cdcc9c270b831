use native.Mathlib.Omega.{arith}
use Rattle.line_parts.proofs.shown.Laws.{part-text}
use Rattle.sheet_output.proofs.carbon_lists.put_index.Goals as goal

pub returns : goal.returns
returns c = search (part-text, arith)
