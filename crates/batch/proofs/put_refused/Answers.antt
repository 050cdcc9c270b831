use Rattle.batch.proofs.ReplyLaws.{refused-text}
use native.Mathlib.Omega.{arith}
use Rattle.batch.proofs.put_refused.Goals as goal

pub returns : goal.returns
returns c = search (refused-text, arith)
