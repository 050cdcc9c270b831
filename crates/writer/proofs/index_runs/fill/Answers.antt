use native.Mathlib.Omega.{arith}
use Rattle.writer.proofs.index_runs.Runs.{ends-filled}
use Rattle.writer.proofs.index_runs.fill.Goals as goal

pub returns-then-n-lt16 : goal.returns-then-n-lt16
returns-then-n-lt16 c =
    ends-filled 8 c.args.low c.args.n (omega arith) (omega arith) (omega arith) (omega arith) c.fill_each-then-n-lt16.ensures c.fill_each-then-n-lt16-2.ensures

pub returns : goal.returns
returns c =
    ends-filled 16 c.args.low c.args.n (omega arith) (omega arith) (omega arith) (omega arith) c.fill_each-2.ensures c.fill_each-3.ensures
