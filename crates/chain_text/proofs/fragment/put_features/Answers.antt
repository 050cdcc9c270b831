use native.Mathlib.Omega.{arith}
use Rattle.chain_text.proofs.fragment.RangeLaws.{features-written}
use Rattle.chain_text.proofs.fragment.put_features.Goals as goal

pub returns : goal.returns
returns c = search (features-written, arith)
