use Rattle.line_blocks.proofs.blocks.Bare.{plain-none, plain-put}
use Rattle.line_blocks.proofs.blocks.put_plain.Goals as goal

pub returns-then-n-eq0 : goal.returns-then-n-eq0
returns-then-n-eq0 c = search plain-none

pub returns : goal.returns
returns c = search plain-put
