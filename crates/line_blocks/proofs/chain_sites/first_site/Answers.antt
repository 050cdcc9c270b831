use Rattle.line_blocks.proofs.chain_sites.Sites.{skips-acyl, skips-other}
use Rattle.line_blocks.proofs.chain_sites.first_site.Goals as goal

pub returns-then-p : goal.returns-then-p
returns-then-p c = search skips-acyl

pub returns : goal.returns
returns c = search skips-other
