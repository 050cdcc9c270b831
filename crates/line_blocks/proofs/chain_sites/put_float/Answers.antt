use Rattle.line_blocks.proofs.chain_sites.Sites.{float-put}
use Rattle.line_blocks.proofs.chain_sites.put_float.Goals as goal

pub returns : goal.returns
returns c = search float-put
