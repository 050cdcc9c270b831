use Rattle.chain_text.proofs.grouped_text.BareLaws.{bare-room, bare-done}
use Rattle.chain_text.proofs.grouped_text.build_bare.Goals as goal

pub put_carbons-requires : goal.put_carbons-requires
put_carbons-requires c = search bare-room

pub returns : goal.returns
returns c = search bare-done
