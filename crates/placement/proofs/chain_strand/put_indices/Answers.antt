use Rattle.placement.proofs.chain_strand.Laws.{indexed}
use Rattle.placement.proofs.chain_strand.put_indices.Goals as goal

pub returns : goal.returns
returns c = search indexed
