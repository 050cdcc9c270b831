use Rattle.chain_text.proofs.fragment.SegmentLaws.{range-ready, segment-done}
use Rattle.chain_text.proofs.fragment.build_chain_segment.Goals as goal

pub assemble_range-p-requires : goal.assemble_range-p-requires
assemble_range-p-requires c = range-ready _ _ _ _ _ _ c.requires.tokens_of c.requires.label_bound

pub returns : goal.returns
returns c = search segment-done
