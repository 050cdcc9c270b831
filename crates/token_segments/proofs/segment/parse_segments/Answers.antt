use Rattle.chain_record.proofs.parsed.Laws.{first-all}
use Rattle.token_segments.proofs.segment.parse_segments.Goals as goal

pub returns : goal.returns
returns c = search (first-all, c.in-Some.ensures, c.in-Some-first_chunk_mut.ensures, c.in-Some-first_chunk_mut-2.ensures)
