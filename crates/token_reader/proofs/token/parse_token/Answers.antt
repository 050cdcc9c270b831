use Rattle.token_reader.proofs.token.Laws.{bonds-short, groups-short, rings-short, token-in}
use Rattle.token_reader.proofs.token.parse_token.Goals as goal

pub returns-in_default : goal.returns-in_default
returns-in_default c = search (bonds-short, c.in_default.ensures)

pub returns-in_default-first_chunk_mut : goal.returns-in_default-first_chunk_mut
returns-in_default-first_chunk_mut c = search (groups-short, c.in-Some.ensures, c.in_default-first_chunk_mut.ensures)

pub returns-in_default-first_chunk_mut-2 : goal.returns-in_default-first_chunk_mut-2
returns-in_default-first_chunk_mut-2 c = search (rings-short, c.in-Some.ensures, c.in-Some-first_chunk_mut.ensures, c.in_default-first_chunk_mut-2.ensures)

pub returns : goal.returns
returns c =
    token-in _ _ _ _ _ _ _ _ _ _ c.read_token.result c.in-Some.ensures.cases.enough c.in-Some-first_chunk_mut.ensures.cases.enough c.in-Some-first_chunk_mut-2.ensures.cases.enough
    c.read_token.ensures
