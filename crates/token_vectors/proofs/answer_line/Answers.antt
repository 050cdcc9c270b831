use borrow.Author.Rules.{length_unmapped}
use Rattle.token_vectors.proofs.Laws.{line-within}
use Rattle.token_vectors.proofs.answer_line.Goals as goal

pub slice_bounds-write_answer-end : goal.slice_bounds-write_answer-end
slice_bounds-write_answer-end c = search (line-within, length_unmapped)
