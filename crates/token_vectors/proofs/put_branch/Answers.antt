use borrow.Author.Rules.{length_unmapped}
use Rattle.group_table.proofs.groups.Laws.{branch-within}
use Rattle.token_vectors.proofs.put_branch.Goals as goal

pub slice_bounds-put_all-end : goal.slice_bounds-put_all-end
slice_bounds-put_all-end c = search (branch-within, length_unmapped)
