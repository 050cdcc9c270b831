use borrow.Author.Rules.{length_unmapped}
use Rattle.chain_pieces.proofs.branches.Laws.{branch-within, branch-written}
use Rattle.chain_pieces.proofs.branches.put_table_branch.Goals as goal

pub slice_bounds-put_all-end : goal.slice_bounds-put_all-end
slice_bounds-put_all-end c = search (branch-within, length_unmapped)

pub returns : goal.returns
returns c = search branch-written
