use native.Mathlib.Omega.{arith}
use Prim.Native.Nat.{◌+◌, ◌-◌, ◌≤◌, ◌<◌}
use lib.ListN.{length, get_or}
use Rattle.sheet_input.proofs.cells.Laws.{cell-none, cell-over, cell-low, cell-high, cell_cut}
use borrow.Author.Rules.{rules}
use Rattle.sheet_input.proofs.cells.cell_in.Goals as goal

pub returns-then-place-eq0 : goal.returns-then-place-eq0
returns-then-place-eq0 c = search cell-none

pub returns-then-count-place : goal.returns-then-count-place
returns-then-count-place c = search cell-over

pub overflow_sub-to : goal.overflow_sub-to
overflow_sub-to c =
    let l : get_or c.args.starts.now (c.args.place - 1) 0 < get_or c.args.starts.now c.args.place 0 = search cell-low in
    omega arith

pub slice_bounds-result-count-2 : goal.slice_bounds-result-count-2
slice_bounds-result-count-2 c =
    let l : get_or c.args.starts.now (c.args.place - 1) 0 < get_or c.args.starts.now c.args.place 0 = search cell-low in
    omega arith

pub slice_bounds-result-start-2 : goal.slice_bounds-result-start-2
slice_bounds-result-start-2 c =
    let l : get_or c.args.starts.now (c.args.place - 1) 0 < get_or c.args.starts.now c.args.place 0 = search cell-low in
    let h : get_or c.args.starts.now c.args.place 0 ≤ length c.args.row.now + 1 = search cell-high in
    search rules

pub slice_bounds-result-end-2 : goal.slice_bounds-result-end-2
slice_bounds-result-end-2 c =
    let l : get_or c.args.starts.now (c.args.place - 1) 0 < get_or c.args.starts.now c.args.place 0 = search cell-low in
    let h : get_or c.args.starts.now c.args.place 0 ≤ length c.args.row.now + 1 = search cell-high in
    search rules

pub returns : goal.returns
returns c = search cell_cut
