use Rattle.std.proofs.Common.{[]}
use Rattle.tail_grammar.proofs.tail.Scan.{step_less, run_on, run-early, too-deep, branch-refused, branch-cut, branch-open, branch_less, branch-done}
use Rattle.tail_grammar.proofs.tail.+read_run.Goals as goal

pub loop-r-smaller-then-b-ne40 : goal.loop-r-smaller-then-b-ne40
loop-r-smaller-then-b-ne40 t c = step_less _ _ _ _ _ (c.in_ok-r.ensures [])

pub loop-r-preserved-then-b-ne40 : goal.loop-r-preserved-then-b-ne40
loop-r-preserved-then-b-ne40 t c = run_on _ _ _ _ _ _ _ c.loop-r.invariant c.loop-r-test.true _ _ _ c.in_ok-r.ensures

pub returns-then-not-follows_atom : goal.returns-then-not-follows_atom
returns-then-not-follows_atom t c = search run-early

pub returns-then-depth-eq0 : goal.returns-then-depth-eq0
returns-then-depth-eq0 t c = search too-deep

pub returns-in_err-inner : goal.returns-in_err-inner
returns-in_err-inner t c =
    rw c.from_residual-in_err-inner.ensures
    (branch-refused _ _ _ _ _ _ _ c.loop-r.invariant c.loop-r-test.true c.if-b-ne40.false _ c.follows_atom.ensures c.if-not-follows_atom.false c.if-depth-eq0.false c.in_err-inner.ensures)

pub returns-then-inner-s : goal.returns-then-inner-s
returns-then-inner-s t c =
    branch-cut _ _ _ _ _ _ _ c.loop-r.invariant c.loop-r-test.true c.if-b-ne40.false _ c.follows_atom.ensures c.if-not-follows_atom.false c.if-depth-eq0.false _ _ _
    c.in_ok-inner.ensures
    c.if-inner-s.true

pub returns-in_err-r-2 : goal.returns-in_err-r-2
returns-in_err-r-2 t c =
    rw c.from_residual-in_err-r-2.ensures
    (branch-open _ _ _ _ _ _ _ c.loop-r.invariant c.loop-r-test.true c.if-b-ne40.false _ c.follows_atom.ensures c.if-not-follows_atom.false c.if-depth-eq0.false _ _ _
    c.in_ok-inner.ensures
    c.if-inner-s.false
    c.in_err-r-2.ensures)

pub loop-r-smaller : goal.loop-r-smaller
loop-r-smaller t c =
    branch_less _ _ _ _ _ _ _ c.loop-r.invariant c.loop-r-test.true c.if-b-ne40.false _ c.follows_atom.ensures c.if-not-follows_atom.false c.if-depth-eq0.false _ _ _
    c.in_ok-inner.ensures
    c.if-inner-s.false
    _
    c.in_ok-r-2.ensures

pub loop-r-preserved : goal.loop-r-preserved
loop-r-preserved t c =
    branch-done _ _ _ _ _ _ _ c.loop-r.invariant c.loop-r-test.true c.if-b-ne40.false _ c.follows_atom.ensures c.if-not-follows_atom.false c.if-depth-eq0.false _ _ _
    c.in_ok-inner.ensures
    c.if-inner-s.false
    _
    c.in_ok-r-2.ensures
