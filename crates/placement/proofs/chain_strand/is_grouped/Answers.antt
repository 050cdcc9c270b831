use native.Mathlib.Omega.{arith}
use mathlib.Core.Bool.{false≢true}
use Rattle.placement.proofs.chain_strand.Laws.{shape-grouped}
use Rattle.placement.proofs.chain_strand.is_grouped.Goals as goal

pub returns-then-x-ne0 : goal.returns-then-x-ne0
returns-then-x-ne0 c = λ e. absurd (false≢true e)

pub returns-then-x-ne0-2 : goal.returns-then-x-ne0-2
returns-then-x-ne0-2 c = λ e. absurd (false≢true e)

pub returns-then-x-ne0-3 : goal.returns-then-x-ne0-3
returns-then-x-ne0-3 c = λ e. absurd (false≢true e)

pub returns-then-x-eq0 : goal.returns-then-x-eq0
returns-then-x-eq0 c = λ e. absurd (false≢true e)

pub returns-then-x : goal.returns-then-x
returns-then-x c = λ e. absurd (false≢true e)

pub returns-then-x-ge-SHORT_ROOM : goal.returns-then-x-ge-SHORT_ROOM
returns-then-x-ge-SHORT_ROOM c = λ e. absurd (false≢true e)

pub returns : goal.returns
returns c =
    λ e.
    shape-grouped c.args.x c.args.part.now (rw c.groups.ensures.are at c.groups.ensures.fit) (omega arith) (omega arith) (omega arith) (λ z. omega arith) (omega arith) (omega arith) (rw c.groups.ensures.are at (c.groups_rise.ensures e))
