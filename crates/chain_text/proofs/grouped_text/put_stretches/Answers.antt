use borrow.Author.Rules.{rules}
use Prim.Native.Nat.{◌≤◌, ◌<◌}
use lib.ListN.{length}
use native.Mathlib.Omega.{arith}
use Rattle.chain_text.proofs.grouped_text.TurnLaws.{turn-first, turn_low, turn-carbons, turn-bonds, turn-room, turn-next, turn-length, turns-end}
use Rattle.chain_text.proofs.grouped_text.put_stretches.Goals as goal

pub loop-i-init : goal.loop-i-init
loop-i-init c = (search rules, search rules, search (turn-first, arith))

pub put_through-p-requires : goal.put_through-p-requires
put_through-p-requires c = (search rules, search turn_low, search turn-carbons, search turn-bonds, search turn-room)

pub overflow_add-j : goal.overflow_add-j
overflow_add-j c = omega (arith, turn-carbons _ c.loop-i.invariant.2 c.stop-to.ensures c.loop-i.invariant.0)

pub loop-i-preserved : goal.loop-i-preserved
loop-i-preserved c =
    let within : c.loop-i.i ≤ length c.args.groups.now = omega arith in
    (search rules, search rules, search (turn-next, arith))

pub shape_of-out : goal.shape_of-out
shape_of-out c = search (turn-length, arith)

pub returns : goal.returns
returns c =
    let past : length c.args.groups.now < c.loop-i.i = omega arith in
    search turns-end
