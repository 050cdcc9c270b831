use borrow.Author.Rules.{rules}
use native.Mathlib.Omega.{arith}
use mathlib.Core.List.{[]}
use Rattle.chain_pieces.specs.runs.Links.{Links}
use Rattle.chain_pieces.proofs.runs.Laws.{links-none, links-then, links-room, through-then}
use Rattle.chain_text.proofs.grouped_text.DoubleLaws.{before-some, before-none, part_room, parts-size}
use Rattle.chain_text.proofs.grouped_text.put_doubles.Goals as goal
use Rattle.chain_text.proofs.grouped_text.put_doubles.Goals.{then-j-c, else-j-c}

pub loop-double-init : goal.loop-double-init
loop-double-init c = (search rules, search rules, search rules, search rules, search (links-none, arith))

pub put_span-p-requires : goal.put_span-p-requires
put_span-p-requires c = (omega arith, omega arith, omega arith, omega arith, search (part_room, arith))

-- where the ways past the `if` meet, all carbons before the next are written

pub put_near-r-requires : goal.put_near-r-requires
put_near-r-requires c =
    let v : Links c.args.bonds.now [] c.args.k c.args.last c.args.out.now c.args.at c.if-j-c.out c.if-j-c.p c.if-j-c.j =
    elim c.if-j-c.branch [
      | then-j-c w ↦ before-some _ _ _ c.loop-double.invariant.4 (omega arith) w.if-j-c.true (omega arith) w.put_span-p.ensures w.out-is w.p-is w.j-is
      | else-j-c w ↦ before-none _ _ _ c.loop-double.invariant.4 w.out-is w.p-is w.j-is
    ] in
    (omega (arith, v.low), v.high, omega arith, omega arith, links-room _ [] _ _ v (omega arith))

pub loop-double-preserved : goal.loop-double-preserved
loop-double-preserved c =
    let v : Links c.args.bonds.now [] c.args.k c.args.last c.args.out.now c.args.at c.if-j-c.out c.if-j-c.p c.if-j-c.j =
    elim c.if-j-c.branch [
      | then-j-c w ↦ before-some _ _ _ c.loop-double.invariant.4 (omega arith) w.if-j-c.true (omega arith) w.put_span-p.ensures w.out-is w.p-is w.j-is
      | else-j-c w ↦ before-none _ _ _ c.loop-double.invariant.4 w.out-is w.p-is w.j-is
    ] in
    (search rules, search rules, search rules, search rules, links-then _ [] _ _ v (omega arith) c.put_near-r.ensures)

pub put_span-requires : goal.put_span-requires
put_span-requires c = (omega arith, omega arith, omega arith, search rules, search links-room)

pub shape_of-out : goal.shape_of-out
shape_of-out c = search parts-size

pub returns : goal.returns
returns c = search through-then
