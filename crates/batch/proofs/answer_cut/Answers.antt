use native.Mathlib.Omega.{arith}
use Rattle.batch.proofs.ReplyLaws.{row-drawn}
use Rattle.batch.proofs.InPlace.{in-place-room, in-place-accepted, in-place-refused}
use Rattle.batch.proofs.answer_cut.Goals as goal

pub returns-then-saturating_sub : goal.returns-then-saturating_sub
returns-then-saturating_sub c = row-drawn _ _ _ c.read_cut.ensures _ _ _ c.cell_under-class.ensures c.cell_under-tail.ensures c.cell_under-sn1.ensures c.cell_under-sn2.ensures c.cell_under-sn3.ensures c.cell_under-sn4.ensures _ c.in-Some.is c.answer_apart.ensures

pub put_around-next-requires : goal.put_around-next-requires
put_around-next-requires c = (in-place-room _ _ _ _ _ _ _ _ _ (omega (arith, c.saturating_sub.ensures, c.if-saturating_sub.false)) c.draw_lent-answer.ensures c.if-number-eq0.true, c.requires.1)

pub returns-then-number-eq0 : goal.returns-then-number-eq0
returns-then-number-eq0 c = row-drawn _ _ _ c.read_cut.ensures _ _ _ c.cell_under-class.ensures c.cell_under-tail.ensures c.cell_under-sn1.ensures c.cell_under-sn2.ensures c.cell_under-sn3.ensures c.cell_under-sn4.ensures _ c.in-Some.is (in-place-accepted _ _ _ _ _ _ _ _ _ (omega (arith, c.saturating_sub.ensures, c.if-saturating_sub.false)) c.draw_lent-answer.ensures (omega arith) c.if-number-eq0.true c.put_around-next.ensures)

pub returns : goal.returns
returns c = row-drawn _ _ _ c.read_cut.ensures _ _ _ c.cell_under-class.ensures c.cell_under-tail.ensures c.cell_under-sn1.ensures c.cell_under-sn2.ensures c.cell_under-sn3.ensures c.cell_under-sn4.ensures _ c.in-Some.is (in-place-refused _ _ _ _ _ _ _ _ _ (omega (arith, c.saturating_sub.ensures, c.if-saturating_sub.false)) c.draw_lent-answer.ensures c.if-number-eq0.false c.put_refused-next.ensures)
