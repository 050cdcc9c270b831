use Rattle.drawn_chain.proofs.fitted.Drawing.{fits-some}
use Rattle.judge.proofs.Laws.{looked-refused, looked}
use Rattle.judge.proofs.see.Goals as goal

pub place_refusal-requires : goal.place_refusal-requires
place_refusal-requires c = fits-some c.drawn_as-shape.ensures

pub draw_refusal-requires : goal.draw_refusal-requires
draw_refusal-requires c = fits-some c.drawn_as-shape.ensures

pub returns-in_err-said : goal.returns-in_err-said
returns-in_err-said c = search (looked-refused, c.in_err-said.was, c.from_residual.ensures)

pub returns : goal.returns
returns c = looked _ _ _ _ _ _ c.read.ensures _ _ _ _ _ _ c.in_ok-said.was c.drawn_as-shape.ensures c.kind_refusal.ensures c.place_refusal.ensures c.draw_refusal.ensures
