use Rattle.forward.proofs.Called.{called-refused, judged-ready, called-drawn}
use Rattle.forward.proofs.draw_in.Goals as goal

pub draw_chains-requires : goal.draw_chains-requires
draw_chains-requires c =
    let a = c.args in
    judged-ready a.class.now a.tail.now a.count a.sn1.now a.sn2.now a.sn3.now a.sn4.now c.judge.result _ _ _ c.judge.ensures
    c.in-Ok.is

pub returns-in-Err : goal.returns-in-Err
returns-in-Err c =
    let a = c.args in
    called-refused a.class.now a.tail.now a.count a.sn1.now a.sn2.now a.sn3.now a.sn4.now c.judge.result _ _ _ c.judge.ensures
    c.in-Err.is c.refused_for.ensures

pub returns-in-Ok : goal.returns-in-Ok
returns-in-Ok c =
    let a = c.args in
    called-drawn a.class.now a.tail.now a.count a.sn1.now a.sn2.now a.sn3.now a.sn4.now c.judge.result _ _ _ c.judge.ensures
    c.in-Ok.is c.draw_chains.ensures
