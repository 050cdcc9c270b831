use Rattle.chain_lists.specs.rising.Order.{sns_of}
use Rattle.chain_lists.proofs.rising.OrderLaws.{sn-none, sn-here, sn-other, sn-all}
use Rattle.chain_lists.proofs.rising.add_sn.Goals as goal
use Rattle.chain_lists.proofs.rising.add_sn.Goals.{then-p-sn, else-p-sn}

pub loop-i-init : goal.loop-i-init
unfolding sns_of
loop-i-init c = sn-none _ _ _

pub loop-i-preserved : goal.loop-i-preserved
loop-i-preserved c =
    elim c.if-p-sn.branch [
      | then-p-sn w ↦ rw (w.q-is, w.places-is) (sn-here _ _ _ _ _ _ _ _ _ _ c.loop-i-test.true w.if-p-sn.true c.loop-i.invariant w.put-q.ensures)
      | else-p-sn w ↦ rw (w.q-is, w.places-is) (sn-other _ _ _ _ _ _ _ _ c.loop-i-test.true w.if-p-sn.false c.loop-i.invariant)
    ]

pub returns : goal.returns
returns c = search sn-all
