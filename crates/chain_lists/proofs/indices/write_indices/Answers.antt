use native.Mathlib.Omega.{arith}
use Rattle.chain_lists.proofs.indices.IndexLaws.{indices-none, indices-more, indices-past, indices-all}
use Rattle.chain_lists.proofs.indices.write_indices.Goals as goal
use Rattle.chain_lists.proofs.indices.write_indices.Goals.{then-k-lt-MAX_CHAINS, else-k-lt-MAX_CHAINS}

pub loop-place-init : goal.loop-place-init
loop-place-init c = indices-none _ _ _

pub loop-place-preserved : goal.loop-place-preserved
loop-place-preserved c =
    elim c.if-k-lt-MAX_CHAINS.branch [
      | then-k-lt-MAX_CHAINS w ↦
          rw (w.out-is, w.q-is)
          (indices-more _ _ _ _ _ w.start_of-from.result (omega arith) c.told-notes c.loop-place-test.true w.if-k-lt-MAX_CHAINS.true w.start_of-from.ensures c.loop-place.invariant w.put_part-q.ensures)
      | else-k-lt-MAX_CHAINS w ↦
          rw (w.out-is, w.q-is) (indices-past _ _ _ _ c.told-notes c.loop-place-test.true w.if-k-lt-MAX_CHAINS.false c.loop-place.invariant)
    ]

pub returns : goal.returns
returns c = search indices-all
