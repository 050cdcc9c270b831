use native.Mathlib.Omega.{arith}
use lib.ListN.{length-take}
use Rattle.chain_lists.proofs.listing.ListsLaws.{lists-first, lists-more, lists-past, lists-all}
use borrow.Author.Rules.{rules}
use Rattle.chain_lists.proofs.listing.some_lists.Goals as goal
use Rattle.chain_lists.proofs.listing.some_lists.Goals.{then-k-lt-MAX_CHAINS, else-k-lt-MAX_CHAINS}

pub loop-place-init : goal.loop-place-init
loop-place-init c = (omega arith, search rules, lists-first _)

pub loop-place-preserved : goal.loop-place-preserved
loop-place-preserved c =
    let v = c.loop-place.invariant in
    let few = length-take c.in_places-n.result c.args.order.items in
    elim c.if-k-lt-MAX_CHAINS.branch [
      | then-k-lt-MAX_CHAINS w ↦
          rw (w.lists-is, w.count-is)
          (omega (arith, v.0), search rules, lists-more _ _ _ _ _ _ _ c.told-notes c.loop-place-test.true w.if-k-lt-MAX_CHAINS.true (omega (arith, v.0, few)) w.list_at.ensures v.2)
      | else-k-lt-MAX_CHAINS w ↦
          rw (w.lists-is, w.count-is) (omega (arith, v.0), v.1, lists-past _ _ _ _ _ c.told-notes c.loop-place-test.true w.if-k-lt-MAX_CHAINS.false v.2)
    ]

pub returns : goal.returns
returns c = search lists-all
