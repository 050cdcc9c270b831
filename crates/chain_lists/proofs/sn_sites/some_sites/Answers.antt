use native.Mathlib.Omega.{arith}
use lib.ListN.{length-take}
use Rattle.chain_lists.proofs.sn_sites.SitesLaws.{sites-first, sites-more, sites-base, sites-past, sites-all}
use borrow.Author.Rules.{rules}
use Rattle.chain_lists.proofs.sn_sites.some_sites.Goals as goal
use Rattle.chain_lists.proofs.sn_sites.some_sites.Goals.{then-k-lt-MAX_CHAINS+then-has_site, then-k-lt-MAX_CHAINS+else-has_site, else-k-lt-MAX_CHAINS}

pub loop-place-init : goal.loop-place-init
loop-place-init c = (omega arith, search rules, sites-first _)

pub loop-place-preserved : goal.loop-place-preserved
loop-place-preserved c =
    let v = c.loop-place.invariant in
    let few = length-take c.in_places-n.result c.args.order.items in
    elim c.if-k-lt-MAX_CHAINS.branch [
      | then-k-lt-MAX_CHAINS+then-has_site w ↦
          rw (w.sites-is, w.count-is)
          (omega (arith, v.0), search rules, sites-more _ _ _ _ _ _ _ _ c.told-notes c.loop-place-test.true w.if-k-lt-MAX_CHAINS.true (omega (arith, v.0, few)) v.2 w.site_of.ensures w.has_site.ensures w.if-has_site.true)
      | then-k-lt-MAX_CHAINS+else-has_site w ↦
          rw (w.sites-is, w.count-is)
          (omega (arith, v.0), v.1, sites-base _ _ _ _ _ _ _ c.told-notes c.loop-place-test.true w.if-k-lt-MAX_CHAINS.true v.2 w.has_site.ensures w.if-has_site.false)
      | else-k-lt-MAX_CHAINS w ↦
          rw (w.sites-is, w.count-is) (omega (arith, v.0), v.1, sites-past _ _ _ _ _ c.told-notes c.loop-place-test.true w.if-k-lt-MAX_CHAINS.false v.2)
    ]

pub returns : goal.returns
returns c = search sites-all
