use Rattle.chain_lists.proofs.sn_sites.SitesLaws.{sites-both, sites-lower, sites-upper, sites-neither}
use Rattle.chain_lists.proofs.sn_sites.two_sites.Goals as goal

pub returns-then-has_site-2 : goal.returns-then-has_site-2
returns-then-has_site-2 c = search sites-both

pub returns-then-has_site : goal.returns-then-has_site
returns-then-has_site c = search sites-lower

pub returns-then-has_site-3 : goal.returns-then-has_site-3
returns-then-has_site-3 c = search sites-upper

pub returns : goal.returns
returns c = search sites-neither
