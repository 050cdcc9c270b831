use Rattle.chain_lists.proofs.sn_sites.SitesLaws.{site-here, site-lacks, site-past}
use Rattle.chain_lists.proofs.sn_sites.one_site.Goals as goal

pub returns-then-has_site : goal.returns-then-has_site
returns-then-has_site c = search site-here

pub returns-else-has_site : goal.returns-else-has_site
returns-else-has_site c = search site-lacks

pub returns-else-k-lt-MAX_CHAINS : goal.returns-else-k-lt-MAX_CHAINS
returns-else-k-lt-MAX_CHAINS c = search site-past
