use Rattle.class_lines.proofs.longest.Numbers.{sites-fit, sites-bounded}
use Rattle.class_lines.proofs.longest.sites_most.Goals as goal

pub overflow_mul-result-2 : goal.overflow_mul-result-2
overflow_mul-result-2 c = search sites-fit

pub returns : goal.returns
returns c = search sites-bounded
