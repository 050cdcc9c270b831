use Rattle.drawn_chain.proofs.fitted.Drawing.{diol-groups, triol-groups, no-triol-acyl, no-triol-alkyl, no-triol-alkenyl, no-triol-diol}
use Rattle.drawn_chain.proofs.fitted.base_groups.Goals as goal

pub returns-in-Acyl : goal.returns-in-Acyl
returns-in-Acyl c = search (diol-groups, no-triol-acyl)

pub returns-in-EtherAlkyl : goal.returns-in-EtherAlkyl
returns-in-EtherAlkyl c = search (diol-groups, no-triol-alkyl)

pub returns-in-EtherAlkenyl : goal.returns-in-EtherAlkenyl
returns-in-EtherAlkenyl c = search (diol-groups, no-triol-alkenyl)

pub returns-in-SphingoidD : goal.returns-in-SphingoidD
returns-in-SphingoidD c = search (diol-groups, no-triol-diol)

pub returns-in-SphingoidT : goal.returns-in-SphingoidT
returns-in-SphingoidT c = search triol-groups
