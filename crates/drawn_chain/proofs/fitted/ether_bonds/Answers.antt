use Rattle.drawn_chain.proofs.fitted.Drawing.{adds-as, adds-acyl, adds-alkyl, adds-alkenyl, adds-diol, adds-triol}
use Rattle.drawn_chain.proofs.fitted.ether_bonds.Goals as goal

pub returns-in-Acyl : goal.returns-in-Acyl
returns-in-Acyl c = search (adds-as, adds-acyl)

pub returns-in-EtherAlkyl : goal.returns-in-EtherAlkyl
returns-in-EtherAlkyl c = search (adds-as, adds-alkyl)

pub returns-in-EtherAlkenyl : goal.returns-in-EtherAlkenyl
returns-in-EtherAlkenyl c = search (adds-as, adds-alkenyl)

pub returns-in-SphingoidD : goal.returns-in-SphingoidD
returns-in-SphingoidD c = search (adds-as, adds-diol)

pub returns-in-SphingoidT : goal.returns-in-SphingoidT
returns-in-SphingoidT c = search (adds-as, adds-triol)
