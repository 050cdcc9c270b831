use Rattle.chain_refusals.proofs.clash.Clashes.{on-epoxide, on-carbocycle}
use Rattle.chain_refusals.proofs.clash.epoxide_on.Goals as goal

pub returns-in-Epoxide : goal.returns-in-Epoxide
returns-in-Epoxide c = search on-epoxide

pub returns-in-Carbocycle : goal.returns-in-Carbocycle
returns-in-Carbocycle c = search on-carbocycle
