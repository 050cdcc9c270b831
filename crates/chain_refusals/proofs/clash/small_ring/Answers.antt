use Rattle.chain_refusals.proofs.clash.Clashes.{small-epoxide, small-carbocycle}
use Rattle.chain_refusals.proofs.clash.small_ring.Goals as goal

pub returns-in-Epoxide : goal.returns-in-Epoxide
returns-in-Epoxide c = search small-epoxide

pub returns-in-Carbocycle : goal.returns-in-Carbocycle
returns-in-Carbocycle c = search small-carbocycle
