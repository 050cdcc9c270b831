use Rattle.chain_refusals.proofs.clash.Clashes.{clash-bonds, clash-epoxide, clash-small, clash-rings}
use Rattle.chain_refusals.proofs.clash.clash.Goals as goal

pub returns-then-repeated_bond : goal.returns-then-repeated_bond
returns-then-repeated_bond c = search clash-bonds

pub returns-then-any_epoxide_on : goal.returns-then-any_epoxide_on
returns-then-any_epoxide_on c = search clash-epoxide

pub returns-then-any_small_ring : goal.returns-then-any_small_ring
returns-then-any_small_ring c = search clash-small

pub returns : goal.returns
returns c = search clash-rings
