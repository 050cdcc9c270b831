use Prim.Native.Nat.{◌-◌}
use mathlib.Core.Path.{◌≡◌}
use lib.ListN.{drop}
use Rattle.chain_refusals.specs.refusals.Rising.{bonds_rise}
use Rattle.chain_refusals.proofs.refusals.bonds_rise.Given as goal

abbrev pub invariant-loop-bond : goal.invariant-loop-bond
invariant-loop-bond l = bonds_rise l.carbon (l.first - 1) l.bonds ≡ bonds_rise l.carbon l.last (drop l.bond-index l.bonds)
