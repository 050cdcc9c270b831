use Prim.Native.Nat.{◌≤◌}
use lib.ListN.{length}
use Rattle.token_syntax.specs.form.Parts.{parts_at}
use Rattle.chain_record.specs.parsed.Parsed.{first, bonds_as}
use Rattle.token_head.specs.positions.Each.{each}
use Rattle.token_head.specs.positions.Positions.{ring_bond_at, ring_bond_list}
use Rattle.token_head.proofs.positions.Each.{Onward}
use Rattle.token_head.proofs.positions.parse_ring_bonds.Given as goal

abbrev pub invariant-loop-bond : goal.invariant-loop-bond
invariant-loop-bond l = Onward bonds_as (first l.initial.so_far l.initial.bonds) (first l.so_far l.bonds) (ring_bond_list l.start l.end l.s) (each (ring_bond_at l.start l.end) (parts_at 44 l.t)) × (length l.t ≤ length l.s)

abbrev pub decreases-loop-bond : goal.decreases-loop-bond
decreases-loop-bond l = length l.t
