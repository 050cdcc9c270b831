use Prim.Native.Nat.{suc, ◌+◌, ◌≤◌, ◌<◌, ◌-◌}
use mathlib.Core.Path.{◌≡◌}
use lib.ListN.{length}
use Rattle.chain_rules.specs.chain.Lists.{values_from}
use Rattle.drawn_chain.specs.drawable.Drawn.{drawn_of, groups_drawn}
use Rattle.carbons.specs.Tokens.{tokens}
use Rattle.chain_text.specs.fragment.Text.{carbon_of}
use Rattle.chain_indices.specs.atoms.Atoms.{literal_of}
use Rattle.chain_indices.proofs.atoms.AtomLaws.{Numbering}
use Rattle.chain_indices.proofs.atoms.number_each.Given as goal

abbrev pub invariant-loop-k : goal.invariant-loop-k
invariant-loop-k l = (l.last < length l.bonds) × (l.last < length l.busy) × (1 ≤ l.k) × (l.count + (suc l.last - l.k) ≡ suc l.last - l.from) × Numbering l.first (literal_of (drawn_of l.x l.part) (tokens l.from l.last l.bonds l.busy)) l.initial.index l.at l.index l.p l.count l.next (values_from (carbon_of l.x.acyl l.bonds (groups_drawn (drawn_of l.x l.part))) l.k (suc l.last - l.k))
