use borrow.Author.Rules.{rules}
use native.Mathlib.Omega.{arith}
use mathlib.Core.Path.{refl, ◌∙◌}
use mathlib.Core.List.{[]}
use lib.ListN.{length-set}
use Rattle.writer.proofs.emit.Laws.{written-length}
use Rattle.chain_indices.specs.atoms.Atoms.{literal_of}
use Rattle.chain_indices.proofs.atoms.AtomLaws.{loaded}
use Rattle.chain_indices.proofs.atoms.Within.{four-place, within_none, within-size, within-four, within-bare, within-busy, within-literal}
use Rattle.chain_indices.proofs.atoms.number_within.Goals as goal

pub loop-k-init : goal.loop-k-init
unfolding literal_of
loop-k-init c = (search rules, search rules, refl, omega arith, omega arith, omega arith, within_none _ _ _ _ (omega arith))

pub put_four-p-requires : goal.put_four-p-requires
put_four-p-requires c =
    let idle = c.idle_four.ensures c.if-idle_four.true in
    (omega (arith, idle.within), omega arith)

pub loop-k-preserved-then-idle_four : goal.loop-k-preserved-then-idle_four
loop-k-preserved-then-idle_four c =
    let idle = c.idle_four.ensures c.if-idle_four.true in
    let place = four-place _ (omega arith) c.put_four-p.ensures in (
      search rules,
      search rules,
      written-length c.put_four-p.ensures ∙ c.loop-k.invariant.2,
      omega arith,
      omega arith,
      omega (arith, place),
      within-four _ _ _ _ _ _ _ _ _ c.loop-k.invariant.6 (search rules) (omega arith) (omega arith) (omega arith) c.requires.tokens_of.bonds c.requires.tokens_of.busy c.requires.roomy.own c.requires.roomy.literal c.requires.tokens_of.laden idle c.put_four-p.ensures,
    )

pub loop-k-preserved-then-busy-k-eq0 : goal.loop-k-preserved-then-busy-k-eq0
loop-k-preserved-then-busy-k-eq0 c = (
  search rules,
  search rules,
  simp length-set c.loop-k.invariant.2,
  omega arith,
  omega arith,
  omega arith,
  within-bare _ _ _ _ _ _ _ _ _ c.loop-k.invariant.6 (search rules) (omega arith) (omega arith) (omega arith) c.requires.tokens_of.bonds c.requires.tokens_of.busy c.requires.roomy.own c.requires.roomy.literal c.requires.tokens_of.laden (omega arith) c.if-busy-k-eq0.true,
)

pub busy_atoms-next-requires : goal.busy_atoms-next-requires
busy_atoms-next-requires c =
    loaded _ c.requires.tokens_of c.loop-k-test.true c.if-busy-k-eq0.false

pub loop-k-preserved : goal.loop-k-preserved
loop-k-preserved c = (
  search rules,
  search rules,
  simp length-set c.loop-k.invariant.2,
  omega arith,
  omega arith,
  omega arith,
  within-busy _ _ [] _ [] [] 0 _ _ c.loop-k.invariant.6 (search rules) (omega arith) (omega arith) _ (omega arith) (omega arith) c.busy_atoms-next.ensures,
)

pub shape_of-index : goal.shape_of-index
shape_of-index c = search within-size

pub returns : goal.returns
returns c = search (within-literal, arith)
