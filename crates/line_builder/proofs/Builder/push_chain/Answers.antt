use native.Mathlib.Omega.{arith}
use mathlib.Core.Path.{sym}
use Rattle.line_builder.proofs.Pushes.{chain-none, chain-some, chain-carried}
use Rattle.line_builder.proofs.Builder.push_chain.Goals as goal

pub returns-then-x-eq0 : goal.returns-then-x-eq0
returns-then-x-eq0 c = search (chain-none, arith)

pub push_fragment-requires : goal.push_fragment-requires
push_fragment-requires c = chain-carried _ _ _ _ _ _ c.args.site c.shape_at-x.ensures c.in-Some.ensures c.if-x-eq0.false c.requires

pub push_unlisted-requires : goal.push_unlisted-requires
push_unlisted-requires c = chain-carried _ _ _ _ _ _ c.args.site c.shape_at-x.ensures (sym c.in-None.ensures) c.if-x-eq0.false c.requires

pub returns-in-Some : goal.returns-in-Some
returns-in-Some c = chain-some _ _ _ _ _ _ _ c.shape_at-x.ensures c.in-Some.ensures c.if-x-eq0.false c.push_fragment.ensures

pub returns-in-None : goal.returns-in-None
returns-in-None c = chain-some _ _ _ _ _ _ _ c.shape_at-x.ensures (sym c.in-None.ensures) c.if-x-eq0.false c.push_unlisted.ensures
