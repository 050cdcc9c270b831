use Prim.Native.Nat.{ℕ, ◌-◌}
use mathlib.Core.Path.{refl, ap, ◌∙◌}
use mathlib.Core.List.{List}
use lib.Dec.{eqb}
use denote.Bor.{Bor}
use Rattle.std.proofs.Common.{rules, tests}
use Rattle.std.proofs.lemmas.Iterator.Consumers.{nth_from_yields_List}
use Rattle.std.proofs.lemmas.Iterator.Splits.{YieldsList-from_slice_split}
use Rattle.sheet_input.proofs.cells.Laws.{cell-none, cell-split, now-or}
use Rattle.sheet_input.proofs.cells.cell_at.Goals as goal

pub returns-then-place-eq0 : goal.returns-then-place-eq0
returns-then-place-eq0 c = search cell-none

pub returns : goal.returns
returns c =
    let q = nth_from_yields_List c.nth.result c.nth.new.self (c.args.place - 1) c.nth.ensures.ran (YieldsList-from_slice_split _ (λ b. eqb b 9) c.args.row.now c.split.ensures.rest c.split.ensures.done c.split.ensures.closure (λ x r q k. search (rules, tests))) in
    ap (λ (b : Bor (List ℕ)). b.now) c.unwrap_or.ensures ∙ now-or c.nth.result _ refl ∙ cell-split c.args.row.now c.args.place _ c.if-place-eq0.false q
