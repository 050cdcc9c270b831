use Rattle.std.proofs.Common.{ℕ, eqb, rules, tests, ◌∙◌}
use Rattle.std.proofs.lemmas.Iterator.{YieldsList-from_slice}
use Rattle.std.proofs.lemmas.Iterator.Search.{all_from_yields_List}
use Rattle.tail_grammar.proofs.ringdigits.Digits.{all-shut}
use Rattle.tail_grammar.proofs.ringdigits.none_open.Goals as goal

pub returns : goal.returns
returns c =
    let opened = c.args.opened.now in
    let all = all_from_yields_List (λ (b : ℕ). eqb b 0) _ _ c.all.result c.all.ensures.ran (YieldsList-from_slice opened cc) (λ x b q k. search (rules, tests)) in
    all ∙ all-shut opened
