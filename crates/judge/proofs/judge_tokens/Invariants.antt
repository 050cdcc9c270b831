use mathlib.Core.Path.{◌≡◌}
use mathlib.Core.List.{map}
use lib.ListN.{length, take}
use Rattle.token_reader.specs.token.Request.{tokens_of}
use Rattle.drawn_chain.specs.drawable.Chains.{items_of}
use Rattle.judge.specs.Judged.{firsts_of}
use Rattle.judge.proofs.Laws.{Met}
use Rattle.judge.proofs.judge_tokens.Given as goal

abbrev pub invariant-loop-i : goal.invariant-loop-i
invariant-loop-i l = record {
  met : Met l.class (firsts_of l.faults) (take l.i (items_of l.shapes l.lists)) (tokens_of (take l.i (map (λ t. t.now) l.tokens)));
  four : length l.shapes ≡ 4;
}
