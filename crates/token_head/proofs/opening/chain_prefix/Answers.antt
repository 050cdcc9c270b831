use Rattle.token_head.proofs.opening.Laws.{prefix-ether, prefix-alkenyl, prefix-short, prefix-other, prefix-letter}
use Rattle.token_head.proofs.opening.chain_prefix.Goals as goal

pub returns-then-starts_with : goal.returns-then-starts_with
returns-then-starts_with c = search prefix-ether

pub returns-then-starts_with-2 : goal.returns-then-starts_with-2
returns-then-starts_with-2 c = search prefix-alkenyl

pub returns-then-s-lt2 : goal.returns-then-s-lt2
returns-then-s-lt2 c = search prefix-short

pub returns-then-not-is_digit : goal.returns-then-not-is_digit
returns-then-not-is_digit c = search prefix-other

pub returns : goal.returns
returns c = search prefix-letter
