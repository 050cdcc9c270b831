use Rattle.sheet_input.proofs.cellwords.Laws.{four-tokens, three-tokens, two-tokens, one_token, no-token}
use Rattle.sheet_input.proofs.cellwords.token_count.Goals as goal

pub returns-then-sn4-ne0 : goal.returns-then-sn4-ne0
returns-then-sn4-ne0 c = search four-tokens

pub returns-then-sn3-ne0 : goal.returns-then-sn3-ne0
returns-then-sn3-ne0 c = search three-tokens

pub returns-then-sn2-ne0 : goal.returns-then-sn2-ne0
returns-then-sn2-ne0 c = search two-tokens

pub returns-then-sn1-ne0 : goal.returns-then-sn1-ne0
returns-then-sn1-ne0 c = search one_token

pub returns : goal.returns
returns c = search no-token
