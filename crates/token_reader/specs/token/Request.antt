-- The tokens of a request, read in order. 01, Accepted, or refused by whom: "Refused: a number, the token's place from 1". Assumes nothing.
use Rattle.std.specs.Prelude.{ℕ, ◌+◌, List, [], ◌∷◌, ◌++◌, length}
use Rattle.chain_record.specs.plain.Chain.{Chain, Outcome, Read, Refused}
use Rattle.token_reader.specs.token.Token.{token_of}

-- the chains of all tokens, or the first refusal: its number and the token's place
pub data Verdict : Type 0 where
  All : List Chain → Verdict
  First : ℕ → ℕ → Verdict

-- a token after others: its chain, or its refusal where none came before
abbrev pub with_token : Verdict → Outcome → Verdict
with_token (All ds) (Read d) = All (ds ++ (d ∷ []))
with_token (All ds) (Refused n) = First n (length ds + 1)
with_token (First n p) o = First n p

unfoldable pub tokens_from : Verdict → List (List ℕ) → Verdict
tokens_from v [] = v
tokens_from v (t ∷ ts) = tokens_from (with_token v (token_of t)) ts

-- the tokens in order
unfoldable pub tokens_of : List (List ℕ) → Verdict
tokens_of ts = tokens_from (All []) ts
