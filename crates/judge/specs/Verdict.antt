-- Whether a request is refused, before its slices are looked at. 01, Accepted, or refused by whom: "Order: 20, 21, per token 31 and 11, per
-- chain 22, then 23, per chain 32 then 33, per chain 12 to 15, 41." Assumes nothing.
use Rattle.std.specs.Prelude.{ℕ, suc, Bool, true, cond, not, List, [], ◌∷◌, length, take, eqb, ltb}
use Rattle.chain_record.specs.plain.Chain.{Chain}
use Rattle.token_reader.specs.token.Request as token
use Rattle.tail_grammar.specs.tail.Grammar.{is_tail}
use Rattle.chain_rules.specs.declared.chain.Role.{Role}
use Rattle.chain_rules.specs.chain.Lists.{any_of}
use Rattle.chain_rules.specs.chain.Refusals.{wrong_kind, place_refusal, draw_refusal}
use Rattle.template_rules.specs.declared.Class.{Class}
use Rattle.template_rules.specs.Template.{fewest, most, role_of, has_tail}
use Rattle.std.specs.Prelude.{Option, None, Some}
use Rattle.class_rules.specs.class.Class.{class_of}

-- a refusal by its number and the token's place from 1, 0 for none; or the class and the chains of the tokens
pub data Verdict : Type 0 where
  Refused : ℕ → ℕ → Verdict
  Drawable : Class → List Chain → Verdict

-- a fault of a request: none, or a refusal's number and the token's place from 1, 0 for none
pub data Fault : Type 0 where
  Nothing : Fault
  Due : ℕ → ℕ → Fault

-- the first `count` of the four
abbrev pub tokens : ℕ → List ℕ → List ℕ → List ℕ → List ℕ → List (List ℕ)
tokens count sn1 sn2 sn3 sn4 = take count (sn1 ∷ sn2 ∷ sn3 ∷ sn4 ∷ [])

-- a number other than 0 is a fault at its place
unfoldable pub fault_at : ℕ → ℕ → Fault
fault_at n p = cond (eqb n 0) Nothing (Due n p)

-- a fault, or the next one where there is none
abbrev pub earlier_of : Fault → Fault → Fault
earlier_of Nothing g = g
earlier_of (Due n p) g = Due n p

-- the first chain, from the place p on, to which a test gives a number other than 0 where it stands
unfoldable pub first_of : (Role → Chain → ℕ) → Class → ℕ → List Chain → Fault
first_of test c p [] = Nothing
first_of test c p (d ∷ ds) = earlier_of (fault_at (test (role_of c p) d) p) (first_of test c (suc p) ds)

-- 22, "wrong kind of chain for its place", or 0
unfoldable pub kind_refusal : Role → Chain → ℕ
kind_refusal r d = cond (wrong_kind r d) 22 0

-- 23, "tail outside the grammar"; "The tail is empty elsewhere"
unfoldable pub wrong_tail : Class → List ℕ → Bool
wrong_tail c t = cond (has_tail c) (not (is_tail t)) (not (eqb (length t) 0))

-- 01's number and place of each case: nothing is due, and what follows; or the refusal
abbrev pub or_else : Fault → Verdict → Verdict
or_else Nothing v = v
or_else (Due n p) v = Refused n p

-- 32 and 33 of every chain, then 12 to 15
unfoldable pub judge_drawn : Class → List Chain → Verdict
judge_drawn c ds = or_else (first_of place_refusal c 1 ds) (or_else (first_of draw_refusal c 1 ds) (Drawable c ds))

-- 22 of every chain, then 23, then what is asked of the chains as they are drawn
unfoldable pub judge_chains : Class → List ℕ → List Chain → Verdict
judge_chains c t ds = or_else (first_of kind_refusal c 1 ds) (cond (wrong_tail c t) (Refused 23 0) (judge_drawn c ds))

-- the chains, or the first token that is refused
abbrev pub judge_read : Class → List ℕ → token.Verdict → Verdict
judge_read c t (token.First n p) = Refused n p
judge_read c t (token.All ds) = judge_chains c t ds

-- 21, "wrong number of tokens"
unfoldable pub wrong_count : Class → ℕ → Bool
wrong_count c count = cond (ltb count (fewest c)) true (ltb (most c) count)

-- 21, then what is asked of the tokens
unfoldable pub judge_tokens : Class → List ℕ → ℕ → List (List ℕ) → Verdict
judge_tokens c t count ss = cond (wrong_count c count) (Refused 21 0) (judge_read c t (token.tokens_of ss))

-- 01's number and the value of each case of a class code: 20, "class unknown"; or the class, and what is asked of its request
abbrev pub judge_class : Option Class → List ℕ → ℕ → List (List ℕ) → Verdict
judge_class None t count ss = Refused 20 0
judge_class (Some c) t count ss = judge_tokens c t count ss

-- a class code, a tail, a number of tokens, and that many of the tokens
unfoldable pub verdict : List ℕ → List ℕ → ℕ → List (List ℕ) → Verdict
verdict class t count ss = judge_class (class_of class) t count ss

-- the numbers by which a request is refused before its slices are looked at, in their order
unfoldable pub is_refusal : ℕ → Bool
unfolding any_of
is_refusal n = any_of (eqb n) (20 ∷ 21 ∷ 31 ∷ 11 ∷ 22 ∷ 23 ∷ 32 ∷ 33 ∷ 12 ∷ 13 ∷ 14 ∷ 15 ∷ [])
