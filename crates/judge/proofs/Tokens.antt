-- Laws of the tokens of a request: each chain that was read is sound, and there are as many as tokens; or a token is refused, by 31 or by 11,
-- at the place of one of them.
-- Assumes nothing.
use Prim.Native.Nat.{ℕ, ◌+◌, ◌≤◌}
use native.Mathlib.Omega.{arith}
use mathlib.Core.Path.{◌≡◌, refl, subst}
use mathlib.Core.Bool.{true}
use mathlib.Core.List.{List, [], ◌∷◌, ◌++◌}
use lib.ListN.{length, length-append}
use Rattle.chain_record.specs.plain.Chain.{Chain, Outcome, Read, Refused}
use Rattle.chain_record.proofs.plain.Sound.{Every, Sound}
use Rattle.token_reader.specs.token.Token.{token_of}
use Rattle.token_reader.specs.token.Request.{Verdict, All, First, with_token, tokens_from, tokens_of}
use Rattle.token_reader.proofs.token.Sound.{token-sound}
use Rattle.judge.specs.Verdict.{is_refusal}
use Rattle.judge.proofs.Numbers.{token-number}

-- of n tokens: as many chains, each of them sound, or a refusal
abbrev SoundTo : ℕ → Verdict → Type 0
SoundTo n (All ds) = Every Sound ds × (length ds ≡ n)
SoundTo n (First m p) = (is_refusal m ≡ true) × (p ≤ n)

every_one : (ds : List Chain) (d : Chain) → Every Sound ds → Sound d → Every Sound (ds ++ (d ∷ []))
every_one [] d h k = (k, tt)
every_one (x ∷ ds) d h k = (h.0, every_one ds d h.1 k)

sound_more : (n : ℕ) (v : Verdict) (s : List ℕ) → SoundTo n v → SoundTo (n + 1) (with_token v (token_of s))
unfolding is_refusal
sound_more n (First m p) s h = (h.0, omega (arith, h.1))
sound_more n (All ds) s h = go (token_of s) refl
  where
    go : (o : Outcome) → token_of s ≡ o → SoundTo (n + 1) (with_token (All ds) o)
    go (Read d) e = (every_one ds d h.0 (token-sound s d e), omega (arith, h.1, length-append ds (d ∷ [])))
    go (Refused m) e = (token-number (λ k. is_refusal k ≡ true) refl refl s m e, omega (arith, h.1))

sound-from : (n : ℕ) (v : Verdict) (ss : List (List ℕ)) → SoundTo n v → SoundTo (n + length ss) (tokens_from v ss)
unfolding tokens_from
sound-from n v [] h = let e : n + 0 ≡ n = omega arith in rw e h
sound-from n v (s ∷ ss) h = let e : n + length (s ∷ ss) ≡ n + 1 + length ss = omega arith in rw e (sound-from (n + 1) (with_token v (token_of s)) ss (sound_more n v s h))

sound-all : (ss : List (List ℕ)) → SoundTo (length ss) (tokens_of ss)
unfolding tokens_of
sound-all ss = let e : 0 + length ss ≡ length ss = omega arith in rw e at (sound-from 0 (All []) ss (tt, refl))

module _ (ss : List (List ℕ)) (ds : List Chain) (e : tokens_of ss ≡ All ds) where
  pub tokens-sound : Every Sound ds
  tokens-sound = (subst (SoundTo (length ss)) e (sound-all ss)).0

  pub tokens-length : length ds ≡ length ss
  tokens-length = (subst (SoundTo (length ss)) e (sound-all ss)).1

pub tokens-refused : (ss : List (List ℕ)) (n p : ℕ) → tokens_of ss ≡ First n p → (is_refusal n ≡ true) × (p ≤ length ss)
tokens-refused ss n p e = subst (SoundTo (length ss)) e (sound-all ss)
