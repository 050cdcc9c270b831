-- What the drawing leaves, with the chains of the tokens at hand. Assumes nothing.
use Rattle.std.specs.Prelude.{ℕ, ◌≤◌, Bool, List, length}
use Rattle.chain_record.specs.plain.Chain.{Chain}
use Rattle.drawn_chain.specs.drawable.Chains.{Chains}
use Rattle.template_rules.specs.declared.Class.{Class}
use Rattle.template_rules.specs.Drawn.{placed}
use Rattle.template_rules.specs.Written.{indices_of}
use Rattle.placement.specs.chain_notes.Fragment.{gathered}
use Rattle.judge.specs.Verdict.{Drawable}
use Rattle.answers.specs.declared.answer.Answer.{Answer}
use Rattle.answers.specs.answer.Answer.{Answers}
use Rattle.answers.specs.room.Ready.{Ready}

-- the answer to every request whose chains these are
pub record ChainsDrawn (c : Class) (swap : Bool) (t : List ℕ) (k : ℕ) (x : Chains) (xs is ys js : List ℕ) (a : Answer) : Type 0 where
  pub drawn : (ds : List Chain) → Ready c t k x ds → Answers (Drawable c ds) swap t xs is ys js a

-- n numbers are room for the indices of every request whose chains these are
pub record IndexRoom (c : Class) (t : List ℕ) (k : ℕ) (x : Chains) (n : ℕ) : Type 0 where
  pub room : (ds : List Chain) → Ready c t k x ds → length (gathered indices_of (placed c t ds)) ≤ n
