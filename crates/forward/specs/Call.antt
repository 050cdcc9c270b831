-- THE CONTRACT OF THE CALL. Demands 1 and 2: which definition the answer and both slices equal, for every request. Demand 3: where a request
-- is accepted, the promise of `template_rules`, about the very bytes and numbers that stand in the slices. Assumes nothing.
use Rattle.std.specs.Prelude.{ℕ, ◌≡◌, Bool, List, map, length, take}
use Rattle.chain_record.specs.plain.Chain.{Chain}
use Rattle.template_rules.specs.declared.Class.{Class}
use Rattle.template_rules.specs.Drawn.{placed, by_sn}
use Rattle.template_rules.specs.Written.{line_of, index_of}
use Rattle.template_rules.specs.Chains.{sites_by}
use Rattle.template_rules.specs.Promise.{Promise}
use Rattle.chain_lists.specs.listing.Lists.{list_of}
use Rattle.judge.specs.Verdict.{Verdict, Drawable}
use Rattle.answers.specs.declared.answer.Answer.{Answer}
use Rattle.answers.specs.answer.Answer.{site_of, Answers}

-- what is kept where the request is accepted: it has a class and chains; the line and the lists that stand in the slices, and the chains and
-- sites that the answer names, are theirs; and the promise holds of them
pub record Kept (v : Verdict) (swap : Bool) (t ys js : List ℕ) (a : Answer) : Type 0 where
  pub class : Class
  pub chains : List Chain
  pub judged : v ≡ Drawable class chains
  pub line : take a.length ys ≡ line_of class swap t chains
  pub lists : take (length (index_of class t chains)) js ≡ index_of class t chains
  pub listed : take a.lists.count a.lists.items ≡ map list_of (by_sn (placed class t chains))
  pub sites : take a.sites.count a.sites.items ≡ map site_of (sites_by (by_sn (placed class t chains)))
  pub promise : Promise class swap t chains

pub record Called (v : Verdict) (swap : Bool) (t xs is ys js : List ℕ) (a : Answer) : Type 0 where
  pub answers : Answers v swap t xs is ys js a
  pub kept : a.number ≡ 0 → Kept v swap t ys js a
