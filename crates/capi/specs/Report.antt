-- The answer as 21 numbers, and the contract of the call from C. Assumes nothing.
use Rattle.std.specs.Prelude.{ℕ, min, ◌≡◌, Bool, List, [], ◌∷◌, ◌++◌, get_or}
use Rattle.chain_lists.specs.declared.listing.Lists.{Lists}
use Rattle.chain_lists.specs.declared.sn_sites.Sites.{Sites}
use Rattle.chain_lists.specs.listing.Lists.{no_list}
use Rattle.chain_lists.specs.listing.Sites.{no_site}
use Rattle.judge.specs.Verdict.{Verdict}
use Rattle.answers.specs.declared.answer.Answer.{Answer}
use Rattle.forward.specs.Call.{Called}

-- a count as a number of 32 bits, the largest for all that do not fit
abbrev pub capped : ℕ → ℕ
capped n = min n 4294967295

-- place i of the listed chains and of the sites; a place that is not used holds zeros
unfoldable pub list_pair : Lists → ℕ → List ℕ
list_pair l i = (get_or l.items i no_list).sn ∷ (get_or l.items i no_list).count ∷ []

unfoldable pub site_pair : Sites → ℕ → List ℕ
site_pair s i = (get_or s.items i no_site).sn ∷ (get_or s.items i no_site).atom ∷ []

-- number, token's place, line length; the listed chains: how many, and four pairs of sn and index count; the sites: how many, and four
-- pairs of sn and atom
unfoldable pub report_of : Answer → List ℕ
unfolding list_pair site_pair
report_of a =
    a.number ∷ capped a.token ∷ capped a.length ∷ capped a.lists.count ∷ (list_pair a.lists 0 ++ (list_pair a.lists 1 ++ (list_pair a.lists 2 ++ (list_pair a.lists 3
    ++ (capped a.sites.count ∷ (site_pair a.sites 0 ++ (site_pair a.sites 1 ++ (site_pair a.sites 2 ++ site_pair a.sites 3))))))))

-- the contract: the result and the report are those of an answer that `draw` gives, and both slices are as `draw` leaves them
pub record Reported (v : Verdict) (swap : Bool) (t xs is ys js rs : List ℕ) (n : ℕ) : Type 0 where
  pub answer : Answer
  pub called : Called v swap t xs is ys js answer
  pub report : rs ≡ report_of answer
  pub number : n ≡ answer.number
