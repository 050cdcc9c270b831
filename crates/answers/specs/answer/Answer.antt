-- The answer to a request, and what both slices hold afterwards. 01, Accepted, or refused by whom: "Accepted: 0, line length, per listed
-- chain, by rising sn, its sn and index count (the lists end to end in that order ..), the sn sites by rising sn; the rest of both slices is
-- unchanged. Refused: a number, the token's place from 1 (0 for 20, 21, 23, 41), zero lengths, both slices unchanged." Assumes nothing.
use Rattle.std.specs.Prelude.{ℕ, ◌≡◌, Bool, cond, ◌||◌, List, [], ◌++◌, map, length, drop, ltb}
use Rattle.chain_record.specs.plain.Chain.{Chain}
use Rattle.reading_rules.specs.reading.Molecule.{At, at}
use Rattle.line_parts.specs.declared.shown.Site.{Site}
use Rattle.template_rules.specs.declared.Class.{Class}
use Rattle.template_rules.specs.Drawn.{placed, by_sn, sn_sites}
use Rattle.template_rules.specs.Written.{line_of, index_of}
use Rattle.chain_lists.specs.declared.listing.Listed.{Listed}
use Rattle.chain_lists.specs.declared.listing.Lists.{Lists}
use Rattle.chain_lists.specs.declared.sn_sites.Sites.{Sites}
use Rattle.chain_lists.specs.rising.Four.{four}
use Rattle.chain_lists.specs.listing.Sites.{no_site}
use Rattle.chain_lists.specs.listing.Lists.{no_list, list_of}
use Rattle.judge.specs.Verdict.{Verdict, Refused, Drawable}
use Rattle.answers.specs.declared.answer.Answer.{Answer}

-- four places, the unused ones zero
abbrev pub lists_of : List Listed → Lists
lists_of l = record { count = length l; items = four no_list l }

abbrev pub sites_of : List Site → Sites
sites_of l = record { count = length l; items = four no_site l }

abbrev pub refusal : ℕ → ℕ → Answer
refusal n p = record { number = n; token = p; length = 0; lists = lists_of []; sites = sites_of [] }

abbrev pub site_of : At ℕ → Site
site_of (at i sn) = record { sn = sn; atom = i }

-- the line and the lists of an accepted request
unfoldable pub acceptance : Class → Bool → List ℕ → List Chain → Answer
acceptance c swap t ds =
    record {
      number = 0;
      token = 0;
      length = length (line_of c swap t ds);
      lists = lists_of (map list_of (by_sn (placed c t ds)));
      sites = sites_of (map site_of (sn_sites (by_sn (placed c t ds))));
    }

-- 41, "line or index slice shorter than needed"
unfoldable pub short : Class → Bool → List ℕ → List Chain → ℕ → ℕ → Bool
short c swap t ds line index = ltb line (length (line_of c swap t ds)) || ltb index (length (index_of c t ds))

-- the answer to a verdict, for slices of these lengths
abbrev pub answer_to : Verdict → Bool → List ℕ → ℕ → ℕ → Answer
answer_to (Refused n p) swap t line index = refusal n p
answer_to (Drawable c ds) swap t line index = cond (short c swap t ds line index) (refusal 41 0) (acceptance c swap t ds)

-- what is written stands at the start of a slice, the rest is unchanged
unfoldable pub at_start : List ℕ → List ℕ → List ℕ
at_start text xs = text ++ drop (length text) xs

-- the line slice afterwards
abbrev pub line_after : Verdict → Bool → List ℕ → List ℕ → List ℕ → List ℕ
line_after (Refused n p) swap t line index = line
line_after (Drawable c ds) swap t line index = cond (short c swap t ds (length line) (length index)) line (at_start (line_of c swap t ds) line)

-- the index slice afterwards, beside a line slice of so many bytes
abbrev pub index_after : Verdict → Bool → List ℕ → ℕ → List ℕ → List ℕ
index_after (Refused n p) swap t line index = index
index_after (Drawable c ds) swap t line index = cond (short c swap t ds line (length index)) index (at_start (index_of c t ds) index)

-- the answer and both slices, ys and js, where the slices were xs and is
pub record Answers (v : Verdict) (swap : Bool) (t xs is ys js : List ℕ) (a : Answer) : Type 0 where
  pub answer : a ≡ answer_to v swap t (length xs) (length is)
  pub line : ys ≡ line_after v swap t xs is
  pub index : js ≡ index_after v swap t (length xs) is
