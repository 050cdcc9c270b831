-- The four forms in which 01 tries a segment; its text is that of crates/token_syntax/specs/brackets/Brackets.antt. Bytes: `(` 40, `)` 41, `-` 45.
-- Assumes nothing.
use Rattle.std.specs.Prelude.{ℕ, suc, ◌+◌, ◌-◌, ◌<◌, ◌≤◌, ◌≡◌, List, [], ◌∷◌, Bool, false, cond, length, take, drop, get_or, eqb}
use Rattle.scanner.specs.scan.Part.{index_of, index_of_text}
use Rattle.token_syntax.specs.declared.form.Form.{Form}
use Rattle.token_syntax.specs.declared.form.Form.TheVariants.{Ring, Repeated, Listed, Parts}
pub use Rattle.token_syntax.specs.brackets.Brackets.{unless_closing}
unfoldable pub use Rattle.token_syntax.specs.brackets.Brackets.{after_opening, before_closing, segment_text}

-- `cy`
abbrev pub cy_text : List ℕ
cy_text = 99 ∷ 121 ∷ []

-- 01, Token reader, the second to the fourth form: "`(abbr)n`", which begins with `(`; "`abbr(list)`", which has a `(` further on; "split at commas"
unfoldable pub group_form : List ℕ → Form
group_form s = cond (eqb (index_of 40 s) (length s)) Parts (cond (eqb (index_of 40 s) 0) Repeated (Listed (index_of 40 s)))

-- a `-` before a `cy`, or no ring
unfoldable pub span_form : List ℕ → ℕ → ℕ → Form
span_form s dash cy = cond (eqb dash cy) (group_form s) (Ring dash cy)

-- 01, Token reader: "Tried in order: text before the first `cy` containing `-`: ring start-end`cy`size"
unfoldable pub form_of : List ℕ → Form
form_of s =
    let cy = index_of_text cy_text s in
    cond (eqb cy (length s)) (group_form s) (span_form s (index_of 45 (take cy s)) cy)

-- where the places of a form lie: a ring's dash before its `cy`, and all of them within the segment
abbrev pub PlacedIn : List ℕ → Form → Type 0
PlacedIn s (Ring dash cy) = (dash < cy) × (cy + 2 ≤ length s)
PlacedIn s Repeated = Unit {0}
PlacedIn s (Listed at) = at ≤ length s
PlacedIn s Parts = Unit {0}

-- r is the form f, and its places lie in s
pub record Formed (s : List ℕ) (f r : Form) : Type 0 where
  pub is : r ≡ f
  pub placed : PlacedIn s r

-- whether the last byte is `)`: a list that was opened has to end so
unfoldable pub ends_in_parenthesis : List ℕ → Bool
ends_in_parenthesis s = cond (eqb (length s) 0) false (eqb (get_or s (length s - 1) 0) 41)

-- what follows the byte at a place
abbrev pub after_place : ℕ → List ℕ → List ℕ
after_place at s = drop (suc at) s
