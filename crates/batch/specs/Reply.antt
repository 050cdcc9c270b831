-- What is printed of a row, and what it leaves in the lent index slice. 01, Batch program: "42, place 0: a row over 2,048 bytes, of another cell
-- count, or with a swap other than 0, 1 or blank". The other rows are answered by the call. Assumes nothing.
use Rattle.std.specs.Prelude.{ℕ, ◌+◌, ◌≡◌, Bool, cond, List, map, length, take}
use Rattle.writer.specs.emit.Text.{Written}
use Rattle.chain_record.specs.plain.Chain.{Chain}
use Rattle.template_rules.specs.declared.Class.{Class}
use Rattle.template_rules.specs.Drawn.{Placed, placed, by_sn}
use Rattle.template_rules.specs.Written.{indices_of, line_of}
use Rattle.judge.specs.Verdict.{Verdict, Refused, Drawable, verdict}
use Rattle.answers.specs.declared.answer.Answer.{Answer}
use Rattle.forward.specs.Answer.{short, index_after}
use Rattle.sheet_input.specs.sheet.Sheet.{Row, Unreadable, Asks}
use Rattle.sheet_frame.specs.declared.beginning.Answered.{Answered}
use Rattle.sheet_frame.specs.beginning.Beginning.{Reply, refused, reply_text}
use Rattle.sheet_output.specs.rows.Chains.{carbons_of, rest_text}
use Rattle.sheet_output.specs.rows.Text.{Carbons, head_text, row_text}

-- a chain that is drawn, with its indices
unfoldable pub carbons_in : Placed → Carbons
carbons_in p = record { sn = p.sn; indices = indices_of p }

-- the line, and the chains by rising sn
unfoldable pub accepted : Class → Bool → List ℕ → List Chain → Reply
accepted c swap t ds = record { number = 0; token = 0; line = line_of c swap t ds; chains = map carbons_in (by_sn (placed c t ds)) }

-- 01, Batch program: "Line slice 65,536 bytes"
abbrev pub line_room : ℕ
line_room = 65536

-- the reply to a verdict, for an index slice of this length
abbrev pub reply_to : Verdict → Bool → List ℕ → ℕ → Reply
reply_to (Refused n p) swap t index = refused n p
reply_to (Drawable c ds) swap t index = cond (short c swap t ds line_room index) (refused 41 0) (accepted c swap t ds)

-- the reply to a row
abbrev pub reply_of : Row → ℕ → Reply
reply_of Unreadable index = refused 42 0
reply_of (Asks class swap t ts) index = reply_to (verdict class t (length ts) ts) swap t index

-- the text of an answer of the call, from its slices
abbrev pub answer_text : Answer → List ℕ → List ℕ → List ℕ
answer_text a line index = row_text a.number a.token (take a.length line) (carbons_of (take a.lists.count a.lists.items) index)

-- the index slice afterwards: an unreadable row, which is not drawn, leaves it as it was
abbrev pub index_in : Row → List ℕ → List ℕ
index_in Unreadable index = index
index_in (Asks class swap t ts) index = index_after (verdict class t (length ts) ts) swap t line_room index

-- ---- contracts

-- the row of an accepted request but for its line, of n bytes: its head in the output os at a place, and what follows the line
pub record Around (os : List ℕ) (at n : ℕ) (cs : List Carbons) (ps : List ℕ) (r : ℕ) : Type 0 where
  pub headed : List ℕ
  pub head : Written os at (head_text 0 0) headed (at + 4)
  pub rest : Written headed (at + 4 + n) (rest_text cs) ps r

-- what a verdict leaves: its text in the output os at a place, and the index slice, `is` before and js after
pub record Drawn (v : Verdict) (swap : Bool) (t is os : List ℕ) (at : ℕ) (js ps : List ℕ) (r : Answered) : Type 0 where
  pub text : Written os at (reply_text (reply_to v swap t (length is))) ps r.next
  pub answer : r.number ≡ (reply_to v swap t (length is)).number
  pub index : js ≡ index_after v swap t line_room is

-- what a row leaves
pub record RowAnswered (w : Row) (is os : List ℕ) (at : ℕ) (js ps : List ℕ) (r : Answered) : Type 0 where
  pub text : Written os at (reply_text (reply_of w (length is))) ps r.next
  pub answer : r.number ≡ (reply_of w (length is)).number
  pub index : js ≡ index_in w is
