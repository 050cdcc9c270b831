-- The whole batch, and the same line by line. 01, Batch program: "a header with an unknown or doubled name or no class, which ends the batch
-- after that answer. Lines end in LF, the last at will." Byte: LF 10. Assumes nothing.
use Rattle.std.specs.Prelude.{ℕ, ◌≤◌, ◌<◌, ◌≡◌, Bool, true, false, cond, List, [], ◌∷◌, ◌++◌, map, length, drop, Option, Some, None}
use Rattle.writer.specs.emit.Text.{Written}
use Rattle.token_syntax.specs.form.Parts.{parts_at}
use Rattle.sheet_input.specs.declared.header.Plan.{Plan}
use Rattle.sheet_input.specs.sheet.Header.{plan_of}
use Rattle.sheet_input.specs.sheet.Sheet.{request_of}
use Rattle.sheet_frame.specs.declared.beginning.Stage.{Stage}
use Rattle.sheet_frame.specs.declared.beginning.Stage.TheVariants.{Header, Rows, Over}
use Rattle.sheet_frame.specs.declared.beginning.Batch.{Batch}
use Rattle.batch.specs.declared.Lines.{Lines}
use Rattle.batch.specs.declared.Passed.{Passed}
use Rattle.sheet_frame.specs.tally.Counts.{counting, times_from, times_of, count_lines}
use Rattle.sheet_frame.specs.beginning.Beginning.{Reply, refused, texts_of, numbers_of, titles, header_replies, stage_by}
use Rattle.batch.specs.Reply.{reply_of, index_in}

-- ---- the whole batch

-- an empty last part is no line
abbrev pub unless_blank : List ℕ → List (List ℕ)
unless_blank [] = []
unless_blank (x ∷ xs) = (x ∷ xs) ∷ []

unfoldable pub rows_of : List (List ℕ) → List (List ℕ)
rows_of [] = []
rows_of (l ∷ []) = unless_blank l
rows_of (l ∷ k ∷ ls) = l ∷ rows_of (k ∷ ls)

-- the replies to a header of this plan and its rows, for an index slice of this length
abbrev pub replied : Option Plan → List (List ℕ) → ℕ → List Reply
replied (Some plan) rows index = map (λ row. reply_of (request_of plan row) index) rows
replied None rows index = refused 42 0 ∷ []

-- the replies to a header and its rows
unfoldable pub replies_to : List ℕ → List (List ℕ) → ℕ → List Reply
replies_to header rows index = replied (plan_of header) rows index

-- "Lines end in LF, the last at will": the first line is the header, of no bytes where the input has none
abbrev pub replies_in : List (List ℕ) → ℕ → List Reply
replies_in [] index = []
replies_in (header ∷ ls) index = replies_to header (rows_of ls) index

-- what is printed
unfoldable pub batch_text : List ℕ → ℕ → List ℕ
batch_text sheet index =
    let rs = replies_in (parts_at 10 sheet) index in
    titles ++ (texts_of rs ++ count_lines (times_of (numbers_of rs)))

-- ---- line by line

-- the replies to a line
abbrev pub replies_at : Stage → List ℕ → ℕ → List Reply
replies_at Header l index = header_replies l
replies_at (Rows plan) l index = reply_of (request_of plan l) index ∷ []
replies_at Over l index = []

-- what follows it
abbrev pub stage_after : Stage → List ℕ → Stage
stage_after Header l = stage_by (plan_of l)
stage_after (Rows plan) l = Rows plan
stage_after Over l = Over

-- what it leaves in the lent index slice
abbrev pub index_at : Stage → List ℕ → List ℕ → List ℕ
index_at Header l index = index
index_at (Rows plan) l index = index_in (request_of plan l) index
index_at Over l index = index

-- a batch with its lent index slice and what it has written
pub record Held : Type 0 where
  pub batch : Batch
  pub index : List ℕ
  pub text : List ℕ

-- after one more line
unfoldable pub batch_after : Batch → List ℕ → ℕ → Batch
batch_after b l index =
    record {
      stage = stage_after b.stage l;
      counts = counting (times_from b.counts.times (numbers_of (replies_at b.stage l index)));
    }

unfoldable pub held_after : Held → List ℕ → Held
held_after h l =
    record {
      batch = batch_after h.batch l (length h.index);
      index = index_at h.batch.stage l h.index;
      text = h.text ++ texts_of (replies_at h.batch.stage l (length h.index));
    }

-- after some lines
unfoldable pub held_from : Held → List (List ℕ) → Held
held_from h [] = h
held_from h (l ∷ ls) = held_from (held_after h l) ls

-- what follows the last LF is a line where it has bytes, or where it is the header
abbrev pub is_header : Stage → Bool
is_header Header = true
is_header (Rows plan) = false
is_header Over = false

abbrev pub is_line : Bool → List ℕ → Bool
is_line header [] = header
is_line header (x ∷ l) = true

unfoldable pub held_last : Held → List ℕ → Held
held_last h l = cond (is_line (is_header h.batch.stage) l) (held_after h l) h

-- after the lines of all parts of what is left of the input
unfoldable pub held_end : Held → List (List ℕ) → Held
held_end h [] = h
held_end h (l ∷ []) = held_last h l
held_end h (l ∷ k ∷ ls) = held_end (held_after h l) (k ∷ ls)

-- ---- contracts

-- h is what some output, ps after os, and the index slice hold
pub record Holds (os : List ℕ) (at : ℕ) (h : Held) (b : Batch) (js ps : List ℕ) (next : ℕ) : Type 0 where
  pub batch : b ≡ h.batch
  pub index : js ≡ h.index
  pub text : Written os at h.text ps next

abbrev pub before : Batch → List ℕ → Held
before b is = record { batch = b; index = is; text = [] }

-- some lines of a text were answered: those before the place `used`, after which its other parts begin; there is only one where no line was
-- left
pub record LinesAnswered (b : Batch) (text is os : List ℕ) (at limit : ℕ) (js ps : List ℕ) (r : Lines) : Type 0 where
  pub lines : List (List ℕ)
  pub parts : parts_at 10 text ≡ lines ++ parts_at 10 (drop r.used text)
  pub holds : Holds os at (held_from (before b is) lines) r.batch js ps r.next
  pub within : r.used ≤ length text
  pub all : r.whole ≡ true → parts_at 10 (drop r.used text) ≡ drop r.used text ∷ []
  pub some : r.whole ≡ false → limit < r.next

-- a batch among its rows
abbrev pub among : Plan → List ℕ → Batch
among plan times = record { stage = Rows plan; counts = counting times }

-- some rows as lines
abbrev pub passed_in : Plan → List ℕ → Passed → Lines
passed_in plan times r = record { batch = among plan times; used = r.used; next = r.next; whole = r.whole }

-- the last answer and the counts were written; h is held then
pub record Finished (b : Batch) (l is os : List ℕ) (at : ℕ) (js ps : List ℕ) (r : ℕ) : Type 0 where
  pub index : js ≡ (held_last (before b is) l).index
  pub text : Written os at ((held_last (before b is) l).text ++ count_lines (held_last (before b is) l).batch.counts.times) ps r
