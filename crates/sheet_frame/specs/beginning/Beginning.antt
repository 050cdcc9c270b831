-- The beginning of a batch. 01, Batch program: "a header with an unknown or doubled name or no class, which ends the batch after that answer";
-- the header line of the output. Assumes nothing.
use Rattle.std.specs.Prelude.{ℕ, ◌≡◌, List, [], ◌∷◌, ◌++◌, map, Option, Some, None}
use Rattle.writer.specs.emit.Text.{Written}
use Rattle.reading_rules.specs.reading.Ascii.{ascii}
use Rattle.sheet_input.specs.declared.header.Plan.{Plan}
use Rattle.sheet_input.specs.header.Header.{plan_of}
use Rattle.sheet_frame.specs.row_heads.Text.{tabbed, Carbons, row_text}
use Rattle.sheet_frame.specs.tally.Counts.{counting, no_times, times_from}
use Rattle.sheet_frame.specs.declared.beginning.Answered.{Answered}
use Rattle.sheet_frame.specs.declared.beginning.Stage.{Stage}
use Rattle.sheet_frame.specs.declared.beginning.Stage.TheVariants.{Header, Rows, Over}
use Rattle.sheet_frame.specs.declared.beginning.Batch.{Batch}
use Rattle.sheet_frame.specs.declared.beginning.Lined.{Lined}

-- ---- what is printed of a row

pub record Reply : Type 0 where
  pub number : ℕ
  pub token : ℕ
  pub line : List ℕ
  pub chains : List Carbons

abbrev pub refused : ℕ → ℕ → Reply
refused n p = record { number = n; token = p; line = []; chains = [] }

unfoldable pub reply_text : Reply → List ℕ
reply_text r = row_text r.number r.token r.line r.chains

unfoldable pub texts_of : List Reply → List ℕ
texts_of [] = []
texts_of (r ∷ rs) = reply_text r ++ texts_of rs

unfoldable pub numbers_of : List Reply → List ℕ
numbers_of rs = map (λ r. r.number) rs

-- 42 was written
pub record UnreadableWritten (os : List ℕ) (at : ℕ) (ps : List ℕ) (r : Answered) : Type 0 where
  pub text : Written os at (reply_text (refused 42 0)) ps r.next
  pub answer : r.number ≡ 42

-- ---- the header

-- "the header line shown below"
unfoldable pub titles : List ℕ
titles = tabbed (ascii "answer" ∷ ascii "at" ∷ ascii "line" ∷ ascii "carbons" ∷ [])

-- the batch before its header
abbrev pub no_batch : Batch
no_batch = record { stage = Header; counts = counting no_times }

-- the replies to a header of this plan, and the stage after it
abbrev pub replies_by : Option Plan → List Reply
replies_by (Some plan) = []
replies_by None = refused 42 0 ∷ []

abbrev pub stage_by : Option Plan → Stage
stage_by (Some plan) = Rows plan
stage_by None = Over

-- the replies to the header
abbrev pub header_replies : List ℕ → List Reply
header_replies l = replies_by (plan_of l)

-- the batch after it
unfoldable pub header_batch : Batch → List ℕ → Batch
header_batch b l =
    record {
      stage = stage_by (plan_of l);
      counts = counting (times_from b.counts.times (numbers_of (header_replies l)));
    }

-- the header, which leaves the lent slices as they were
pub record HeaderAnswered (b : Batch) (l os : List ℕ) (at : ℕ) (ps : List ℕ) (r : Lined) : Type 0 where
  pub batch : r.batch ≡ header_batch b l
  pub text : Written os at (texts_of (header_replies l)) ps r.next
