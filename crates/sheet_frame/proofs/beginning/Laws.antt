-- Laws of a batch before its first row. Assumes nothing.
use Prim.Native.Nat.{ℕ, ◌^◌, ◌<◌}
use mathlib.Core.Path.{◌≡◌, refl, sym, ap, ◌∙◌}
use mathlib.Core.List.{List, [], ◌∷◌, append_assoc, append-nil}
use lib.ListN.{length}
use Rattle.std.specs.Prelude.{Option, Some, None}
use Rattle.writer.specs.emit.Text.{Written}
use Rattle.writer.proofs.emit.Laws.{written-append, written-nil}
use Rattle.reading_rules.specs.reading.Ascii.{ascii}
use Rattle.reading_rules.specs.reading.Parting.{joined, led}
use Rattle.sheet_input.specs.declared.header.Plan.{Plan}
use Rattle.sheet_input.specs.header.Header.{plan_of}
use Rattle.sheet_frame.specs.row_heads.Text.{ended, tabbed, chains_text, head_text, row_text}
use Rattle.sheet_frame.specs.declared.tally.Counts.{Counts}
use Rattle.sheet_frame.specs.tally.Counts.{counting, no_times, with_answer, times_from}
use Rattle.sheet_frame.specs.declared.beginning.Answered.{Answered}
use Rattle.sheet_frame.specs.declared.beginning.Stage.TheVariants.{Header, Rows, Over}
use Rattle.sheet_frame.specs.declared.beginning.Batch.{Batch}
use Rattle.sheet_frame.specs.beginning.Beginning.{refused, reply_text, texts_of, numbers_of, titles, no_batch, header_batch, UnreadableWritten, HeaderAnswered}

pub titles-text : {xs ys : List ℕ} {a p : ℕ}
    → Written xs a (97 ∷ 110 ∷ 115 ∷ 119 ∷ 101 ∷ 114 ∷ 9 ∷ 97 ∷ 116 ∷ 9 ∷ 108 ∷ 105 ∷ 110 ∷ 101 ∷ 9 ∷ 99 ∷ 97 ∷ 114 ∷ 98 ∷ 111 ∷ 110 ∷ 115 ∷ 10 ∷ []) ys p
    → Written xs a titles ys p
unfolding titles tabbed ended joined led ascii
titles-text w = w

pub new-batch : (c : Counts) → c ≡ counting no_times → ◌≡◌ {A = Batch} (record { stage = Header; counts = c }) no_batch
new-batch c e = ap (λ (d : Counts). record { stage = Header; counts = d }) e

-- ---- an unreadable line

pub unreadable-text : {xs ys zs : List ℕ} {at p q : ℕ} → length xs < 2 ^ 64 → Written xs at (head_text 42 0) ys p → Written ys p (9 ∷ 10 ∷ []) zs q
    → UnreadableWritten xs at zs (record { number = 42; next = q })
unfolding reply_text row_text head_text tabbed ended joined led chains_text
unreadable-text g w u = record { text = simp append_assoc (simp append_assoc at (written-append g w u)); answer = refl }

-- ---- the header

module _ (b : Batch) (l os : List ℕ) (at : ℕ) (o : Option Plan) (e : o ≡ plan_of l) where
  pub header-rows : (plan : Plan) → o ≡ Some plan → at < 2 ^ 64
      → HeaderAnswered b l os at os (record { batch = record { stage = Rows plan; counts = b.counts }; next = at })
  unfolding header_batch texts_of numbers_of times_from
  header-rows plan h g = let t : plan_of l ≡ Some plan = sym e ∙ h in record { batch = (rw t); text = (rw t (written-nil os at g)) }

  pub header-over : (counted : Counts) (ps : List ℕ) (a : Answered) → o ≡ None → UnreadableWritten os at ps a
      → counted ≡ counting (with_answer b.counts.times a.number)
      → HeaderAnswered b l os at ps (record { batch = record { stage = Over; counts = counted }; next = a.next })
  unfolding header_batch texts_of numbers_of times_from
  header-over counted ps a h w c = let t : plan_of l ≡ None = sym e ∙ h in record { batch = (rw (t, c, w.answer)); text = (rw (t, append-nil) w.text) }
