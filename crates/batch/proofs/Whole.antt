-- The batch line by line is the whole batch. And while the input comes in blocks, what is left of it may be cut: `Fed` holds from its first
-- byte to its last, whatever the blocks are. Assumes nothing.
use Prim.Native.Nat.{ℕ, ◌≤◌}
use native.Mathlib.Omega.{arith}
use mathlib.Core.Path.{◌≡◌, refl, sym, ap, ◌∙◌}
use mathlib.Core.Bool.{Bool, true, false, cond}
use mathlib.Core.List.{List, [], ◌∷◌, ◌++◌, map, append_assoc, append-nil}
use lib.ListN.{length, drop, length-append, length-drop}
use lib.Dec.{ltb}
use borrow.Author.Tests.{ltb-false}
use Rattle.std.specs.Prelude.{Option, Some, None}
use Rattle.template_rules.specs.Written.{line_of, index_of}
use Rattle.judge.specs.Verdict.{Verdict, Refused, Drawable, verdict}
use Rattle.forward.specs.Answer.{short, at_start, index_after}
use Rattle.token_syntax.specs.form.Parts.{parts_at}
use Rattle.sheet_input.specs.declared.header.Plan.{Plan}
use Rattle.sheet_input.specs.sheet.Header.{plan_of}
use Rattle.sheet_input.specs.sheet.Sheet.{Row, Unreadable, Asks, request_of}
use Rattle.sheet_frame.specs.declared.beginning.Stage.TheVariants.{Rows, Over}
use Rattle.sheet_frame.specs.tally.Counts.{counting, no_times, times_from, times_of, count_lines}
use Rattle.sheet_frame.specs.beginning.Beginning.{Reply, refused, reply_text, texts_of, numbers_of, titles, no_batch, replies_by, stage_by}
use Rattle.batch.specs.Reply.{line_room, reply_of, index_in}
use Rattle.chain_rules.proofs.chain.Lists.{or_right}
use Rattle.batch.specs.Batch.{rows_of, replied, replies_to, replies_in, batch_text, Held, batch_after, held_after, held_last, held_end, before}

-- ---- the index slice keeps its length

start-length : (text xs : List ℕ) → length text ≤ length xs → length (at_start text xs) ≡ length xs
unfolding at_start
start-length text xs h = omega (arith, length-append text (drop (length text) xs), length-drop (length text) xs)

index-to : (is : List ℕ) (v : Verdict) (swap : Bool) (t : List ℕ) → length (index_after v swap t line_room is) ≡ length is
unfolding short
index-to is (Refused n p) swap t = refl
index-to is (Drawable c ds) swap t = go (short c swap t ds line_room (length is)) refl
  where
    go : (b : Bool) → short c swap t ds line_room (length is) ≡ b → length (cond b is (at_start (index_of c t ds) is)) ≡ length is
    go true e = refl
    go false e = start-length (index_of c t ds) is (ltb-false (length is) (length (index_of c t ds)) (or_right (ltb line_room (length (line_of c swap t ds))) (ltb (length is) (length (index_of c t ds))) e))

pub index-length : (is : List ℕ) (w : Row) → length (index_in w is) ≡ length is
index-length is Unreadable = refl
index-length is (Asks class swap t ts) = index-to is (verdict class t (length ts) ts) swap t

-- ---- among the rows

module _ (p : Plan) where
  abbrev among : List ℕ → List ℕ → List ℕ → Held
  among ts is w = record { batch = record { stage = Rows p; counts = counting ts }; index = is; text = w }

  abbrev replies : List (List ℕ) → ℕ → List Reply
  replies rows index = map (λ row. reply_of (request_of p row) index) rows

-- what some parts leave
record RowsTold (p : Plan) (parts : List (List ℕ)) (ts is w : List ℕ) : Type 0 where
  text : (held_end (among p ts is w) parts).text ≡ w ++ texts_of (replies p (rows_of parts) (length is))
  times : (held_end (among p ts is w) parts).batch.counts.times ≡ times_from ts (numbers_of (replies p (rows_of parts) (length is)))

rows_told : (p : Plan) (parts : List (List ℕ)) (ts is w : List ℕ) → RowsTold p parts ts is w
unfolding held_end held_last held_after batch_after texts_of numbers_of rows_of times_from
rows_told p [] ts is w = record { text = sym (append-nil w); times = refl }
rows_told p ([] ∷ []) ts is w = record { text = sym (append-nil w); times = refl }
rows_told p ((x ∷ l) ∷ []) ts is w = record { text = refl; times = refl }
rows_told p (l ∷ k ∷ ls) ts is w = go (rows_told p (k ∷ ls) (times_from ts (r.number ∷ [])) (index_in q is) (w ++ (reply_text r ++ [])))
  where
    q : Row
    q = request_of p l

    r : Reply
    r = reply_of q (length is)

    joining : (rest : List ℕ) → (w ++ (reply_text r ++ [])) ++ rest ≡ w ++ (reply_text r ++ rest)
    joining rest = rw (append-nil (reply_text r), append_assoc w (reply_text r) rest)

    go : RowsTold p (k ∷ ls) (times_from ts (r.number ∷ [])) (index_in q is) (w ++ (reply_text r ++ [])) → RowsTold p (l ∷ k ∷ ls) ts is w
    go h =
        record {
          text = (rw (index-length is q) at h.text) ∙ joining (texts_of (replies p (rows_of (k ∷ ls)) (length is)));
          times = (rw (index-length is q) at h.times);
        }

-- after a header that ends the batch nothing changes
over-told : (parts : List (List ℕ)) (ts is w : List ℕ)
    → held_end (record { batch = record { stage = Over; counts = counting ts }; index = is; text = w }) parts
    ≡ record { batch = record { stage = Over; counts = counting ts }; index = is; text = w }
unfolding held_end held_last held_after batch_after texts_of numbers_of times_from
over-told [] ts is w = refl
over-told ([] ∷ []) ts is w = refl
over-told ((x ∷ l) ∷ []) ts is w = rw (append-nil w)
over-told (l ∷ k ∷ ls) ts is w = rw (append-nil w) (over-told (k ∷ ls) ts is w)

-- ---- the whole batch

-- what all parts of the input leave, and what is printed after them
pub record WholeTold (parts : List (List ℕ)) (is : List ℕ) : Type 0 where
  pub text : (held_end (before no_batch is) parts).text ≡ texts_of (replies_in parts (length is))
  pub times : (held_end (before no_batch is) parts).batch.counts.times ≡ times_of (numbers_of (replies_in parts (length is)))

-- after the header
abbrev headed : Option Plan → List ℕ → Held
headed o is =
    record {
      batch = record { stage = stage_by o; counts = counting (times_from no_times (numbers_of (replies_by o))) };
      index = is;
      text = texts_of (replies_by o);
    }

headed-text : (o : Option Plan) (parts : List (List ℕ)) (is : List ℕ) → (held_end (headed o is) parts).text ≡ texts_of (replied o (rows_of parts) (length is))
unfolding texts_of numbers_of times_from
headed-text (Some p) parts is = (rows_told p parts no_times is []).text
headed-text None parts is = ap (λ (h : Held). h.text) (over-told parts (times_from no_times (42 ∷ [])) is (texts_of (refused 42 0 ∷ [])))

headed-times : (o : Option Plan) (parts : List (List ℕ)) (is : List ℕ)
    → (held_end (headed o is) parts).batch.counts.times ≡ times_of (numbers_of (replied o (rows_of parts) (length is)))
unfolding texts_of numbers_of times_from times_of
headed-times (Some p) parts is = (rows_told p parts no_times is []).times
headed-times None parts is = ap (λ (h : Held). h.batch.counts.times) (over-told parts (times_from no_times (42 ∷ [])) is (texts_of (refused 42 0 ∷ [])))

pub whole-told : (parts : List (List ℕ)) (is : List ℕ) → WholeTold parts is
unfolding held_end held_last held_after batch_after texts_of numbers_of times_from times_of replies_to rows_of
whole-told [] is = record { text = refl; times = refl }
whole-told ([] ∷ []) is = record { text = headed-text (plan_of []) [] is; times = headed-times (plan_of []) [] is }
whole-told ((x ∷ l) ∷ []) is = record { text = headed-text (plan_of (x ∷ l)) [] is; times = headed-times (plan_of (x ∷ l)) [] is }
whole-told (l ∷ k ∷ ls) is =
    record {
      text = headed-text (plan_of l) (k ∷ ls) is;
      times = headed-times (plan_of l) (k ∷ ls) is;
    }

-- what is printed, when the input has ended
pub batch-told : (sheet is : List ℕ)
    → titles ++ ((held_end (before no_batch is) (parts_at 10 sheet)).text ++ count_lines (held_end (before no_batch is) (parts_at 10 sheet)).batch.counts.times)
    ≡ batch_text sheet (length is)
unfolding batch_text
batch-told sheet is = let h = whole-told (parts_at 10 sheet) is in rw (h.text, h.times)
