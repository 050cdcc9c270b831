-- Laws of the answer to a row: what is written of an answer of the call is the reply to the row.
-- Assumes nothing.
use Prim.Native.Nat.{ℕ, ◌-◌, ◌≤◌, ◌<◌, ◌^◌, min}
use native.Mathlib.Omega.{arith}
use mathlib.Core.Path.{◌≡◌, refl, sym, ap, ◌∙◌, subst}
use mathlib.Core.Bool.{Bool, true, false, cond}
use mathlib.Core.List.{List, [], ◌∷◌, ◌++◌, map, append_assoc}
use lib.ListN.{length, take, drop, length-map}
use lib.Seq.{take-append_seam, drop-append_seam}
use borrow.Author.Tests.{ltb-false}
use Rattle.std.specs.Prelude.{Option, Some, None}
use Rattle.writer.specs.emit.Text.{Written}
use Rattle.chain_record.specs.plain.Chain.{Chain}
use Rattle.template_rules.specs.declared.Class.{Class}
use Rattle.template_rules.specs.Drawn.{Placed, placed, by_sn}
use Rattle.template_rules.specs.Written.{indices_of, all_indices, index_of, line_of}
use Rattle.chain_rules.proofs.chain.Lists.{or_left}
use Rattle.judge.specs.Verdict.{Verdict, Refused, Drawable, verdict, tokens}
use Rattle.chain_lists.specs.listing.Four.{four}
use Rattle.chain_lists.specs.listing.Lists.{no_list, list_of}
use Rattle.template_rules.proofs.Sorted.{length-sorted}
use Rattle.chain_lists.proofs.rising.FourLaws.{four-held}
use Rattle.chain_lists.proofs.listing.PlacedLaws.{places-few}
use Rattle.answers.specs.declared.answer.Answer.{Answer}
use Rattle.forward.specs.Answer.{refusal, acceptance, short, answer_to, at_start, line_after, index_after, Answers}
use Rattle.forward.specs.Call.{Kept, Called}
use Rattle.sheet_input.specs.declared.header.Column.TheVariants.{Class as ClassColumn, Tail, Sn1, Sn2, Sn3, Sn4}
use Rattle.sheet_input.specs.declared.header.Plan.{Plan}
use Rattle.sheet_input.specs.declared.sheet.Asked.{Asked}
use Rattle.sheet_input.specs.sheet.Cells.{cell_of, sn_cells}
use Rattle.sheet_input.specs.sheet.Sheet.{request_of, told}
use Rattle.sheet_input.proofs.sheet.Requested.{asked-nothing, asked-request, asked-count}
use Rattle.sheet_frame.specs.declared.beginning.Answered.{Answered}
use Rattle.sheet_output.specs.rows.Chains.{carbons_of}
use Rattle.reading_rules.specs.reading.Parting.{joined, led}
use Rattle.writer.proofs.emit.Laws.{written-append}
use Rattle.sheet_output.specs.rows.Text.{ended, tabbed, chains_text, head_text, row_text}
use Rattle.sheet_frame.specs.beginning.Beginning.{refused, reply_text, UnreadableWritten}
use Rattle.batch.specs.Reply.{carbons_in, accepted, line_room, reply_to, answer_text, Drawn, RowAnswered}
use Rattle.sheet_output.proofs.rows.Laws.{part-taken}

-- ---- what is written of an answer

pub answer-text : {xs ys : List ℕ} {at p : ℕ} (a : Answer) (line index : List ℕ) (n : ℕ) → n ≡ min a.length (length line)
    → Written xs at (row_text a.number a.token (take (n - 0) line) (carbons_of (take a.lists.count a.lists.items) index)) ys p
    → Written xs at (answer_text a line index) ys p
answer-text a line index n e w = rw (part-taken line a.length n e) at w

-- ---- the chains of an accepted request

carbons-told : (ps : List Placed) (rest : List ℕ) → carbons_of (map list_of ps) (all_indices ps ++ rest) ≡ map carbons_in ps
unfolding carbons_of all_indices list_of carbons_in
carbons-told [] rest = refl
carbons-told (p ∷ ps) rest =
    rw (append_assoc (indices_of p) (all_indices ps) rest, take-append_seam (indices_of p) (all_indices ps ++ rest), drop-append_seam (indices_of p) (all_indices ps ++ rest), carbons-told ps rest)

chains-told : (c : Class) (t : List ℕ) (ds : List Chain) (rest : List ℕ)
    → carbons_of (take (length (map list_of (by_sn (placed c t ds)))) (four no_list (map list_of (by_sn (placed c t ds))))) (index_of c t ds ++ rest)
    ≡ map carbons_in (by_sn (placed c t ds))
unfolding index_of
chains-told c t ds rest =
    let ps = by_sn (placed c t ds) in
    let few : length (map list_of ps) ≤ 4 = omega (arith, length-map ps list_of, length-sorted (placed c t ds), places-few c t ds) in
    rw (four-held no_list (map list_of ps) few) (carbons-told ps rest)

-- ---- the reply

refused-told : (n p : ℕ) (ys js : List ℕ) → answer_text (refusal n p) ys js ≡ reply_text (refused n p)
unfolding reply_text carbons_of
refused-told n p ys js = refl

pub refused-text : {xs ys zs : List ℕ} {at p q : ℕ} (number token : ℕ) → length xs < 2 ^ 64 → Written xs at (head_text number token) ys p → Written ys p (9 ∷ 10 ∷ []) zs q
    → Written xs at (reply_text (refused number token)) zs q
unfolding reply_text row_text head_text tabbed ended joined led chains_text
refused-text number token g w u = simp append_assoc (simp append_assoc at (written-append g w u))

accepted-told : (c : Class) (swap : Bool) (t : List ℕ) (ds : List Chain) (xs is : List ℕ)
    → answer_text (acceptance c swap t ds) (at_start (line_of c swap t ds) xs) (at_start (index_of c t ds) is) ≡ reply_text (accepted c swap t ds)
unfolding reply_text acceptance accepted at_start
accepted-told c swap t ds xs is =
    rw (take-append_seam (line_of c swap t ds) (drop (length (line_of c swap t ds)) xs), chains-told c t ds (drop (length (index_of c t ds)) is))

-- a line slice of this length
module _ (swap : Bool) (t xs is : List ℕ) (e : length xs ≡ line_room) where
  told-by : (v : Verdict) → answer_text (answer_to v swap t (length xs) (length is)) (line_after v swap t xs is) (index_after v swap t (length xs) is)
      ≡ reply_text (reply_to v swap t (length is))
  told-by (Refused n p) = refused-told n p xs is
  told-by (Drawable c ds) = rw e (go (short c swap t ds line_room (length is)))
    where
      go : (b : Bool) → answer_text (cond b (refusal 41 0) (acceptance c swap t ds)) (cond b xs (at_start (line_of c swap t ds) xs)) (cond b is (at_start (index_of c t ds) is))
          ≡ reply_text (cond b (refused 41 0) (accepted c swap t ds))
      go true = refused-told 41 0 xs is
      go false = accepted-told c swap t ds xs is

  number_by : (v : Verdict) → (answer_to v swap t (length xs) (length is)).number ≡ (reply_to v swap t (length is)).number
  unfolding acceptance accepted
  number_by (Refused n p) = refl
  number_by (Drawable c ds) = rw e (go (short c swap t ds line_room (length is)))
    where
      go : (b : Bool) → (cond b (refusal 41 0) (acceptance c swap t ds)).number ≡ (cond b (refused 41 0) (accepted c swap t ds)).number
      go true = refl
      go false = refl

  index-by : (v : Verdict) → index_after v swap t (length xs) is ≡ index_after v swap t line_room is
  index-by (Refused n p) = refl
  index-by (Drawable c ds) = rw e

  -- what is written of an answer is the reply
  pub answered : {os ys js ps : List ℕ} {at q : ℕ} (v : Verdict) (a : Answer) → Answers v swap t xs is ys js a
      → Written os at (reply_text (reply_to v swap t (length is))) ps q → Drawn v swap t is os at js ps (record { number = a.number; next = q })
  answered v a h w =
      record {
        text = w;
        answer = ap (λ (b : Answer). b.number) h.answer ∙ number_by v;
        index = h.index ∙ index-by v;
      }

  pub drawn-apart : {os ys js ps : List ℕ} {at q : ℕ} (v : Verdict) (a : Answer) → Called v swap t xs is ys js a → Written os at (answer_text a ys js) ps q
      → Drawn v swap t is os at js ps (record { number = a.number; next = q })
  drawn-apart {ys = ys} {js = js} v a c w =
      let h : answer_text a ys js ≡ reply_text (reply_to v swap t (length is)) = rw (c.answers.answer, c.answers.line, c.answers.index) (told-by v) in
      answered v a c.answers (rw h at w)

-- ---- an answer of the call by its number

-- an accepted request: its line stands at the start of the line slice
pub record Stands (v : Verdict) (swap : Bool) (t xs is ys js : List ℕ) (a : Answer) : Type 0 where
  pub line : List ℕ
  pub size : a.length ≡ length line
  pub room : length line ≤ line_room
  pub drawn : ys ≡ at_start line xs
  pub reply : row_text 0 0 line (carbons_of (take a.lists.count a.lists.items) js) ≡ reply_text (reply_to v swap t (length is))

-- a refused request: the line slice is as it was
pub record Left (v : Verdict) (swap : Bool) (t xs is ys : List ℕ) (a : Answer) : Type 0 where
  pub same : ys ≡ xs
  pub reply : refused a.number a.token ≡ reply_to v swap t (length is)

module _ (swap : Bool) (t xs is : List ℕ) (e : length xs ≡ line_room) (ys js : List ℕ) (a : Answer) where
  stands_by : (c : Class) (ds : List Chain) → Answers (Drawable c ds) swap t xs is ys js a → a.number ≡ 0 → Stands (Drawable c ds) swap t xs is ys js a
  unfolding reply_text acceptance accepted at_start short
  stands_by c ds h z =
      go (short c swap t ds line_room (length is)) refl (h.answer ∙ rw e) (h.line ∙ rw e) (h.index ∙ rw e)
    where
      go : (b : Bool) → short c swap t ds line_room (length is) ≡ b → a ≡ cond b (refusal 41 0) (acceptance c swap t ds)
          → ys ≡ cond b xs (at_start (line_of c swap t ds) xs) → js ≡ cond b is (at_start (index_of c t ds) is) → Stands (Drawable c ds) swap t xs is ys js a
      go true s f l i = let y : a.number ≡ 41 = ap (λ (b : Answer). b.number) f in absurd (omega arith)
      go false s f l i =
          record {
            line = line_of c swap t ds;
            size = ap (λ (b : Answer). b.length) f;
            room = ltb-false line_room (length (line_of c swap t ds)) (or_left _ _ s);
            drawn = l;
            reply = (rw (s, f, i) (rw (chains-told c t ds (drop (length (index_of c t ds)) is))));
          }

  pub stands : (v : Verdict) → Called v swap t xs is ys js a → a.number ≡ 0 → Stands v swap t xs is ys js a
  stands v c z =
      let k : Kept v swap t ys js a = c.kept z in
      subst (λ (w : Verdict). Answers w swap t xs is ys js a → Stands w swap t xs is ys js a) (sym k.judged) (λ h. stands_by k.class k.chains h z) c.answers

  pub left : (v : Verdict) → Answers v swap t xs is ys js a → (a.number ≡ 0 → ⊥) → Left v swap t xs is ys a
  unfolding acceptance
  left (Refused n p) h z = record { same = h.line; reply = (rw h.answer) }
  left (Drawable c ds) h z = go (short c swap t ds line_room (length is)) refl (h.answer ∙ rw e) (h.line ∙ rw e)
    where
      go : (b : Bool) → short c swap t ds line_room (length is) ≡ b → a ≡ cond b (refusal 41 0) (acceptance c swap t ds)
          → ys ≡ cond b xs (at_start (line_of c swap t ds) xs) → Left (Drawable c ds) swap t xs is ys a
      go true s f l = record { same = l; reply = (rw (s, f)) }
      go false s f l = absurd (z (ap (λ (b : Answer). b.number) f))

-- ---- a row

-- the token cells
pub cells_told : (p : Plan) (row s1 s2 s3 s4 : List ℕ) → s1 ≡ cell_of p Sn1 row → s2 ≡ cell_of p Sn2 row → s3 ≡ cell_of p Sn3 row → s4 ≡ cell_of p Sn4 row
    → (s1 ∷ s2 ∷ s3 ∷ s4 ∷ []) ≡ sn_cells p row
cells_told p row s1 s2 s3 s4 e f g h = cc

module _ (p : Plan) (row : List ℕ) (o : Option Asked) (e : o ≡ told (request_of p row)) (is os : List ℕ) (at : ℕ) where
  pub row-unreadable : (ps : List ℕ) (r : Answered) → o ≡ None → UnreadableWritten os at ps r → RowAnswered (request_of p row) is os at is ps r
  row-unreadable ps r h w = rw (asked-nothing p row o e h) (record { text = w.text; answer = w.answer; index = refl })

  -- from the cells that are drawn
  pub row-drawn : {class t s1 s2 s3 s4 js ps : List ℕ} {r : Answered} → class ≡ cell_of p ClassColumn row → t ≡ cell_of p Tail row → s1 ≡ cell_of p Sn1 row
      → s2 ≡ cell_of p Sn2 row → s3 ≡ cell_of p Sn3 row → s4 ≡ cell_of p Sn4 row → (k : Asked) → o ≡ Some k
      → Drawn (verdict class t k.count (tokens k.count s1 s2 s3 s4)) k.swap t is os at js ps r → RowAnswered (request_of p row) is os at js ps r
  row-drawn {js = js} {ps} {r} a b f g i j k h d =
      let ts : List (List ℕ) = take k.count (sn_cells p row) in
      let v : Drawn (verdict (cell_of p ClassColumn row) (cell_of p Tail row) k.count ts) k.swap (cell_of p Tail row) is os at js ps r = rw (a, b, f, g, i, j) at d in
      let w : Drawn (verdict (cell_of p ClassColumn row) (cell_of p Tail row) (length ts) ts) k.swap (cell_of p Tail row) is os at js ps r
      = subst (λ (n : ℕ). Drawn (verdict (cell_of p ClassColumn row) (cell_of p Tail row) n ts) k.swap (cell_of p Tail row) is os at js ps r) (asked-count p row o e k h) v in
      rw (asked-request p row o e k h) (record { text = w.text; answer = w.answer; index = w.index })
