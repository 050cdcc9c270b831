-- Laws of the lines of a sheet: each stage of a batch, and a turn and the ways out of the loop over the lines of a text.
-- Assumes nothing.
use Prim.Native.Nat.{ℕ, ◌+◌, ◌-◌, ◌^◌, ◌≤◌, ◌<◌}
use native.Mathlib.Nat.{sub-zero}
use native.Mathlib.Omega.{arith}
use mathlib.Core.Path.{◌≡◌, refl, sym, ap, ◌∙◌, subst}
use mathlib.Core.Bool.{Bool, true, false, cond, true≢false}
use mathlib.Core.List.{List, [], ◌∷◌, ◌++◌, append_assoc, append-nil}
use lib.ListN.{length, take, drop, length-drop}
use lib.Seq.{take_all, drop-drop}
use Rattle.scanner.specs.scan.Part.{Place, index_of}
use Rattle.scanner.proofs.scan.Laws.{to_end}
use Rattle.writer.specs.emit.Text.{Written}
use Rattle.writer.proofs.emit.Laws.{written-append, written-nil}
use Rattle.token_syntax.specs.form.Parts.{parts_at}
use Rattle.token_syntax.proofs.form.Laws.{parts_last, parts_more}
use Rattle.sheet_input.specs.cutting.Cut.{LineCut}
use Rattle.sheet_input.specs.sheet.Sheet.{request_of}
use Rattle.sheet_input.specs.declared.cutting.Line.{Line}
use Rattle.sheet_input.specs.declared.header.Plan.{Plan}
use Rattle.sheet_frame.specs.declared.tally.Counts.{Counts}
use Rattle.sheet_frame.specs.declared.beginning.Answered.{Answered}
use Rattle.sheet_frame.specs.declared.beginning.Stage.{Stage}
use Rattle.sheet_frame.specs.declared.beginning.Stage.TheVariants.{Header, Rows, Over}
use Rattle.sheet_frame.specs.declared.beginning.Batch.{Batch}
use Rattle.sheet_frame.specs.declared.beginning.Lined.{Lined}
use Rattle.sheet_frame.specs.tally.Counts.{counting, with_answer, times_from, count_lines}
use Rattle.batch.specs.declared.Lines.{Lines}
use Rattle.batch.specs.declared.Passed.{Passed}
use Rattle.batch.specs.Reply.{RowAnswered}
use Rattle.sheet_frame.specs.beginning.Beginning.{texts_of, numbers_of, header_batch, HeaderAnswered}
use Rattle.batch.specs.Batch.{Held, batch_after, held_after, held_from, is_header, held_last, before, Holds, LinesAnswered, among, passed_in, Finished}

-- ---- a row

pub row-counted : (plan : Plan) (counts : Counts) (l is os : List ℕ) (at : ℕ) (js ps : List ℕ) (a : Answered) (counted : Counts)
    → RowAnswered (request_of plan l) is os at js ps a → counted ≡ counting (with_answer counts.times a.number)
    → Holds os at (held_after (before (among plan counts.times) is) l) (record { stage = Rows plan; counts = counted }) js ps a.next
unfolding held_after batch_after texts_of numbers_of times_from
row-counted plan counts l is os at js ps a counted w c =
    record {
      batch = (rw (c, w.answer));
      index = w.index;
      text = (rw append-nil w.text);
    }

-- ---- a line

module _ (b : Batch) (l is os : List ℕ) (at : ℕ) where
  pub line-header : (ps : List ℕ) (r : Lined) → b.stage ≡ Header → HeaderAnswered b l os at ps r
      → Holds os at (held_after (before b is) l) r.batch is ps r.next
  unfolding held_after batch_after header_batch
  line-header ps r e w = rw e (record { batch = w.batch; index = refl; text = w.text })

  pub line_row : (plan : Plan) (js ps : List ℕ) (r : Lined) → b.stage ≡ Rows plan
      → Holds os at (held_after (before (among plan b.counts.times) is) l) r.batch js ps r.next → Holds os at (held_after (before b is) l) r.batch js ps r.next
  unfolding held_after batch_after
  line_row plan js ps r e w = rw e w

  pub line-over : b.stage ≡ Over → at < 2 ^ 64 → Holds os at (held_after (before b is) l) b is os at
  unfolding held_after batch_after texts_of numbers_of times_from
  line-over e g =
      let q : b ≡ record { stage = Over; counts = b.counts } = ap (λ (s : Stage). record { stage = s; counts = b.counts }) e in
      subst (λ (x : Batch). Holds os at (held_after (before x is) l) x is os at) (sym q) (record { batch = refl; index = refl; text = written-nil os at g })

-- ---- the lines of a text

held-snoc : (h : Held) (ls : List (List ℕ)) (l : List ℕ) → held_from h (ls ++ l ∷ []) ≡ held_after (held_from h ls) l
unfolding held_from
held-snoc h [] l = refl
held-snoc h (k ∷ ls) l = held-snoc (held_after h k) ls l

-- the lines so far, and the text t that is left
pub record Turned (b₀ : Batch) (text is os : List ℕ) (at : ℕ) (js ps : List ℕ) (b : Batch) (t : List ℕ) (p : ℕ) : Type 0 where
  pub lines : List (List ℕ)
  pub parts : parts_at 10 text ≡ lines ++ parts_at 10 t
  pub holds : Holds os at (held_from (before b₀ is) lines) b js ps p
  pub rest : t ≡ drop (length text - length t) text
  pub within : length t ≤ length text

pub turn-start : (b : Batch) (text is os : List ℕ) (at : ℕ) → at < 2 ^ 64 → Turned b text is os at is os b text at
unfolding held_from
turn-start b text is os at g =
    record {
      lines = [];
      parts = refl;
      holds = record { batch = refl; index = refl; text = written-nil os at g };
      rest = (let z : length text - length text ≡ 0 = omega arith in rw z);
      within = omega arith;
    }

-- one line after others
held_more : (os : List ℕ) (at : ℕ) (h : Held) (b : Batch) (js ps : List ℕ) (p : ℕ) (l : List ℕ) (c : Batch) (ks qs : List ℕ) (q : ℕ) → length os < 2 ^ 64
    → Holds os at h b js ps p → Holds ps p (held_after (before b js) l) c ks qs q → Holds os at (held_after h l) c ks qs q
unfolding held_after
held_more os at h b js ps p l c ks qs q g v w =
    let e : b ≡ h.batch = v.batch in
    let i : js ≡ h.index = v.index in
    record {
      batch = (rw (e, i) at w.batch);
      index = (rw (e, i) at w.index);
      text = written-append g v.text (rw (e, i) at w.text);
    }

module _ (b₀ : Batch) (text is os : List ℕ) (at : ℕ) (js ps : List ℕ) (b : Batch) (t : List ℕ) (p n : ℕ) (h : Turned b₀ text is os at js ps b t p)
    (f : Place t (index_of 10 t) n) where
  pub turn_more : (c : Batch) (ks qs : List ℕ) (q : ℕ) → length os < 2 ^ 64 → (n ≡ length t → ⊥)
      → Holds ps p (held_after (before b js) (take (n - 0) t)) c ks qs q
      → Turned b₀ text is os at ks qs c (take (length t - (n + 1)) (drop (n + 1) t)) q
  turn_more c ks qs q g d w =
      let s : length (drop (n + 1) t) ≡ length t - (n + 1) = length-drop (n + 1) t in
      let r : t ≡ drop (length text - length t) text = h.rest in
      let i : n < length t = omega (arith, f.within, d) in
      let k : length text - length t + (n + 1) ≡ length text - length (drop (n + 1) t) = omega (arith, s, h.within, i) in
      record {
        lines = h.lines ++ take (n - 0) t ∷ [];
        parts = h.parts ∙ ap (λ (l : List (List ℕ)). h.lines ++ l) (parts_more 10 t n f d) ∙ sym (append_assoc h.lines (take (n - 0) t ∷ []) (parts_at 10 (take (length t - (n + 1)) (drop (n + 1) t))));
        holds = (rw held-snoc (held_more os at (held_from (before b₀ is) h.lines) b js ps p (take (n - 0) t) c ks qs q g h.holds w));
        rest = (rw (to_end (n + 1) t) (ap (λ (u : List ℕ). drop (n + 1) u) r ∙ drop-drop (n + 1) (length text - length t) text ∙ ap (λ (m : ℕ). drop m text) k));
        within = (rw (to_end (n + 1) t) (omega (arith, s, h.within)));
      }

  pub turn_last : (limit : ℕ) → n ≡ length t → LinesAnswered b₀ text is os at limit js ps (record { batch = b; used = length text - length t; next = p; whole = true })
  turn_last limit e =
      let r : t ≡ drop (length text - length t) text = h.rest in
      let w : parts_at 10 t ≡ t ∷ [] = parts_last 10 t n f e ∙ ap (λ (l : List ℕ). l ∷ []) (rw sub-zero (take_all n t (omega arith))) in
      record {
        lines = h.lines;
        parts = (subst (λ (u : List ℕ). parts_at 10 text ≡ h.lines ++ parts_at 10 u) r h.parts);
        holds = h.holds;
        within = omega arith;
        all = λ z. subst (λ (u : List ℕ). parts_at 10 u ≡ u ∷ []) r w;
        some = λ z. absurd (true≢false z);
      }

pub turn-full : (b₀ : Batch) (text is os : List ℕ) (at : ℕ) (js ps : List ℕ) (b : Batch) (t : List ℕ) (p limit : ℕ) → Turned b₀ text is os at js ps b t p
    → limit < p → LinesAnswered b₀ text is os at limit js ps (record { batch = b; used = length text - length t; next = p; whole = false })
turn-full b₀ text is os at js ps b t p limit h g =
    record {
      lines = h.lines;
      parts = (subst (λ (u : List ℕ). parts_at 10 text ≡ h.lines ++ parts_at 10 u) h.rest h.parts);
      holds = h.holds;
      within = omega arith;
      all = λ z. absurd (true≢false (sym z));
      some = λ z. g;
    }

-- ---- the rows of a text, counted where the counts stand

module _ (plan : Plan) (ts₀ text is os : List ℕ) (at : ℕ) (js ps ts t : List ℕ) (p : ℕ) (h : Turned (among plan ts₀) text is os at js ps (among plan ts) t p) where
  pub rows_more : (n : ℕ) → Place t (index_of 10 t) n → (ks qs us : List ℕ) (a : Answered) → length os < 2 ^ 64 → (n ≡ length t → ⊥)
      → RowAnswered (request_of plan (take (n - 0) t)) js ps p ks qs a → us ≡ with_answer ts a.number
      → Turned (among plan ts₀) text is os at ks qs (among plan us) (take (length t - (n + 1)) (drop (n + 1) t)) a.next
  rows_more n f ks qs us a g d w e =
      turn_more (among plan ts₀) text is os at js ps (among plan ts) t p n h f (among plan us) ks qs a.next g d
      (row-counted plan (counting ts) (take (n - 0) t) js ps p ks qs a (counting us) w (ap counting e))

  pub rows_last : (starts : List ℕ) (l : Line) → LineCut t starts l → (limit : ℕ) → l.end ≡ length t
      → LinesAnswered (among plan ts₀) text is os at limit js ps (passed_in plan ts (record { used = length text - length t; next = p; whole = true }))
  rows_last starts l f limit e = turn_last (among plan ts₀) text is os at js ps (among plan ts) t p l.end h f.end limit e

pub rows-full : (plan : Plan) (ts₀ text is os : List ℕ) (at : ℕ) (js ps ts t : List ℕ) (p limit : ℕ)
    → Turned (among plan ts₀) text is os at js ps (among plan ts) t p → limit < p
    → LinesAnswered (among plan ts₀) text is os at limit js ps (passed_in plan ts (record { used = length text - length t; next = p; whole = false }))
rows-full plan ts₀ text is os at js ps ts t p limit h g = turn-full (among plan ts₀) text is os at js ps (among plan ts) t p limit h g

pub rows-answered : (b : Batch) (plan : Plan) (text is os : List ℕ) (at limit : ℕ) (js ps us : List ℕ) (r : Passed) → b.stage ≡ Rows plan
    → LinesAnswered (among plan b.counts.times) text is os at limit js ps (passed_in plan us r) → LinesAnswered b text is os at limit js ps (passed_in plan us r)
rows-answered b plan text is os at limit js ps us r e w =
    let z : b ≡ among plan b.counts.times = ap (λ (s : Stage). record { stage = s; counts = b.counts }) e in
    subst (λ (x : Batch). LinesAnswered x text is os at limit js ps (passed_in plan us r)) (sym z) w

-- ---- the first line, and the others

-- h holds what k holds, and w before its text
record Behind (w : List ℕ) (h k : Held) : Type 0 where
  batch : h.batch ≡ k.batch
  index : h.index ≡ k.index
  text : h.text ≡ w ++ k.text

behind-after : (w : List ℕ) (h k : Held) (l : List ℕ) → Behind w h k → Behind w (held_after h l) (held_after k l)
unfolding held_after
behind-after w h k l b =
    let e : h.batch ≡ k.batch = b.batch in
    let i : h.index ≡ k.index = b.index in
    let t : h.text ≡ w ++ k.text = b.text in
    record { batch = (rw (e, i)); index = (rw (e, i)); text = (rw (e, i, t) (append_assoc w k.text _)) }

behind-from : (w : List ℕ) (ls : List (List ℕ)) (h k : Held) → Behind w h k → Behind w (held_from h ls) (held_from k ls)
unfolding held_from
behind-from w [] h k b = b
behind-from w (l ∷ ls) h k b = behind-from w ls (held_after h l) (held_after k l) (behind-after w h k l b)

-- some lines after one that was answered
held-lines : (os : List ℕ) (at : ℕ) (h : Held) (b : Batch) (js ps : List ℕ) (p : ℕ) (ls : List (List ℕ)) (c : Batch) (ks qs : List ℕ) (q : ℕ) → length os < 2 ^ 64
    → Holds os at h b js ps p → Holds ps p (held_from (before b js) ls) c ks qs q → Holds os at (held_from h ls) c ks qs q
held-lines os at h b js ps p ls c ks qs q g v w =
    let d = behind-from h.text ls h (before b js) (record { batch = sym v.batch; index = sym v.index; text = sym (append-nil h.text) }) in
    let t : (held_from h ls).text ≡ h.text ++ (held_from (before b js) ls).text = d.text in
    record {
      batch = w.batch ∙ sym d.batch;
      index = w.index ∙ sym d.index;
      text = (rw t (written-append g v.text w.text));
    }

-- what is used of a text after its first line
pub first-within : (text : List ℕ) (n u : ℕ) → Place text (index_of 10 text) n → (n ≡ length text → ⊥) → u ≤ length (take (length text - (n + 1)) (drop (n + 1) text))
    → n + 1 + u ≤ length text
first-within text n u f d w =
    let s : u ≤ length (drop (n + 1) text) = (rw (to_end (n + 1) text) at w) in
    let i : n < length text = omega (arith, f.within, d) in
    omega (arith, s, length-drop (n + 1) text)

module _ (b : Batch) (text is os : List ℕ) (at limit : ℕ) where
  pub first-full : limit < at → at < 2 ^ 64 → LinesAnswered b text is os at limit is os (record { batch = b; used = 0; next = at; whole = false })
  unfolding held_from
  first-full h g =
      record {
        lines = [];
        parts = refl;
        holds = record { batch = refl; index = refl; text = written-nil os at g };
        within = omega arith;
        all = λ z. absurd (true≢false (sym z));
        some = λ z. h;
      }

  module _ (n : ℕ) (f : Place text (index_of 10 text) n) where
    pub first-last : n ≡ length text → at < 2 ^ 64 → LinesAnswered b text is os at limit is os (record { batch = b; used = 0; next = at; whole = true })
    unfolding held_from
    first-last e g =
        record {
          lines = [];
          parts = refl;
          holds = record { batch = refl; index = refl; text = written-nil os at g };
          within = omega arith;
          all = λ z. parts_last 10 text n f e ∙ ap (λ (l : List ℕ). l ∷ []) (rw sub-zero (take_all n text (omega arith)));
          some = λ z. absurd (true≢false z);
        }

    pub first_more : (c : Batch) (js ps ks qs : List ℕ) (p : ℕ) (r : Lines) → length os < 2 ^ 64 → (n ≡ length text → ⊥)
        → Holds os at (held_after (before b is) (take (n - 0) text)) c js ps p
        → LinesAnswered c (take (length text - (n + 1)) (drop (n + 1) text)) js ps p limit ks qs r
        → LinesAnswered b text is os at limit ks qs (record { batch = r.batch; used = n + 1 + r.used; next = r.next; whole = r.whole })
    unfolding held_from
    first_more c js ps ks qs p r g d v w =
        let e : drop r.used (take (length text - (n + 1)) (drop (n + 1) text)) ≡ drop (n + 1 + r.used) text
        = ap (drop r.used) (to_end (n + 1) text) ∙ drop-drop r.used (n + 1) text in
        record {
          lines = take (n - 0) text ∷ w.lines;
          parts = parts_more 10 text n f d ∙ ap (λ (l : List (List ℕ)). take (n - 0) text ∷ l) (w.parts ∙ ap (λ (u : List ℕ). w.lines ++ parts_at 10 u) e);
          holds = held-lines os at (held_after (before b is) (take (n - 0) text)) c js ps p w.lines r.batch ks qs r.next g v w.holds;
          within = first-within text n r.used f d w.within;
          all = λ z. subst (λ (u : List ℕ). parts_at 10 u ≡ u ∷ []) e (w.all z);
          some = w.some;
        }

-- ---- the end of a sheet

not-header : (s : Stage) → (s ≡ Header → ⊥) → is_header s ≡ false
not-header Header d = absurd (d refl)
not-header (Rows plan) d = refl
not-header Over d = refl

module _ (b : Batch) (is os : List ℕ) (at : ℕ) where
  -- nothing is left, and the header was answered
  pub last_none : (l : List ℕ) → length l ≡ 0 → (b.stage ≡ Header → ⊥) → at < 2 ^ 64 → Holds os at (held_last (before b is) l) b is os at
  unfolding held_last
  last_none [] h d g =
      let e : is_header b.stage ≡ false = not-header b.stage d in
      rw e (record { batch = refl; index = refl; text = written-nil os at g })
  last_none (x ∷ l) h d g = absurd (omega arith)

  -- the header, though it has no bytes
  pub last-header : (l js ps : List ℕ) (c : Batch) (q : ℕ) → length l ≡ 0 → b.stage ≡ Header
      → Holds os at (held_after (before b is) l) c js ps q → Holds os at (held_last (before b is) l) c js ps q
  unfolding held_last
  last-header [] js ps c q h e w =
      let z : is_header b.stage ≡ true = rw e in
      subst (λ (k : Bool). Holds os at (cond k (held_after (before b is) []) (before b is)) c js ps q) (sym z) w
  last-header (x ∷ l) js ps c q h e w = absurd (omega arith)

  pub last_some : (l js ps : List ℕ) (c : Batch) (q : ℕ) → (length l ≡ 0 → ⊥)
      → Holds os at (held_after (before b is) l) c js ps q → Holds os at (held_last (before b is) l) c js ps q
  unfolding held_last
  last_some [] js ps c q h w = absurd (h refl)
  last_some (x ∷ l) js ps c q h w = w

  pub finished : (l js ps qs : List ℕ) (c : Batch) (p r : ℕ) → length os < 2 ^ 64 → Holds os at (held_last (before b is) l) c js ps p
      → Written ps p (count_lines c.counts.times) qs r → Finished b l is os at js qs r
  finished l js ps qs c p r g h w =
      let e : c ≡ (held_last (before b is) l).batch = h.batch in
      record { index = h.index; text = written-append g h.text (rw e at w) }
