-- Laws of a row whose line is drawn where it stands in the output: the head and what follows the line are written around it, and the output
-- is as if the row had been written from its first byte to its last. Assumes nothing.
use Prim.Native.Nat.{ℕ, suc, ◌+◌, ◌-◌, ◌^◌, ◌≤◌, ◌<◌}
use native.Mathlib.Omega.{arith}
use mathlib.Core.Path.{◌≡◌, refl, sym, ap, ◌∙◌}
use mathlib.Core.Bool.{Bool}
use mathlib.Core.List.{List, [], ◌∷◌, ◌++◌, append_assoc}
use lib.ListN.{length, set, take, drop, length-drop, take-append-drop}
use lib.Seq.{length-take-le, sets, length-sets, sets-eq, drop-drop, drop-append-le}
use borrow.Rule.Slice.PartMut.{mid_of, put_mid, mid_len, put_same}
use Rattle.writer.specs.emit.Text.{Written, digits, decimal}
use Rattle.writer.proofs.emit.Laws.{written-append}
use Rattle.writer.proofs.emit.Over.{set_before}
use Rattle.sheet_output.specs.rows.Text.{ended, Carbons, head_text, row_text}
use Rattle.sheet_output.specs.rows.Chains.{carbons_of, rest_text}
use Rattle.sheet_output.proofs.rows.Laws.{row-parts}
use Rattle.judge.specs.Verdict.{Verdict}
use Rattle.answers.specs.declared.answer.Answer.{Answer}
use Rattle.forward.specs.Answer.{at_start}
use Rattle.forward.specs.Call.{Called}
use Rattle.sheet_frame.specs.beginning.Beginning.{refused, reply_text}
use Rattle.batch.specs.Reply.{line_room, Around, Drawn}
use Rattle.batch.proofs.ReplyLaws.{answered, Stands, stands, left}

-- ---- what goes before the line and what comes after it

length-head : length (head_text 0 0) ≡ 4
unfolding head_text ended decimal digits
length-head = refl

head_bytes : head_text 0 0 ≡ 48 ∷ 9 ∷ 48 ∷ 9 ∷ []
unfolding head_text ended decimal digits
head_bytes = refl

pub around-told : {os hs ps : List ℕ} {at n p r : ℕ} (cs : List Carbons) → length os < 2 ^ 64 → at + 4 + n ≤ length os → Written os at (48 ∷ 9 ∷ 48 ∷ 9 ∷ []) hs p
    → Written hs (at + 4 + n) (rest_text cs) ps r → Around os at n cs ps r
around-told {hs = hs} cs g h w u = record { headed = hs; head = rw head_bytes (record { elements = w.elements; next = omega arith }); rest = u }

-- what is stored at a place and what is stored behind it, in either order
sets-before : (a b xs : List ℕ) (at p : ℕ) → at + length a ≤ p → sets (sets xs p b) at a ≡ sets (sets xs at a) p b
sets-before [] b xs at p h = refl
sets-before (t ∷ a) b xs at p h = rw (set_before b xs at p t (omega arith)) (sets-before a b (set xs at t) (suc at) p (omega arith))

-- a row around a line that stands in its place
pub framed : {os ls ps : List ℕ} {at r : ℕ} (line : List ℕ) (cs : List Carbons) → length os < 2 ^ 64 → at + 4 + length line ≤ length os → ls ≡ sets os (at + 4) line
    → Around ls at (length line) cs ps r → Written os at (row_text 0 0 line cs) ps r
framed {os} {ls} {ps} {at} {r} line cs g h e w =
    let v : Written os at (head_text 0 0) (sets os at (head_text 0 0)) (at + 4) = record { elements = refl; next = omega (arith, length-head) } in
    let q : w.headed ≡ sets (sets os at (head_text 0 0)) (at + 4) line
    = w.head.elements ∙ (rw e (sets-before (head_text 0 0) line os at (at + 4) (omega (arith, length-head)))) in
    let u : Written (sets os at (head_text 0 0)) (at + 4) line w.headed (at + 4 + length line) = record { elements = q; next = omega arith } in
    let z : Written os at (head_text 0 0 ++ (line ++ rest_text cs)) ps r = written-append g v (written-append (rw length-sets g) u w.rest) in
    rw (row-parts 0 0 line cs) at z

-- ---- a part of the output in which a line is drawn

module _ (os : List ℕ) (a k : ℕ) (h : a + k ≤ length os) where
  rejoined : (n : ℕ) → n ≤ k → drop n (take k (drop a os)) ++ drop k (drop a os) ≡ drop (a + n) os
  rejoined n g =
      let s : length (take k (drop a os)) ≡ k = length-take-le k (drop a os) (omega (arith, length-drop a os)) in
      sym (drop-append-le n (take k (drop a os)) (drop k (drop a os)) (omega arith)) ∙ ap (drop n) (take-append-drop k (drop a os)) ∙ drop-drop n a os

  drawn-over : (line : List ℕ) → length line ≤ k → put_mid a k os (at_start line (mid_of a k os)) ≡ sets os a line
  unfolding at_start
  drawn-over line g =
      rw (append_assoc line, rejoined (length line) g)
      (sym (sets-eq line os a (omega arith) ∙ append_assoc (take a os) line (drop (a + length line) os)))

module _ (v : Verdict) (swap : Bool) (t is os : List ℕ) (at : ℕ) (ys js : List ℕ) (a : Answer) (h : at + 4 + line_room ≤ length os)
    (c : Called v swap t (take (at + 4 + 65536 - (at + 4)) (drop (at + 4) os)) is ys js a) where
  part_room : length (mid_of (at + 4) (at + 4 + 65536 - (at + 4)) os) ≡ line_room
  part_room = mid_len (at + 4) (at + 4 + 65536) os (omega arith) ∙ omega arith

  line-stands : (s : Stands v swap t (mid_of (at + 4) (at + 4 + 65536 - (at + 4)) os) is ys js a)
      → put_mid (at + 4) (at + 4 + 65536 - (at + 4)) os ys ≡ sets os (at + 4) s.line
  line-stands s =
      ap (put_mid (at + 4) (at + 4 + 65536 - (at + 4)) os) s.drawn
      ∙ drawn-over os (at + 4) (at + 4 + 65536 - (at + 4)) (omega arith) s.line (omega (arith, s.room))

  pub in-place-room : a.number ≡ 0 → at + 4 + a.length ≤ length (put_mid (at + 4) (at + 4 + 65536 - (at + 4)) os ys)
  in-place-room z =
      let s = stands swap t (mid_of (at + 4) (at + 4 + 65536 - (at + 4)) os) is part_room ys js a v c z in
      omega (arith, s.size, s.room, ap length (line-stands s) ∙ length-sets os (at + 4) s.line)

  pub in-place-accepted : {ps : List ℕ} {r : ℕ} → length os < 2 ^ 64 → a.number ≡ 0
      → Around (put_mid (at + 4) (at + 4 + 65536 - (at + 4)) os ys) at a.length (carbons_of (take a.lists.count a.lists.items) js) ps r
      → Drawn v swap t is os at js ps (record { number = a.number; next = r })
  in-place-accepted {ps} {r} g z w =
      let s = stands swap t (mid_of (at + 4) (at + 4 + 65536 - (at + 4)) os) is part_room ys js a v c z in
      let u : Written os at (row_text 0 0 s.line (carbons_of (take a.lists.count a.lists.items) js)) ps r
      = framed s.line (carbons_of (take a.lists.count a.lists.items) js) g (omega (arith, s.room)) (line-stands s) (rw s.size at w) in
      answered swap t (mid_of (at + 4) (at + 4 + 65536 - (at + 4)) os) is part_room v a c.answers (rw s.reply at u)

  pub in-place-refused : {ps : List ℕ} {r : ℕ} → (a.number ≡ 0 → ⊥)
      → Written (put_mid (at + 4) (at + 4 + 65536 - (at + 4)) os ys) at (reply_text (refused a.number a.token)) ps r
      → Drawn v swap t is os at js ps (record { number = a.number; next = r })
  in-place-refused {ps} {r} z w =
      let l = left swap t (mid_of (at + 4) (at + 4 + 65536 - (at + 4)) os) is part_room ys js a v c.answers z in
      let q : put_mid (at + 4) (at + 4 + 65536 - (at + 4)) os ys ≡ os
      = ap (put_mid (at + 4) (at + 4 + 65536 - (at + 4)) os) l.same ∙ put_same (at + 4) (at + 4 + 65536 - (at + 4)) os in
      answered swap t (mid_of (at + 4) (at + 4 + 65536 - (at + 4)) os) is part_room v a c.answers (rw (q, l.reply) at w)
