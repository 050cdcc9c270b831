-- Each answer met is counted: it is one of the numbers that have a count, and the count is the number of times that it stands among the
-- answers. 01, Put to each public function: "in any order each answer met stands there once, with its times". Assumes nothing.
use Prim.Native.Nat.{ℕ, ◌<◌}
use native.Mathlib.Omega.{arith}
use mathlib.Core.Path.{◌≡◌, refl, sym, ap}
use mathlib.Core.Bool.{Bool, true, false, cond, not, ◌||◌, true≢false}
use mathlib.Core.List.{List, [], ◌∷◌}
use lib.ListN.{length, take}
use lib.Dec.{eqb}
use borrow.Author.Tests.{eqb-true}
use Rattle.std.specs.Prelude.{Option, Some, None}
use Rattle.chain_rules.specs.chain.Lists.{any_of}
use Rattle.judge.specs.Verdict.{Verdict, Refused, Drawable, verdict, is_refusal}
use Rattle.judge.proofs.Accepted.{refused-number}
use Rattle.forward.specs.Answer.{short}
use Rattle.sheet_input.specs.declared.header.Column.TheVariants.{Class as ClassColumn, Tail, Sn1, Sn2, Sn3, Sn4}
use Rattle.sheet_input.specs.declared.header.Plan.{Plan}
use Rattle.sheet_input.specs.declared.sheet.Asked.{Asked}
use Rattle.sheet_input.specs.sheet.Cells.{cell_of, sn_cells}
use Rattle.sheet_input.specs.sheet.Sheet.{request_of, told}
use Rattle.sheet_input.proofs.sheet.Requested.{asked-nothing, asked-request, asked-count}
use Rattle.sheet_frame.specs.tally.Counts.{answers}
use Rattle.sheet_frame.specs.beginning.Beginning.{refused}
use Rattle.batch.specs.Reply.{accepted, line_room, reply_to, reply_of}

-- ---- every answer has a count

abbrev Small : List ℕ → Type 0
Small [] = Unit {0}
Small (k ∷ ks) = (k < answers) × Small ks

among-small : (n : ℕ) (ks : List ℕ) → Small ks → any_of (eqb n) ks ≡ true → n < answers
unfolding any_of
among-small n [] s e = absurd (true≢false (sym e))
among-small n (k ∷ ks) s e = go (eqb n k) refl e (among-small n ks s.1)
  where
    go : (b : Bool) → eqb n k ≡ b → (b || any_of (eqb n) ks) ≡ true → (any_of (eqb n) ks ≡ true → n < answers) → n < answers
    go true f g h = let z : n ≡ k = eqb-true n k f in omega (arith, z, s.0)
    go false f g h = h g

pub refusal-small : (n : ℕ) → is_refusal n ≡ true → n < answers
unfolding is_refusal
refusal-small n e =
    among-small n (20 ∷ 21 ∷ 31 ∷ 11 ∷ 22 ∷ 23 ∷ 32 ∷ 33 ∷ 12 ∷ 13 ∷ 14 ∷ 15 ∷ [])
    (omega arith, (omega arith, (omega arith, (omega arith, (omega arith, (omega arith, (omega arith, (omega arith, (omega arith, (omega arith, (omega arith, (omega arith, tt)))))))))))) e

-- the number of a reply to a row
pub reply-counted : (p : Plan) (row : List ℕ) (index : ℕ) → (reply_of (request_of p row) index).number < answers
unfolding accepted
reply-counted p row index = go (told (request_of p row)) refl
  where
    drawn : (swap : Bool) (t : List ℕ) (v : Verdict) → ((n q : ℕ) → v ≡ Refused n q → is_refusal n ≡ true) → (reply_to v swap t index).number < answers
    drawn swap t (Refused n q) f = refusal-small n (f n q refl)
    drawn swap t (Drawable c ds) f = whole (short c swap t ds line_room index)
      where
        whole : (b : Bool) → (cond b (refused 41 0) (accepted c swap t ds)).number < answers
        whole true = omega arith
        whole false = omega arith

    go : (o : Option Asked) → told (request_of p row) ≡ o → (reply_of (request_of p row) index).number < answers
    go (Some a) e =
        let ts : List (List ℕ) = take a.count (sn_cells p row) in
        let n : length ts ≡ a.count = sym (asked-count p row (told (request_of p row)) refl a e) in
        rw (asked-request p row (told (request_of p row)) refl a e, n)
        (drawn a.swap (cell_of p Tail row) (verdict (cell_of p ClassColumn row) (cell_of p Tail row) a.count ts)
        (λ m q f. (refused-number (cell_of p ClassColumn row) (cell_of p Tail row) a.count (cell_of p Sn1 row) (cell_of p Sn2 row) (cell_of p Sn3 row) (cell_of p Sn4 row) m q f).0))
    go None e = rw (asked-nothing p row (told (request_of p row)) refl e) (omega arith)
