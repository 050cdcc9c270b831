-- A tail that reads by itself has no more atoms than bytes.
-- Assumes nothing.
use Prim.Native.Nat.{ℕ, ◌≤◌}
use native.Mathlib.Omega.{arith}
use mathlib.Core.Path.{◌≡◌, ap, subst}
use mathlib.Core.Option.{some}
use mathlib.Core.List.{List, [], ◌∷◌, ◌++◌}
use lib.ListN.{length, length-append}
use Rattle.reading_rules.specs.reading.Row.{Row}
use Rattle.reading_rules.specs.reading.Piece.{Piece, atom, mark, dot, lpar, rpar, show_labels, show_piece, show}
use Rattle.reading_rules.specs.reading.Machine.{fresh, opened, after, marked, State, st, Out, fail, ok, Labelled, stop, links, labels, joins, placed, step}
use Rattle.reading_rules.specs.reading.Part.{Part, part_of}
use Rattle.reading_rules.proofs.reading.Reading.{Reads, Split, reads-split, reads-nil-only}
use Rattle.reading_rules.proofs.reading.WellFormed.{AtomBytes, letter, chlorine, bromine, bracket, AllWell}
use Rattle.reading_rules.proofs.reading.Part.{PartFrom, part-from, part-size}
use Rattle.chain_rules.specs.chain.Drawing.{or_none}
use Rattle.template_rules.specs.Drawn.{tail_part}
use Rattle.template_rules.specs.Chains.{Whole}
use Rattle.template_rules.proofs.Placing.{TailFits}

-- ---- a piece gives at most one row

abbrev OneRow : Out → Type 0
OneRow fail = Unit {0}
OneRow (ok r s) = length r ≤ 1

placed_one : (b : List ℕ) (n : ℕ) (stk : List ℕ) (g : Labelled) → OneRow (placed b n stk g)
unfolding placed
placed_one b n stk stop = tt
placed_one b n stk (links ks t) = omega arith

step-one : (u : Piece) (s : State) → OneRow (step u s)
unfolding step
step-one (atom b ls) (st n cur stk t ph) = placed_one b n stk (labels ls n (joins ph cur) t)
step-one (mark m) (st n cur stk t fresh) = tt
step-one (mark m) (st n cur stk t opened) = omega arith
step-one (mark m) (st n cur stk t after) = omega arith
step-one (mark m) (st n cur stk t (marked m')) = tt
step-one dot (st n cur stk t fresh) = tt
step-one dot (st n cur stk t opened) = tt
step-one dot (st n cur stk t after) = omega arith
step-one dot (st n cur stk t (marked m')) = tt
step-one lpar (st n cur stk t fresh) = tt
step-one lpar (st n cur stk t opened) = tt
step-one lpar (st n cur stk t after) = omega arith
step-one lpar (st n cur stk t (marked m')) = tt
step-one rpar (st n cur [] t ph) = tt
step-one rpar (st n cur (p ∷ stk) t fresh) = tt
step-one rpar (st n cur (p ∷ stk) t opened) = tt
step-one rpar (st n cur (p ∷ stk) t after) = omega arith
step-one rpar (st n cur (p ∷ stk) t (marked m')) = tt

rows_few : (us : List Piece) {s s' : State} {r : List Row} → Reads us s r s' → length r ≤ length us
rows_few [] {s} {s'} {r} d = let q : record { rows : r ≡ []; state : s ≡ s' } = reads-nil-only d in omega (arith, ap length q.rows)
rows_few (u ∷ us) {s} {s'} {r} d =
    let q : Split u us s r s' = reads-split d in
    omega (arith, subst OneRow q.first.by (step-one u s), rows_few us q.rest, ap length q.all, length-append q.r₁ q.r₂)

-- ---- and a piece has a byte at least

atom-some : {b : List ℕ} → AtomBytes b → 1 ≤ length b
atom-some (letter x t) = omega arith
atom-some chlorine = omega arith
atom-some bromine = omega arith
atom-some (bracket xs h a b) = omega arith

show-more : (us : List Piece) → AllWell us → length us ≤ length (show us)
unfolding show show_piece
show-more [] h = omega arith
show-more (atom b ls ∷ us) h =
    omega (arith, atom-some h.0.0, length-append b (show_labels ls), length-append (b ++ show_labels ls) (show us), show-more us h.1)
show-more (mark m ∷ us) h = omega (arith, show-more us h.1)
show-more (dot ∷ us) h = omega (arith, show-more us h.1)
show-more (lpar ∷ us) h = omega (arith, show-more us h.1)
show-more (rpar ∷ us) h = omega (arith, show-more us h.1)

part-few : (xs : List ℕ) (p : Part) → PartFrom xs p → p.size ≤ length xs
part-few xs p f =
    omega (arith, part-size f.hangs, rows_few p.pieces f.hangs.reads, show-more p.pieces f.well, ap length f.shown)

-- ---- the tail of a request

-- what is asked of it: it reads by itself, and has at most 255 bytes
pub record TailReads (t : List ℕ) : Type 0 where
  pub part : Part
  pub is : part_of t ≡ some part
  pub few : length t ≤ 255

pub tail-fits : (t : List ℕ) → TailReads t → TailFits t
unfolding tail_part
tail-fits t r =
    let e : tail_part t ≡ r.part = ap or_none r.is in
    let f : PartFrom t r.part = part-from t r.part r.is in
    record { hangs = rw e f.hangs; well = rw e f.well; few = rw e (omega (arith, part-few t r.part f, r.few)) }

-- its bytes are the part's, written
pub tail-whole : (t : List ℕ) → TailReads t → Whole t (tail_part t)
unfolding tail_part
tail-whole t r =
    let e : tail_part t ≡ r.part = ap or_none r.is in
    record { reads = rw e r.is; shown = rw e (part-from t r.part r.is).shown }
