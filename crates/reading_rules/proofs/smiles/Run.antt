-- The machine reads runs and nothing else: 01's sentence on a run, as an inductive definition, against the machine.
-- 01, The line and its reading: "a run is an atom with labels .. and digits .., then any number of: such an atom, after at most one mark or
-- `.`; `(`, at most one mark, a run, `)`. The text is a run".
use mathlib.Core.Path.{◌≡◌, refl, sym, ap, subst}
use mathlib.Core.Option.{some}
use Prim.Native.Nat.{ℕ, suc}
use mathlib.Core.List.{List, [], ◌∷◌, ◌++◌, append_assoc, append-nil}
use Rattle.reading_rules.specs.smiles.Row.{Row}
use Rattle.reading_rules.specs.smiles.Piece.{Piece, atom, mark, dot, lpar, rpar}
use Rattle.reading_rules.specs.smiles.Machine.{Entry, Phase, fresh, opened, after, marked, State, st, Out, fail, ok, Labelled, stop, links, labels, joins, plainly, placed, step, run, whole, read_pieces}
use Rattle.reading_rules.proofs.smiles.Reading.{Reads, Steps, Split, reads-nil, reads-nil-only, reads-cons, reads-append, reads-split, steps-lpar, steps-rpar, steps-dot, steps-mark, steps-plain, reads_then}
use Rattle.reading_rules.proofs.smiles.Frame.{EachLabel, each-label-split}
use Rattle.reading_rules.proofs.smiles.Part.{none≢some}

-- a mark, or none
pub data Marked : List Piece → Type 0 where
  unmarked : Marked []
  one-mark : (m : ℕ) → Marked (mark m ∷ [])

pub data Run : List Piece → Type 0 where
  first : (b ls : List ℕ) → Run (atom b ls ∷ [])
  and-atom : {us ms : List Piece} → Run us → Marked ms → (b ls : List ℕ) → Run (us ++ (ms ++ atom b ls ∷ []))
  and-dot : {us : List Piece} → Run us → (b ls : List ℕ) → Run (us ++ dot ∷ atom b ls ∷ [])
  and-branch : {us ms vs : List Piece} → Run us → Marked ms → Run vs → Run (us ++ ((lpar ∷ ms ++ vs) ++ rpar ∷ []))

-- ---- what reads is a run

-- what was read, up to an atom or a `)`: a run, and one in each open branch
data Lead : List ℕ → List Piece → Type 0 where
  at_top : {us : List Piece} → Run us → Lead [] us
  in-branch : {stk : List ℕ} {us ms vs : List Piece} (p : ℕ) → Lead stk us → Marked ms → Run vs → Lead (p ∷ stk) (us ++ (lpar ∷ ms ++ vs))

-- the same where more has to come
data Reach : State → List Piece → Type 0 where
  nothing : {n cur : ℕ} {t : List Entry} → Reach (st n cur [] t fresh) []
  past-atom : {n cur : ℕ} {stk : List ℕ} {t : List Entry} {us : List Piece} → Lead stk us → Reach (st n cur stk t after) us
  past-dot : {n cur : ℕ} {stk : List ℕ} {t : List Entry} {us : List Piece} → Lead stk us → Reach (st n cur stk t fresh) (us ++ dot ∷ [])
  past-mark : {n cur m' : ℕ} {stk : List ℕ} {t : List Entry} {us : List Piece} (m : ℕ) → Lead stk us → Reach (st n cur stk t (marked m')) (us ++ mark m ∷ [])
  past-lpar : {n cur p : ℕ} {stk : List ℕ} {t : List Entry} {us : List Piece} → Lead stk us → Reach (st n cur (p ∷ stk) t opened) (us ++ lpar ∷ [])
  past-both : {n cur p m' : ℕ} {stk : List ℕ} {t : List Entry} {us : List Piece} (m : ℕ)
      → Lead stk us → Reach (st n cur (p ∷ stk) t (marked m')) (us ++ lpar ∷ mark m ∷ [])

deeper : (us ns vs xs : List Piece) → (us ++ (lpar ∷ ns ++ vs)) ++ xs ≡ us ++ (lpar ∷ ns ++ (vs ++ xs))
deeper us ns vs xs = simp append_assoc

-- what goes on with any run goes on with the innermost one
lead-grow : {stk : List ℕ} {us : List Piece} (xs : List Piece) → ((vs : List Piece) → Run vs → Run (vs ++ xs)) → Lead stk us → Lead stk (us ++ xs)
lead-grow xs f (at_top {us} r) = at_top (f us r)
lead-grow xs f (in-branch {stk} {us} {ms} {vs} p l k r) = subst (Lead (p ∷ stk)) (sym (deeper us ms vs xs)) (in-branch p l k (f vs r))

lead-closes : {p : ℕ} {stk : List ℕ} {us : List Piece} → Lead (p ∷ stk) us → Lead stk (us ++ rpar ∷ [])
lead-closes (in-branch {stk} {us} {ms} {vs} p l k r) =
    subst (Lead stk) (sym (append_assoc us (lpar ∷ ms ++ vs) (rpar ∷ []))) (lead-grow ((lpar ∷ ms ++ vs) ++ rpar ∷ []) (λ ws w. and-branch w k r) l)

abbrev ReachOut : List Piece → Out → Type 0
ReachOut us fail = Unit {0}
ReachOut us (ok r s) = Reach s us

reach-placed : (b : List ℕ) (n : ℕ) (stk : List ℕ) (us : List Piece) (g : Labelled) → Lead stk us → ReachOut us (placed b n stk g)
unfolding placed
reach-placed b n stk us stop l = tt
reach-placed b n stk us (links ks t) l = past-atom l

-- two pieces at the end, one after the other
apart : (us : List Piece) (u v : Piece) → (us ++ u ∷ []) ++ v ∷ [] ≡ us ++ u ∷ v ∷ []
apart us u v = append_assoc us (u ∷ []) (v ∷ [])

apart-three : (us : List Piece) (u v w : Piece) → (us ++ u ∷ v ∷ []) ++ w ∷ [] ≡ us ++ u ∷ v ∷ w ∷ []
apart-three us u v w = append_assoc us (u ∷ v ∷ []) (w ∷ [])

step-reach : (u : Piece) {s : State} {us : List Piece} → Reach s us → ReachOut (us ++ u ∷ []) (step u s)
unfolding step
step-reach (atom b ls) (nothing {n} {cur} {t}) = reach-placed b n [] _ (labels ls n (joins fresh cur) t) (at_top (first b ls))
step-reach (atom b ls) (past-atom {n} {cur} {stk} {t} l) =
    reach-placed b n stk _ (labels ls n (joins after cur) t) (lead-grow (atom b ls ∷ []) (λ vs r. and-atom r unmarked b ls) l)
step-reach (atom b ls) (past-dot {n} {cur} {stk} {t} {us} l) =
    reach-placed b n stk _ (labels ls n (joins fresh cur) t)
    (subst (Lead stk) (sym (apart us dot (atom b ls))) (lead-grow (dot ∷ atom b ls ∷ []) (λ vs r. and-dot r b ls) l))
step-reach (atom b ls) (past-mark {n} {cur} {m'} {stk} {t} {us} m l) =
    reach-placed b n stk _ (labels ls n (joins (marked m') cur) t)
    (subst (Lead stk) (sym (apart us (mark m) (atom b ls))) (lead-grow (mark m ∷ atom b ls ∷ []) (λ vs r. and-atom r (one-mark m) b ls) l))
step-reach (atom b ls) (past-lpar {n} {cur} {p} {stk} {t} {us} l) =
    reach-placed b n (p ∷ stk) _ (labels ls n (joins opened cur) t)
    (subst (Lead (p ∷ stk)) (sym (apart us lpar (atom b ls))) (in-branch p l unmarked (first b ls)))
step-reach (atom b ls) (past-both {n} {cur} {p} {m'} {stk} {t} {us} m l) =
    reach-placed b n (p ∷ stk) _ (labels ls n (joins (marked m') cur) t)
    (subst (Lead (p ∷ stk)) (sym (apart-three us lpar (mark m) (atom b ls))) (in-branch p l (one-mark m) (first b ls)))
step-reach (mark m) nothing = tt
step-reach (mark m) (past-atom l) = past-mark m l
step-reach (mark m) (past-dot l) = tt
step-reach (mark m) (past-mark m₁ l) = tt
step-reach (mark m) (past-lpar {n} {cur} {p} {stk} {t} {us} l) =
    subst (Reach (st n cur (p ∷ stk) t (marked (plainly m)))) (sym (apart us lpar (mark m))) (past-both m l)
step-reach (mark m) (past-both m₁ l) = tt
step-reach dot nothing = tt
step-reach dot (past-atom l) = past-dot l
step-reach dot (past-dot l) = tt
step-reach dot (past-mark m l) = tt
step-reach dot (past-lpar l) = tt
step-reach dot (past-both m l) = tt
step-reach lpar nothing = tt
step-reach lpar (past-atom l) = past-lpar l
step-reach lpar (past-dot l) = tt
step-reach lpar (past-mark m l) = tt
step-reach lpar (past-lpar l) = tt
step-reach lpar (past-both m l) = tt
step-reach rpar nothing = tt
step-reach rpar (past-atom {stk = []} l) = tt
step-reach rpar (past-atom {stk = p ∷ stk} l) = past-atom (lead-closes l)
step-reach rpar (past-dot {stk = []} l) = tt
step-reach rpar (past-dot {stk = p ∷ stk} l) = tt
step-reach rpar (past-mark {stk = []} m l) = tt
step-reach rpar (past-mark {stk = p ∷ stk} m l) = tt
step-reach rpar (past-lpar l) = tt
step-reach rpar (past-both m l) = tt

run-reach : (us : List Piece) {ws : List Piece} {s s' : State} {r : List Row} → Reads us s r s' → Reach s ws → Reach s' (ws ++ us)
run-reach [] {ws} {s} {s'} d h = subst (λ (z : List Piece). Reach s' z) (sym (append-nil ws)) (subst (λ (z : State). Reach z ws) (reads-nil-only d).state h)
run-reach (u ∷ us) {ws} {s} {s'} {r} d h =
    let q : Split u us s r s' = reads-split d in
    subst (Reach s') (append_assoc ws (u ∷ []) us) (run-reach us q.rest (subst (ReachOut (ws ++ u ∷ [])) q.first.by (step-reach u h)))

reach-whole : {n cur : ℕ} {t : List Entry} {us : List Piece} → Reach (st n cur [] t after) us → Run us
reach-whole (past-atom (at_top r)) = r

-- WHAT READS IS A RUN
pub reads-run : (us : List Piece) (rs : List Row) → read_pieces us ≡ some rs → Run us
unfolding read_pieces whole
reads-run us rs e = go (run us (st 0 0 [] [] fresh)) refl e
  where
    go : (o : Out) → run us (st 0 0 [] [] fresh) ≡ o → whole o ≡ some rs → Run us
    go fail r h = absurd (none≢some h)
    go (ok ss (st n cur [] [] fresh)) r h = absurd (none≢some h)
    go (ok ss (st n cur [] [] opened)) r h = absurd (none≢some h)
    go (ok ss (st n cur [] [] after)) r h = reach-whole (run-reach us (record { by = r }) nothing)
    go (ok ss (st n cur [] [] (marked m))) r h = absurd (none≢some h)
    go (ok ss (st n cur [] (x ∷ t) ph)) r h = absurd (none≢some h)
    go (ok ss (st n cur (p ∷ stk) t ph)) r h = absurd (none≢some h)

-- ---- a run without labels reads

-- from a state, up to an atom or a `)`, with branches and labels as they were
record Through (us : List Piece) (n cur : ℕ) (stk : List ℕ) (t : List Entry) (ph : Phase) : Type 0 where
  rows : List Row
  n' : ℕ
  cur' : ℕ
  reads : Reads us (st n cur stk t ph) rows (st n' cur' stk t after)

abbrev pub NoLabel : ℕ → Type 0
NoLabel l = ⊥

through-atom : (b ls : List ℕ) (n cur : ℕ) (stk : List ℕ) (t : List Entry) (ph : Phase) → EachLabel NoLabel (atom b ls ∷ []) → Through (atom b ls ∷ []) n cur stk t ph
through-atom b [] n cur stk t ph h = record { rows = _; n' = suc n; cur' = n; reads = reads-cons (steps-plain b n cur stk t ph) (reads-nil _) }
through-atom b (l ∷ ls) n cur stk t ph h = absurd h.0.0

-- a mark, if any, and what it stands before
through-marked : {ms : List Piece} (vs : List Piece) → Marked ms → (n cur : ℕ) (stk : List ℕ) (t : List Entry) (ph : Phase)
    → ((m : ℕ) → Steps (mark m) (st n cur stk t ph) [] (st n cur stk t (marked (plainly m)))) → ((p : Phase) → Through vs n cur stk t p) → Through (ms ++ vs) n cur stk t ph
through-marked vs unmarked n cur stk t ph f g = g ph
through-marked vs (one-mark m) n cur stk t ph f g =
    let z : Through vs n cur stk t (marked (plainly m)) = g (marked (plainly m)) in
    record { rows = z.rows; n' = z.n'; cur' = z.cur'; reads = reads-cons (f m) z.reads }

through : {us : List Piece} → Run us → EachLabel NoLabel us → (n cur : ℕ) (stk : List ℕ) (t : List Entry) (ph : Phase) → Through us n cur stk t ph
unfolding step
through (first b ls) h n cur stk t ph = through-atom b ls n cur stk t ph h
through (and-atom {us} {ms} r m b ls) h n cur stk t ph =
    let q : EachLabel NoLabel us × EachLabel NoLabel (ms ++ atom b ls ∷ []) = each-label-split NoLabel us (ms ++ atom b ls ∷ []) h in
    let a : EachLabel NoLabel ms × EachLabel NoLabel (atom b ls ∷ []) = each-label-split NoLabel ms (atom b ls ∷ []) q.1 in
    let x : Through us n cur stk t ph = through r q.0 n cur stk t ph in
    let y : Through (ms ++ atom b ls ∷ []) x.n' x.cur' stk t after =
    through-marked (atom b ls ∷ []) m x.n' x.cur' stk t after (λ k. steps-mark k x.n' x.cur' stk t) (λ p. through-atom b ls x.n' x.cur' stk t p a.1) in
    record { rows = x.rows ++ y.rows; n' = y.n'; cur' = y.cur'; reads = reads-append x.reads y.reads }
through (and-dot {us} r b ls) h n cur stk t ph =
    let q : EachLabel NoLabel us × EachLabel NoLabel (dot ∷ atom b ls ∷ []) = each-label-split NoLabel us (dot ∷ atom b ls ∷ []) h in
    let x : Through us n cur stk t ph = through r q.0 n cur stk t ph in
    let y : Through (atom b ls ∷ []) x.n' x.cur' stk t fresh = through-atom b ls x.n' x.cur' stk t fresh q.1.1 in
    record { rows = x.rows ++ y.rows; n' = y.n'; cur' = y.cur'; reads = reads-append x.reads (reads-cons (steps-dot x.n' x.cur' stk t) y.reads) }
through (and-branch {us} {ms} {vs} r m v) h n cur stk t ph =
    let q : EachLabel NoLabel us × EachLabel NoLabel ((lpar ∷ ms ++ vs) ++ rpar ∷ []) = each-label-split NoLabel us ((lpar ∷ ms ++ vs) ++ rpar ∷ []) h in
    let a : EachLabel NoLabel (lpar ∷ ms ++ vs) × EachLabel NoLabel (rpar ∷ []) = each-label-split NoLabel (lpar ∷ ms ++ vs) (rpar ∷ []) q.1 in
    let w : EachLabel NoLabel ms × EachLabel NoLabel vs = each-label-split NoLabel ms vs a.0.1 in
    let x : Through us n cur stk t ph = through r q.0 n cur stk t ph in
    let y : Through (ms ++ vs) x.n' x.cur' (x.cur' ∷ stk) t opened =
    through-marked vs m x.n' x.cur' (x.cur' ∷ stk) t opened (λ k. record { by = refl }) (λ p. through v w.1 x.n' x.cur' (x.cur' ∷ stk) t p) in
    record {
      rows = x.rows ++ y.rows;
      n' = y.n';
      cur' = x.cur';
      reads = reads-append x.reads (reads_then (reads-cons (steps-lpar x.n' x.cur' stk t) y.reads) (steps-rpar y.n' y.cur' x.cur' stk t));
    }

-- A RUN WITHOUT LABELS READS: nothing but a label can make a run unreadable
pub run-reads : {us : List Piece} → Run us → EachLabel NoLabel us → record { rows : List Row; reads : read_pieces us ≡ some rows }
unfolding read_pieces whole
run-reads r h =
    let x : Through _ 0 0 [] [] fresh = through r h 0 0 [] [] fresh in
    record { rows = x.rows; reads = ap whole x.reads.by }
