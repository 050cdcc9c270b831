-- Reading a text piece by piece: what is joined is read in turn, and what was read comes apart again.
use mathlib.Core.Path.{◌≡◌, refl, sym, ap, ◌∙◌, subst, fun_ext}
use Prim.Native.Nat.{ℕ, suc, ◌+◌, ◌<◌}
use native.Mathlib.Omega.{arith}
use mathlib.Core.List.{List, [], ◌∷◌, ◌++◌, append_assoc, append-nil}
use lib.ListN.{length, length-append}
use Rattle.reading_rules.specs.smiles.Row.{Row, row, Link}
use Rattle.reading_rules.specs.smiles.Piece.{Piece, atom, mark, dot, lpar, rpar}
use Rattle.reading_rules.specs.smiles.Machine.{Entry, Phase, fresh, opened, after, marked, State, st, Out, fail, ok, Labelled, stop, links, labels, joins, plainly, placed, step, prepend, and_then, run}

-- ---- joining

prepend-prepend : (a b : List Row) (o : Out) → prepend a (prepend b o) ≡ prepend (a ++ b) o
unfolding prepend
prepend-prepend a b fail = refl
prepend-prepend a b (ok rs s) = rw append_assoc

and_then-prepend : (a : List Row) (o : Out) (k : State → Out) → and_then (prepend a o) k ≡ prepend a (and_then o k)
unfolding and_then prepend
and_then-prepend a fail k = refl
and_then-prepend a (ok rs s) k = sym (prepend-prepend a rs (k s))

pub and_then-assoc : (o : Out) (j k : State → Out) → and_then (and_then o j) k ≡ and_then o (λ s. and_then (j s) k)
unfolding and_then
and_then-assoc fail j k = refl
and_then-assoc (ok rs s) j k = and_then-prepend rs (j s) k

pub prepend-nil : (o : Out) → prepend [] o ≡ o
unfolding prepend
prepend-nil fail = refl
prepend-nil (ok rs s) = refl

-- reading pieces that are joined is reading the first, and the others from where they end
pub run-append : (a b : List Piece) (s : State) → run (a ++ b) s ≡ and_then (run a s) (run b)
unfolding run and_then
run-append [] b s = sym (prepend-nil (run b s))
run-append (u ∷ a) b s = ap (and_then (step u s)) (fun_ext (run-append a b)) ∙ sym (and_then-assoc (step u s) (run a) (run b))

-- ---- what is read

-- the pieces are read from the first state: these rows, and then the second. A record, so that its arguments are found at each use
pub record Reads (us : List Piece) (s : State) (r : List Row) (s' : State) : Type 0 where
  pub by : run us s ≡ ok r s'

-- the same of one piece
pub record Steps (u : Piece) (s : State) (r : List Row) (s' : State) : Type 0 where
  pub by : step u s ≡ ok r s'

pub fail≢ok : {r : List Row} {s : State} → fail ≡ ok r s → ⊥
fail≢ok e = let z : ◌≡◌ {A = ℕ} 0 1 = cc in omega arith

pub then_ok : (o : Out) {r r' : List Row} {s s' : State} (k : State → Out) → o ≡ ok r s → k s ≡ ok r' s' → and_then o k ≡ ok (r ++ r') s'
unfolding and_then prepend
then_ok o k e f = rw (e, f)

pub reads-nil : (s : State) → Reads [] s [] s
unfolding run
reads-nil s = record { by = refl }

pub reads-cons : {u : Piece} {us : List Piece} {r r' : List Row} {s s' s'' : State}
    → Steps u s r s' → Reads us s' r' s'' → Reads (u ∷ us) s (r ++ r') s''
unfolding run
reads-cons {u} {us} {s} e f = record { by = then_ok (step u s) (run us) e.by f.by }

pub reads-append : {a b : List Piece} {r r' : List Row} {s s' s'' : State}
    → Reads a s r s' → Reads b s' r' s'' → Reads (a ++ b) s (r ++ r') s''
reads-append {a} {b} {s} e f = record { by = run-append a b s ∙ then_ok (run a s) (run b) e.by f.by }

-- one more piece that gives no row
pub reads_then : {a : List Piece} {u : Piece} {r : List Row} {s s' s'' : State} → Reads a s r s' → Steps u s' [] s'' → Reads (a ++ u ∷ []) s r s''
reads_then {a} {u} {r} {s} {s'} {s''} d e =
    let q : Reads (a ++ u ∷ []) s (r ++ []) s'' = reads-append d (reads-cons e (reads-nil s'')) in rw append-nil at q

-- ---- one piece

pub steps-lpar : (n cur : ℕ) (stk : List ℕ) (t : List Entry) → Steps lpar (st n cur stk t after) [] (st n cur (cur ∷ stk) t opened)
unfolding step
steps-lpar n cur stk t = record { by = refl }

pub steps-rpar : (n cur p : ℕ) (stk : List ℕ) (t : List Entry) → Steps rpar (st n cur (p ∷ stk) t after) [] (st n p stk t after)
unfolding step
steps-rpar n cur p stk t = record { by = refl }

pub steps-dot : (n cur : ℕ) (stk : List ℕ) (t : List Entry) → Steps dot (st n cur stk t after) [] (st n cur stk t fresh)
unfolding step
steps-dot n cur stk t = record { by = refl }

pub steps-mark : (m n cur : ℕ) (stk : List ℕ) (t : List Entry) → Steps (mark m) (st n cur stk t after) [] (st n cur stk t (marked (plainly m)))
unfolding step
steps-mark m n cur stk t = record { by = refl }

-- an atom whose labels come to these links and these open labels
pub steps-atom : (b ls : List ℕ) (n cur : ℕ) (stk : List ℕ) (t : List Entry) (ph : Phase) (ks : List Link) (t' : List Entry)
    → labels ls n (joins ph cur) t ≡ links ks t' → Steps (atom b ls) (st n cur stk t ph) (row b ks ∷ []) (st (suc n) n stk t' after)
unfolding step placed
steps-atom b ls n cur stk t ph ks t' e = record { by = ap (placed b n stk) e }

-- an atom with no label
pub steps-plain : (b : List ℕ) (n cur : ℕ) (stk : List ℕ) (t : List Entry) (ph : Phase)
    → Steps (atom b []) (st n cur stk t ph) (row b (joins ph cur) ∷ []) (st (suc n) n stk t after)
unfolding labels
steps-plain b n cur stk t ph = steps-atom b [] n cur stk t ph (joins ph cur) t refl

-- ---- the way back

pub reads-nil-only : {s s' : State} {r : List Row} → Reads [] s r s' → record { rows : r ≡ []; state : s ≡ s' }
unfolding run
reads-nil-only {s} {s'} {r} e = let q : ok [] s ≡ ok r s' = e.by in record { rows = cc; state = cc }

pub record Split (u : Piece) (us : List Piece) (s : State) (r : List Row) (s'' : State) : Type 0 where
  pub r₁ : List Row
  pub s₁ : State
  pub r₂ : List Row
  pub first : Steps u s r₁ s₁
  pub rest : Reads us s₁ r₂ s''
  pub all : r ≡ r₁ ++ r₂

pub reads-split : {u : Piece} {us : List Piece} {s : State} {r : List Row} {s'' : State} → Reads (u ∷ us) s r s'' → Split u us s r s''
unfolding run and_then prepend
reads-split {u} {us} {s} {r} {s''} e = go (step u s) refl e.by
  where
    inner : (r₁ : List Row) (s₁ : State) → step u s ≡ ok r₁ s₁ → (o : Out) → run us s₁ ≡ o → prepend r₁ o ≡ ok r s'' → Split u us s r s''
    inner r₁ s₁ f fail g h = absurd (fail≢ok h)
    inner r₁ s₁ f (ok r₂ s₂) g h =
        record { r₁ = r₁; s₁ = s₁; r₂ = r₂; first = record { by = f }; rest = record { by = cc }; all = cc }

    go : (o : Out) → step u s ≡ o → and_then o (λ s'. run us s') ≡ ok r s'' → Split u us s r s''
    go fail f h = absurd (fail≢ok h)
    go (ok r₁ s₁) f h = inner r₁ s₁ f (run us s₁) refl h

-- ---- atoms are counted: as many more as there are rows

abbrev pub count : State → ℕ
count (st n cur stk t ph) = n

abbrev Counts : ℕ → Out → Type 0
Counts n fail = Unit {0}
Counts n (ok r s) = count s ≡ n + length r

placed-counts : (b : List ℕ) (n : ℕ) (stk : List ℕ) (g : Labelled) → Counts n (placed b n stk g)
unfolding placed
placed-counts b n stk stop = tt
placed-counts b n stk (links ks t) = omega arith

step_counts : (u : Piece) (s : State) → Counts (count s) (step u s)
unfolding step
step_counts (atom b ls) (st n cur stk t ph) = placed-counts b n stk (labels ls n (joins ph cur) t)
step_counts (mark m) (st n cur stk t fresh) = tt
step_counts (mark m) (st n cur stk t opened) = omega arith
step_counts (mark m) (st n cur stk t after) = omega arith
step_counts (mark m) (st n cur stk t (marked m')) = tt
step_counts dot (st n cur stk t fresh) = tt
step_counts dot (st n cur stk t opened) = tt
step_counts dot (st n cur stk t after) = omega arith
step_counts dot (st n cur stk t (marked m')) = tt
step_counts lpar (st n cur stk t fresh) = tt
step_counts lpar (st n cur stk t opened) = tt
step_counts lpar (st n cur stk t after) = omega arith
step_counts lpar (st n cur stk t (marked m')) = tt
step_counts rpar (st n cur [] t ph) = tt
step_counts rpar (st n cur (p ∷ stk) t fresh) = tt
step_counts rpar (st n cur (p ∷ stk) t opened) = tt
step_counts rpar (st n cur (p ∷ stk) t after) = omega arith
step_counts rpar (st n cur (p ∷ stk) t (marked m')) = tt

pub steps-count : {u : Piece} {s s' : State} {r : List Row} → Steps u s r s' → count s' ≡ count s + length r
steps-count {u} {s} e = subst (Counts (count s)) e.by (step_counts u s)

pub reads-count : (us : List Piece) {s s' : State} {r : List Row} → Reads us s r s' → count s' ≡ count s + length r
reads-count [] {s} {s'} {r} d =
    let q : record { rows : r ≡ []; state : s ≡ s' } = reads-nil-only d in
    omega (arith, ap count q.state, ap length q.rows)
reads-count (u ∷ us) {s} {s'} {r} d =
    let q : Split u us s r s' = reads-split d in
    omega (arith, steps-count q.first, reads-count us q.rest, ap length q.all, length-append q.r₁ q.r₂)

-- ---- the current atom and those of the open branches are among the atoms so far

abbrev EachBelow : ℕ → List ℕ → Type 0
EachBelow n [] = Unit {0}
EachBelow n (p ∷ ps) = (p < n) × EachBelow n ps

abbrev Joined : Phase → ℕ → ℕ → Type 0
Joined fresh cur n = Unit {0}
Joined opened cur n = cur < n
Joined after cur n = cur < n
Joined (marked m) cur n = cur < n

abbrev pub Stands : State → Type 0
Stands (st n cur stk t ph) = EachBelow n stk × Joined ph cur n

abbrev StandsOut : Out → Type 0
StandsOut fail = Unit {0}
StandsOut (ok r s) = Stands s

each-below-suc : (n : ℕ) (ps : List ℕ) → EachBelow n ps → EachBelow (suc n) ps
each-below-suc n [] h = tt
each-below-suc n (p ∷ ps) h = (omega (arith, h.0), each-below-suc n ps h.1)

placed-stands : (b : List ℕ) (n : ℕ) (stk : List ℕ) (g : Labelled) → EachBelow n stk → StandsOut (placed b n stk g)
unfolding placed
placed-stands b n stk stop h = tt
placed-stands b n stk (links ks t) h = (each-below-suc n stk h, omega arith)

step-stands : (u : Piece) (s : State) → Stands s → StandsOut (step u s)
unfolding step
step-stands (atom b ls) (st n cur stk t ph) h = placed-stands b n stk (labels ls n (joins ph cur) t) h.0
step-stands (mark m) (st n cur stk t fresh) h = tt
step-stands (mark m) (st n cur stk t opened) h = h
step-stands (mark m) (st n cur stk t after) h = h
step-stands (mark m) (st n cur stk t (marked m')) h = tt
step-stands dot (st n cur stk t fresh) h = tt
step-stands dot (st n cur stk t opened) h = tt
step-stands dot (st n cur stk t after) h = (h.0, tt)
step-stands dot (st n cur stk t (marked m')) h = tt
step-stands lpar (st n cur stk t fresh) h = tt
step-stands lpar (st n cur stk t opened) h = tt
step-stands lpar (st n cur stk t after) h = ((h.1, h.0), h.1)
step-stands lpar (st n cur stk t (marked m')) h = tt
step-stands rpar (st n cur [] t ph) h = tt
step-stands rpar (st n cur (p ∷ stk) t fresh) h = tt
step-stands rpar (st n cur (p ∷ stk) t opened) h = tt
step-stands rpar (st n cur (p ∷ stk) t after) h = (h.0.1, h.0.0)
step-stands rpar (st n cur (p ∷ stk) t (marked m')) h = tt

pub reads-stands : (us : List Piece) {s s' : State} {r : List Row} → Reads us s r s' → Stands s → Stands s'
reads-stands [] d h = subst Stands (reads-nil-only d).state h
reads-stands (u ∷ us) {s} {s'} {r} d h =
    let q : Split u us s r s' = reads-split d in
    reads-stands us q.rest (subst StandsOut q.first.by (step-stands u s h))
