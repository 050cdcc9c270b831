-- The frame law: what reads by itself, hung on an atom, reads in any state in which its labels are not open, with its atoms renamed; the open
-- branches and the open labels of that state stay as they are.
use mathlib.Core.Path.{◌≡◌, refl, sym, ap, ap₂, ◌∙◌}
use mathlib.Core.Bool.{Bool, true, false, cond, ◌||◌}
use mathlib.Core.Option
use mathlib.Core.Option.{Option, none, some}
use Prim.Native.Nat.{ℕ, zero, suc, ◌+◌, ◌≤◌, ◌<◌}
use native.Mathlib.Omega.{arith}
use native.Mathlib.Nat.{add-zero}
use mathlib.Core.List.{List, [], ◌∷◌, ◌++◌, map}
use lib.Dec.{eqb}
use borrow.Author.Tests.{eqb-true, eqb-false, eq-eqb, ne_eqb}
use Rattle.reading_rules.specs.smiles.Row.{Link, link, Row}
use Rattle.reading_rules.specs.smiles.Piece.{Piece, atom, mark, dot, lpar, rpar}
use Rattle.reading_rules.specs.smiles.Machine.{Entry, entry, Phase, fresh, opened, after, marked, State, st, Out, fail, ok, lookup, remove, among, Labelled, stop, links, close, found, label, and_labels, labels, joins, placed, step}
use Rattle.reading_rules.specs.smiles.Part.{Part, place, move_link, move_row, hung}
use Rattle.reading_rules.proofs.smiles.Reading.{Reads, Steps, Split, fail≢ok, count, steps-count, reads-nil, reads-cons, reads_then, reads-split, reads-nil-only, steps-lpar, steps-rpar}

-- ---- what holds of each label

abbrev pub EachOf : (ℕ → Type 0) → List ℕ → Type 0
EachOf P [] = Unit {0}
EachOf P (l ∷ ls) = P l × EachOf P ls

abbrev pub EachOn : (ℕ → Type 0) → Piece → Type 0
EachOn P (atom b ls) = EachOf P ls
EachOn P (mark m) = Unit {0}
EachOn P dot = Unit {0}
EachOn P lpar = Unit {0}
EachOn P rpar = Unit {0}

-- P holds of each label that stands in the pieces
abbrev pub EachLabel : (ℕ → Type 0) → List Piece → Type 0
EachLabel P [] = Unit {0}
EachLabel P (u ∷ us) = EachOn P u × EachLabel P us

each-of-map : {P Q : ℕ → Type 0} → ((l : ℕ) → P l → Q l) → (ls : List ℕ) → EachOf P ls → EachOf Q ls
each-of-map f [] h = tt
each-of-map f (l ∷ ls) h = (f l h.0, each-of-map f ls h.1)

pub each-label-map : {P Q : ℕ → Type 0} → ((l : ℕ) → P l → Q l) → (us : List Piece) → EachLabel P us → EachLabel Q us
each-label-map f [] h = tt
each-label-map f (atom b ls ∷ us) h = (each-of-map f ls h.0, each-label-map f us h.1)
each-label-map f (mark m ∷ us) h = (tt, each-label-map f us h.1)
each-label-map f (dot ∷ us) h = (tt, each-label-map f us h.1)
each-label-map f (lpar ∷ us) h = (tt, each-label-map f us h.1)
each-label-map f (rpar ∷ us) h = (tt, each-label-map f us h.1)

-- what holds of every label
each-of-every : {P : ℕ → Type 0} → ((l : ℕ) → P l) → (ls : List ℕ) → EachOf P ls
each-of-every f [] = tt
each-of-every f (l ∷ ls) = (f l, each-of-every f ls)

each-label-every : {P : ℕ → Type 0} → ((l : ℕ) → P l) → (us : List Piece) → EachLabel P us
each-label-every f [] = tt
each-label-every f (atom b ls ∷ us) = (each-of-every f ls, each-label-every f us)
each-label-every f (mark m ∷ us) = (tt, each-label-every f us)
each-label-every f (dot ∷ us) = (tt, each-label-every f us)
each-label-every f (lpar ∷ us) = (tt, each-label-every f us)
each-label-every f (rpar ∷ us) = (tt, each-label-every f us)

pub each-label-append : (P : ℕ → Type 0) (a b : List Piece) → EachLabel P a → EachLabel P b → EachLabel P (a ++ b)
each-label-append P [] b h g = g
each-label-append P (u ∷ a) b h g = (h.0, each-label-append P a b h.1 g)

pub each-label-split : (P : ℕ → Type 0) (a b : List Piece) → EachLabel P (a ++ b) → EachLabel P a × EachLabel P b
each-label-split P [] b h = (tt, h)
each-label-split P (u ∷ a) b h = let q : EachLabel P a × EachLabel P b = each-label-split P a b h.1 in ((h.0, q.0), q.1)

-- the label is not open
abbrev pub Shut : List Entry → ℕ → Type 0
Shut ext l = lookup l ext ≡ none

-- no label of the pieces is open
abbrev pub Free : List Entry → List Piece → Type 0
Free ext us = EachLabel (Shut ext) us

-- where no label is open, each is free
pub free-nil : (us : List Piece) → Free [] us
unfolding lookup
free-nil us = each-label-every (λ l. refl) us

-- ---- a state renamed, over more open branches `xs` and more open labels `ext`

abbrev move_entry : (ℕ → ℕ) → Entry → Entry
move_entry ρ (entry l a) = entry l (ρ a)

abbrev framed : (ℕ → ℕ) → List ℕ → List Entry → State → State
framed ρ xs ext (st n cur stk t ph) = st (ρ n) (ρ cur) (map ρ stk ++ xs) (map (move_entry ρ) t ++ ext) ph

abbrev framed-labels : (ℕ → ℕ) → List Entry → Labelled → Labelled
framed-labels ρ ext stop = stop
framed-labels ρ ext (links ks t) = links (map (move_link ρ) ks) (map (move_entry ρ) t ++ ext)

abbrev framed-out : (ℕ → ℕ) → List ℕ → List Entry → Out → Out
framed-out ρ xs ext fail = fail
framed-out ρ xs ext (ok rs s) = ok (map (move_row ρ) rs) (framed ρ xs ext s)

map-append : {A B : Type 0} (f : A → B) (a b : List A) → map f (a ++ b) ≡ map f a ++ map f b
map-append f [] b = refl
map-append f (x ∷ a) b = ap {B = List _} (λ l. f x ∷ l) (map-append f a b)

cond_map : {A B : Type 0} (f : A → B) (x : Bool) (p q : A) → f (cond x p q) ≡ cond x (f p) (f q)
cond_map f true p q = refl
cond_map f false p q = refl

-- removing a label that is not open
remove-free : (l : ℕ) (ext : List Entry) → lookup l ext ≡ none → remove l ext ≡ ext
unfolding remove lookup
remove-free l [] h = refl
remove-free l (entry k a ∷ t) h = go (eqb l k) (remove-free l t) h
  where
    go : (x : Bool) → (lookup l t ≡ none → remove l t ≡ t) → cond x (some a) (lookup l t) ≡ none → cond x (remove l t) (entry k a ∷ remove l t) ≡ entry k a ∷ t
    go true ih h' = cc
    go false ih h' = ap {B = List Entry} (λ z. entry k a ∷ z) (ih h')

module _ (ρ : ℕ → ℕ) (inj : (a b : ℕ) → ρ a ≡ ρ b → a ≡ b) where
  eqb-moved : (a b : ℕ) → eqb (ρ a) (ρ b) ≡ eqb a b
  eqb-moved a b = go (eqb a b) refl
    where
      go : (x : Bool) → eqb a b ≡ x → eqb (ρ a) (ρ b) ≡ x
      go true e = eq-eqb (ρ a) (ρ b) (ap ρ (eqb-true a b e))
      go false e = ne_eqb (ρ a) (ρ b) (λ h. eqb-false a b e (inj a b h))

  among-moved : (a : ℕ) (ks : List Link) → among (ρ a) (map (move_link ρ) ks) ≡ among a ks
  unfolding among
  among-moved a [] = refl
  among-moved a (link b m ∷ ks) = ap₂ ◌||◌ (eqb-moved a b) (among-moved a ks)

  lookup-framed : (l : ℕ) (t ext : List Entry) → lookup l ext ≡ none → lookup l (map (move_entry ρ) t ++ ext) ≡ Option.map ρ (lookup l t)
  unfolding lookup
  lookup-framed l [] ext h = h
  lookup-framed l (entry k a ∷ t) ext h = rw (lookup-framed l t ext h) (sym (cond_map (Option.map ρ) (eqb l k) (some a) (lookup l t)))

  remove-framed : (l : ℕ) (t ext : List Entry) → lookup l ext ≡ none → remove l (map (move_entry ρ) t ++ ext) ≡ map (move_entry ρ) (remove l t) ++ ext
  unfolding remove
  remove-framed l [] ext h = remove-free l ext h
  remove-framed l (entry k a ∷ t) ext h =
      rw (remove-framed l t ext h) (sym (cond_map (λ (z : List Entry). map (move_entry ρ) z ++ ext) (eqb l k) (remove l t) (entry k a ∷ remove l t)))

  shut-framed : (x : Bool) (l a : ℕ) (ks : List Link) (t ext : List Entry) → lookup l ext ≡ none
      → close x l (ρ a) (map (move_link ρ) ks) (map (move_entry ρ) t ++ ext) ≡ framed-labels ρ ext (close x l a ks t)
  unfolding close
  shut-framed true l a ks t ext h = refl
  shut-framed false l a ks t ext h = ap₂ links (sym (map-append (move_link ρ) ks (link a 0 ∷ []))) (remove-framed l t ext h)

  label-framed : (l self : ℕ) (ks : List Link) (t ext : List Entry) → lookup l ext ≡ none
      → label l (ρ self) (map (move_link ρ) ks) (map (move_entry ρ) t ++ ext) ≡ framed-labels ρ ext (label l self ks t)
  unfolding label found
  label-framed l self ks t ext h = rw (lookup-framed l t ext h) (go (lookup l t))
    where
      go : (o : Option ℕ) → found (Option.map ρ o) l (ρ self) (map (move_link ρ) ks) (map (move_entry ρ) t ++ ext) ≡ framed-labels ρ ext (found o l self ks t)
      go none = refl
      go (some a) = rw (eqb-moved a self, among-moved a ks) (shut-framed (eqb a self || among a ks) l a ks t ext h)

  labels-framed : (ls : List ℕ) (self : ℕ) (ks : List Link) (t ext : List Entry) → EachOf (Shut ext) ls
      → labels ls (ρ self) (map (move_link ρ) ks) (map (move_entry ρ) t ++ ext) ≡ framed-labels ρ ext (labels ls self ks t)
  unfolding labels and_labels
  labels-framed [] self ks t ext h = refl
  labels-framed (l ∷ ls) self ks t ext h = rw (label-framed l self ks t ext h.0) (go (λ ks' t'. labels-framed ls self ks' t' ext h.1) (label l self ks t))
    where
      go : ((ks' : List Link) (t' : List Entry) → labels ls (ρ self) (map (move_link ρ) ks') (map (move_entry ρ) t' ++ ext) ≡ framed-labels ρ ext (labels ls self ks' t'))
          → (g : Labelled) → and_labels (framed-labels ρ ext g) (λ ks' t'. labels ls (ρ self) ks' t') ≡ framed-labels ρ ext (and_labels g (λ ks' t'. labels ls self ks' t'))
      go ih stop = refl
      go ih (links ks' t') = ih ks' t'

  joins-framed : (ph : Phase) (cur : ℕ) → joins ph (ρ cur) ≡ map (move_link ρ) (joins ph cur)
  unfolding joins
  joins-framed fresh cur = refl
  joins-framed opened cur = refl
  joins-framed after cur = refl
  joins-framed (marked m) cur = refl

  module _ (up : (n : ℕ) → 1 ≤ n → ρ (suc n) ≡ suc (ρ n)) (xs : List ℕ) (ext : List Entry) where
    placed-framed : (b : List ℕ) (n : ℕ) (stk : List ℕ) (g : Labelled) → 1 ≤ n
        → placed b (ρ n) (map ρ stk ++ xs) (framed-labels ρ ext g) ≡ framed-out ρ xs ext (placed b n stk g)
    unfolding placed
    placed-framed b n stk stop h = refl
    placed-framed b n stk (links ks t) h = rw (up n h)

    step-framed : (u : Piece) (s : State) {r : List Row} {s' : State} → 1 ≤ count s → EachOn (Shut ext) u → Steps u s r s'
        → step u (framed ρ xs ext s) ≡ framed-out ρ xs ext (step u s)
    unfolding step
    step-framed (atom b ls) (st n cur stk t ph) h f e =
        rw (joins-framed ph cur, labels-framed ls n (joins ph cur) t ext f) (placed-framed b n stk (labels ls n (joins ph cur) t) h)
    step-framed (mark m) (st n cur stk t fresh) h f e = refl
    step-framed (mark m) (st n cur stk t opened) h f e = refl
    step-framed (mark m) (st n cur stk t after) h f e = refl
    step-framed (mark m) (st n cur stk t (marked m')) h f e = refl
    step-framed dot (st n cur stk t fresh) h f e = refl
    step-framed dot (st n cur stk t opened) h f e = refl
    step-framed dot (st n cur stk t after) h f e = refl
    step-framed dot (st n cur stk t (marked m')) h f e = refl
    step-framed lpar (st n cur stk t fresh) h f e = refl
    step-framed lpar (st n cur stk t opened) h f e = refl
    step-framed lpar (st n cur stk t after) h f e = refl
    step-framed lpar (st n cur stk t (marked m')) h f e = refl
    step-framed rpar (st n cur [] t ph) h f e = absurd (fail≢ok e.by)
    step-framed rpar (st n cur (p ∷ stk) t fresh) h f e = refl
    step-framed rpar (st n cur (p ∷ stk) t opened) h f e = refl
    step-framed rpar (st n cur (p ∷ stk) t after) h f e = refl
    step-framed rpar (st n cur (p ∷ stk) t (marked m')) h f e = refl

    run_framed : (us : List Piece) (s : State) {r : List Row} {s' : State} → 1 ≤ count s → Free ext us → Reads us s r s'
        → Reads us (framed ρ xs ext s) (map (move_row ρ) r) (framed ρ xs ext s')
    run_framed [] s {r} {s'} h f e = nil-framed (reads-nil-only e)
      where
        nil-framed : record { rows : r ≡ []; state : s ≡ s' } → Reads [] (framed ρ xs ext s) (map (move_row ρ) r) (framed ρ xs ext s')
        nil-framed q = rw (q.rows, q.state) (reads-nil (framed ρ xs ext s'))
    run_framed (u ∷ us) s {r} {s'} h f e = go (reads-split e) (λ (s₁ : State) (r₂ : List Row). run_framed us s₁ {r = r₂} {s' = s'})
      where
        go : (q : Split u us s r s')
            → ((s₁ : State) (r₂ : List Row) → 1 ≤ count s₁ → Free ext us → Reads us s₁ r₂ s' → Reads us (framed ρ xs ext s₁) (map (move_row ρ) r₂) (framed ρ xs ext s'))
            → Reads (u ∷ us) (framed ρ xs ext s) (map (move_row ρ) r) (framed ρ xs ext s')
        go q ih =
            rw (q.all, map-append (move_row ρ) q.r₁ q.r₂)
            (reads-cons
            (record { by = step-framed u s h f.0 q.first ∙ ap (framed-out ρ xs ext) q.first.by })
            (ih q.s₁ q.r₂ (omega (arith, steps-count q.first)) f.1 q.rest))

place-inj : (cur n : ℕ) → cur < n → (a b : ℕ) → place cur n a ≡ place cur n b → a ≡ b
place-inj cur n h zero zero e = refl
place-inj cur n h zero (suc b) e = omega arith
place-inj cur n h (suc a) zero e = omega arith
place-inj cur n h (suc a) (suc b) e = omega arith

place_up : (cur n k : ℕ) → 1 ≤ k → place cur n (suc k) ≡ suc (place cur n k)
place_up cur n zero h = omega arith
place_up cur n (suc k) h = omega arith

-- a part that reads by itself
pub record Hangs (p : Part) : Type 0 where
  pub reads : Reads p.pieces (st 1 0 [] [] opened) p.rows (st (suc p.size) p.last [] [] after)

-- THE FRAME LAW, after an opening
pub frame : {p : Part} → Hangs p → (n cur : ℕ) (stk : List ℕ) (ext : List Entry) → cur < n → Free ext p.pieces
    → Reads p.pieces (st n cur stk ext opened) (hung cur n p) (st (n + p.size) (place cur n p.last) stk ext after)
unfolding hung
frame {p} d n cur stk ext h f =
    rw add-zero at
    (run_framed (place cur n) (place-inj cur n h) (place_up cur n) stk ext p.pieces (st 1 0 [] [] opened) (omega arith) f d.reads)

steps-opened-after : (u : Piece) {n cur : ℕ} {stk : List ℕ} {t : List Entry} {r : List Row} {s' : State}
    → Steps u (st n cur stk t opened) r s' → Steps u (st n cur stk t after) r s'
unfolding step joins
steps-opened-after (atom b ls) e = record { by = e.by }
steps-opened-after (mark m) e = record { by = e.by }
steps-opened-after dot e = absurd (fail≢ok e.by)
steps-opened-after lpar e = absurd (fail≢ok e.by)
steps-opened-after rpar {stk = []} e = absurd (fail≢ok e.by)
steps-opened-after rpar {stk = p ∷ stk} e = absurd (fail≢ok e.by)

-- what reads after an opening reads after an atom, too
pub opened_after : (us : List Piece) {n n' cur cur' : ℕ} {stk stk' : List ℕ} {t t' : List Entry} {r : List Row}
    → Reads us (st n cur stk t opened) r (st n' cur' stk' t' after) → Reads us (st n cur stk t after) r (st n' cur' stk' t' after)
opened_after [] {n} {n'} {cur} {cur'} {stk} {stk'} {t} {t'} d =
    let q : st n cur stk t opened ≡ st n' cur' stk' t' after = (reads-nil-only d).state in
    let z : ◌≡◌ {A = ℕ} 0 1 = cc in absurd (omega arith)
opened_after (u ∷ us) {n} {n'} {cur} {cur'} {stk} {stk'} {t} {t'} {r} d =
    let q : Split u us (st n cur stk t opened) r (st n' cur' stk' t' after) = reads-split d in
    rw q.all (reads-cons (steps-opened-after u q.first) q.rest)

-- .. after an atom
pub frame-after : {p : Part} → Hangs p → (n cur : ℕ) (stk : List ℕ) (ext : List Entry) → cur < n → Free ext p.pieces
    → Reads p.pieces (st n cur stk ext after) (hung cur n p) (st (n + p.size) (place cur n p.last) stk ext after)
frame-after {p} d n cur stk ext h f = opened_after p.pieces (frame d n cur stk ext h f)

-- .. and as a branch, after which the atom that it hangs on is the current one again
pub frame-branch : {p : Part} → Hangs p → (n cur : ℕ) (stk : List ℕ) (ext : List Entry) → cur < n → Free ext p.pieces
    → Reads (lpar ∷ p.pieces ++ rpar ∷ []) (st n cur stk ext after) (hung cur n p) (st (n + p.size) cur stk ext after)
frame-branch d n cur stk ext h f = reads-cons (steps-lpar n cur stk ext) (reads_then (frame d n cur (cur ∷ stk) ext h f) (steps-rpar _ _ _ _ _))

-- ---- the labels of one atom over more open labels, with no renaming

links-same : (ks : List Link) → map (move_link (λ x. x)) ks ≡ ks
links-same [] = refl
links-same (link a m ∷ ks) = ap {B = List Link} (λ z. link a m ∷ z) (links-same ks)

entries-same : (t : List Entry) → map (move_entry (λ x. x)) t ≡ t
entries-same [] = refl
entries-same (entry l a ∷ t) = ap {B = List Entry} (λ z. entry l a ∷ z) (entries-same t)

pub labels-over : (ls : List ℕ) (self : ℕ) (ks ks' : List Link) (t t' ext : List Entry) → EachOf (Shut ext) ls
    → labels ls self ks t ≡ links ks' t' → labels ls self ks (t ++ ext) ≡ links ks' (t' ++ ext)
labels-over ls self ks ks' t t' ext f e =
    simp (links-same, entries-same) at (labels-framed (λ x. x) (λ a b h. h) ls self ks t ext f ∙ ap (framed-labels (λ x. x) ext) e)
