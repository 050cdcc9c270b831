-- The tails are exactly the texts of 1 to 255 bytes that read by themselves, hung on an atom, and in which every label is a digit, no dot
-- stands, and at most 16 branches stand in one another.
use mathlib.Core.Path.{◌≡◌, refl, sym, ap, ◌∙◌, subst}
use mathlib.Core.Bool.{Bool, true, false, cond, ◌||◌, ◌&&◌}
use mathlib.Core.Option.{Option, none, some}
use Prim.Native.Nat.{ℕ, zero, suc, ◌+◌, ◌-◌, ◌*◌, ◌≤◌, ◌<◌}
use native.Mathlib.Omega.{arith}
use mathlib.Core.List.{List, [], ◌∷◌, ◌++◌, append_assoc, append-nil}
use lib.ListN.{length, get_or}
use lib.Dec.{eqb, ltb}
use borrow.Author.Tests.{le-leb, eqb-true, eq-eqb, ne_eqb, lt-ltb}
use Rattle.reading_rules.specs.reading.Row.{Row, Link}
use Rattle.reading_rules.specs.reading.Piece.{Piece, atom, mark, dot, lpar, rpar}
use Rattle.reading_rules.specs.reading.Lexer.{memb, within, organic, marks, bracketed, pairs, second, Lex, between, in_atom, in_bracket, in_label, in_tens, Fed, halt, fed, begin, ended, feed, before, on_fed, lex}
use Rattle.reading_rules.specs.reading.Machine.{Entry, Phase, fresh, opened, after, marked, State as Machine, st, Out, fail, ok, lookup, among, Labelled, stop, links, close, found, label, and_labels, labels, joins, placed, step as step_piece}
use Rattle.reading_rules.specs.reading.Part.{Part}
use Rattle.reading_rules.proofs.reading.Reading.{Reads, Split, fail≢ok, reads-nil, reads-nil-only, reads-cons, reads-split, steps-atom}
use Rattle.reading_rules.proofs.reading.Frame.{EachOf, EachLabel, each-label-split}
use Rattle.reading_rules.proofs.reading.LexShow.{on_fed-ended, lex-show}
use Rattle.reading_rules.proofs.reading.ShowLex.{within_both}
use Rattle.reading_rules.proofs.reading.Part.{none≢some, PartFrom, part-from}
use Rattle.tail_grammar.specs.ringdigits.Grammar.{Rings, no_rings, with_atom, bonded, clashes, with_digit, none_open, Place, State, wrong, stands, opening, whole, inside, atom_begins, bond_or_atom, branch_closes, branch_opens, goes_on, digit_or, bracket_on, step, finished, done, scan, atoms_of_tail, is_tail}
use Rattle.tail_grammar.proofs.tail.Alone.{open_on, Like, Pending, Sim, at-opening, at-bond, at-closed, at-letter, at-whole, at-inside, last_of, Takes, May, takes, like-start, second-labels, false≢true, Plain, deep, TailPart}

-- ---- what a tail's pieces are

abbrev Small : List Piece → Type 0
Small us = EachLabel (λ (d : ℕ). d < 10) us

-- ---- what is read comes apart

-- the machine goes one way only: what is left is read from where the first pieces end
record Rest (us : List Piece) (s s' : Machine) : Type 0 where
  rows : List Row
  reads : Reads us s rows s'

reads-rest : (a : List Piece) {b : List Piece} {s s₁ s₂ : Machine} {r₁ r : List Row} → Reads a s r₁ s₁ → Reads (a ++ b) s r s₂ → Rest b s₁ s₂
reads-rest [] {b} {s} {s₁} {s₂} {r₁} {r} d e = record { rows = r; reads = subst (λ (z : Machine). Reads b z r s₂) (reads-nil-only d).state e }
reads-rest (u ∷ a) {b} {s} {s₁} {s₂} {r₁} {r} d e =
    let p : Split u a s r₁ s₁ = reads-split d in
    let q : Split u (a ++ b) s r s₂ = reads-split e in
    let w : ok p.r₁ p.s₁ ≡ ok q.r₁ q.s₁ = sym p.first.by ∙ q.first.by in
    let z : q.s₁ ≡ p.s₁ = cc in
    reads-rest a p.rest (subst (λ (m : Machine). Reads (a ++ b) m q.r₂ s₂) z q.rest)

abbrev PlainOut : List Piece → Out → Type 0
PlainOut us fail = Unit {0}
PlainOut us (ok r s) = Plain (deep s) us

plain-placed : (us : List Piece) (b : List ℕ) (n : ℕ) (stk : List ℕ) (g : Labelled) → Plain (length stk) us → PlainOut us (placed b n stk g)
unfolding placed
plain-placed us b n stk stop h = tt
plain-placed us b n stk (links ks t) h = h

plain_step : (u : Piece) (us : List Piece) (s : Machine) → Plain (deep s) (u ∷ us) → PlainOut us (step_piece u s)
unfolding step_piece Plain
plain_step (atom b ls) us (st n cur stk t ph) h = plain-placed us b n stk (labels ls n (joins ph cur) t) h
plain_step (mark m) us (st n cur stk t fresh) h = tt
plain_step (mark m) us (st n cur stk t opened) h = h
plain_step (mark m) us (st n cur stk t after) h = h
plain_step (mark m) us (st n cur stk t (marked m')) h = tt
plain_step dot us (st n cur stk t ph) h = absurd h
plain_step lpar us (st n cur stk t fresh) h = tt
plain_step lpar us (st n cur stk t opened) h = tt
plain_step lpar us (st n cur stk t after) h = h.1
plain_step lpar us (st n cur stk t (marked m)) h = tt
plain_step rpar us (st n cur [] t ph) h = tt
plain_step rpar us (st n cur (p ∷ stk) t fresh) h = tt
plain_step rpar us (st n cur (p ∷ stk) t opened) h = tt
plain_step rpar us (st n cur (p ∷ stk) t after) h = subst (λ (k : ℕ). Plain k us) (omega arith) h
plain_step rpar us (st n cur (p ∷ stk) t (marked m)) h = tt

plain-rest : (a us : List Piece) {s s' : Machine} {r : List Row} → Reads a s r s' → Plain (deep s) (a ++ us) → Plain (deep s') us
plain-rest [] us d h = subst (λ (z : Machine). Plain (deep z) us) (reads-nil-only d).state h
plain-rest (u ∷ a) us {s} {s'} {r} d h =
    let q : Split u a s r s' = reads-split d in
    plain-rest a us q.rest (subst (PlainOut (a ++ us)) q.first.by (plain_step u (a ++ us) s h))

-- ---- the lexer looks ahead: an atom keeps its labels, and gets more

record Begins (b ls : List ℕ) (us : List Piece) : Type 0 where
  more : List ℕ
  rest : List Piece
  is : us ≡ atom b (ls ++ more) ∷ rest

-- a label that was begun with `%` is no digit
record BeginsLarge (b ls : List ℕ) (us : List Piece) : Type 0 where
  l : ℕ
  large : 10 ≤ l
  more : List ℕ
  rest : List Piece
  is : us ≡ atom b (ls ++ (l ∷ more)) ∷ rest

abbrev Ahead : Lex → List Piece → Type 0
Ahead between us = Unit {0}
Ahead (in_atom b ls) us = ((x : ℕ) → second x b ls ≡ false) → Begins b ls us
Ahead (in_bracket xs) us = Unit {0}
Ahead (in_label b ls) us = BeginsLarge b ls us
Ahead (in_tens b ls d) us = (1 ≤ d) → BeginsLarge b ls us

-- the pieces us are those of a, and then what o gives
record After (a : List Piece) (o : Option (List Piece)) (us : List Piece) : Type 0 where
  rest : List Piece
  lexed : o ≡ some rest
  is : us ≡ a ++ rest

before-some : (a : List Piece) (o : Option (List Piece)) (us : List Piece) → before a o ≡ some us → After a o us
unfolding before
before-some a none us e = absurd (none≢some e)
before-some a (some vs) us e = record { rest = vs; lexed = refl; is = cc }

ahead : (xs : List ℕ) (L : Lex) (us : List Piece) → lex L xs ≡ some us → Ahead L us
unfolding lex feed on_fed
ahead [] between us e = tt
ahead [] (in_atom b ls) us e = λ w. let q : us ≡ atom b ls ∷ [] = cc in record { more = []; rest = []; is = rw append-nil q }
ahead [] (in_bracket ys) us e = tt
ahead [] (in_label b ls) us e = absurd (none≢some e)
ahead [] (in_tens b ls d) us e = absurd (none≢some e)
ahead (x ∷ xs) between us e = tt
ahead (x ∷ xs) (in_atom b ls) us e = λ w. go (ahead xs) (within 49 57 x) (eqb x 37) (rw (w x) at e)
  where
    go : ((L : Lex) (vs : List Piece) → lex L xs ≡ some vs → Ahead L vs) → (d p : Bool)
        → on_fed (cond d (fed [] (in_atom b (ls ++ (x - 48) ∷ []))) (cond p (fed [] (in_label b ls)) (ended (atom b ls) (begin x)))) (λ q. lex q xs) ≡ some us → Begins b ls us
    go ih true p h =
        let q : After [] (lex (in_atom b (ls ++ (x - 48) ∷ [])) xs) us = before-some [] (lex (in_atom b (ls ++ (x - 48) ∷ [])) xs) us h in
        let z : Begins b (ls ++ (x - 48) ∷ []) q.rest = ih (in_atom b (ls ++ (x - 48) ∷ [])) q.rest q.lexed (λ y. second-labels y b ls (x - 48)) in
        record { more = (x - 48) ∷ z.more; rest = z.rest; is = q.is ∙ (z.is ∙ ap (λ (m : List ℕ). atom b m ∷ z.rest) (append_assoc ls ((x - 48) ∷ []) z.more)) }
    go ih false true h =
        let q : After [] (lex (in_label b ls) xs) us = before-some [] (lex (in_label b ls) xs) us h in
        let z : BeginsLarge b ls q.rest = ih (in_label b ls) q.rest q.lexed in
        record { more = z.l ∷ z.more; rest = z.rest; is = q.is ∙ z.is }
    go ih false false h =
        let q : After (atom b ls ∷ []) (on_fed (begin x) (λ q. lex q xs)) us =
        before-some (atom b ls ∷ []) (on_fed (begin x) (λ q. lex q xs)) us (sym (on_fed-ended (atom b ls) (begin x) (λ q. lex q xs)) ∙ h) in
        record { more = []; rest = q.rest; is = rw append-nil q.is }
ahead (x ∷ xs) (in_bracket ys) us e = tt
ahead (x ∷ xs) (in_label b ls) us e = go (ahead xs) (within 49 57 x) refl e
  where
    go : ((L : Lex) (vs : List Piece) → lex L xs ≡ some vs → Ahead L vs) → (d : Bool) → within 49 57 x ≡ d → on_fed (cond d (fed [] (in_tens b ls (x - 48))) halt) (λ q. lex q xs) ≡ some us → BeginsLarge b ls us
    go ih true w h =
        let q : After [] (lex (in_tens b ls (x - 48)) xs) us = before-some [] (lex (in_tens b ls (x - 48)) xs) us h in
        let z : BeginsLarge b ls q.rest = ih (in_tens b ls (x - 48)) q.rest q.lexed (omega (arith, (within_both 49 57 x w).0)) in
        record { l = z.l; large = z.large; more = z.more; rest = z.rest; is = q.is ∙ z.is }
    go ih false w h = absurd (none≢some h)
ahead (x ∷ xs) (in_tens b ls d) us e = λ w. go (ahead xs) w (within 48 57 x) e
  where
    go : ((L : Lex) (vs : List Piece) → lex L xs ≡ some vs → Ahead L vs) → 1 ≤ d → (c : Bool)
        → on_fed (cond c (fed [] (in_atom b (ls ++ (10 * d + (x - 48)) ∷ []))) halt) (λ q. lex q xs) ≡ some us → BeginsLarge b ls us
    go ih w true h =
        let q : After [] (lex (in_atom b (ls ++ (10 * d + (x - 48)) ∷ [])) xs) us =
        before-some [] (lex (in_atom b (ls ++ (10 * d + (x - 48)) ∷ [])) xs) us h in
        let z : Begins b (ls ++ (10 * d + (x - 48)) ∷ []) q.rest =
        ih (in_atom b (ls ++ (10 * d + (x - 48)) ∷ [])) q.rest q.lexed (λ y. second-labels y b ls (10 * d + (x - 48))) in
        record {
          l = 10 * d + (x - 48);
          large = omega arith;
          more = z.more;
          rest = z.rest;
          is = q.is ∙ (z.is ∙ ap (λ (m : List ℕ). atom b m ∷ z.rest) (append_assoc ls ((10 * d + (x - 48)) ∷ []) z.more));
        }
    go ih w false h = absurd (none≢some h)

-- ---- where the grammar takes no byte, the text does not read

-- what else than an atom may begin at x
data Sign (x : ℕ) : List Piece → Type 0 where
  a-mark : memb x marks ≡ true → (rest : List Piece) → Sign x (mark x ∷ rest)
  a-dot : (rest : List Piece) → Sign x (dot ∷ rest)
  an-lpar : eqb x 40 ≡ true → (rest : List Piece) → Sign x (lpar ∷ rest)
  an-rpar : eqb x 41 ≡ true → (rest : List Piece) → Sign x (rpar ∷ rest)

sign_of : (x : ℕ) (xs : List ℕ) (us : List Piece) → memb x organic ≡ false → eqb x 91 ≡ false → lex between (x ∷ xs) ≡ some us → Sign x us
unfolding lex feed begin on_fed
sign_of x xs us o b e = go (memb x marks) refl (eqb x 46) (eqb x 40) refl (eqb x 41) refl (rw (o, b) at e)
  where
    made : (u : Piece) → before (u ∷ []) (lex between xs) ≡ some us → ((rest : List Piece) → Sign x (u ∷ rest)) → Sign x us
    made u h f =
        let q : After (u ∷ []) (lex between xs) us = before-some (u ∷ []) (lex between xs) us h in
        subst (Sign x) (sym q.is) (f q.rest)

    go : (m : Bool) → memb x marks ≡ m → (d : Bool) (l : Bool) → eqb x 40 ≡ l → (r : Bool) → eqb x 41 ≡ r
        → on_fed (cond m (fed (mark x ∷ []) between) (cond d (fed (dot ∷ []) between) (cond l (fed (lpar ∷ []) between) (cond r (fed (rpar ∷ []) between) halt)))) (λ q. lex q xs) ≡ some us
        → Sign x us
    go true w d l w₁ r w₂ h = made (mark x) h (a-mark w)
    go false w true l w₁ r w₂ h = made dot h a-dot
    go false w false true w₁ r w₂ h = made lpar h (an-lpar w₁)
    go false w false false w₁ true w₂ h = made rpar h (an-rpar w₂)
    go false w false false w₁ false w₂ h = absurd (none≢some h)

-- a piece that the machine does not take
stuck : {u : Piece} {us : List Piece} {s s' : Machine} {r : List Row} → step_piece u s ≡ fail → Reads (u ∷ us) s r s' → ⊥
stuck {u} {us} {s} {s'} {r} e d = let q : Split u us s r s' = reads-split d in fail≢ok (sym e ∙ q.first.by)

rpar-stuck : (n cur : ℕ) (stk : List ℕ) (t : List Entry) (ph : Phase) → (ph ≡ after → ⊥) → step_piece rpar (st n cur stk t ph) ≡ fail
unfolding step_piece
rpar-stuck n cur [] t ph w = refl
rpar-stuck n cur (p ∷ stk) t fresh w = refl
rpar-stuck n cur (p ∷ stk) t opened w = refl
rpar-stuck n cur (p ∷ stk) t after w = absurd (w refl)
rpar-stuck n cur (p ∷ stk) t (marked m) w = refl

not-stands : {p : Place} {stk : List ℕ} {q : Rings} → stands p stk q ≡ wrong → ⊥
not-stands e = let z : ◌≡◌ {A = ℕ} 0 1 = cc in omega arith

rpar-unopened : (n cur : ℕ) (stk : List ℕ) (t : List Entry) (q : Rings) → branch_closes stk q ≡ wrong → step_piece rpar (st n cur stk t after) ≡ fail
unfolding step_piece branch_closes
rpar-unopened n cur [] t q w = refl
rpar-unopened n cur (p ∷ stk) t q w = absurd (not-stands w)

either-wrong : (b : Bool) (p : Place) (stk : List ℕ) (q : Rings) (G : State) → cond b (stands p stk q) G ≡ wrong → (b ≡ false) × (G ≡ wrong)
either-wrong true p stk q G e = absurd (not-stands e)
either-wrong false p stk q G e = (refl, e)

no-atom : (x : ℕ) (stk : List ℕ) (q : Rings) → atom_begins x stk q ≡ wrong → (memb x organic ≡ false) × (eqb x 91 ≡ false)
unfolding atom_begins
no-atom x stk q e =
    let a : (memb x organic ≡ false) × (cond (eqb x 91) (stands (inside 0) stk (with_atom q)) wrong ≡ wrong) = either-wrong (memb x organic) _ stk _ _ e in
    (a.0, (either-wrong (eqb x 91) _ stk _ _ a.1).0)

module _ (x : ℕ) (xs : List ℕ) (us : List Piece) (l : lex between (x ∷ xs) ≡ some us) (stk : List ℕ) (q : Rings) (n cur : ℕ) (t : List Entry) (r : List Row) (f : Machine) where
  refuse-bond : (m : ℕ) → Reads us (st n cur stk t (marked m)) r f → atom_begins x stk q ≡ wrong → ⊥
  unfolding step_piece
  refuse-bond m d e = let a : (memb x organic ≡ false) × (eqb x 91 ≡ false) = no-atom x stk q e in go us d (sign_of x xs us a.0 a.1 l)
    where
      go : (vs : List Piece) → Reads vs (st n cur stk t (marked m)) r f → Sign x vs → ⊥
      go _ w (a-mark k rest) = stuck refl w
      go _ w (a-dot rest) = stuck refl w
      go _ w (an-lpar k rest) = stuck refl w
      go _ w (an-rpar k rest) = stuck (rpar-stuck n cur stk t (marked m) (λ z. let y : ◌≡◌ {A = ℕ} 0 1 = cc in omega arith)) w

  refuse-opening : Reads us (st n cur stk t opened) r f → bond_or_atom x stk q ≡ wrong → ⊥
  unfolding step_piece bond_or_atom
  refuse-opening d e =
      let b : (memb x marks ≡ false) × (atom_begins x stk q ≡ wrong) = either-wrong (memb x marks) _ stk _ _ e in
      let a : (memb x organic ≡ false) × (eqb x 91 ≡ false) = no-atom x stk q b.1 in
      go us d b.0 (sign_of x xs us a.0 a.1 l)
    where
      go : (vs : List Piece) → Reads vs (st n cur stk t opened) r f → memb x marks ≡ false → Sign x vs → ⊥
      go _ w c (a-mark k rest) = false≢true (sym c ∙ k)
      go _ w c (a-dot rest) = stuck refl w
      go _ w c (an-lpar k rest) = stuck refl w
      go _ w c (an-rpar k rest) = stuck (rpar-stuck n cur stk t opened (λ z. let y : ◌≡◌ {A = ℕ} 0 1 = cc in omega arith)) w

  -- after an atom or a branch
  module _ (d : Reads us (st n cur stk t after) r f) (h : Plain (length stk) us) where
    refuse-rpar : eqb x 41 ≡ true → branch_closes stk q ≡ wrong → ⊥
    unfolding Plain memb organic marks
    refuse-rpar e w =
        let k : x ≡ 41 = eqb-true x 41 e in
        go us d h (sign_of x xs us (ap (λ (z : ℕ). memb z organic) k) (ap (λ (z : ℕ). eqb z 91) k) l)
      where
        go : (vs : List Piece) → Reads vs (st n cur stk t after) r f → Plain (length stk) vs → Sign x vs → ⊥
        go _ v p (a-mark k rest) = false≢true (sym (ap (λ (z : ℕ). memb z marks) (eqb-true x 41 e)) ∙ k)
        go _ v p (a-dot rest) = p
        go _ v p (an-lpar k rest) = omega (arith, eqb-true x 41 e, eqb-true x 40 k)
        go _ v p (an-rpar k rest) = stuck (rpar-unopened n cur stk t q w) v

    refuse-lpar : eqb x 40 ≡ true → branch_opens stk q ≡ wrong → ⊥
    unfolding Plain memb organic marks branch_opens
    refuse-lpar e w =
        let k : x ≡ 40 = eqb-true x 40 e in
        go us h (either-wrong (ltb (length stk) 16) _ _ _ _ w).0 (sign_of x xs us (ap (λ (z : ℕ). memb z organic) k) (ap (λ (z : ℕ). eqb z 91) k) l)
      where
        go : (vs : List Piece) → Plain (length stk) vs → ltb (length stk) 16 ≡ false → Sign x vs → ⊥
        go _ p c (a-mark k rest) = false≢true (sym (ap (λ (z : ℕ). memb z marks) (eqb-true x 40 e)) ∙ k)
        go _ p c (a-dot rest) = p
        go _ p c (an-lpar k rest) = false≢true (sym c ∙ lt-ltb (length stk) 16 p.0)
        go _ p c (an-rpar k rest) = omega (arith, eqb-true x 40 e, eqb-true x 41 k)

    refuse-other : eqb x 41 ≡ false → eqb x 40 ≡ false → bond_or_atom x stk q ≡ wrong → ⊥
    unfolding Plain bond_or_atom
    refuse-other c₁ c₀ e =
        let b : (memb x marks ≡ false) × (atom_begins x stk q ≡ wrong) = either-wrong (memb x marks) _ stk _ _ e in
        let a : (memb x organic ≡ false) × (eqb x 91 ≡ false) = no-atom x stk q b.1 in
        go us h b.0 (sign_of x xs us a.0 a.1 l)
      where
        go : (vs : List Piece) → Plain (length stk) vs → memb x marks ≡ false → Sign x vs → ⊥
        go _ p c (a-mark k rest) = false≢true (sym c ∙ k)
        go _ p c (a-dot rest) = p
        go _ p c (an-lpar k rest) = false≢true (sym c₀ ∙ k)
        go _ p c (an-rpar k rest) = false≢true (sym c₁ ∙ k)

    refuse-closed : goes_on x stk q ≡ wrong → ⊥
    unfolding goes_on
    refuse-closed e = go (eqb x 41) refl (eqb x 40) refl e
      where
        go : (a : Bool) → eqb x 41 ≡ a → (b : Bool) → eqb x 40 ≡ b → cond a (branch_closes stk q) (cond b (branch_opens stk q) (bond_or_atom x stk q)) ≡ wrong → ⊥
        go true w b v z = refuse-rpar w z
        go false w true v z = refuse-lpar v z
        go false w false v z = refuse-other w v z

-- ---- an atom that goes on

each_at : (P : ℕ → Type 0) (ls : List ℕ) (l : ℕ) (more : List ℕ) → EachOf P (ls ++ (l ∷ more)) → P l
each_at P [] l more h = h.0
each_at P (k ∷ ls) l more h = each_at P ls l more h.1

labels-stop : (ls : List ℕ) (d : ℕ) (more : List ℕ) (self : ℕ) (ks ks' : List Link) (t t' : List Entry)
    → labels ls self ks t ≡ links ks' t' → label d self ks' t' ≡ stop → labels ((ls ++ d ∷ []) ++ more) self ks t ≡ stop
unfolding labels and_labels
labels-stop [] d more self ks ks' t t' e f =
    let p : ks ≡ ks' = cc in
    let q : t ≡ t' = cc in
    rw (p, q, f)
labels-stop (k ∷ ls) d more self ks ks' t t' e f = go (label k self ks t) (λ a b. labels-stop ls d more self a ks' b t') e
  where
    go : (g : Labelled) → ((a : List Link) (b : List Entry) → labels ls self a b ≡ links ks' t' → label d self ks' t' ≡ stop → labels ((ls ++ d ∷ []) ++ more) self a b ≡ stop)
        → and_labels g (λ a b. labels ls self a b) ≡ links ks' t' → and_labels g (λ a b. labels ((ls ++ d ∷ []) ++ more) self a b) ≡ stop
    go stop ih h = refl
    go (links a b) ih h = ih a b h f

module _ (q : Rings) (b ls : List ℕ) (n cur : ℕ) (stk : List ℕ) (t : List Entry) (ph : Phase) (v : Pending q ls n cur t ph) where
  -- a digit that clashes stops the machine
  clash-stops : (d : ℕ) → clashes d q ≡ true → label d n v.ks v.t' ≡ stop
  unfolding clashes bonded label found close
  clash-stops d c = go (get_or q.opened d 0) refl
    where
      go : (a : ℕ) → get_or q.opened d 0 ≡ a → label d n v.ks v.t' ≡ stop
      go zero e = absurd (false≢true (rw (eq-eqb (get_or q.opened d 0) 0 e) at c))
      go (suc a) e =
          let w : (eqb (suc a) q.current || (eqb (suc a) q.parent || eqb (get_or q.joined (suc a) 0) q.current)) ≡ true =
          rw (ne_eqb (get_or q.opened d 0) 0 (λ z. omega (arith, e)), e) at c in
          let y : (eqb (suc a) n || among (suc a) v.ks) ≡ true = rw (v.like.here, v.bonds (suc a)) w in
          rw (v.like.table d, e, y)

  module _ (x : ℕ) (xs : List ℕ) (us : List Piece) (l : lex (in_atom b ls) (x ∷ xs) ≡ some us) (r : List Row) (f : Machine) (reads : Reads us (st n cur stk t ph) r f)
      (small : Small us) (h : Plain (length stk) us) (one : second x b ls ≡ false) where
    digit-stuck : (d : ℕ) (vs : List Piece) → clashes d q ≡ true → us ≡ [] ++ vs → Begins b (ls ++ d ∷ []) vs → ⊥
    unfolding step_piece placed
    digit-stuck d vs c e z =
        stuck (ap (placed b n stk) (labels-stop ls d z.more n (joins ph cur) v.ks t v.t' v.does (clash-stops d c)))
        (subst (λ (y : List Piece). Reads y (st n cur stk t ph) r f) (e ∙ z.is) reads)

    refuse-digit : within 49 57 x ≡ true → clashes (x - 48) q ≡ true → ⊥
    unfolding lex feed on_fed
    refuse-digit e c = go (before-some [] (lex (in_atom b (ls ++ (x - 48) ∷ [])) xs) us (rw (one, e) at l))
      where
        go : After [] (lex (in_atom b (ls ++ (x - 48) ∷ [])) xs) us → ⊥
        go w =
            digit-stuck (x - 48) w.rest c w.is
            (ahead xs (in_atom b (ls ++ (x - 48) ∷ [])) w.rest w.lexed (λ y. second-labels y b ls (x - 48)))

    large-refused : (vs : List Piece) → us ≡ [] ++ vs → BeginsLarge b ls vs → ⊥
    large-refused vs e z = omega (arith, z.large, each_at (λ (m : ℕ). m < 10) ls z.l z.more (subst Small (e ∙ z.is) small).0)

    refuse-percent : within 49 57 x ≡ false → eqb x 37 ≡ true → ⊥
    unfolding lex feed on_fed
    refuse-percent e p = go (before-some [] (lex (in_label b ls) xs) us (rw (one, e, p) at l))
      where
        go : After [] (lex (in_label b ls) xs) us → ⊥
        go w = large-refused w.rest w.is (ahead xs (in_label b ls) w.rest w.lexed)

    ended-refused : (vs : List Piece) → lex between (x ∷ xs) ≡ some vs → us ≡ (atom b ls ∷ []) ++ vs → goes_on x stk q ≡ wrong → ⊥
    unfolding Plain
    ended-refused vs k e g = go (reads-rest (atom b ls ∷ []) (reads-cons (steps-atom b ls n cur stk t ph v.ks v.t' v.does) (reads-nil _)) (subst (λ (z : List Piece). Reads z (st n cur stk t ph) r f) e reads))
      where
        go : Rest vs (st (suc n) n stk v.t' after) f → ⊥
        go y = refuse-closed x xs vs k stk q (suc n) n v.t' y.rows f y.reads (subst (Plain (length stk)) e h) g

    refuse-ended : within 49 57 x ≡ false → eqb x 37 ≡ false → goes_on x stk q ≡ wrong → ⊥
    unfolding lex feed on_fed
    refuse-ended e p g =
        go (before-some (atom b ls ∷ []) (lex between (x ∷ xs)) us (sym (on_fed-ended (atom b ls) (begin x) (λ y. lex y xs)) ∙ (rw (one, e, p) at l)))
      where
        go : After (atom b ls ∷ []) (lex between (x ∷ xs)) us → ⊥
        go w = ended-refused w.rest w.lexed w.is g

    refuse-pending : digit_or x stk q ≡ wrong → ⊥
    unfolding digit_or
    refuse-pending e = go (within 49 57 x) refl (eqb x 37) refl (clashes (x - 48) q) refl e
      where
        go : (a : Bool) → within 49 57 x ≡ a → (p : Bool) → eqb x 37 ≡ p → (c : Bool) → clashes (x - 48) q ≡ c
            → cond a (cond c wrong (stands whole stk (with_digit (x - 48) q))) (goes_on x stk q) ≡ wrong → ⊥
        go true w p u true k z = refuse-digit w k
        go true w p u false k z = not-stands z
        go false w true u c k z = refuse-percent w u
        go false w false u c k z = refuse-ended w u z

refuse-bracket : (x : ℕ) (xs ys : List ℕ) (us : List Piece) (k : ℕ) (stk : List ℕ) (q : Rings) → length ys ≡ k → lex (in_bracket ys) (x ∷ xs) ≡ some us → bracket_on x k stk q ≡ wrong → ⊥
unfolding lex feed on_fed bracket_on
refuse-bracket x xs ys us k stk q n l e =
    let a : (bracketed x ≡ false) × (cond (eqb x 93 && within 1 16 k) (stands whole stk q) wrong ≡ wrong) = either-wrong (bracketed x) _ stk _ _ e in
    let b : (eqb x 93 && within 1 16 k) ≡ false = (either-wrong (eqb x 93 && within 1 16 k) _ stk _ _ a.1).0 in
    none≢some (rw (a.0, n, b) at l)

-- a byte that the grammar does not take
refuses : {G : State} {L : Lex} {s : Machine} (x : ℕ) (xs : List ℕ) (us : List Piece) (r : List Row) (f : Machine)
    → Sim G L s → lex L (x ∷ xs) ≡ some us → Reads us s r f → Small us → Plain (deep s) us → step G x ≡ wrong → ⊥
unfolding step second
refuses x xs us r f (at-opening {stk} {q} {n} {cur} {t} v) l d small h e = refuse-opening x xs us l stk q n cur t r f d e
refuses x xs us r f (at-bond {stk} {q} {n} {cur} {t} {m} v) l d small h e = refuse-bond x xs us l stk q n cur t r f m d e
refuses x xs us r f (at-closed {stk} {q} {n} {cur} {t} o v) l d small h e = refuse-closed x xs us l stk q n cur t r f d h e
refuses x xs us r f (at-letter {stk} {q} {n} {cur} {t} {ph} {a} v) l d small h e =
    let w : (pairs a x ≡ false) × (digit_or x stk q ≡ wrong) = either-wrong (pairs a x) _ stk _ _ e in
    refuse-pending q (a ∷ []) [] n cur stk t ph v x xs us l r f d small h w.0 w.1
refuses x xs us r f (at-whole {stk} {q} {n} {cur} {t} {ph} {b} {ls} w v) l d small h e = refuse-pending q b ls n cur stk t ph v x xs us l r f d small h (w x) e
refuses x xs us r f (at-inside {stk} {q} {n} {cur} {t} {ph} {xs = ys} {k} w v) l d small h e = refuse-bracket x xs ys us k stk q w l e

-- ---- all bytes

-- no label is open, so no digit is
none_open_lem : (l : List ℕ) → ((m : ℕ) → get_or l m 0 ≡ 0) → none_open l ≡ true
unfolding none_open
none_open_lem [] h = refl
none_open_lem (a ∷ l) h = rw (eq-eqb a 0 (h 0)) (none_open_lem l (λ m. h (suc m)))

shut-digit : (a : ℕ) → none ≡ open_on a → a ≡ 0
shut-digit zero e = refl
shut-digit (suc a) e = absurd (none≢some e)

finished-settled : (stk : List ℕ) (q : Rings) (n cur : ℕ) (t : List Entry) (n' e : ℕ) → 1 ≤ q.last → Like q n cur t → st n cur stk t after ≡ st n' e [] [] after → 1 ≤ finished stk q
unfolding finished lookup
finished-settled stk q n cur t n' e o v w =
    let a : stk ≡ [] = cc in
    let b : t ≡ [] = cc in
    rw (a, none_open_lem q.opened (λ m. shut-digit (get_or q.opened m 0) (sym (ap (lookup m) b) ∙ v.table m))) o

finished-pending : (b ls : List ℕ) (stk : List ℕ) (q : Rings) (n cur : ℕ) (t : List Entry) (ph : Phase) (r : List Row) (n' e : ℕ) → Pending q ls n cur t ph
    → Reads (atom b ls ∷ []) (st n cur stk t ph) r (st n' e [] [] after) → 1 ≤ finished stk q
finished-pending b ls stk q n cur t ph r n' e v d =
    finished-settled stk q (suc n) n v.t' n' e (omega (arith, v.own, v.like.atoms)) v.like
    (reads-nil-only (reads-rest (atom b ls ∷ []) (reads-cons (steps-atom b ls n cur stk t ph v.ks v.t' v.does) (reads-nil _)) d).reads).state

phase-after : (n cur : ℕ) (stk : List ℕ) (t : List Entry) (n' cur' : ℕ) (stk' : List ℕ) (t' : List Entry) (ph : Phase) → st n cur stk t ph ≡ st n' cur' stk' t' after → ph ≡ after
phase-after n cur stk t n' cur' stk' t' ph e = cc

accepted-here : {G : State} {L : Lex} {s : Machine} (us : List Piece) (r : List Row) (n' e : ℕ) → Sim G L s → lex L [] ≡ some us → Reads us s r (st n' e [] [] after) → 1 ≤ done G
unfolding done lex
accepted-here us r n' e (at-opening {stk} {q} {n} {cur} {t} v) l d =
    let u : us ≡ [] = cc in
    let w : opened ≡ after = phase-after n cur stk t n' e [] [] opened (reads-nil-only (subst (λ (z : List Piece). Reads z (st n cur stk t opened) r (st n' e [] [] after)) u d)).state in
    let z : ◌≡◌ {A = ℕ} 0 1 = cc in absurd (omega arith)
accepted-here us r n' e (at-bond {stk} {q} {n} {cur} {t} {m} v) l d =
    let u : us ≡ [] = cc in
    let w : marked m ≡ after = phase-after n cur stk t n' e [] [] (marked m) (reads-nil-only (subst (λ (z : List Piece). Reads z (st n cur stk t (marked m)) r (st n' e [] [] after)) u d)).state in
    let z : ◌≡◌ {A = ℕ} 0 1 = cc in absurd (omega arith)
accepted-here us r n' e (at-closed {stk} {q} {n} {cur} {t} o v) l d =
    let u : us ≡ [] = cc in
    finished-settled stk q n cur t n' e o v (reads-nil-only (subst (λ (z : List Piece). Reads z (st n cur stk t after) r (st n' e [] [] after)) u d)).state
accepted-here us r n' e (at-letter {stk} {q} {n} {cur} {t} {ph} {a} v) l d =
    let u : us ≡ atom (a ∷ []) [] ∷ [] = cc in
    finished-pending (a ∷ []) [] stk q n cur t ph r n' e v (subst (λ (z : List Piece). Reads z (st n cur stk t ph) r (st n' e [] [] after)) u d)
accepted-here us r n' e (at-whole {stk} {q} {n} {cur} {t} {ph} {b} {ls} w v) l d =
    let u : us ≡ atom b ls ∷ [] = cc in
    finished-pending b ls stk q n cur t ph r n' e v (subst (λ (z : List Piece). Reads z (st n cur stk t ph) r (st n' e [] [] after)) u d)
accepted-here us r n' e (at-inside w v) l d = absurd (none≢some l)

lex-fed : (L M : Lex) (x : ℕ) (xs : List ℕ) (ps : List Piece) {us : List Piece} → feed L x ≡ fed ps M → lex L (x ∷ xs) ≡ some us → before ps (lex M xs) ≡ some us
unfolding lex on_fed
lex-fed L M x xs ps f l = sym (ap (λ (z : Fed). on_fed z (λ q. lex q xs)) f) ∙ l

accepted : (xs : List ℕ) {G : State} {L : Lex} {s : Machine} (us : List Piece) (r : List Row) (n' e : ℕ) → last_of G + length xs ≤ 255 → Sim G L s
    → lex L xs ≡ some us → Reads us s r (st n' e [] [] after) → Small us → Plain (deep s) us → 1 ≤ scan G xs
unfolding scan
accepted [] us r n' e few v l d small h = accepted-here us r n' e v l d
accepted (x ∷ xs) {G} {L} {s} us r n' e few v l d small h =
    go (step G x) refl (takes x (omega arith) v) (λ H M m. accepted xs {G = H} {L = M} {s = m})
  where
    more : (H : State) (m : Takes L s x (last_of G) H)
        → ((us' : List Piece) (r' : List Row) → lex m.next xs ≡ some us' → Reads us' m.s' r' (st n' e [] [] after) → Small us' → Plain (deep m.s') us' → 1 ≤ scan H xs)
        → (w : After m.us (lex m.next xs) us) → 1 ≤ scan H xs
    more H m ih w =
        let y : Rest w.rest m.s' (st n' e [] [] after) =
        reads-rest m.us m.reads (subst (λ (z : List Piece). Reads z s r (st n' e [] [] after)) w.is d) in
        ih w.rest y.rows w.lexed y.reads (each-label-split (λ (k : ℕ). k < 10) m.us w.rest (subst Small w.is small)).1
        (plain-rest m.us w.rest m.reads (subst (Plain (deep s)) w.is h))

    go : (H : State) → step G x ≡ H → May L s x (last_of G) H
        → ((K : State) (M : Lex) (k : Machine) (us' : List Piece) (r' : List Row) (a b : ℕ) → last_of K + length xs ≤ 255 → Sim K M k
        → lex M xs ≡ some us' → Reads us' k r' (st a b [] [] after) → Small us' → Plain (deep k) us' → 1 ≤ scan K xs)
        → 1 ≤ scan H xs
    go wrong w m ih = absurd (refuses x xs us r (st n' e [] [] after) v l d small h w)
    go (stands p stk q) w m ih =
        more (stands p stk q) m (λ us' r'. ih (stands p stk q) m.next m.s' us' r' n' e (omega (arith, m.grows)) m.sim)
        (before-some m.us (lex m.next xs) us (lex-fed L m.next x xs m.us m.feeds l))

-- ---- THE TAILS, EXACTLY

part-accepted : (xs : List ℕ) (p : Part) → PartFrom xs p → length xs ≤ 255 → Small p.pieces → Plain 0 p.pieces → 1 ≤ scan (stands opening [] no_rings) xs
part-accepted xs p f few small h =
    accepted xs p.pieces p.rows (suc p.size) p.last (omega arith) (at-opening like-start)
    (subst (λ (z : List ℕ). lex between z ≡ some p.pieces) f.shown (lex-show p.pieces f.well))
    f.hangs.reads small h

-- what reads so is a tail; `tail-alone` is the other way
pub only-tails : (xs : List ℕ) → 1 ≤ length xs → length xs ≤ 255 → TailPart xs → is_tail xs ≡ true
unfolding is_tail atoms_of_tail within
only-tails xs lo hi w =
    let k : 1 ≤ scan (stands opening [] no_rings) xs = part-accepted xs w.part (part-from xs w.part w.is) hi w.digits w.plain in
    rw (le-leb 1 (length xs) lo, le-leb (length xs) 255 hi, ne_eqb (scan (stands opening [] no_rings) xs) 0 (λ z. omega arith))
