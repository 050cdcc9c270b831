-- A tail reads by itself: what the grammar accepts, the reading of a text reads, hung on an atom, with nothing left open.
-- The two go side by side over the bytes: where the grammar stands, the lexer stands in or after the same piece, and the machine has the
-- same atoms, branches and open digits.
use mathlib.Core.Path.{◌≡◌, refl, sym, ap, ◌∙◌, subst}
use mathlib.Core.Bool.{Bool, true, false, cond, ◌||◌, ◌&&◌}
use mathlib.Core.Option.{Option, none, some}
use Prim.Native.Nat.{ℕ, zero, suc, ◌+◌, ◌-◌, ◌≤◌, ◌<◌}
use native.Mathlib.Omega.{arith}
use native.Mathlib.Decide.{ℕ_discrete}
use mathlib.Core.List.{List, [], ◌∷◌, ◌++◌}
use lib.ListN.{length, length-append, length-set, length-replicate, get_or, set, replicate}
use lib.Seq.{get_or-set_same, get_or-set_other}
use lib.Dec.{eqb, ltb}
use borrow.Author.Tests.{ltb-true, eqb-true, eqb-false, eq-eqb, ne_eqb, not-true}
use Rattle.reading_rules.specs.reading.Row.{Row, row, Link, link}
use Rattle.reading_rules.specs.reading.Piece.{Piece, atom, mark, dot, lpar, rpar}
use Rattle.reading_rules.specs.reading.Lexer.{memb, within, organic, marks, bracketed, pairs, second, Lex, between, in_atom, in_bracket, Fed, fed, begin, feed, before, on_fed, lex, pieces_of}
use Rattle.reading_rules.specs.reading.Machine.{Entry, entry, Phase, fresh, opened, after, marked, State as Machine, st, lookup, remove, among, links, labels, joins, plainly, step as step_piece}
use Rattle.reading_rules.specs.reading.Part.{Part, alone, part_read, part_lexed, part_of}
use Rattle.reading_rules.proofs.reading.Reading.{Reads, Steps, reads-nil, reads-cons, reads-append, steps-atom, steps-lpar, steps-rpar, steps-mark}
use Rattle.reading_rules.proofs.reading.OpenLabels.{lookup-same, lookup-other, lookup-removed, lookup-remove-other, nothing-open, label-opens, label-closes, labels-snoc}
use Rattle.reading_rules.proofs.reading.Frame.{EachOf, EachLabel, each-label-append}
use Rattle.reading_rules.proofs.reading.LexShow.{feed-digit, feed-inside, feed-bracket-end, feed-ended, feed-second, begin-mark, true-T, or-both}
use Rattle.reading_rules.proofs.reading.ShowLex.{within_both, and_both}
use Rattle.std.proofs.Math.Bool.{or-false}
use Rattle.tail_grammar.proofs.ringdigits.Scan.{digit-last, scan-wrong}
use Rattle.tail_grammar.specs.ringdigits.Grammar.{Rings, no_rings, with_atom, bonded, clashes, with_digit, none_open, State, wrong, stands, opening, after_bond, whole, closed, letter, inside, atom_begins, bond_or_atom, branch_closes, branch_opens, goes_on, digit_or, bracket_on, step, finished, done, scan, atoms_of_tail, is_tail}

-- ---- the same atoms and digits

-- where a digit is open
abbrev pub open_on : ℕ → Option ℕ
open_on zero = none
open_on (suc a) = some (suc a)

pub record Like (q : Rings) (n cur : ℕ) (t : List Entry) : Type 0 where
  pub atoms : n ≡ suc q.last
  pub here : cur ≡ q.current
  pub table : (m : ℕ) → lookup m t ≡ open_on (get_or q.opened m 0)
  pub known : (m : ℕ) → get_or q.opened m 0 ≤ q.last
  pub earlier : (a : ℕ) → get_or q.joined a 0 ≤ q.last
  pub ten : length q.opened ≡ 10
  pub many : length q.joined ≡ 256

-- an atom that is still being read, with the labels `ls` so far, from the state s
pub record Pending (q : Rings) (ls : List ℕ) (n cur : ℕ) (t : List Entry) (ph : Phase) : Type 0 where
  pub own : 1 ≤ n
  pub ks : List Link
  pub t' : List Entry
  pub does : labels ls n (joins ph cur) t ≡ links ks t'
  pub like : Like q (suc n) n t'
  pub bonds : (a : ℕ) → among a ks ≡ (eqb a q.parent || eqb (get_or q.joined a 0) q.current)
  pub small : EachOf (λ (l : ℕ). l < 10) ls

-- where a new atom joins the current one
abbrev Joining : Phase → Type 0
Joining fresh = ⊥
Joining opened = Unit {0}
Joining after = Unit {0}
Joining (marked m) = Unit {0}

zero-list : (n i : ℕ) → ◌≡◌ {A = ℕ} (get_or (replicate n 0) i 0) 0
zero-list zero i = refl
zero-list (suc n) zero = refl
zero-list (suc n) (suc i) = zero-list n i

pub like-start : Like no_rings 1 0 []
unfolding lookup
like-start =
    record {
      atoms = refl;
      here = refl;
      table = λ m. ap open_on (sym (zero-list 10 m));
      known = λ m. omega (arith, zero-list 10 m);
      earlier = λ a. omega (arith, zero-list 256 a);
      ten = refl;
      many = length-replicate {A = ℕ} 256 0;
    }

-- a new atom
pending-new : (q : Rings) (n cur : ℕ) (t : List Entry) (ph : Phase) → Joining ph → Like q n cur t → Pending (with_atom q) [] n cur t ph
unfolding joins labels among
pending-new q n cur t ph j v = go ph j
  where
    bond : (m a : ℕ) → among a (link cur m ∷ []) ≡ (eqb a q.current || eqb (get_or q.joined a 0) (q.last + 1))
    bond m a = rw (v.here, ne_eqb (get_or q.joined a 0) (q.last + 1) (λ w. omega (arith, v.earlier a)))

    like : Like (with_atom q) (suc n) n t
    like =
        record {
          atoms = omega (arith, v.atoms);
          here = omega (arith, v.atoms);
          table = v.table;
          known = λ m. omega (arith, v.known m);
          earlier = λ a. omega (arith, v.earlier a);
          ten = v.ten;
          many = v.many;
        }

    go : (p : Phase) → Joining p → Pending (with_atom q) [] n cur t p
    go fresh w = absurd w
    go opened w = record { own = omega (arith, v.atoms); ks = link cur 0 ∷ []; t' = t; does = refl; like = like; bonds = bond 0; small = tt }
    go after w = record { own = omega (arith, v.atoms); ks = link cur 0 ∷ []; t' = t; does = refl; like = like; bonds = bond 0; small = tt }
    go (marked m) w = record { own = omega (arith, v.atoms); ks = link cur m ∷ []; t' = t; does = refl; like = like; bonds = bond m; small = tt }

-- ---- one more digit

or-true : (a : Bool) → (a || true) ≡ true
or-true true = refl
or-true false = refl

pub false≢true : false ≡ true → ⊥
false≢true e = let z : ◌≡◌ {A = ℕ} 0 1 = cc in omega arith

open-on : (a : ℕ) → 1 ≤ a → open_on a ≡ some a
open-on zero h = absurd (omega arith)
open-on (suc a) h = refl

among-snoc : (b a m : ℕ) (ks : List Link) → among b (ks ++ link a m ∷ []) ≡ (among b ks || eqb b a)
unfolding among
among-snoc b a m [] = or-false (eqb b a)
among-snoc b a m (link c k ∷ ks) = rw (among-snoc b a m ks) (regroup (eqb b c) (among b ks) (eqb b a))
  where
    regroup : (x y z : Bool) → (x || (y || z)) ≡ ((x || y) || z)
    regroup true y z = refl
    regroup false y z = refl

each_snoc : (P : ℕ → Type 0) (ls : List ℕ) (d : ℕ) → EachOf P ls → P d → EachOf P (ls ++ d ∷ [])
each_snoc P [] d h g = (g, tt)
each_snoc P (l ∷ ls) d h g = (h.0, each_snoc P ls d h.1 g)

module _ (q : Rings) (ls : List ℕ) (n cur : ℕ) (t : List Entry) (ph : Phase) (v : Pending q ls n cur t ph) (d : ℕ) (h : d < 10) where
  last-is : n ≡ q.last
  last-is = omega (arith, v.like.atoms)

  digit-opens : get_or q.opened d 0 ≡ 0 → Pending (with_digit d q) (ls ++ d ∷ []) n cur t ph
  unfolding with_digit
  digit-opens e =
      rw (eq-eqb (get_or q.opened d 0) 0 e)
      (record {
        own = v.own;
        ks = v.ks;
        t' = entry d n ∷ v.t';
        does = labels-snoc ls d n (joins ph cur) v.ks v.ks t v.t' (entry d n ∷ v.t') v.does
            (label-opens d n v.ks v.t' (v.like.table d ∙ ap open_on e));
        like = record {
          atoms = v.like.atoms;
          here = v.like.here;
          table = λ m. table m (ℕ_discrete m d);
          known = λ m. known m (ℕ_discrete m d);
          earlier = v.like.earlier;
          ten = length-set q.opened d q.current ∙ v.like.ten;
          many = v.like.many;
        };
        bonds = v.bonds;
        small = each_snoc (λ (l : ℕ). l < 10) ls d v.small h;
      })
    where
      room : d < length q.opened
      room = omega (arith, v.like.ten)

      table : (m : ℕ) → Dec (m ≡ d) → lookup m (entry d n ∷ v.t') ≡ open_on (get_or (set q.opened d q.current) m 0)
      table m (yes w) =
          rw (w, lookup-same d n v.t', get_or-set_same q.opened d q.current 0 room, ← v.like.here) (sym (open-on n v.own))
      table m (no w) = rw (lookup-other m d n v.t' w, get_or-set_other q.opened d m q.current 0 w) (v.like.table m)

      known : (m : ℕ) → Dec (m ≡ d) → get_or (set q.opened d q.current) m 0 ≤ q.last
      known m (yes w) = rw (w, get_or-set_same q.opened d q.current 0 room) (omega (arith, v.like.here, last-is))
      known m (no w) = rw (get_or-set_other q.opened d m q.current 0 w) (v.like.known m)

  digit-closes : (a : ℕ) → get_or q.opened d 0 ≡ suc a → q.last ≤ 255 → clashes d q ≡ false → Pending (with_digit d q) (ls ++ d ∷ []) n cur t ph
  unfolding with_digit clashes bonded
  digit-closes a e few c =
      rw (ne_eqb (get_or q.opened d 0) 0 (λ w. omega (arith, e)), e)
      (record {
        own = v.own;
        ks = v.ks ++ link (suc a) 0 ∷ [];
        t' = remove d v.t';
        does = labels-snoc ls d n (joins ph cur) v.ks (v.ks ++ link (suc a) 0 ∷ []) t v.t' (remove d v.t') v.does
            (label-closes d n (suc a) v.ks v.t' (v.like.table d ∙ ap open_on e) (λ w. eqb-false (suc a) q.current apart.0 (w ∙ v.like.here))
            (v.bonds (suc a) ∙ apart.1));
        like = record {
          atoms = v.like.atoms;
          here = v.like.here;
          table = λ m. table m (ℕ_discrete m d);
          known = λ m. known m (ℕ_discrete m d);
          earlier = λ b. earlier b (ℕ_discrete b (suc a));
          ten = length-set q.opened d 0 ∙ v.like.ten;
          many = length-set q.joined (suc a) q.current ∙ v.like.many;
        };
        bonds = λ b. bond b (ℕ_discrete b (suc a));
        small = each_snoc (λ (l : ℕ). l < 10) ls d v.small h;
      })
    where
      room : d < length q.opened
      room = omega (arith, v.like.ten)

      place : suc a < length q.joined
      place = omega (arith, v.like.many, v.like.known d, e)

      apart : (eqb (suc a) q.current ≡ false) × ((eqb (suc a) q.parent || eqb (get_or q.joined (suc a) 0) q.current) ≡ false)
      apart = or-both (eqb (suc a) q.current) _ (rw (ne_eqb (get_or q.opened d 0) 0 (λ w. omega (arith, e)), e) at c)

      table : (m : ℕ) → Dec (m ≡ d) → lookup m (remove d v.t') ≡ open_on (get_or (set q.opened d 0) m 0)
      table m (yes w) = rw (w, lookup-removed d v.t', get_or-set_same q.opened d 0 0 room)
      table m (no w) = rw (lookup-remove-other m d v.t' w, get_or-set_other q.opened d m 0 0 w) (v.like.table m)

      known : (m : ℕ) → Dec (m ≡ d) → get_or (set q.opened d 0) m 0 ≤ q.last
      known m (yes w) = rw (w, get_or-set_same q.opened d 0 0 room) (omega arith)
      known m (no w) = rw (get_or-set_other q.opened d m 0 0 w) (v.like.known m)

      earlier : (b : ℕ) → Dec (b ≡ suc a) → get_or (set q.joined (suc a) q.current) b 0 ≤ q.last
      earlier b (yes w) = rw (w, get_or-set_same q.joined (suc a) q.current 0 place) (omega (arith, v.like.here, last-is))
      earlier b (no w) = rw (get_or-set_other q.joined (suc a) b q.current 0 w) (v.like.earlier b)

      bond : (b : ℕ) → Dec (b ≡ suc a)
          → among b (v.ks ++ link (suc a) 0 ∷ []) ≡ (eqb b q.parent || eqb (get_or (set q.joined (suc a) q.current) b 0) q.current)
      bond b (yes w) =
          let p : (among b v.ks || eqb b (suc a)) ≡ true = rw (eq-eqb b (suc a) w) (or-true (among b v.ks)) in
          let r : (eqb b q.parent || eqb (get_or (set q.joined (suc a) q.current) b 0) q.current) ≡ true =
          rw (w, get_or-set_same q.joined (suc a) q.current 0 place, eq-eqb q.current q.current refl) (or-true (eqb (suc a) q.parent)) in
          among-snoc b (suc a) 0 v.ks ∙ (p ∙ sym r)
      bond b (no w) =
          let p : (among b v.ks || eqb b (suc a)) ≡ among b v.ks = rw (ne_eqb b (suc a) w) (or-false (among b v.ks)) in
          among-snoc b (suc a) 0 v.ks ∙ (p ∙ rw (get_or-set_other q.joined (suc a) b q.current 0 w) (v.bonds b))

  pending-digit : q.last ≤ 255 → clashes d q ≡ false → Pending (with_digit d q) (ls ++ d ∷ []) n cur t ph
  pending-digit few c = go (get_or q.opened d 0) refl
    where
      go : (a : ℕ) → get_or q.opened d 0 ≡ a → Pending (with_digit d q) (ls ++ d ∷ []) n cur t ph
      go zero e = digit-opens e
      go (suc a) e = digit-closes a e few c

-- ---- side by side

pub data Sim : State → Lex → Machine → Type 0 where
  at-opening : {stk : List ℕ} {q : Rings} {n cur : ℕ} {t : List Entry} → Like q n cur t → Sim (stands opening stk q) between (st n cur stk t opened)
  at-bond : {stk : List ℕ} {q : Rings} {n cur : ℕ} {t : List Entry} {m : ℕ} → Like q n cur t → Sim (stands after_bond stk q) between (st n cur stk t (marked m))
  at-closed : {stk : List ℕ} {q : Rings} {n cur : ℕ} {t : List Entry} → 1 ≤ q.last → Like q n cur t → Sim (stands closed stk q) between (st n cur stk t after)
  at-letter : {stk : List ℕ} {q : Rings} {n cur : ℕ} {t : List Entry} {ph : Phase} {a : ℕ}
      → Pending q [] n cur t ph → Sim (stands (letter a) stk q) (in_atom (a ∷ []) []) (st n cur stk t ph)
  at-whole : {stk : List ℕ} {q : Rings} {n cur : ℕ} {t : List Entry} {ph : Phase} {b ls : List ℕ}
      → ((x : ℕ) → second x b ls ≡ false) → Pending q ls n cur t ph → Sim (stands whole stk q) (in_atom b ls) (st n cur stk t ph)
  at-inside : {stk : List ℕ} {q : Rings} {n cur : ℕ} {t : List Entry} {ph : Phase} {xs : List ℕ} {k : ℕ}
      → length xs ≡ k → Pending q [] n cur t ph → Sim (stands (inside k) stk q) (in_bracket xs) (st n cur stk t ph)

-- no second letter follows a label or a bracket
pub second-labels : (x : ℕ) (b ls : List ℕ) (d : ℕ) → second x b (ls ++ d ∷ []) ≡ false
unfolding second
second-labels x [] ls d = refl
second-labels x (a ∷ []) [] d = refl
second-labels x (a ∷ []) (l ∷ ls) d = refl
second-labels x (a ∷ a' ∷ b) ls d = refl

second-bracket : (x : ℕ) (xs : List ℕ) → second x (91 ∷ xs ++ 93 ∷ []) [] ≡ false
unfolding second
second-bracket x [] = refl
second-bracket x (y ∷ xs) = refl

-- no dot, and at most 16 branches in one another, of which k are open
unfoldable pub Plain : ℕ → List Piece → Type 0
Plain k [] = Unit {0}
Plain k (atom b ls ∷ us) = Plain k us
Plain k (mark m ∷ us) = Plain k us
Plain k (dot ∷ us) = ⊥
Plain k (lpar ∷ us) = (k < 16) × Plain (suc k) us
Plain k (rpar ∷ us) = Plain (k - 1) us

abbrev pub deep : Machine → ℕ
deep (st n cur stk t ph) = length stk

-- how many atoms of the tail there are
abbrev pub last_of : State → ℕ
last_of wrong = 0
last_of (stands p stk q) = q.last

-- both take the byte x: the grammar comes to G
pub record Takes (L : Lex) (s : Machine) (x l : ℕ) (G : State) : Type 0 where
  pub us : List Piece
  pub next : Lex
  pub rows : List Row
  pub s' : Machine
  pub feeds : feed L x ≡ fed us next
  pub reads : Reads us s rows s'
  pub sim : Sim G next s'
  pub digits : EachLabel (λ (d : ℕ). d < 10) us
  pub plain : (vs : List Piece) → Plain (deep s') vs → Plain (deep s) (us ++ vs)
  pub grows : last_of G ≤ suc l

-- unless the grammar takes none
abbrev pub May : Lex → Machine → ℕ → ℕ → State → Type 0
May L s x l wrong = Unit {0}
May L s x l (stands p stk q) = Takes L s x l (stands p stk q)

may-cond : (L : Lex) (s : Machine) (x l : ℕ) (b : Bool) (F G : State) → (b ≡ true → May L s x l F) → (b ≡ false → May L s x l G) → May L s x l (cond b F G)
may-cond L s x l true F G h g = h refl
may-cond L s x l false F G h g = g refl

module _ (x : ℕ) (stk : List ℕ) (q : Rings) where
  atom-begins : (n cur : ℕ) (t : List Entry) (ph : Phase) → Joining ph → Like q n cur t → May between (st n cur stk t ph) x q.last (atom_begins x stk q)
  unfolding atom_begins feed begin
  atom-begins n cur t ph j v =
      may-cond _ _ _ _ (memb x organic) _ _
      (λ e.
      record {
        us = [];
        next = in_atom (x ∷ []) [];
        rows = [];
        s' = st n cur stk t ph;
        feeds = rw e;
        reads = reads-nil _;
        sim = at-letter (pending-new q n cur t ph j v);
        digits = tt;
        plain = λ vs h. h;
        grows = omega arith;
      })
      (λ _. may-cond _ _ _ _ (eqb x 91) _ _
      (λ e.
      record {
        us = [];
        next = in_bracket [];
        rows = [];
        s' = st n cur stk t ph;
        feeds = ap (feed between) (eqb-true x 91 e);
        reads = reads-nil _;
        sim = at-inside refl (pending-new q n cur t ph j v);
        digits = tt;
        plain = λ vs h. h;
        grows = omega arith;
      })
      (λ _. tt))

  bond-or-atom : (n cur : ℕ) (t : List Entry) (ph : Phase) → Joining ph → Steps (mark x) (st n cur stk t ph) [] (st n cur stk t (marked (plainly x))) → Like q n cur t
      → May between (st n cur stk t ph) x q.last (bond_or_atom x stk q)
  unfolding bond_or_atom Plain
  bond-or-atom n cur t ph j m v =
      may-cond _ _ _ _ (memb x marks) _ _
      (λ e.
      record {
        us = mark x ∷ [];
        next = between;
        rows = [];
        s' = st n cur stk t (marked (plainly x));
        feeds = begin-mark x (true-T (memb x marks) e);
        reads = reads-cons m (reads-nil _);
        sim = at-bond v;
        digits = (tt, tt);
        plain = λ vs h. h;
        grows = omega arith;
      })
      (λ _. atom-begins n cur t ph j v)

branch_closes_lem : (stk : List ℕ) (q : Rings) (n cur : ℕ) (t : List Entry) → 1 ≤ q.last → Like q n cur t → May between (st n cur stk t after) 41 q.last (branch_closes stk q)
unfolding branch_closes feed begin Plain
branch_closes_lem [] q n cur t o v = tt
branch_closes_lem (a ∷ stk) q n cur t o v =
    record {
      us = rpar ∷ [];
      next = between;
      rows = [];
      s' = st n a stk t after;
      feeds = refl;
      reads = reads-cons (steps-rpar n cur a stk t) (reads-nil _);
      sim = at-closed o (record { atoms = v.atoms; here = refl; table = v.table; known = v.known; earlier = v.earlier; ten = v.ten; many = v.many });
      digits = (tt, tt);
      plain = λ vs h. subst (λ (k : ℕ). Plain k vs) (omega arith) h;
      grows = omega arith;
    }

branch-opens : (stk : List ℕ) (q : Rings) (n cur : ℕ) (t : List Entry) → Like q n cur t → May between (st n cur stk t after) 40 q.last (branch_opens stk q)
unfolding branch_opens feed begin Plain
branch-opens stk q n cur t v =
    may-cond _ _ _ _ (ltb (length stk) 16) _ _
    (λ e.
    subst (λ (z : ℕ). Takes between (st n cur stk t after) 40 q.last (stands opening (z ∷ stk) q)) v.here
    (record {
      us = lpar ∷ [];
      next = between;
      rows = [];
      s' = st n cur (cur ∷ stk) t opened;
      feeds = refl;
      reads = reads-cons (steps-lpar n cur stk t) (reads-nil _);
      sim = at-opening v;
      digits = (tt, tt);
      plain = λ vs h. (ltb-true (length stk) 16 e, h);
      grows = omega arith;
    }))
    (λ _. tt)

goes_on_lem : (x : ℕ) (stk : List ℕ) (q : Rings) (n cur : ℕ) (t : List Entry) → 1 ≤ q.last → Like q n cur t → May between (st n cur stk t after) x q.last (goes_on x stk q)
unfolding goes_on
goes_on_lem x stk q n cur t o v =
    may-cond _ _ _ _ (eqb x 41) _ _ (λ e. rw (eqb-true x 41 e) (branch_closes_lem stk q n cur t o v))
    (λ _. may-cond _ _ _ _ (eqb x 40) _ _ (λ e. rw (eqb-true x 40 e) (branch-opens stk q n cur t v))
    (λ _. bond-or-atom x stk q n cur t after tt (steps-mark x n cur stk t) v))

-- a byte that ends the atom before it
ended_by : (x l : ℕ) (b ls : List ℕ) (stk : List ℕ) (q : Rings) (n cur : ℕ) (t : List Entry) (ph : Phase) (v : Pending q ls n cur t ph) (G : State)
    → May between (st (suc n) n stk v.t' after) x l G → May (in_atom b ls) (st n cur stk t ph) x l G
unfolding feed Plain
ended_by x l b ls stk q n cur t ph v wrong m = tt
ended_by x l b ls stk q n cur t ph v (stands p k r) m =
    record {
      us = atom b ls ∷ m.us;
      next = m.next;
      rows = row b v.ks ∷ m.rows;
      s' = m.s';
      feeds = feed-ended b ls x m.us m.next m.feeds;
      reads = reads-cons (steps-atom b ls n cur stk t ph v.ks v.t' v.does) m.reads;
      sim = m.sim;
      digits = (v.small, m.digits);
      plain = λ vs h. m.plain vs h;
      grows = m.grows;
    }

digit_or_lem : (x : ℕ) (b ls : List ℕ) (stk : List ℕ) (q : Rings) (n cur : ℕ) (t : List Entry) (ph : Phase) → q.last ≤ 255 → Pending q ls n cur t ph
    → May (in_atom b ls) (st n cur stk t ph) x q.last (digit_or x stk q)
unfolding digit_or
digit_or_lem x b ls stk q n cur t ph few v =
    may-cond _ _ _ _ (within 49 57 x) _ _
    (λ e.
    let w : (49 ≤ x) × (x ≤ 57) = within_both 49 57 x e in
    may-cond _ _ _ _ (clashes (x - 48) q) _ _ (λ _. tt)
    (λ c.
    record {
      us = [];
      next = in_atom b (ls ++ (x - 48) ∷ []);
      rows = [];
      s' = st n cur stk t ph;
      feeds = ap (feed (in_atom b ls)) (omega arith) ∙ feed-digit b ls (x - 48) (omega arith) (omega arith);
      reads = reads-nil _;
      sim = at-whole (λ y. second-labels y b ls (x - 48)) (pending-digit q ls n cur t ph v (x - 48) (omega arith) few c);
      digits = tt;
      plain = λ vs h. h;
      grows = omega (arith, digit-last (x - 48) q);
    }))
    (λ _. ended_by x q.last b ls stk q n cur t ph v (goes_on x stk q) (goes_on_lem x stk q (suc n) n v.t' (omega (arith, v.own, v.like.atoms)) v.like))

bracket-on : (x k : ℕ) (xs : List ℕ) (stk : List ℕ) (q : Rings) (n cur : ℕ) (t : List Entry) (ph : Phase) → length xs ≡ k → Pending q [] n cur t ph
    → May (in_bracket xs) (st n cur stk t ph) x q.last (bracket_on x k stk q)
unfolding bracket_on
bracket-on x k xs stk q n cur t ph e v =
    may-cond _ _ _ _ (bracketed x) _ _
    (λ w.
    record {
      us = [];
      next = in_bracket (xs ++ x ∷ []);
      rows = [];
      s' = st n cur stk t ph;
      feeds = feed-inside xs x w;
      reads = reads-nil _;
      sim = at-inside (omega (arith, length-append xs (x ∷ []))) v;
      digits = tt;
      plain = λ vs h. h;
      grows = omega arith;
    })
    (λ _. may-cond _ _ _ _ (eqb x 93 && within 1 16 k) _ _
    (λ w.
    let both : (eqb x 93 ≡ true) × (within 1 16 k ≡ true) = and_both (eqb x 93) (within 1 16 k) w in
    let size : (1 ≤ k) × (k ≤ 16) = within_both 1 16 k both.1 in
    record {
      us = [];
      next = in_atom (91 ∷ xs ++ 93 ∷ []) [];
      rows = [];
      s' = st n cur stk t ph;
      feeds = ap (feed (in_bracket xs)) (eqb-true x 93 both.0) ∙ feed-bracket-end xs (omega arith) (omega arith);
      reads = reads-nil _;
      sim = at-whole (λ y. second-bracket y xs) v;
      digits = tt;
      plain = λ vs h. h;
      grows = omega arith;
    })
    (λ _. tt))

-- one byte
pub takes : {G : State} {L : Lex} {s : Machine} (x : ℕ) → last_of G ≤ 255 → Sim G L s → May L s x (last_of G) (step G x)
unfolding step step_piece second
takes x few (at-opening {stk} {q} {n} {cur} {t} v) = bond-or-atom x stk q n cur t opened tt (record { by = refl }) v
takes x few (at-bond {stk} {q} {n} {cur} {t} {m} v) = atom-begins x stk q n cur t (marked m) tt v
takes x few (at-closed {stk} {q} {n} {cur} {t} o v) = goes_on_lem x stk q n cur t o v
takes x few (at-letter {stk} {q} {n} {cur} {t} {ph} {a} v) =
    may-cond _ _ _ _ (pairs a x) _ _
    (λ e.
    record {
      us = [];
      next = in_atom (a ∷ x ∷ []) [];
      rows = [];
      s' = st n cur stk t ph;
      feeds = feed-second a x e;
      reads = reads-nil _;
      sim = at-whole (λ y. refl) v;
      digits = tt;
      plain = λ vs h. h;
      grows = omega arith;
    })
    (λ _. digit_or_lem x (a ∷ []) [] stk q n cur t ph few v)
takes x few (at-whole {stk} {q} {n} {cur} {t} {ph} {b} {ls} w v) = digit_or_lem x b ls stk q n cur t ph few v
takes x few (at-inside {stk} {q} {n} {cur} {t} {ph} {xs} {k} e v) = bracket-on x k xs stk q n cur t ph e v

-- ---- all bytes

-- the rest of the text is lexed to pieces that the machine reads to the end, with nothing open and with `size` atoms in all
pub record Ends (L : Lex) (s : Machine) (xs : List ℕ) (size : ℕ) : Type 0 where
  pub us : List Piece
  pub rows : List Row
  pub last : ℕ
  pub lexes : lex L xs ≡ some us
  pub reads : Reads us s rows (st (suc size) last [] [] after)
  pub digits : EachLabel (λ (d : ℕ). d < 10) us
  pub plain : Plain (deep s) us
  pub few : size ≤ 255

ends_more : {L : Lex} {s : Machine} {x l size : ℕ} {G : State} (xs : List ℕ) (m : Takes L s x l G) → Ends m.next m.s' xs size → Ends L s (x ∷ xs) size
unfolding lex on_fed before
ends_more {L} {s} {x} {l} {size} {G} xs m e =
    record {
      us = m.us ++ e.us;
      rows = m.rows ++ e.rows;
      last = e.last;
      lexes = ap (λ (z : Fed). on_fed z (λ q'. lex q' xs)) m.feeds ∙ ap (before m.us) e.lexes;
      reads = reads-append m.reads e.reads;
      digits = each-label-append (λ (d : ℕ). d < 10) m.us e.us m.digits e.digits;
      plain = m.plain e.us e.plain;
      few = e.few;
    }

none_found : (l : List ℕ) → none_open l ≡ true → (m : ℕ) → get_or l m 0 ≡ 0
unfolding none_open
none_found [] h m = refl
none_found (a ∷ l) h m = go a h m (none_found l)
  where
    go : (a : ℕ) → cond (eqb a 0) (none_open l) false ≡ true → (m : ℕ) → (none_open l ≡ true → (i : ℕ) → get_or l i 0 ≡ 0) → get_or (a ∷ l) m 0 ≡ 0
    go zero h' zero ih = refl
    go zero h' (suc m) ih = ih h' m
    go (suc a) h' m ih = let e : eqb (suc a) 0 ≡ false = ne_eqb (suc a) 0 (omega arith) in absurd (false≢true (rw e at h'))

-- no digit is open, so no label is
shut : (q : Rings) (n cur : ℕ) (t : List Entry) → Like q n cur t → none_open q.opened ≡ true → t ≡ []
shut q n cur t v h = nothing-open t (λ m. v.table m ∙ ap open_on (none_found q.opened h m))

-- nothing is open, and the tail has all the atoms that were read
record Settled (stk : List ℕ) (q : Rings) (t : List Entry) : Type 0 where
  none : stk ≡ []
  empty : t ≡ []
  count : finished stk q ≡ q.last

ends-settled : (stk : List ℕ) (q : Rings) (n cur : ℕ) (t : List Entry) → Like q n cur t → 1 ≤ finished stk q → Settled stk q t
unfolding finished
ends-settled [] q n cur t v h = go (none_open q.opened) refl h
  where
    go : (b : Bool) → none_open q.opened ≡ b → 1 ≤ cond b q.last 0 → Settled [] q t
    go true e g = record { none = refl; empty = shut q n cur t v e; count = rw e }
    go false e g = absurd (omega arith)
ends-settled (a ∷ stk) q n cur t v h = absurd (omega arith)

ends-pending : (b ls : List ℕ) (stk : List ℕ) (q : Rings) (n cur : ℕ) (t : List Entry) (ph : Phase) → q.last ≤ 255 → Pending q ls n cur t ph → 1 ≤ finished stk q
    → Ends (in_atom b ls) (st n cur stk t ph) [] (finished stk q)
unfolding lex Plain
ends-pending b ls stk q n cur t ph few v h =
    let e : Settled stk q v.t' = ends-settled stk q (suc n) n v.t' v.like h in
    let k : finished stk q ≡ n = omega (arith, e.count, v.like.atoms) in
    rw (k, e.none)
    (record {
      us = atom b ls ∷ [];
      rows = row b v.ks ∷ [];
      last = n;
      lexes = refl;
      reads = reads-cons (steps-atom b ls n cur [] t ph v.ks [] (v.does ∙ ap (links v.ks) e.empty)) (reads-nil _);
      digits = (v.small, tt);
      plain = tt;
      few = omega (arith, e.count, k);
    })

ends-here : {G : State} {L : Lex} {s : Machine} → last_of G ≤ 255 → Sim G L s → 1 ≤ done G → Ends L s [] (done G)
unfolding done lex Plain
ends-here few (at-opening v) h = absurd (omega arith)
ends-here few (at-bond v) h = absurd (omega arith)
ends-here few (at-closed {stk} {q} {n} {cur} {t} o v) h =
    let e : Settled stk q t = ends-settled stk q n cur t v h in
    rw (e.count, e.none, e.empty, v.atoms)
    (record { us = []; rows = []; last = cur; lexes = refl; reads = reads-nil _; digits = tt; plain = tt; few = few })
ends-here few (at-letter {stk} {q} {n} {cur} {t} {ph} {a} v) h = ends-pending (a ∷ []) [] stk q n cur t ph few v h
ends-here few (at-whole {stk} {q} {n} {cur} {t} {ph} {b} {ls} w v) h = ends-pending b ls stk q n cur t ph few v h
ends-here few (at-inside e v) h = absurd (omega arith)

ends : (xs : List ℕ) {G : State} {L : Lex} {s : Machine} → last_of G + length xs ≤ 255 → Sim G L s → 1 ≤ scan G xs → Ends L s xs (scan G xs)
unfolding scan
ends [] few v h = ends-here (omega arith) v h
ends (x ∷ xs) {G} {L} {s} few v h = go (step G x) (takes x (omega arith) v) h (λ H M r. ends xs {G = H} {L = M} {s = r})
  where
    go : (H : State) → May L s x (last_of G) H → 1 ≤ scan H xs
        → ((K : State) (M : Lex) (r : Machine) → last_of K + length xs ≤ 255 → Sim K M r → 1 ≤ scan K xs → Ends M r xs (scan K xs)) → Ends L s (x ∷ xs) (scan H xs)
    go wrong m g ih = absurd (omega (arith, scan-wrong xs))
    go (stands p stk q) m g ih = ends_more xs m (ih (stands p stk q) m.next m.s' (omega (arith, m.grows)) m.sim g)

-- ---- THE LAW OF THE TAIL

-- the part that a tail is: every label is a digit, no dot stands in it, and at most 16 branches stand in one another
pub record TailPart (xs : List ℕ) : Type 0 where
  pub part : Part
  pub is : part_of xs ≡ some part
  pub digits : EachLabel (λ (d : ℕ). d < 10) part.pieces
  pub plain : Plain 0 part.pieces

-- the text is read so, hung on atom 0
abbrev pub Alone : List ℕ → ℕ → Type 0
Alone xs size = Ends between (st 1 0 [] [] opened) xs size

pub part-is : (xs : List ℕ) (n : ℕ) (e : Alone xs n) → part_of xs ≡ some (record { pieces = e.us; rows = e.rows; size = n; last = e.last })
unfolding part_of pieces_of part_lexed alone part_read
part-is xs n e = ap part_lexed e.lexes ∙ ap (part_read e.us) e.reads.by

-- what has atoms reads with all of them
pub tail-reads : (xs : List ℕ) → 1 ≤ atoms_of_tail xs → Alone xs (atoms_of_tail xs)
unfolding atoms_of_tail
tail-reads xs h = go (within 1 255 (length xs)) refl h
  where
    go : (b : Bool) → within 1 255 (length xs) ≡ b → 1 ≤ cond b (scan (stands opening [] no_rings) xs) 0 → Alone xs (cond b (scan (stands opening [] no_rings) xs) 0)
    go true e g = ends xs (omega (arith, (within_both 1 255 (length xs) e).1)) (at-opening like-start) g
    go false e g = absurd (omega arith)

pub tail-some : (xs : List ℕ) → is_tail xs ≡ true → 1 ≤ atoms_of_tail xs
unfolding is_tail
tail-some xs h = omega (arith, eqb-false (atoms_of_tail xs) 0 (not-true (eqb (atoms_of_tail xs) 0) h))

pub tail-alone : (xs : List ℕ) → is_tail xs ≡ true → TailPart xs
tail-alone xs h =
    let e : Alone xs (atoms_of_tail xs) = tail-reads xs (tail-some xs h) in
    record {
      part = record { pieces = e.us; rows = e.rows; size = atoms_of_tail xs; last = e.last };
      is = part-is xs (atoms_of_tail xs) e;
      digits = e.digits;
      plain = e.plain;
    }
