-- Well-formed pieces, written, are lexed as those pieces.
use mathlib.Core.Path.{◌≡◌, refl, sym, ap, ◌∙◌, subst}
use mathlib.Core.Bool.{Bool, true, false, cond, ◌||◌}
use mathlib.Core.Option.{Option, none, some}
use Prim.Native.Nat.{ℕ, ◌+◌, ◌*◌, ◌/◌, ◌%◌, ◌≤◌, ◌<◌}
use native.Mathlib.Omega.{arith}
use mathlib.Core.List.{List, [], ◌∷◌, ◌++◌, append_assoc, append-nil}
use lib.ListN.{length, length-append}
use lib.Dec.{T, eqb, ltb}
use borrow.Author.Tests.{eqb-true, ne_eqb, le-leb, ltb-true, ltb-false}
use Rattle.reading_rules.specs.smiles.Piece.{Piece, atom, mark, dot, lpar, rpar, show_label, show_labels, show}
use Rattle.reading_rules.specs.smiles.Lexer.{memb, within, organic, marks, bracketed, pairs, Lex, between, in_atom, in_bracket, in_label, in_tens, Fed, halt, fed, begin, second, ended, feed, before, on_fed, lex, pieces_of}
use Rattle.reading_rules.specs.smiles.Machine.{read_pieces}
use Rattle.reading_rules.specs.smiles.Text.{read_lexed, read_text}
use Rattle.reading_rules.proofs.smiles.WellFormed.{Bracketed, AtomBytes, letter, chlorine, bromine, bracket, Labels, AllWell}

-- ---- tests

T_true : (b : Bool) → T b → b ≡ true
T_true true t = refl
T_true false t = absurd t

pub true-T : (b : Bool) → b ≡ true → T b
true-T true e = tt
true-T false e = let z : ◌≡◌ {A = ℕ} 0 1 = cc in absurd (omega arith)

pub or-both : (a b : Bool) → (a || b) ≡ false → (a ≡ false) × (b ≡ false)
or-both true b e = let z : ◌≡◌ {A = ℕ} 0 1 = cc in absurd (omega arith)
or-both false b e = (refl, e)

-- a test that no byte of a list passes
none_of : (ℕ → Bool) → List ℕ → Bool
none_of f [] = true
none_of f (y ∷ ys) = cond (f y) false (none_of f ys)

none-memb : (f : ℕ → Bool) (ys : List ℕ) → T (none_of f ys) → (x : ℕ) → T (memb x ys) → f x ≡ false
unfolding memb none_of
none-memb f [] h x t = absurd t
none-memb f (y ∷ ys) h x t = go (eqb x y) refl (f y) refl (none-memb f ys) h t
  where
    go : (b : Bool) → eqb x y ≡ b → (c : Bool) → f y ≡ c → (T (none_of f ys) → (z : ℕ) → T (memb z ys) → f z ≡ false)
        → T (cond c false (none_of f ys)) → T (b || memb x ys) → f x ≡ false
    go b e true q ih h' t' = absurd h'
    go true e false q ih h' t' = ap f (eqb-true x y e) ∙ q
    go false e false q ih h' t' = ih h' x t'

within-true : (lo hi x : ℕ) → lo ≤ x → x ≤ hi → within lo hi x ≡ true
unfolding within
within-true lo hi x h g = rw (le-leb lo x h, le-leb x hi g)

before-nil : (o : Option (List Piece)) → before [] o ≡ o
unfolding before
before-nil none = refl
before-nil (some us) = refl

before-before : (u : Piece) (ps : List Piece) (o : Option (List Piece)) → before (u ∷ ps) o ≡ before (u ∷ []) (before ps o)
unfolding before
before-before u ps none = refl
before-before u ps (some us) = refl

-- ---- one byte

lex-on : (q q' : Lex) (x : ℕ) (xs : List ℕ) → feed q x ≡ fed [] q' → lex q (x ∷ xs) ≡ lex q' xs
unfolding lex on_fed
lex-on q q' x xs e = rw e (before-nil (lex q' xs))

lex-gives : (q q' : Lex) (u : Piece) (x : ℕ) (xs : List ℕ) → feed q x ≡ fed (u ∷ []) q' → lex q (x ∷ xs) ≡ before (u ∷ []) (lex q' xs)
unfolding lex on_fed
lex-gives q q' u x xs e = rw e

-- ---- labels

second-not : (x : ℕ) (b ls : List ℕ) → eqb x 108 ≡ false → eqb x 114 ≡ false → second x b ls ≡ false
unfolding second
second-not x [] ls h g = refl
second-not x (a ∷ []) [] h g = rw (h, g)
second-not x (a ∷ []) (l ∷ ls) h g = refl
second-not x (a ∷ a' ∷ b) ls h g = refl

pub feed-digit : (b ls : List ℕ) (l : ℕ) → 1 ≤ l → l < 10 → feed (in_atom b ls) (48 + l) ≡ fed [] (in_atom b (ls ++ l ∷ []))
unfolding feed
feed-digit b ls l h g =
    rw (second-not (48 + l) b ls (ne_eqb (48 + l) 108 (omega arith)) (ne_eqb (48 + l) 114 (omega arith)), within-true 49 57 (48 + l) (omega arith) (omega arith))
    (ap (λ (z : ℕ). fed [] (in_atom b (ls ++ z ∷ []))) (omega arith))

feed-pct : (b ls : List ℕ) → feed (in_atom b ls) 37 ≡ fed [] (in_label b ls)
unfolding feed within
feed-pct b ls = rw (second-not 37 b ls refl refl)

feed-tens : (b ls : List ℕ) (d : ℕ) → 1 ≤ d → d < 10 → feed (in_label b ls) (48 + d) ≡ fed [] (in_tens b ls d)
unfolding feed
feed-tens b ls d h g = rw (within-true 49 57 (48 + d) (omega arith) (omega arith)) (ap (λ (z : ℕ). fed [] (in_tens b ls z)) (omega arith))

feed-ones : (b ls : List ℕ) (d l : ℕ) → l < 10 → feed (in_tens b ls d) (48 + l) ≡ fed [] (in_atom b (ls ++ (10 * d + l) ∷ []))
unfolding feed
feed-ones b ls d l g =
    rw (within-true 48 57 (48 + l) (omega arith) (omega arith)) (ap (λ (z : ℕ). fed [] (in_atom b (ls ++ z ∷ []))) (omega arith))

lex-label : (b ls : List ℕ) (l : ℕ) (rest : List ℕ) → 1 ≤ l → l < 100 → lex (in_atom b ls) (show_label l ++ rest) ≡ lex (in_atom b (ls ++ l ∷ [])) rest
unfolding show_label
lex-label b ls l rest h g = go (ltb l 10) refl
  where
    go : (x : Bool) → ltb l 10 ≡ x → lex (in_atom b ls) (cond x ((48 + l) ∷ []) (37 ∷ (48 + l / 10) ∷ (48 + l % 10) ∷ []) ++ rest) ≡ lex (in_atom b (ls ++ l ∷ [])) rest
    go true e = lex-on (in_atom b ls) (in_atom b (ls ++ l ∷ [])) (48 + l) rest (feed-digit b ls l h (ltb-true l 10 e))
    go false e =
        lex-on (in_atom b ls) (in_label b ls) 37 _ (feed-pct b ls)
        ∙ (lex-on (in_label b ls) (in_tens b ls (l / 10)) (48 + l / 10) _ (feed-tens b ls (l / 10) (omega (arith, ltb-false l 10 e)) (omega arith))
        ∙ (lex-on (in_tens b ls (l / 10)) (in_atom b (ls ++ (10 * (l / 10) + l % 10) ∷ [])) (48 + l % 10) rest (feed-ones b ls (l / 10) (l % 10) (omega arith))
        ∙ ap (λ (z : ℕ). lex (in_atom b (ls ++ z ∷ [])) rest) (omega arith)))

lex-labels : (b ls ms rest : List ℕ) → Labels ms → lex (in_atom b ls) (show_labels ms ++ rest) ≡ lex (in_atom b (ls ++ ms)) rest
unfolding show_labels
lex-labels b ls [] rest h = ap (λ (z : List ℕ). lex (in_atom b z) rest) (sym (append-nil ls))
lex-labels b ls (l ∷ ms) rest h =
    rw append_assoc
    (lex-label b ls l (show_labels ms ++ rest) h.0 h.1.0
    ∙ (lex-labels b (ls ++ l ∷ []) ms rest h.1.1 ∙ ap (λ (z : List ℕ). lex (in_atom b z) rest) (append_assoc ls (l ∷ []) ms)))

-- ---- atoms

pub feed-inside : (b : List ℕ) (x : ℕ) → bracketed x ≡ true → feed (in_bracket b) x ≡ fed [] (in_bracket (b ++ x ∷ []))
unfolding feed
feed-inside b x h = rw h

pub feed-bracket-end : (xs : List ℕ) → 1 ≤ length xs → length xs ≤ 16 → feed (in_bracket xs) 93 ≡ fed [] (in_atom (91 ∷ xs ++ 93 ∷ []) [])
unfolding feed bracketed within
feed-bracket-end xs h g = rw (le-leb 1 (length xs) h, le-leb (length xs) 16 g)

lex-inside : (ys xs rest : List ℕ) → Bracketed xs → 1 ≤ length ys + length xs → length ys + length xs ≤ 16
    → lex (in_bracket ys) ((xs ++ 93 ∷ []) ++ rest) ≡ lex (in_atom (91 ∷ ys ++ (xs ++ 93 ∷ [])) []) rest
lex-inside ys [] rest i h g = lex-on (in_bracket ys) (in_atom (91 ∷ ys ++ 93 ∷ []) []) 93 rest (feed-bracket-end ys (omega arith) (omega arith))
lex-inside ys (x ∷ xs) rest i h g =
    lex-on (in_bracket ys) (in_bracket (ys ++ x ∷ [])) x ((xs ++ 93 ∷ []) ++ rest) (feed-inside ys x i.0)
    ∙ (lex-inside (ys ++ x ∷ []) xs rest i.1 (omega (arith, length-append ys (x ∷ []))) (omega (arith, length-append ys (x ∷ [])))
    ∙ ap (λ (z : List ℕ). lex (in_atom (91 ∷ z) []) rest) (append_assoc ys (x ∷ []) (xs ++ 93 ∷ [])))

lex-atom : {b : List ℕ} (rest : List ℕ) → AtomBytes b → lex between (b ++ rest) ≡ lex (in_atom b []) rest
unfolding feed begin second
lex-atom rest (letter x t) = lex-on between (in_atom (x ∷ []) []) x rest (rw (T_true (memb x organic) t))
lex-atom rest chlorine = lex-on between (in_atom (67 ∷ []) []) 67 (108 ∷ rest) refl ∙ lex-on (in_atom (67 ∷ []) []) (in_atom (67 ∷ 108 ∷ []) []) 108 rest refl
lex-atom rest bromine = lex-on between (in_atom (66 ∷ []) []) 66 (114 ∷ rest) refl ∙ lex-on (in_atom (66 ∷ []) []) (in_atom (66 ∷ 114 ∷ []) []) 114 rest refl
lex-atom rest (bracket xs i h g) =
    lex-on between (in_bracket []) 91 ((xs ++ 93 ∷ []) ++ rest) refl ∙ lex-inside [] xs rest i (omega arith) (omega arith)

-- ---- an atom ends where the next piece begins

-- a byte that can go on with an atom: a second letter, a digit, `%`
goes_on : ℕ → Bool
goes_on x = eqb x 108 || (eqb x 114 || (within 49 57 x || eqb x 37))

pub on_fed-ended : (u : Piece) (o : Fed) (k : Lex → Option (List Piece)) → on_fed (ended u o) k ≡ before (u ∷ []) (on_fed o k)
unfolding on_fed ended before
on_fed-ended u halt k = refl
on_fed-ended u (fed ps q) k = before-before u ps (k q)

-- any other ends it
feed-other : (b ls : List ℕ) (x : ℕ) → goes_on x ≡ false → feed (in_atom b ls) x ≡ ended (atom b ls) (begin x)
unfolding feed goes_on
feed-other b ls x h =
    let p : (eqb x 108 ≡ false) × ((eqb x 114 || (within 49 57 x || eqb x 37)) ≡ false) = or-both (eqb x 108) _ h in
    let q : (eqb x 114 ≡ false) × ((within 49 57 x || eqb x 37) ≡ false) = or-both (eqb x 114) _ p.1 in
    let r : (within 49 57 x ≡ false) × (eqb x 37 ≡ false) = or-both (within 49 57 x) _ q.1 in
    rw (second-not x b ls p.0 q.0, r.0, r.1)

lex-ended : (b ls : List ℕ) (x : ℕ) (xs : List ℕ) → goes_on x ≡ false → lex (in_atom b ls) (x ∷ xs) ≡ before (atom b ls ∷ []) (lex between (x ∷ xs))
unfolding lex feed
lex-ended b ls x xs h = ap (λ (z : Fed). on_fed z (λ q. lex q xs)) (feed-other b ls x h) ∙ on_fed-ended (atom b ls) (begin x) (λ q. lex q xs)

organic-ends : (x : ℕ) → T (memb x organic) → goes_on x ≡ false
unfolding organic within goes_on none_of
organic-ends = none-memb goes_on organic tt

mark-ends : (x : ℕ) → T (memb x marks) → goes_on x ≡ false
unfolding marks within goes_on none_of
mark-ends = none-memb goes_on marks tt

pub begin-mark : (x : ℕ) → T (memb x marks) → feed between x ≡ fed (mark x ∷ []) between
unfolding feed none_of
begin-mark x t = rw (no-atom x t, T_true (memb x marks) t)
  where
    no-atom : (x : ℕ) → T (memb x marks) → memb x organic ≡ false
    no-atom = none-memb (λ y. memb y organic) marks tt

-- a byte that begins a piece ends the atom before it
Ends : ℕ → Fed → Type 0
Ends x halt = Unit {0}
Ends x (fed us q) = goes_on x ≡ false

ends-cond : (x : ℕ) (b : Bool) (us : List Piece) (q : Lex) (o : Fed) → (b ≡ true → goes_on x ≡ false) → Ends x o → Ends x (cond b (fed us q) o)
unfolding Ends
ends-cond x true us q o h g = h refl
ends-cond x false us q o h g = g

begin-ends : (x : ℕ) → Ends x (begin x)
unfolding begin goes_on within Ends
begin-ends x =
    ends-cond x (memb x organic) _ _ _ (λ e. organic-ends x (true-T (memb x organic) e))
    (ends-cond x (memb x marks) _ _ _ (λ e. mark-ends x (true-T (memb x marks) e))
    (ends-cond x (eqb x 91) _ _ _ (λ e. ap goes_on (eqb-true x 91 e))
    (ends-cond x (eqb x 46) _ _ _ (λ e. ap goes_on (eqb-true x 46 e))
    (ends-cond x (eqb x 40) _ _ _ (λ e. ap goes_on (eqb-true x 40 e)) (ends-cond x (eqb x 41) _ _ _ (λ e. ap goes_on (eqb-true x 41 e)) tt)))))

pub feed-ended : (b ls : List ℕ) (x : ℕ) (us : List Piece) (q : Lex) → begin x ≡ fed us q → feed (in_atom b ls) x ≡ fed (atom b ls ∷ us) q
unfolding ended Ends
feed-ended b ls x us q e = feed-other b ls x (subst (Ends x) e (begin-ends x)) ∙ ap (ended (atom b ls)) e

pub feed-second : (a x : ℕ) → pairs a x ≡ true → feed (in_atom (a ∷ []) []) x ≡ fed [] (in_atom (a ∷ x ∷ []) [])
unfolding feed second
feed-second a x h = rw h

atom-ended : (b ls : List ℕ) {b' : List ℕ} (xs : List ℕ) → AtomBytes b' → lex (in_atom b ls) (b' ++ xs) ≡ before (atom b ls ∷ []) (lex between (b' ++ xs))
unfolding goes_on within
atom-ended b ls xs (letter x t) = lex-ended b ls x xs (organic-ends x t)
atom-ended b ls xs chlorine = lex-ended b ls 67 (108 ∷ xs) refl
atom-ended b ls xs bromine = lex-ended b ls 66 (114 ∷ xs) refl
atom-ended b ls xs (bracket ys i h g) = lex-ended b ls 91 ((ys ++ 93 ∷ []) ++ xs) refl

show-ended : (b ls : List ℕ) (us : List Piece) → AllWell us → lex (in_atom b ls) (show us) ≡ before (atom b ls ∷ []) (lex between (show us))
unfolding show lex before goes_on within
show-ended b ls [] h = refl
show-ended b ls (atom b' ls' ∷ us) h = rw append_assoc (atom-ended b ls (show_labels ls' ++ show us) h.0.0)
show-ended b ls (mark m ∷ us) h = lex-ended b ls m (show us) (mark-ends m h.0)
show-ended b ls (dot ∷ us) h = lex-ended b ls 46 (show us) refl
show-ended b ls (lpar ∷ us) h = lex-ended b ls 40 (show us) refl
show-ended b ls (rpar ∷ us) h = lex-ended b ls 41 (show us) refl

-- ---- what is written is read back

before-some : (u : Piece) (us : List Piece) (o : Option (List Piece)) → o ≡ some us → before (u ∷ []) o ≡ some (u ∷ us)
unfolding before
before-some u us o e = rw e

pub lex-show : (us : List Piece) → AllWell us → lex between (show us) ≡ some us
unfolding show lex
lex-show [] h = refl
lex-show (atom b ls ∷ us) h =
    rw append_assoc
    (lex-atom (show_labels ls ++ show us) h.0.0
    ∙ (lex-labels b [] ls (show us) h.0.1
    ∙ (show-ended b ls us h.1 ∙ before-some (atom b ls) us (lex between (show us)) (lex-show us h.1))))
lex-show (mark m ∷ us) h = lex-gives between between (mark m) m (show us) (begin-mark m h.0) ∙ before-some (mark m) us (lex between (show us)) (lex-show us h.1)
lex-show (dot ∷ us) h = lex-gives between between dot 46 (show us) refl ∙ before-some dot us (lex between (show us)) (lex-show us h.1)
lex-show (lpar ∷ us) h = lex-gives between between lpar 40 (show us) refl ∙ before-some lpar us (lex between (show us)) (lex-show us h.1)
lex-show (rpar ∷ us) h = lex-gives between between rpar 41 (show us) refl ∙ before-some rpar us (lex between (show us)) (lex-show us h.1)

-- pieces that are written are read as those pieces
pub read-show : (us : List Piece) → AllWell us → read_text (show us) ≡ read_pieces us
unfolding read_text pieces_of read_lexed
read-show us h = ap read_lexed (lex-show us h)
