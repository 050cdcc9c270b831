-- Bytes that are lexed as pieces are those pieces written, and the pieces are well formed.
use mathlib.Core.Path.{◌≡◌, refl, sym, ap, ap₂, ◌∙◌, subst}
use mathlib.Core.Bool.{Bool, true, false, cond, ◌||◌, ◌&&◌}
use mathlib.Core.Option.{Option, none, some}
use Prim.Native.Nat.{ℕ, ◌+◌, ◌-◌, ◌*◌, ◌≤◌, ◌<◌}
use native.Mathlib.Omega.{arith}
use mathlib.Core.List.{List, [], ◌∷◌, ◌++◌, append_assoc, append-nil}
use lib.ListN.{length}
use lib.Dec.{eqb, leb}
use borrow.Author.Tests.{eqb-true, lt-ltb, le-ltb, leb-true}
use Rattle.reading_rules.specs.smiles.Piece.{Piece, atom, show_label, show_labels, show_piece, show}
use Rattle.reading_rules.specs.smiles.Lexer.{memb, within, organic, marks, bracketed, Lex, between, in_atom, in_bracket, in_label, in_tens, Fed, halt, fed, begin, second, ended, feed, before, on_fed, lex}
use Rattle.reading_rules.proofs.smiles.WellFormed.{Bracketed, AtomBytes, letter, chlorine, bromine, bracket, Labels, WellFormed, AllWell, well-append}
use Rattle.reading_rules.proofs.smiles.LexShow.{true-T}

pub show-append : (a b : List Piece) → show (a ++ b) ≡ show a ++ show b
unfolding show
show-append [] b = refl
show-append (u ∷ a) b = ap (λ (z : List ℕ). show_piece u ++ z) (show-append a b) ∙ sym (append_assoc (show_piece u) (show a) (show b))

show_labels-snoc : (ls : List ℕ) (l : ℕ) → show_labels (ls ++ l ∷ []) ≡ show_labels ls ++ show_label l
unfolding show_labels
show_labels-snoc [] l = append-nil (show_label l)
show_labels-snoc (k ∷ ls) l = ap (λ (z : List ℕ). show_label k ++ z) (show_labels-snoc ls l) ∙ sym (append_assoc (show_label k) (show_labels ls) (show_label l))

labels-snoc : (ls : List ℕ) (l : ℕ) → Labels ls → 1 ≤ l → l < 100 → Labels (ls ++ l ∷ [])
labels-snoc [] l h a b = (a, (b, tt))
labels-snoc (k ∷ ls) l h a b = (h.0, (h.1.0, labels-snoc ls l h.1.1 a b))

inside_snoc : (xs : List ℕ) (x : ℕ) → Bracketed xs → bracketed x ≡ true → Bracketed (xs ++ x ∷ [])
inside_snoc [] x h g = (g, tt)
inside_snoc (y ∷ xs) x h g = (h.0, inside_snoc xs x h.1 g)

-- the bytes of a state that no piece has yet
shown : Lex → List ℕ
shown between = []
shown (in_atom b ls) = b ++ show_labels ls
shown (in_bracket xs) = 91 ∷ xs
shown (in_label b ls) = (b ++ show_labels ls) ++ 37 ∷ []
shown (in_tens b ls d) = (b ++ show_labels ls) ++ 37 ∷ (48 + d) ∷ []

Sound : Lex → Type 0
Sound between = Unit {0}
Sound (in_atom b ls) = AtomBytes b × Labels ls
Sound (in_bracket xs) = Bracketed xs
Sound (in_label b ls) = AtomBytes b × Labels ls
Sound (in_tens b ls d) = AtomBytes b × (Labels ls × ((1 ≤ d) × (d ≤ 9)))

Keeps : List ℕ → Fed → Type 0
Keeps w halt = Unit {0}
Keeps w (fed ps q) = (w ≡ show ps ++ shown q) × (AllWell ps × Sound q)

keeps-cond : (w : List ℕ) (b : Bool) (o o' : Fed) → (b ≡ true → Keeps w o) → (b ≡ false → Keeps w o') → Keeps w (cond b o o')
keeps-cond w true o o' h g = h refl
keeps-cond w false o o' h g = g refl

pub within_both : (lo hi x : ℕ) → within lo hi x ≡ true → (lo ≤ x) × (x ≤ hi)
unfolding within
within_both lo hi x e = go (leb lo x) refl (leb x hi) refl e
  where
    go : (a : Bool) → leb lo x ≡ a → (b : Bool) → leb x hi ≡ b → (a && b) ≡ true → (lo ≤ x) × (x ≤ hi)
    go true p true q r = (leb-true lo x p, leb-true x hi q)
    go true p false q r = let z : ◌≡◌ {A = ℕ} 0 1 = cc in absurd (omega arith)
    go false p b q r = let z : ◌≡◌ {A = ℕ} 0 1 = cc in absurd (omega arith)

pub and_both : (a b : Bool) → (a && b) ≡ true → (a ≡ true) × (b ≡ true)
and_both true b e = (refl, e)
and_both false b e = let z : ◌≡◌ {A = ℕ} 0 1 = cc in absurd (omega arith)

start-keeps : (x : ℕ) → Keeps (x ∷ []) (begin x)
unfolding Keeps Sound begin shown show
start-keeps x =
    keeps-cond (x ∷ []) (memb x organic) _ _ (λ e. (refl, (tt, (letter x (true-T (memb x organic) e), tt))))
    (λ _. keeps-cond (x ∷ []) (memb x marks) _ _ (λ e. (refl, ((true-T (memb x marks) e, tt), tt)))
    (λ _. keeps-cond (x ∷ []) (eqb x 91) _ _ (λ e. (ap (λ (z : ℕ). z ∷ []) (eqb-true x 91 e), (tt, tt)))
    (λ _. keeps-cond (x ∷ []) (eqb x 46) _ _ (λ e. (ap (λ (z : ℕ). z ∷ []) (eqb-true x 46 e), ((tt, tt), tt)))
    (λ _. keeps-cond (x ∷ []) (eqb x 40) _ _ (λ e. (ap (λ (z : ℕ). z ∷ []) (eqb-true x 40 e), ((tt, tt), tt)))
    (λ _. keeps-cond (x ∷ []) (eqb x 41) _ _ (λ e. (ap (λ (z : ℕ). z ∷ []) (eqb-true x 41 e), ((tt, tt), tt))) (λ _. tt))))))

flush-keeps : (u : Piece) (w : List ℕ) (o : Fed) → WellFormed u → Keeps w o → Keeps (show_piece u ++ w) (ended u o)
unfolding Keeps ended show
flush-keeps u w halt g h = tt
flush-keeps u w (fed ps q) g h = (ap (λ (z : List ℕ). show_piece u ++ z) h.0 ∙ sym (append_assoc (show_piece u) (show ps) (shown q)), ((g, h.1.0), h.1.1))

record Two (x : ℕ) (b ls : List ℕ) : Type 0 where
  none : ls ≡ []
  good : AtomBytes (b ++ x ∷ [])

second-true : (x : ℕ) (b ls : List ℕ) → second x b ls ≡ true → Two x b ls
unfolding second
second-true x [] ls e = let z : ◌≡◌ {A = ℕ} 0 1 = cc in absurd (omega arith)
second-true x (a ∷ []) [] e = go (eqb x 108 && eqb a 67) refl e
  where
    go : (p : Bool) → (eqb x 108 && eqb a 67) ≡ p → (p || eqb x 114 && eqb a 66) ≡ true → Two x (a ∷ []) []
    go true q r =
        let both : (eqb x 108 ≡ true) × (eqb a 67 ≡ true) = and_both (eqb x 108) (eqb a 67) q in
        record { none = refl; good = rw (eqb-true x 108 both.0, eqb-true a 67 both.1) chlorine }
    go false q r =
        let both : (eqb x 114 ≡ true) × (eqb a 66 ≡ true) = and_both (eqb x 114) (eqb a 66) r in
        record { none = refl; good = rw (eqb-true x 114 both.0, eqb-true a 66 both.1) bromine }
second-true x (a ∷ []) (l ∷ ls) e = let z : ◌≡◌ {A = ℕ} 0 1 = cc in absurd (omega arith)
second-true x (a ∷ a' ∷ b) ls e = let z : ◌≡◌ {A = ℕ} 0 1 = cc in absurd (omega arith)

show_label-one : (l : ℕ) → l < 10 → show_label l ≡ (48 + l) ∷ []
unfolding show_label
show_label-one l h = rw (lt-ltb l 10 h)

show_label-two : (d e : ℕ) → 1 ≤ d → e < 10 → show_label (10 * d + e) ≡ 37 ∷ (48 + d) ∷ (48 + e) ∷ []
unfolding show_label
show_label-two d e h g =
    rw (le-ltb (10 * d + e) 10 (omega arith)) (ap₂ (λ (a b : ℕ). 37 ∷ (48 + a) ∷ (48 + b) ∷ []) (omega arith) (omega arith))

-- one more label
more-shown : (b ls : List ℕ) (l : ℕ) (w : List ℕ) → w ≡ show_label l → (b ++ show_labels ls) ++ w ≡ b ++ show_labels (ls ++ l ∷ [])
more-shown b ls l w e = append_assoc b (show_labels ls) w ∙ ap (λ (z : List ℕ). b ++ z) (ap (λ (z : List ℕ). show_labels ls ++ z) e ∙ sym (show_labels-snoc ls l))

-- one byte: what is written so far, and it, is what the pieces and the new state are written as
feed-keeps : (q : Lex) (x : ℕ) → Sound q → Keeps (shown q ++ x ∷ []) (feed q x)
unfolding Keeps Sound feed shown show
feed-keeps between x h = start-keeps x
feed-keeps (in_atom b ls) x h =
    keeps-cond _ (second x b ls) _ _
    (λ e. let t : Two x b ls = second-true x b ls e in (rw t.none (simp append-nil), (tt, (t.good, tt))))
    (λ _. keeps-cond _ (within 49 57 x) _ _
    (λ e. let w : (49 ≤ x) × (x ≤ 57) = within_both 49 57 x e in (more-shown b ls (x - 48) (x ∷ []) (ap (λ (z : ℕ). z ∷ []) (omega arith) ∙ sym (show_label-one (x - 48) (omega arith))), (tt, (h.0, labels-snoc ls (x - 48) h.1 (omega arith) (omega arith)))))
    (λ _. keeps-cond _ (eqb x 37) _ _ (λ e. (ap (λ (z : ℕ). (b ++ show_labels ls) ++ z ∷ []) (eqb-true x 37 e), (tt, h))) (λ _. flush-keeps (atom b ls) (x ∷ []) (begin x) h (start-keeps x))))
feed-keeps (in_bracket xs) x h =
    keeps-cond _ (bracketed x) _ _ (λ e. (refl, (tt, inside_snoc xs x h e)))
    (λ _. keeps-cond _ (eqb x 93 && within 1 16 (length xs)) _ _
    (λ e.
    let both : (eqb x 93 ≡ true) × (within 1 16 (length xs) ≡ true) = and_both (eqb x 93) (within 1 16 (length xs)) e in
    let w : (1 ≤ length xs) × (length xs ≤ 16) = within_both 1 16 (length xs) both.1 in
    (ap (λ (z : ℕ). 91 ∷ xs ++ z ∷ []) (eqb-true x 93 both.0) ∙ sym (append-nil (91 ∷ xs ++ 93 ∷ [])), (tt, (bracket xs h w.0 w.1, tt))))
    (λ _. tt))
feed-keeps (in_label b ls) x h =
    keeps-cond _ (within 49 57 x) _ _ (λ e. let w : (49 ≤ x) × (x ≤ 57) = within_both 49 57 x e in (append_assoc (b ++ show_labels ls) (37 ∷ []) (x ∷ []) ∙ ap (λ (z : ℕ). (b ++ show_labels ls) ++ 37 ∷ z ∷ []) (omega arith), (tt, (h.0, (h.1, (omega arith, omega arith)))))) (λ _. tt)
feed-keeps (in_tens b ls d) x h =
    keeps-cond _ (within 48 57 x) _ _ (λ e. let w : (48 ≤ x) × (x ≤ 57) = within_both 48 57 x e in (append_assoc (b ++ show_labels ls) (37 ∷ (48 + d) ∷ []) (x ∷ []) ∙ more-shown b ls (10 * d + (x - 48)) (37 ∷ (48 + d) ∷ x ∷ []) (ap (λ (z : ℕ). 37 ∷ (48 + d) ∷ z ∷ []) (omega arith) ∙ sym (show_label-two d (x - 48) h.1.1.0 (omega arith))), (tt, (h.0, labels-snoc ls (10 * d + (x - 48)) h.1.0 (omega arith) (omega arith))))) (λ _. tt)

Back : List ℕ → Option (List Piece) → Type 0
Back w none = Unit {0}
Back w (some us) = (show us ≡ w) × AllWell us

back-prep : (ps : List Piece) (w : List ℕ) (o : Option (List Piece)) → AllWell ps → Back w o → Back (show ps ++ w) (before ps o)
unfolding Back before
back-prep ps w none g h = tt
back-prep ps w (some us) g h = (show-append ps us ∙ ap (λ (z : List ℕ). show ps ++ z) h.0, well-append ps us g h.1)

lex-back : (xs : List ℕ) (q : Lex) → Sound q → Back (shown q ++ xs) (lex q xs)
unfolding lex Back Sound shown on_fed show Keeps
lex-back [] between h = (refl, tt)
lex-back [] (in_atom b ls) h = (refl, (h, tt))
lex-back [] (in_bracket b) h = tt
lex-back [] (in_label b ls) h = tt
lex-back [] (in_tens b ls d) h = tt
lex-back (x ∷ xs) q h = go (feed q x) (feed-keeps q x h) (lex-back xs)
  where
    go : (o : Fed) → Keeps (shown q ++ x ∷ []) o → ((q' : Lex) → Sound q' → Back (shown q' ++ xs) (lex q' xs)) → Back (shown q ++ x ∷ xs) (on_fed o (λ q'. lex q' xs))
    go halt k ih = tt
    go (fed ps q') k ih =
        subst (λ (w : List ℕ). Back w (before ps (lex q' xs)))
        (sym (append_assoc (show ps) (shown q') xs) ∙ (ap (λ (z : List ℕ). z ++ xs) (sym k.0) ∙ append_assoc (shown q) (x ∷ []) xs))
        (back-prep ps (shown q' ++ xs) (lex q' xs) k.1.0 (ih q' k.1.1))

-- bytes that are read as pieces are those pieces written, and the pieces are well formed
pub show-lex : (xs : List ℕ) (us : List Piece) → lex between xs ≡ some us → (show us ≡ xs) × AllWell us
unfolding Back Sound shown
show-lex xs us e = subst (Back xs) e (lex-back xs between tt)
