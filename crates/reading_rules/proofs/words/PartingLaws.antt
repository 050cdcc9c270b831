-- Parts joined by a byte that none of them has are parted again by it.
-- Assumes nothing.
use Prim.Native.Nat.{ℕ}
use mathlib.Core.Path.{◌≡◌, refl, sym, ap, ◌∙◌}
use mathlib.Core.Bool.{Bool, true, false, not, ◌||◌, ◌&&◌, false≢true}
use mathlib.Core.Option.{Option, some}
use mathlib.Core.List.{List, [], ◌∷◌, ◌++◌, append-nil, map}
use lib.Dec.{eqb}
use borrow.Author.Tests.{eqb-true, eq-eqb}
use Rattle.reading_rules.specs.smiles.Lexer.{memb}
use Rattle.reading_rules.specs.words.Parting.{each, parted, closed, follows, enclosed, led, joined}

-- ---- tests

pub and_left : (a b : Bool) → (a && b) ≡ true → a ≡ true
and_left true b e = refl
and_left false b e = e

pub and_right : (a b : Bool) → (a && b) ≡ true → b ≡ true
and_right true b e = e
and_right false b e = absurd (false≢true e)

pub and_both : (a b : Bool) → a ≡ true → b ≡ true → (a && b) ≡ true
and_both a b e f = rw (e, f)

-- a fact of each element
abbrev pub All : {A : Type 0} → (A → Type 0) → List A → Type 0
All P [] = Unit {0}
All P (x ∷ xs) = P x × All P xs

pub all_map : {A : Type 0} {P Q : A → Type 0} → ((x : A) → P x → Q x) → (xs : List A) → All P xs → All Q xs
all_map f [] h = tt
all_map f (x ∷ xs) h = (f x h.0, all_map f xs h.1)

pub all_any : {A : Type 0} {P : A → Type 0} → ((x : A) → P x) → (xs : List A) → All P xs
all_any f [] = tt
all_any f (x ∷ xs) = (f x, all_any f xs)

-- every byte passes the test p
unfoldable pub every : (ℕ → Bool) → List ℕ → Bool
every p [] = true
every p (x ∷ xs) = p x && every p xs

-- ---- bytes that a text does not have

-- no byte of xs is among ss
unfoldable pub clear : List ℕ → List ℕ → Bool
unfolding memb
clear ss [] = true
clear ss (x ∷ xs) = not (memb x ss) && clear ss xs

abbrev pub Clears : List ℕ → List (List ℕ) → Type 0
Clears ss ps = All (λ p. clear ss p ≡ true) ps

pub clear-append : (ss a b : List ℕ) → clear ss a ≡ true → clear ss b ≡ true → clear ss (a ++ b) ≡ true
unfolding clear
clear-append ss [] b h g = g
clear-append ss (x ∷ a) b h g =
    and_both (not (memb x ss)) (clear ss (a ++ b)) (and_left (not (memb x ss)) (clear ss a) h) (clear-append ss a b (and_right (not (memb x ss)) (clear ss a) h) g)

-- a byte that passes a test is none that fails it
class-none : (p : ℕ → Bool) (x : ℕ) (ss : List ℕ) → p x ≡ true → every (λ s. not (p s)) ss ≡ true → memb x ss ≡ false
unfolding memb every
class-none p x [] h g = refl
class-none p x (s ∷ ss) h g = go (eqb x s) refl (class-none p x ss h (and_right (not (p s)) (every (λ s. not (p s)) ss) g))
  where
    go : (b : Bool) → eqb x s ≡ b → memb x ss ≡ false → (b || memb x ss) ≡ false
    go false e r = r
    go true e r = absurd (false≢true (ap not (sym h) ∙ (ap (λ (z : ℕ). not (p z)) (eqb-true x s e) ∙ and_left (not (p s)) (every (λ s. not (p s)) ss) g)))

pub clear-class : (p : ℕ → Bool) (ss xs : List ℕ) → every p xs ≡ true → every (λ s. not (p s)) ss ≡ true → clear ss xs ≡ true
unfolding clear every
clear-class p ss [] h g = refl
clear-class p ss (x ∷ xs) h g =
    and_both (not (memb x ss)) (clear ss xs) (ap not (class-none p x ss (and_left (p x) (every p xs) h) g)) (clear-class p ss xs (and_right (p x) (every p xs) h) g)

-- a byte among them, alone
pub clear-one : (s : ℕ) (ss xs : List ℕ) → memb s ss ≡ true → clear ss xs ≡ true → clear (s ∷ []) xs ≡ true
unfolding clear memb
clear-one s ss [] m h = refl
clear-one s ss (x ∷ xs) m h =
    and_both (not (eqb x s || false)) (clear (s ∷ []) xs) (go (eqb x s) refl) (clear-one s ss xs m (and_right (not (memb x ss)) (clear ss xs) h))
  where
    go : (b : Bool) → eqb x s ≡ b → not (b || false) ≡ true
    go false e = refl
    go true e = absurd (false≢true (ap not (sym m) ∙ (ap (λ (z : ℕ). not (memb z ss)) (sym (eqb-true x s e)) ∙ and_left (not (memb x ss)) (clear ss xs) h)))

clear-led : (ss : List ℕ) (s : ℕ) (ps : List (List ℕ)) → memb s ss ≡ false → Clears ss ps → clear ss (led s ps) ≡ true
unfolding clear led
clear-led ss s [] m h = refl
clear-led ss s (p ∷ ps) m h = and_both (not (memb s ss)) (clear ss (p ++ led s ps)) (ap not m) (clear-append ss p (led s ps) h.0 (clear-led ss s ps m h.1))

pub clear-joined : (ss : List ℕ) (s : ℕ) (ps : List (List ℕ)) → memb s ss ≡ false → Clears ss ps → clear ss (joined s ps) ≡ true
unfolding clear joined
clear-joined ss s [] m h = refl
clear-joined ss s (p ∷ ps) m h = clear-append ss p (led s ps) h.0 (clear-led ss s ps m h.1)

-- ---- parts

not-only : (x s : ℕ) → not (memb x (s ∷ [])) ≡ true → eqb x s ≡ false
unfolding memb
not-only x s h = go (eqb x s) h
  where
    go : (b : Bool) → not (b || false) ≡ true → b ≡ false
    go false e = refl
    go true e = absurd (false≢true e)

-- a text without the byte is one part
pub parted-one : (s : ℕ) (xs : List ℕ) → clear (s ∷ []) xs ≡ true → parted s xs ≡ xs ∷ []
unfolding parted clear
parted-one s [] h = refl
parted-one s (x ∷ xs) h = rw (not-only x s (and_left (not (memb x (s ∷ []))) (clear (s ∷ []) xs) h), parted-one s xs (and_right (not (memb x (s ∷ []))) (clear (s ∷ []) xs) h))

-- a text without the byte, then the byte: the first part
pub parted-then : (s : ℕ) (a b : List ℕ) → clear (s ∷ []) a ≡ true → parted s (a ++ s ∷ b) ≡ a ∷ parted s b
unfolding parted clear
parted-then s [] b h = rw (eq-eqb s s refl)
parted-then s (x ∷ a) b h = rw (not-only x s (and_left (not (memb x (s ∷ []))) (clear (s ∷ []) a) h), parted-then s a b (and_right (not (memb x (s ∷ []))) (clear (s ∷ []) a) h))

parted-led : (s : ℕ) (p : List ℕ) (ps : List (List ℕ)) → clear (s ∷ []) p ≡ true → Clears (s ∷ []) ps → parted s (p ++ led s ps) ≡ p ∷ ps
unfolding led
parted-led s p [] h g = rw append-nil (parted-one s p h)
parted-led s p (q ∷ ps) h g = parted-then s p (q ++ led s ps) h ∙ ap (λ (z : List (List ℕ)). p ∷ z) (parted-led s q ps g.0 g.1)

pub parted-joined : (s : ℕ) (p : List ℕ) (ps : List (List ℕ)) → Clears (s ∷ []) (p ∷ ps) → parted s (joined s (p ∷ ps)) ≡ p ∷ ps
unfolding joined
parted-joined s p ps h = parted-led s p ps h.0 h.1

-- a text without the byte, then the byte at the end
pub closed-end : (s : ℕ) (a : List ℕ) → clear (s ∷ []) a ≡ true → closed (parted s (a ++ s ∷ [])) ≡ some a
unfolding parted
closed-end s a h = rw (parted-then s a [] h)

pub follows-append : (w xs : List ℕ) → follows w (w ++ xs) ≡ some xs
unfolding follows
follows-append [] xs = refl
follows-append (x ∷ w) xs = rw (eq-eqb x x refl) (follows-append w xs)

pub enclosed-between : (w : List ℕ) (s : ℕ) (a : List ℕ) → clear (s ∷ []) a ≡ true → enclosed w s (w ++ (a ++ s ∷ [])) ≡ some a
unfolding enclosed
enclosed-between w s a h = rw (follows-append w (a ++ s ∷ [])) (closed-end s a h)

-- what is shown and read part by part comes back
pub each-shown : {A : Type 0} (f : List ℕ → Option A) (g : A → List ℕ) (xs : List A) → All (λ x. f (g x) ≡ some x) xs → each f (map g xs) ≡ some xs
unfolding each
each-shown f g [] h = refl
each-shown f g (x ∷ xs) h = rw (h.0, each-shown f g xs h.1)

-- ---- lists that are not empty

abbrev pub NonEmpty : {A : Type 0} → List A → Type 0
NonEmpty [] = ⊥
NonEmpty (x ∷ xs) = Unit {0}

pub map_nonempty : {A B : Type 0} (f : A → B) (xs : List A) → NonEmpty xs → NonEmpty (map f xs)
map_nonempty f [] h = h
map_nonempty f (x ∷ xs) h = tt

pub parted-again : (s : ℕ) (ps : List (List ℕ)) → NonEmpty ps → Clears (s ∷ []) ps → parted s (joined s ps) ≡ ps
parted-again s [] n h = absurd n
parted-again s (p ∷ ps) n h = parted-joined s p ps h

pub clears-shown : {A : Type 0} (ss : List ℕ) (g : A → List ℕ) (xs : List A) → All (λ x. clear ss (g x) ≡ true) xs → Clears ss (map g xs)
clears-shown ss g [] h = tt
clears-shown ss g (x ∷ xs) h = (h.0, clears-shown ss g xs h.1)

pub clears-append : (ss : List ℕ) (ps qs : List (List ℕ)) → Clears ss ps → Clears ss qs → Clears ss (ps ++ qs)
clears-append ss [] qs h g = g
clears-append ss (p ∷ ps) qs h g = (h.0, clears-append ss ps qs h.1 g)

-- a list that is shown, joined and read comes back
pub list_read : {A : Type 0} (s : ℕ) (f : List ℕ → Option A) (g : A → List ℕ) (xs : List A) → NonEmpty xs → All (λ x. clear (s ∷ []) (g x) ≡ true) xs
    → All (λ x. f (g x) ≡ some x) xs → each f (parted s (joined s (map g xs))) ≡ some xs
list_read s f g xs n c h = rw (parted-again s (map g xs) (map_nonempty g xs n) (clears-shown (s ∷ []) g xs c)) (each-shown f g xs h)
