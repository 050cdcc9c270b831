-- A text that can be read has no blank.
-- Assumes nothing.
use Prim.Native.Nat.{ℕ}
use native.Mathlib.Omega.{arith}
use mathlib.Core.Path.{◌≡◌, refl, ap, ◌∙◌, subst}
use mathlib.Core.Bool.{Bool, true, false, not, ◌||◌}
use mathlib.Core.Option.{Option, none, some}
use mathlib.Core.List.{List, [], ◌∷◌}
use lib.Dec.{eqb}
use borrow.Author.Tests.{eqb-true}
use Rattle.reading_rules.specs.smiles.Row.{Row}
use Rattle.reading_rules.specs.smiles.Piece.{Piece}
use Rattle.reading_rules.specs.smiles.Lexer.{memb, within, bracketed, organic, marks, pairs, second, Lex, between, in_atom, in_bracket, in_label, in_tens, Fed, halt, fed, begin, ended, feed, before, on_fed, lex, pieces_of}
use Rattle.reading_rules.specs.smiles.Text.{read_lexed, read_text}
use Rattle.reading_rules.proofs.words.PartingLaws.{and_both, clear}

no_second : (b ls : List ℕ) → second 32 b ls ≡ false
unfolding second pairs
no_second [] ls = refl
no_second (a ∷ []) [] = refl
no_second (a ∷ []) (l ∷ ls) = refl
no_second (a ∷ a' ∷ b) ls = refl

-- a blank fits nowhere
feed-blank : (q : Lex) → feed q 32 ≡ halt
unfolding feed begin memb organic marks within bracketed ended
feed-blank between = refl
feed-blank (in_atom b ls) = rw (no_second b ls)
feed-blank (in_bracket xs) = refl
feed-blank (in_label b ls) = refl
feed-blank (in_tens b ls d) = refl

-- what was read had no blank
Blankless : List ℕ → Option (List Piece) → Type 0
Blankless xs none = Unit {0}
Blankless xs (some us) = clear (32 ∷ []) xs ≡ true

blankless-more : (x : ℕ) (xs : List ℕ) (us : List Piece) (o : Option (List Piece)) → eqb x 32 ≡ false → Blankless xs o → Blankless (x ∷ xs) (before us o)
unfolding Blankless before clear memb
blankless-more x xs us none e h = tt
blankless-more x xs us (some vs) e h = and_both (not (eqb x 32 || false)) (clear (32 ∷ []) xs) (rw e) h

lex-blankless : (xs : List ℕ) (q : Lex) → Blankless xs (lex q xs)
unfolding lex Blankless on_fed clear
lex-blankless [] between = refl
lex-blankless [] (in_atom b ls) = refl
lex-blankless [] (in_bracket xs) = tt
lex-blankless [] (in_label b ls) = tt
lex-blankless [] (in_tens b ls d) = tt
lex-blankless (x ∷ xs) q = go (eqb x 32) refl (feed q x) refl (lex-blankless xs)
  where
    go : (b : Bool) → eqb x 32 ≡ b → (f : Fed) → feed q x ≡ f → ((q' : Lex) → Blankless xs (lex q' xs)) → Blankless (x ∷ xs) (on_fed f (λ q'. lex q' xs))
    go b e halt g ih = tt
    go true e (fed us q') g ih =
        let w : feed q x ≡ halt = ap (feed q) (eqb-true x 32 e) ∙ feed-blank q in
        let z : ◌≡◌ {A = ℕ} 0 1 = cc in absurd (omega arith)
    go false e (fed us q') g ih = blankless-more x xs us (lex q' xs) e (ih q')

pub text-clear : (xs : List ℕ) (rs : List Row) → read_text xs ≡ some rs → clear (32 ∷ []) xs ≡ true
unfolding read_text pieces_of read_lexed
text-clear xs rs h = go (lex between xs) refl h
  where
    go : (o : Option (List Piece)) → lex between xs ≡ o → read_lexed o ≡ some rs → clear (32 ∷ []) xs ≡ true
    go none e r = let z : ◌≡◌ {A = ℕ} 0 1 = cc in absurd (omega arith)
    go (some us) e r = unfold Blankless in subst (Blankless xs) e (lex-blankless xs between)
