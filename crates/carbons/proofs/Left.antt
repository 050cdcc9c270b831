-- A text that is written part by part: so much of it is written, and so much is left. The invariant of every loop that writes.
-- Assumes nothing.
use Prim.Native.Nat.{ℕ, ◌<◌, ◌^◌}
use mathlib.Core.Path.{◌≡◌, refl, ◌∙◌}
use mathlib.Core.List.{List, [], ◌++◌, append-nil, append_assoc}
use lib.ListN.{length}
use Rattle.writer.specs.emit.Text.{Written}
use Rattle.writer.proofs.emit.Laws.{written-nil, written-append, written-length}

-- of the text ts, to be written in xs at the place `at`, us is left; ys holds the rest of it, and p is the place after that
pub record Left (xs : List ℕ) (at : ℕ) (ts : List ℕ) (ys : List ℕ) (p : ℕ) (us : List ℕ) : Type 0 where
  pub done : List ℕ
  pub joined : ts ≡ done ++ us
  pub written : Written xs at done ys p

-- all of it is left
pub left-all : (xs : List ℕ) (at : ℕ) (ts : List ℕ) → at < 2 ^ 64 → Left xs at ts xs at ts
left-all xs at ts h = record { done = []; joined = refl; written = written-nil xs at h }

-- a part of it is written
pub left_less : {xs ys zs ts us b : List ℕ} {at p q : ℕ} (vs : List ℕ) → length xs < 2 ^ 64
    → Left xs at ts ys p us → us ≡ b ++ vs → Written ys p b zs q → Left xs at ts zs q vs
left_less {b = b} vs h l e w =
    record {
      done = l.done ++ b;
      joined = l.joined ∙ (rw (e, append_assoc));
      written = written-append h l.written w;
    }

-- the same, said in another way
pub left-same : {xs ys ts us vs : List ℕ} {at p : ℕ} → Left xs at ts ys p us → us ≡ vs → Left xs at ts ys p vs
left-same l e = rw e at l

-- nothing is left
pub left-none : {xs ys ts us : List ℕ} {at p : ℕ} → Left xs at ts ys p us → us ≡ [] → Written xs at ts ys p
left-none l e = rw (l.joined, e, append-nil) l.written

pub left-length : {xs ys ts us : List ℕ} {at p : ℕ} → Left xs at ts ys p us → length ys ≡ length xs
left-length l = written-length l.written

-- three texts, one after the other
pub written-three : {xs ys zs ws a b c : List ℕ} {at p q r : ℕ} → length xs < 2 ^ 64
    → Written xs at a ys p → Written ys p b zs q → Written zs q c ws r → Written xs at (a ++ (b ++ c)) ws r
written-three h u v w = written-append h u (written-append (rw (written-length u) h) v w)
