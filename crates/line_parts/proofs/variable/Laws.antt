-- Laws of the writer of names: a law for each way out. Assumes nothing.
use Prim.Native.Nat.{ℕ, ◌+◌, ◌-◌, ◌/◌, ◌%◌, ◌^◌, ◌≤◌, ◌<◌}
use mathlib.Core.List.{List, [], ◌∷◌}
use lib.ListN.{length}
use borrow.Author.Tests.{lt-ltb, le-ltb}
use Rattle.writer.specs.emit.Text.{Written}
use Rattle.writer.proofs.emit.Laws.{written-append}
use Rattle.reading_rules.specs.reading.Names.{name_below, name_of}

module _ (v : ℕ) where
  pub name-one : {xs ys : List ℕ} {at p : ℕ} → v % 702 < 26 → Written xs at ((97 + v % 702) ∷ []) ys p → Written xs at (name_of v) ys p
  unfolding name_of name_below
  name-one h w = rw (lt-ltb (v % 702) 26 h) w

  pub name-two : {xs ys zs : List ℕ} {at p q : ℕ} → length xs < 2 ^ 64 → 26 ≤ v % 702 → Written xs at ((97 + (v % 702 - 26) / 26) ∷ []) ys p
      → Written ys p ((97 + (v % 702 - 26) % 26) ∷ []) zs q → Written xs at (name_of v) zs q
  unfolding name_of name_below
  name-two g h w u = rw (le-ltb (v % 702) 26 h) (written-append g w u)
