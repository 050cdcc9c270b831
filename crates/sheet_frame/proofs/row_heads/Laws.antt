-- Laws of the writers of the head of a row: a law for each way out. Assumes nothing.
use Prim.Native.Nat.{ℕ, ◌+◌, ◌^◌, ◌≤◌, ◌<◌}
use native.Mathlib.Omega.{arith}
use mathlib.Core.List.{List, [], ◌∷◌}
use lib.ListN.{length}
use Rattle.writer.specs.emit.Text.{Written, decimal}
use Rattle.writer.proofs.emit.Laws.{written-append, written_small}
use Rattle.sheet_frame.specs.row_heads.Text.{ended, head_text}

pub digit-text : {xs ys : List ℕ} {at p : ℕ} (n : ℕ) → n ≤ 9 → Written xs at ((48 + n) ∷ []) ys p → Written xs at (decimal n) ys p
digit-text n h w = written_small n (omega arith) w

module _ {xs ys zs : List ℕ} {a p q : ℕ} (t : List ℕ) (b : ℕ) (g : length xs < 2 ^ 64) (w : Written xs a t ys p) (u : Written ys p (b ∷ []) zs q) where
  pub ended-text : Written xs a (ended t b) zs q
  unfolding ended
  ended-text = written-append g w u

pub head-text : {xs ys zs : List ℕ} {a p q : ℕ} (answer token : ℕ) → length xs < 2 ^ 64 → Written xs a (ended (decimal answer) 9) ys p
    → Written ys p (ended (decimal token) 9) zs q → Written xs a (head_text answer token) zs q
unfolding head_text
head-text answer token g w u = written-append g w u
