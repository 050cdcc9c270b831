-- The carbons of a chain without groups, written in parts.
-- Assumes nothing.
use Prim.Native.Nat.{ℕ, ◌+◌, ◌-◌, ◌*◌, ◌^◌, ◌≤◌, ◌<◌}
use native.Mathlib.Omega.{arith}
use mathlib.Core.Path.{◌≡◌, refl, ◌∙◌}
use mathlib.Core.List.{List, []}
use lib.ListN.{length}
use Rattle.writer.specs.emit.Text.{Written}
use Rattle.writer.proofs.emit.Laws.{written-length}
use Rattle.chain_pieces.specs.runs.Links.{links_text, Links}
use Rattle.chain_pieces.proofs.runs.Laws.{links-then, links-room}

module _ {xs ys : List ℕ} {at p j : ℕ} (ks : List ℕ) (k last : ℕ) (v : Links ks [] k last xs at ys p j) where
  -- those before C c are written, as far as there are any
  pub before-some : {zs ws : List ℕ} {q r i c : ℕ} → length xs < 2 ^ 64 → j < c → c ≤ last + 1 → Written ys p (links_text ks j (c - 1 + 1 - j)) zs q
      → ws ≡ zs → r ≡ q → i ≡ c → Links ks [] k last xs at ws r i
  before-some {zs} {ws} {q} {r} {i} {c} g h l w a b d =
      let z : c - 1 + 1 - j ≡ c - j = omega arith in
      let u : Links ks [] j last ys p zs q c = record { low = omega arith; high = l; free = λ n m o. refl; text = rw z at w } in
      rw (a, b, d) (links-then ks [] k last v g u)

  pub before-none : {ws : List ℕ} {r i : ℕ} → ws ≡ ys → r ≡ p → i ≡ j → Links ks [] k last xs at ws r i
  before-none a b d = rw (a, b, d) v

  pub part_room : (c : ℕ) → at + (last + 1 - k) * 2 ≤ length xs → j < c → c ≤ last + 1 → p + (c - 1 + 1 - j) * 2 ≤ length ys
  part_room c h l m = omega (arith, links-room ks [] k last v h)

  pub parts-size : {zs ts : List ℕ} {q : ℕ} → Written ys p ts zs q → length zs ≡ length xs
  parts-size w = written-length w ∙ written-length v.text
