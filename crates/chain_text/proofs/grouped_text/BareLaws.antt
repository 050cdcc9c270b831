-- The text of a chain that carries nothing: a table of noughts says its bonds, and between empty bonds stand carbons only.
-- Assumes nothing.
use Prim.Native.Nat.{ℕ, ◌+◌, ◌-◌, ◌*◌, ◌^◌, ◌≤◌, ◌<◌}
use native.Mathlib.Omega.{arith}
use mathlib.Core.Path.{◌≡◌, refl}
use mathlib.Core.Bool.{Bool}
use mathlib.Core.List.{List, [], ◌∷◌}
use lib.ListN.{length, replicate}
use Rattle.writer.specs.emit.Text.{Written}
use Rattle.writer.proofs.emit.Laws.{written-length}
use Rattle.reading_rules.specs.reading.Ascii.{ascii}
use Rattle.reading_rules.specs.reading.Piece.{show}
use Rattle.reading_rules.specs.reading.Chain.{mark_pieces}
use Rattle.chain_rules.specs.chain.Bonds.{mark_of}
use Rattle.drawn_chain.specs.declared.drawable.Shape.{Shape}
use Rattle.drawn_chain.specs.declared.rooms.Lists.{Lists}
use Rattle.drawn_chain.specs.drawable.Drawn.{Drawn, groups_drawn, drawn_of}
use Rattle.carbons.specs.Tokens.{Grouped}
use Rattle.carbons.specs.ByCarbon.{Noughts}
use Rattle.carbons.proofs.Bare.{Bare, bare, bare-groups}
use Rattle.chain_pieces.specs.branches.Text.{carbonyl_text}
use Rattle.chain_pieces.proofs.branches.Laws.{carbonyl-length}
use Rattle.chain_pieces.specs.backbone.Text.{carbon_text}
use Rattle.chain_pieces.proofs.runs.Carbons.{links-plain}
use Rattle.chain_text.specs.fragment.Segment.{Segment}
use Rattle.chain_text.specs.grouped_text.Text.{rest_text}
use Rattle.chain_text.proofs.grouped_text.SegmentLaws.{grouped-segment}

-- a carbon after an empty bond
bare-carbon : carbon_text 0 ≡ 67 ∷ []
unfolding carbon_text mark_of mark_pieces show ascii
bare-carbon = refl

-- and all that follow it
bare-rest : {bs : List ℕ} (k c n : ℕ) → Noughts bs → 1 ≤ k → c + 1 - k ≡ n → rest_text bs k c [] ≡ replicate n 67
unfolding rest_text
bare-rest {bs} k c n z h e = rw e (links-plain bs n k h (λ j l. z.at (k - 1 + j)))

module _ (x : Shape) (part : Lists) (e : Grouped (drawn_of x part)) where
  pub bare-room : {xs ys zs : List ℕ} {at p q : ℕ} (acyl : Bool) → at + (x.carbon * 2 + 260) ≤ length xs → Written xs at (67 ∷ []) ys p → Written ys p (carbonyl_text acyl x.first) zs q
      → q + (x.carbon - x.first) ≤ length zs
  bare-room acyl h u v = omega (arith, e.first, e.some, u.next, v.next, carbonyl-length acyl x.first, written-length u, written-length v)

  pub bare-done : {xs ys zs ws : List ℕ} {at p q r : ℕ} → (x.bond_count ≡ 0) × (x.group_count ≡ 0) → length xs < 2 ^ 64
      → Written xs at (67 ∷ []) ys p → Written ys p (carbonyl_text x.acyl x.first) zs q
      → Written zs q (replicate (x.carbon - x.first) 67) ws r → (l : ℕ) → Segment (drawn_of x part) l xs at ws r
  bare-done none g u v w =
      let d : Drawn = drawn_of x part in
      let t : Bare d = bare d e none.0 in
      let gone : groups_drawn d ≡ [] = bare-groups d none.1 in
      let n : x.carbon + 1 - (x.first + 1) ≡ x.carbon - x.first = omega arith in
      grouped-segment d t.table e t.by g (rw (t.empty.at (x.first - 1), bare-carbon) u) v
      (rw (gone, bare-rest (x.first + 1) x.carbon (x.carbon - x.first) t.empty (omega arith) n) w)
