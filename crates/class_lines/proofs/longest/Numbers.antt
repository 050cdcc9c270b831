-- The numbers of the code are those of the definitions, and none of them is past its type. Assumes nothing.
use Prim.Native.Nat.{ℕ, ◌+◌, ◌*◌, ◌^◌, ◌≤◌, ◌<◌, min}
use native.Mathlib.Nat.{mul-le-mul}
use native.Mathlib.Omega.{arith}
use mathlib.Core.Path.{refl}
use Rattle.drawn_chain.specs.declared.drawable.Shape.{Shape}
use Rattle.class_lines.specs.longest.Longest.{text_most, drawn_most, sites_most, numbers_most}
use Rattle.class_lines.specs.longest.Covered.{shape_most, Bounded}

pub drawn-bounded : (carbon unlocated : ℕ) → carbon < 2 ^ 16 → unlocated < 2 ^ 16 → Bounded 196607 (drawn_most carbon unlocated) (carbon + 2 * unlocated + 2)
unfolding drawn_most
drawn-bounded carbon unlocated g h = record { is = refl; few = omega arith }

module _ (n f : ℕ) (h : (n ≤ 196607) × (f ≤ 18)) where
  pub text-bounded : Bounded 600000 (text_most n 18 f 8) (3 * n + 14 * (18 + f + 1) + 6 * 8)
  unfolding text_most
  text-bounded = record { is = refl; few = omega (arith, h.0, h.1) }

  sites-product : f * (14 + 6 * n) ≤ 18 * 1179656
  sites-product =
      let each : 14 + 6 * n ≤ 1179656 = omega (arith, h.0) in
      mul-le-mul h.1 each

  pub sites-fit : f * (14 + 6 * n) < 2 ^ 64
  sites-fit = omega (arith, sites-product)

  pub sites-bounded : Bounded 22000000 (sites_most n f) (f * (14 + 6 * n))
  unfolding sites_most
  sites-bounded = record { is = refl; few = omega (arith, sites-product) }

pub shape-bounded : (x : Shape) (n f text sites : ℕ) → x.unlocated < 2 ^ 16 → Bounded 196607 (drawn_most x.carbon x.unlocated) n → Bounded 18 (min x.float_count 18) f
    → Bounded 600000 (text_most n 18 f 8) text → Bounded 22000000 (sites_most n f) sites → Bounded 30000000 (shape_most x) (2 * text + sites + 25 * x.unlocated + 50)
unfolding shape_most numbers_most
shape-bounded x n f text sites h a b e s = record { is = rw (e.is, s.is, a.is, b.is); few = omega (arith, e.few, s.few) }
