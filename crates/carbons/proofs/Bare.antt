-- A chain without double bonds and rings: a table of noughts holds its bonds.
-- Assumes nothing.
use Prim.Native.Nat.{ℕ, suc, ◌<◌, min}
use native.Mathlib.Omega.{arith}
use mathlib.Core.Path.{◌≡◌, refl, sym}
use mathlib.Core.List.{List, []}
use lib.ListN.{replicate, length-replicate}
use Rattle.drawn_chain.specs.drawable.Drawn.{Drawn, bonds_drawn, groups_drawn, rings_drawn}
use Rattle.carbons.specs.ByCarbon.{double_at, bridge_at, rises_from, Noughts, PlainBonds, BondsBy}
use Rattle.carbons.specs.Tokens.{Grouped}
use Rattle.carbons.proofs.BondLaws.{where-none, marks-before}
use Rattle.carbons.proofs.TokenLaws.{noughts, bonds-plain, bonds-marked}

-- noughts are the bonds of a chain that has neither double bonds nor rings
noughts-by : (c m : ℕ) → 255 < m → BondsBy [] [] c (replicate m 0)
unfolding double_at bridge_at rises_from
noughts-by c m h =
    let l : ℕ = min c 255 in
    let w : PlainBonds [] [] (replicate m 0) = bonds-plain (noughts m refl) (where-none 79 (replicate m 0) (λ k. refl)) (where-none 61 (replicate m 0) (λ k. refl)) in
    bonds-marked c l w refl (omega (arith, length-replicate {A = ℕ} m 0)) (sym (marks-before l (suc l) 1 l [] (replicate m 0) (omega arith) refl))

-- a table of noughts that holds the bonds of x
pub record Bare (x : Drawn) : Type 0 where
  pub table : List ℕ
  pub empty : Noughts table
  pub by : BondsBy (bonds_drawn x) (rings_drawn x) x.carbon table

pub bare : (x : Drawn) → Grouped x → x.bond_count ≡ 0 → Bare x
bare x e h =
    record {
      table = replicate 256 0;
      empty = noughts 256 refl;
      by = rw (h, e.rings) (noughts-by x.carbon 256 (omega arith));
    }

pub bare-groups : (x : Drawn) → x.group_count ≡ 0 → groups_drawn x ≡ []
bare-groups x h = rw h
