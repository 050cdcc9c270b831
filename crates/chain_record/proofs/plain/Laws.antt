-- Laws of chains: what counts that pass say, and the length of an array in a struct.
-- Assumes nothing.
use Prim.Native.Nat.{ℕ, ◌≤◌}
use native.Mathlib.Omega.{arith}
use mathlib.Core.Path.{◌≡◌, refl, sym, ap, ◌∙◌}
use mathlib.Core.Bool.{Bool, true, false, cond}
use mathlib.Core.List.{List, map}
use lib.Dec.{ltb}
use lib.ListN.{length, length-map}
use borrow.Author.Tests.{ltb-false}
use Rattle.chain_record.specs.plain.Chain.{Chain, Read, Refused, counts_of, max_bonds, max_groups, max_rings, over_limit}

-- an array in a struct stands under `map`
pub length-mapped : {X Y : Type 0} (f : X → Y) (l : List X) (n : ℕ) → length (map f l) ≡ n → length l ≡ n
length-mapped f l n e = sym (length-map l f) ∙ e

-- counts that pass are within their limits, and the chain is as it was
pub counts_same : (d e : Chain) → counts_of d ≡ Read e → d ≡ e
unfolding counts_of
counts_same d e h = go (ltb max_bonds (length d.bonds)) (ltb max_groups (length d.groups)) (ltb max_rings (length d.rings)) h
  where
    go : (a b c : Bool) → cond a (Refused over_limit) (cond b (Refused over_limit) (cond c (Refused over_limit) (Read d))) ≡ Read e → d ≡ e
    go true b c h = cc
    go false true c h = cc
    go false false true h = cc
    go false false false h = cc

pub counts-few : (d : Chain) → counts_of d ≡ Read d → (length d.bonds ≤ max_bonds) × (length d.groups ≤ max_groups) × (length d.rings ≤ max_rings)
unfolding counts_of
counts-few d h = go (ltb max_bonds (length d.bonds)) (ltb max_groups (length d.groups)) (ltb max_rings (length d.rings)) refl refl refl h
  where
    go : (a b c : Bool) → ltb max_bonds (length d.bonds) ≡ a → ltb max_groups (length d.groups) ≡ b → ltb max_rings (length d.rings) ≡ c
        → cond a (Refused over_limit) (cond b (Refused over_limit) (cond c (Refused over_limit) (Read d))) ≡ Read d
        → (length d.bonds ≤ max_bonds) × (length d.groups ≤ max_groups) × (length d.rings ≤ max_rings)
    go true b c x y z h = let w : ◌≡◌ {A = ℕ} 0 1 = cc in absurd (omega arith)
    go false true c x y z h = let w : ◌≡◌ {A = ℕ} 0 1 = cc in absurd (omega arith)
    go false false true x y z h = let w : ◌≡◌ {A = ℕ} 0 1 = cc in absurd (omega arith)
    go false false false x y z h = (ltb-false _ _ x, ltb-false _ _ y, ltb-false _ _ z)

pub counts-within : (d e : Chain) → counts_of d ≡ Read e → (length e.bonds ≤ max_bonds) × (length e.groups ≤ max_groups) × (length e.rings ≤ max_rings)
counts-within d e h =
    let s : e ≡ d = sym (counts_same d e h) in
    let k : counts_of d ≡ Read d = h ∙ ap Read s in
    rw s (counts-few d k)
