-- How many atoms a chain has at most: its numbers fit in 16 bits, with room.
-- Assumes nothing.
use Prim.Native.Nat.{ℕ, zero, suc, ◌+◌, ◌-◌, ◌*◌, ◌≤◌, ◌<◌}
use native.Mathlib.Omega.{arith}
use mathlib.Core.Path.{◌≡◌, refl, sym, ap}
use mathlib.Core.Bool.{Bool, true, false, cond}
use mathlib.Core.List.{List, [], ◌∷◌, ◌++◌}
use lib.ListN.{length, length-append, length-map}
use lib.Dec.{eqb}
use borrow.Author.Tests.{eqb-true, eq-eqb, ne_eqb}
use Rattle.chain_record.specs.declared.plain.ChainPrefix.{ChainPrefix}
use Rattle.chain_record.specs.declared.plain.Mod.{Mod}
use Rattle.chain_record.specs.plain.Chain.{Chain}
use Rattle.group_table.specs.groups.Groups.{keto}
use Rattle.reading_rules.specs.reading.Part.{Part}
use Rattle.reading_rules.specs.reading.Chain as reading
use Rattle.reading_rules.specs.reading.Chain.{parts_end, bridge_end, carbon_end, chain_end, float_end}
use Rattle.reading_rules.proofs.reading.PartingLaws.{All}
use Rattle.chain_rules.specs.declared.chain.Role.{Role}
use Rattle.chain_rules.specs.chain.Lists.{only, values_from}
use Rattle.chain_rules.specs.chain.Features.{first_drawn, is_acyl, groups_on, literal_end}
use Rattle.chain_rules.specs.chain.Bonds.{bond_at, mark_of}
use Rattle.chain_rules.specs.chain.Drawing.{branch_part, carbonyl, groups_at, branches, carbon_at, literal, bare, pairs, flexible, carbons, floats, atoms_end}
use Rattle.chain_rules.proofs.chain.Accepted.{Drawable, first_one, drawn-most, carbon-most}
use Rattle.chain_rules.proofs.chain.Branches.{Branch}
use Rattle.chain_rules.proofs.chain.Fits.{CarbonFine, carbons-fine, groups-table, floats-read, length-carbons}

-- ---- sums over numbers that follow one another

sum_from : (ℕ → ℕ) → ℕ → ℕ → ℕ
sum_from f k zero = 0
sum_from f k (suc n) = f k + sum_from f (suc k) n

sum-le : (f g : ℕ → ℕ) (k n : ℕ) → ((i : ℕ) → f i ≤ g i) → sum_from f k n ≤ sum_from g k n
unfolding sum_from
sum-le f g k zero h = omega arith
sum-le f g k (suc n) h = omega (arith, h k, sum-le f g (suc k) n h)

sum-add : (f g : ℕ → ℕ) (k n : ℕ) → sum_from (λ i. f i + g i) k n ≡ sum_from f k n + sum_from g k n
unfolding sum_from
sum-add f g k zero = refl
sum-add f g k (suc n) = omega (arith, sum-add f g (suc k) n)

sum-none : (k n : ℕ) → sum_from (λ i. 0) k n ≡ 0
unfolding sum_from
sum-none k zero = refl
sum-none k (suc n) = omega (arith, sum-none (suc k) n)

-- one where i is p, else none
one : ℕ → ℕ → ℕ
one p i = cond (eqb p i) 1 0

one-before : (p k n : ℕ) → p < k → sum_from (one p) k n ≡ 0
unfolding sum_from one
one-before p k zero h = refl
one-before p k (suc n) h = rw (ne_eqb p k (λ e. omega arith)) (omega (arith, one-before p (suc k) n (omega arith)))

one-once : (p k n : ℕ) → sum_from (one p) k n ≤ 1
unfolding sum_from one
one-once p k zero = omega arith
one-once p k (suc n) = go (eqb p k) refl (one-once p (suc k) n)
  where
    go : (b : Bool) → eqb p k ≡ b → sum_from (one p) (suc k) n ≤ 1 → cond b 1 0 + sum_from (one p) (suc k) n ≤ 1
    go true e r = omega (arith, one-before p (suc k) n (omega (arith, eqb-true p k e)))
    go false e r = omega arith

-- a group sits at one carbon, so all carbons together carry no more groups than there are
groups-once : (gs : List Mod) (k n : ℕ) → sum_from (λ i. length (only (λ g. eqb g.pos i) gs)) k n ≤ length gs
unfolding only one
groups-once [] k n = omega (arith, sum-none k n)
groups-once (g ∷ gs) k n =
    omega (
      arith,
      sum-le (λ i. length (cond (eqb g.pos i) (g ∷ only (λ g. eqb g.pos i) gs) (only (λ g. eqb g.pos i) gs)))
          (λ i. one g.pos i + length (only (λ g. eqb g.pos i) gs)) k n (λ i. more (eqb g.pos i) i),
      sum-add (one g.pos) (λ i. length (only (λ g. eqb g.pos i) gs)) k n,
      one-once g.pos k n,
      groups-once gs k n,
    )
  where
    more : (b : Bool) (i : ℕ) → length (cond b (g ∷ only (λ g. eqb g.pos i) gs) (only (λ g. eqb g.pos i) gs)) ≤ cond b 1 0 + length (only (λ g. eqb g.pos i) gs)
    more true i = omega arith
    more false i = omega arith

-- ---- the branches of a chain

parts_in : List reading.Carbon → ℕ
parts_in [] = 0
parts_in (c ∷ cs) = length c.parts + parts_in cs

parts-append : (cs ds : List reading.Carbon) → parts_in (cs ++ ds) ≡ parts_in cs + parts_in ds
unfolding parts_in
parts-append [] ds = omega arith
parts-append (c ∷ cs) ds = omega (arith, parts-append cs ds)

parts-values : (f : ℕ → reading.Carbon) (k n : ℕ) → parts_in (values_from f k n) ≡ sum_from (λ i. length (f i).parts) k n
unfolding parts_in values_from sum_from
parts-values f k zero = refl
parts-values f k (suc n) = ap (λ (z : ℕ). length (f k).parts + z) (parts-values f (suc k) n)

parts-pairs : (n : ℕ) → parts_in (pairs n) ≡ 0
unfolding parts_in pairs
parts-pairs zero = refl
parts-pairs (suc n) = omega (arith, parts-pairs n)

parts-flexible : (m n : ℕ) → parts_in (flexible m n) ≡ 0
unfolding parts_in flexible
parts-flexible m zero = refl
parts-flexible m (suc n) = omega (arith, parts-append (pairs (suc n)) (bare 0 ∷ []), parts-pairs (suc n))

carbonyl-one : (r : Role) (p : ChainPrefix) (i : ℕ) → length (carbonyl r p i) ≤ one 1 i
unfolding carbonyl one
carbonyl-one r p i = go (is_acyl r p) (eqb i 1) refl
  where
    go : (a b : Bool) → eqb i 1 ≡ b → length {A = Part} (cond a (cond b (branch_part keto ∷ []) []) []) ≤ cond (eqb 1 i) 1 0
    go true true e = rw (eq-eqb 1 i (sym (eqb-true i 1 e))) (omega arith)
    go true false e = omega arith
    go false b e = omega arith

-- the carbonyl O, and no more than all groups
parts-few : (r : Role) (d : Chain) → parts_in (carbons r d) ≤ 1 + length (groups_on r d)
unfolding carbons literal carbon_at groups_at branches
parts-few r d =
    let f : ℕ = first_drawn r in
    let n : ℕ = suc (literal_end r d) - f in
    omega (
      arith,
      parts-append (literal r d) (flexible (mark_of (bond_at r d (literal_end r d))) d.unlocated),
      parts-flexible (mark_of (bond_at r d (literal_end r d))) d.unlocated,
      parts-values (carbon_at r d) f n,
      sum-le (λ i. length (carbon_at r d i).parts) (λ i. one 1 i + length (only (λ g. eqb g.pos i) (groups_on r d))) f n (λ i. each i),
      sum-add (one 1) (λ i. length (only (λ g. eqb g.pos i) (groups_on r d))) f n,
      one-once 1 f n,
      groups-once (groups_on r d) f n,
    )
  where
    each : (i : ℕ) → length (carbonyl r d.prefix i ++ branches (groups_at r d i)) ≤ one 1 i + length (only (λ g. eqb g.pos i) (groups_on r d))
    each i =
        omega (
          arith,
          length-append (carbonyl r d.prefix i) (branches (groups_at r d i)),
          length-map (groups_at r d i) (λ g. branch_part g.row),
          carbonyl-one r d.prefix i,
        )

-- ---- the atoms

parts_end-most : (n : ℕ) (ps : List Part) → All Branch ps → parts_end n ps ≤ n + 5 * length ps
unfolding parts_end
parts_end-most n [] h = omega arith
parts_end-most n (p ∷ ps) h = omega (arith, h.0.few, parts_end-most (n + p.size) ps h.1)

bridge_end-most : (b : Bool) (n : ℕ) → bridge_end b n ≤ suc n
unfolding bridge_end
bridge_end-most true n = omega arith
bridge_end-most false n = omega arith

-- a carbon is one atom and has at most one bridge, a branch has at most five atoms
chain_end-most : (n : ℕ) (cs : List reading.Carbon) → All CarbonFine cs → chain_end n cs ≤ n + 2 * length cs + 5 * parts_in cs
unfolding chain_end carbon_end parts_in
chain_end-most n [] h = omega arith
chain_end-most n (c ∷ cs) h =
    omega (
      arith,
      parts_end-most (suc n) c.parts h.0.parts,
      bridge_end-most c.bridge (parts_end (suc n) c.parts),
      chain_end-most (bridge_end c.bridge (parts_end (suc n) c.parts)) cs h.1,
    )

float_end-most : (n : ℕ) (ps : List Part) → All Branch ps → float_end n ps ≤ n + 6 * length ps
unfolding float_end
float_end-most n [] h = omega arith
float_end-most n (p ∷ ps) h = omega (arith, h.0.few, float_end-most (suc n + p.size) ps h.1)

-- 2 for each of 255 carbons, 5 for each of 18 groups and the carbonyl O, 6 for each of 16 floating groups
pub atoms-most : (r : Role) (d : Chain) (n : ℕ) → Drawable r d → atoms_end r d n ≤ n + 701
unfolding atoms_end
atoms-most r d n a =
    omega (
      arith,
      float_end-most (chain_end n (carbons r d)) (floats d) (floats-read d a.sound).0,
      (floats-read d a.sound).1,
      chain_end-most n (carbons r d) (carbons-fine r d a.sound),
      parts-few r d,
      (groups-table r d a.sound).1,
      length-carbons r d,
      first_one r,
      drawn-most r d a,
      carbon-most r d a,
    )
