-- How long the marks, the site lists and the sum of a chain are. Assumes nothing.
use Prim.Native.Nat.{ℕ, zero, suc, ◌+◌, ◌-◌, ◌*◌, ◌≤◌}
use native.Mathlib.Omega.{arith}
use mathlib.Core.Path.{◌≡◌, refl}
use mathlib.Core.Bool.{Bool, true, false, cond}
use mathlib.Core.List.{List, [], ◌∷◌, ◌++◌, map}
use lib.Dec.{eqb}
use lib.ListN.{length, drop, length-append, length-drop}
use Rattle.chain_record.specs.plain.Chain.{Chain}
use Rattle.reading_rules.specs.reading.Part.{Part}
use Rattle.reading_rules.specs.reading.Chain.{chain_end}
use Rattle.reading_rules.specs.reading.Molecule.{at, Sum, sum}
use Rattle.reading_rules.specs.reading.Show.{show_mark, show_sites, show_sum}
use Rattle.reading_rules.proofs.reading.PartingLaws.{All, all_map}
use Rattle.chain_rules.specs.declared.chain.Role.{Role}
use Rattle.chain_rules.specs.chain.Lists.{values_from, Each}
use Rattle.chain_rules.specs.chain.Features.{first_drawn, groups_on, floating, literal_end, remaining, drawn_count, site_skip}
use Rattle.chain_rules.specs.chain.Bonds.{bond_at, mark_of}
use Rattle.chain_rules.specs.chain.Drawing.{literal, flexible, carbons, floats, carbon_atoms, flexible_atom, mark_list, marks, variables, sums, site_atoms, site_lists, sites}
use Rattle.chain_rules.proofs.chain.Lists.{each_all, all_append, all_right, all_drop, all-values, length-values}
use Rattle.chain_rules.proofs.chain.Fits.{length-carbons}
use Rattle.template_rules.specs.Drawn.{Placed, all_marks, all_sites, all_sums}
use Rattle.template_rules.specs.Written.{head_carbons, indices_of}
use Rattle.placement.specs.chain_notes.Fragment.{summed, Told}
use Rattle.class_lines.specs.longest.Longest.{drawn_most, sites_most}
use Rattle.class_lines.proofs.longest.Blocks.{total, total-map, Numbered, mark-few, Sited, sites-few, Summed, sum-few}
use Rattle.class_lines.proofs.longest.Texts.{Short, chain-end, parts-append, parts-few, literal-light, carbons-light, floats-short, length-floats, drawn-few}

-- a chain whose numbers are not large
pub record Modest (r : Role) (d : Chain) : Type 0 where
  pub drawn : drawn_count r d ≤ 256
  pub groups : length (groups_on r d) ≤ 18
  pub floats : length (floating d) ≤ 18
  pub unlocated : d.unlocated ≤ 65535
  pub carbon : d.carbon ≤ 65535

-- ---- lists of marks, site lists and sums

marks-numbered : (p v u : ℕ) → p + 2 * u + 1 ≤ 4294967295 → All Numbered (mark_list p v u)
unfolding mark_list
marks-numbered p v zero h = tt
marks-numbered p v (suc u) h =
    all_append Numbered (values_from (λ i. at (p + 2 * i) (v + i)) 0 (suc u)) (at (p + 2 * suc u + 1) (v + suc u) ∷ [])
    (all-values Numbered (λ i. at (p + 2 * i) (v + i)) 0 (suc u) (λ i a b. omega arith)) (h, tt)

marks-total : (p v u : ℕ) → p + 2 * u + 1 ≤ 4294967295 → total (map show_mark (mark_list p v u)) ≤ 22 * u + 22
unfolding mark_list total
marks-total p v zero h = omega arith
marks-total p v (suc u) h =
    omega (
      arith,
      total-map show_mark 22 (mark_list p v (suc u)) (all_map {P = Numbered} mark-few (mark_list p v (suc u)) (marks-numbered p v (suc u) h)),
      length-append (values_from (λ i. at (p + 2 * i) (v + i)) 0 (suc u)) (at (p + 2 * suc u + 1) (v + suc u) ∷ []),
      length-values (λ i. at (p + 2 * i) (v + i)) 0 (suc u),
    )

sites-well : (n m : ℕ) (js : List ℕ) (ps : List Part) → All (λ j. j ≤ 65535) js → length js ≤ n → All Short ps → m + 13 * length ps ≤ 4294967295
    → All (Sited n) (site_lists js m ps)
unfolding site_lists
sites-well n m js [] a l s h = tt
sites-well n m js (p ∷ ps) a l s h = ((omega arith, (a, l)), sites-well n (suc m + p.size) js ps a l s.1 (omega (arith, s.0.atoms)))

length-sites : (js : List ℕ) (m : ℕ) (ps : List Part) → length (site_lists js m ps) ≡ length ps
unfolding site_lists
length-sites js m [] = refl
length-sites js m (p ∷ ps) = omega (arith, length-sites js (suc m + p.size) ps)

-- ---- a chain

-- its marks and sum, and a site list for each floating group
unfoldable pub block_most : Role → Chain → ℕ
unfolding sites_most
block_most r d = sites_most (drawn_most d.carbon d.unlocated) (length (floating d)) + 25 * d.unlocated + 50

module _ (r : Role) (d : Chain) (h : Modest r d) where
  -- few atoms come before any of its carbons
  carbons-soon : (n : ℕ) → chain_end n (carbons r d) ≤ n + 2000
  carbons-soon n =
      omega (arith, chain-end n (carbons r d) (carbons-light r d), parts-few r d, length-carbons r d, h.drawn, h.groups)

  literal-soon : (n : ℕ) → chain_end n (literal r d) ≤ n + 2000
  unfolding carbons
  literal-soon n =
      let more = flexible (mark_of (bond_at r d (literal_end r d))) d.unlocated in
      omega (
        arith,
        chain-end n (literal r d) (literal-light r d),
        parts-append (literal r d) more,
        parts-few r d,
        length-append (literal r d) more,
        length-carbons r d,
        h.drawn,
        h.groups,
      )

  marks-most : (n v : ℕ) → n ≤ 4294000000 → total (map show_mark (marks r d n v)) ≤ 22 * d.unlocated + 22
  unfolding marks flexible_atom
  marks-most n v g =
      marks-total (chain_end n (literal r d)) v d.unlocated
      (omega (arith, literal-soon n, h.unlocated))

  sums-most : (v : ℕ) → total (map show_sum (sums r d v)) ≤ 3 * d.unlocated + 26
  unfolding sums total variables remaining
  sums-most v = go (eqb d.unlocated 0)
    where
      few : (b : Bool) → cond b 0 (suc d.unlocated) ≤ suc d.unlocated
      few true = omega arith
      few false = omega arith

      the : Sum
      the = sum (values_from (λ i. v + i) 0 (variables d)) (remaining r d - d.unlocated - 1)

      well : Summed (suc d.unlocated) the
      well = (omega (arith, h.carbon), omega (arith, length-values (λ i. v + i) 0 (variables d), few (eqb d.unlocated 0)))

      go : (b : Bool) → total (map show_sum (cond b [] (the ∷ []))) ≤ 3 * d.unlocated + 26
      go true = omega arith
      go false = omega (arith, sum-few (suc d.unlocated) the well)

  length-atoms : (n : ℕ) → length (carbon_atoms r d n) ≡ length (carbons r d)
  unfolding carbon_atoms
  length-atoms n = length-values _ (first_drawn r) (length (carbons r d))

  sites-most : (n : ℕ) → n ≤ 4294000000 → All (λ j. j ≤ 65535) (carbon_atoms r d n)
      → total (map show_sites (sites r d n)) ≤ length (floating d) * (14 + 6 * drawn_most d.carbon d.unlocated)
  unfolding sites site_atoms
  sites-most n g a =
      let js = drop (site_skip r d) (carbon_atoms r d n) in
      let m = chain_end n (carbons r d) in
      let w = drawn_most d.carbon d.unlocated in
      let few : length js ≤ w = omega (arith, length-drop (site_skip r d) (carbon_atoms r d n), length-atoms n, drawn-few r d) in
      let soon : m + 13 * length (floats d) ≤ 4294967295 = omega (arith, carbons-soon n, length-floats r d, h.floats) in
      let well : All (Sited w) (site_lists js m (floats d)) =
      sites-well w m js (floats d) (all_drop (λ j. j ≤ 65535) (site_skip r d) (carbon_atoms r d n) a) few (floats-short r d) soon
      in
      rw (length-sites js m (floats d), length-floats r d) at
      (total-map show_sites (14 + 6 * w) (site_lists js m (floats d)) (all_map {P = Sited w} (sites-few w) (site_lists js m (floats d)) well))

-- ---- all chains

-- a chain in its place
abbrev pub Kept : Placed → Type 0
Kept p = Modest p.role p.chain

blocks-of : (p : Placed) → Told p → Kept p
    → total (map show_mark (marks p.role p.chain p.first p.variable)) + (total (map show_sites (sites p.role p.chain p.first)) + total (map show_sum (sums p.role p.chain p.variable)))
    ≤ block_most p.role p.chain
unfolding block_most indices_of
blocks-of p t k =
    omega (
      arith,
      marks-most p.role p.chain k p.first p.variable t.first,
      sites-most p.role p.chain k p.first t.first
          (all_right (λ j. j ≤ 65535) (head_carbons p.role) (carbon_atoms p.role p.chain p.first) (each_all (λ j. j ≤ 65535) (indices_of p) t.indices)),
      sums-most p.role p.chain k p.variable,
    )

mapped : {A : Type 0} (f : A → List ℕ) (xs ys : List A) → total (map f (xs ++ ys)) ≡ total (map f xs) + total (map f ys)
unfolding total
mapped f [] ys = omega arith
mapped f (x ∷ xs) ys = omega (arith, mapped f xs ys)

pub blocks-most : (ps : List Placed) → Each Told ps → All Kept ps
    → total (map show_mark (all_marks ps)) + (total (map show_sites (all_sites ps)) + total (map show_sum (all_sums ps))) ≤ summed (λ p. block_most p.role p.chain) ps
unfolding all_marks all_sites all_sums summed total
blocks-most [] t k = omega arith
blocks-most (p ∷ ps) t k =
    omega (
      arith,
      mapped show_mark (marks p.role p.chain p.first p.variable) (all_marks ps),
      mapped show_sites (sites p.role p.chain p.first) (all_sites ps),
      mapped show_sum (sums p.role p.chain p.variable) (all_sums ps),
      blocks-of p t.0 k.0,
      blocks-most ps t.1 k.1,
    )
