-- The numbers of a chain's atoms: its carbons rise, its marks stand on carbons, its floating atoms come after them, and all of them lie
-- between its first atom and the one after its last.
-- Assumes nothing.
use Prim.Native.Nat.{ℕ, zero, suc, ◌+◌, ◌-◌, ◌*◌, ◌≤◌, ◌<◌}
use native.Mathlib.Omega.{arith}
use mathlib.Core.Path.{◌≡◌, refl, ap, ◌∙◌}
use mathlib.Core.Logic.{◌≢◌}
use mathlib.Core.Bool.{Bool, true, false, cond}
use mathlib.Core.List.{List, [], ◌∷◌, ◌++◌, append-nil}
use lib.ListN.{length, length-append, length-drop}
use lib.Dec.{eqb}
use borrow.Author.Tests.{ne_eqb}
use Rattle.chain_record.specs.declared.plain.Mod.{Mod}
use Rattle.chain_record.specs.plain.Chain.{Chain}
use Rattle.reading_rules.specs.reading.Part.{Part}
use Rattle.reading_rules.specs.reading.Chain as reading
use Rattle.reading_rules.specs.reading.Chain.{parts_end, bridge_end, carbon_end, chain_end, atom_from, atom_of, float_end}
use Rattle.reading_rules.specs.reading.Molecule.{At, at, atoms_of, notes_of, sum}
use Rattle.reading_rules.specs.reading.Line.{distinct, times, summed}
use Rattle.reading_rules.proofs.reading.PartingLaws.{All, NonEmpty}
use Rattle.reading_rules.proofs.reading.ListLaws.{distinct-times}
use Rattle.reading_rules.proofs.reading.Chain.{carbon_end-lt, atom_from-le, atom_of-rises}
use Rattle.chain_rules.specs.declared.chain.Role.{Role}
use Rattle.chain_rules.specs.chain.Lists.{values_from}
use Rattle.chain_rules.specs.chain.Features.{first_drawn, floating, literal_end, remaining, flexible_count, drawn_count, site_skip}
use Rattle.chain_rules.specs.chain.Bonds.{bond_at, mark_of}
use Rattle.chain_rules.specs.chain.Drawing.{branches, literal, bare, pairs, flexible, carbons, floats, carbon_atoms, flexible_atom, mark_list, marks, variables, sums, site_atoms, site_lists, sites, atoms_end}
use Rattle.chain_rules.proofs.chain.Lists.{Rises, rises-from, rises-to, rises-append, rises-drop, rises-distinct, rises-values, all_append, all-values, length-values, times-value}
use Rattle.chain_rules.proofs.chain.Accepted.{Drawable, site_left}
use Rattle.chain_rules.proofs.chain.Fits.{length-carbons, length-literal}

-- ---- along a chain

pub chain_end-le : (n : ℕ) (cs : List reading.Carbon) → n ≤ chain_end n cs
unfolding chain_end
chain_end-le n [] = omega arith
chain_end-le n (c ∷ cs) = omega (arith, carbon_end-lt n c, chain_end-le (carbon_end n c) cs)

chain_end-append : (n : ℕ) (cs ds : List reading.Carbon) → chain_end n (cs ++ ds) ≡ chain_end (chain_end n cs) ds
unfolding chain_end
chain_end-append n [] ds = refl
chain_end-append n (c ∷ cs) ds = chain_end-append (carbon_end n c) cs ds

-- a carbon's atom is before the chain's end
atom_from-within : (cs : List reading.Carbon) (n j : ℕ) → j < length cs → atom_from n cs j < chain_end n cs
unfolding atom_from chain_end
atom_from-within [] n j h = absurd (omega arith)
atom_from-within (c ∷ cs) n zero h = omega (arith, carbon_end-lt n c, chain_end-le (carbon_end n c) cs)
atom_from-within (c ∷ cs) n (suc j) h = atom_from-within cs (carbon_end n c) j (omega arith)

atom_from-append : (cs ds : List reading.Carbon) (n j : ℕ) → atom_from n (cs ++ ds) (length cs + j) ≡ atom_from (chain_end n cs) ds j
unfolding atom_from chain_end
atom_from-append [] ds n j = ap (atom_from n ds) (omega arith)
atom_from-append (c ∷ cs) ds n j =
    let e : suc (length cs) + j ≡ suc (length cs + j) = omega arith in
    rw e (atom_from-append cs ds (carbon_end n c) j)

-- ---- bare carbons are one atom each

abbrev Bare : reading.Carbon → Type 0
Bare c = (m : ℕ) × (c ≡ bare m)

bare-end : (n m : ℕ) → carbon_end n (bare m) ≡ suc n
unfolding carbon_end parts_end bridge_end
bare-end n m = refl

bare-atoms : (cs : List reading.Carbon) (n j : ℕ) → All Bare cs → atom_from n cs j ≡ n + j
unfolding atom_from
bare-atoms [] n j h = refl
bare-atoms (c ∷ cs) n zero h = omega arith
bare-atoms (c ∷ cs) n (suc j) h =
    let e : carbon_end n c ≡ suc n = ap (carbon_end n) h.0.1 ∙ bare-end n h.0.0 in
    omega (arith, bare-atoms cs (carbon_end n c) j h.1)

bare-chain : (cs : List reading.Carbon) (n : ℕ) → All Bare cs → chain_end n cs ≡ n + length cs
unfolding chain_end
bare-chain [] n h = omega arith
bare-chain (c ∷ cs) n h =
    let e : carbon_end n c ≡ suc n = ap (carbon_end n) h.0.1 ∙ bare-end n h.0.0 in
    omega (arith, bare-chain cs (carbon_end n c) h.1)

pairs-bare : (n : ℕ) → All Bare (pairs n)
unfolding pairs
pairs-bare zero = tt
pairs-bare (suc n) = ((0, refl), ((61, refl), pairs-bare n))

flexible-bare : (m n : ℕ) → All Bare (flexible m n)
unfolding flexible
flexible-bare m zero = tt
flexible-bare m (suc n) = ((m, refl), all_append Bare (pairs (suc n)) (bare 0 ∷ []) (pairs-bare (suc n)) ((0, refl), tt))

-- ---- the carbons of a chain

module _ (r : Role) (d : Chain) (n : ℕ) where
  rising-atoms : (i : ℕ) → first_drawn r ≤ i → atom_of (first_drawn r) n (carbons r d) i < atom_of (first_drawn r) n (carbons r d) (suc i)
  rising-atoms i h = atom_of-rises (first_drawn r) n (carbons r d) i (suc i) h (omega arith)

  -- "C k for k = f..c": as many as are drawn
  pub carbon-atoms-count : length (carbon_atoms r d n) ≡ drawn_count r d
  unfolding carbon_atoms
  carbon-atoms-count = length-values (atom_of (first_drawn r) n (carbons r d)) (first_drawn r) (length (carbons r d)) ∙ length-carbons r d

  -- they rise, so that none stands there twice, and lie before the chain's floating parts
  pub carbon-atoms-rise : Rises n (chain_end n (carbons r d)) (carbon_atoms r d n)
  unfolding carbon_atoms atom_of
  carbon-atoms-rise =
      rises-values (atom_of (first_drawn r) n (carbons r d)) (first_drawn r) (length (carbons r d)) n (chain_end n (carbons r d)) rising-atoms
      (omega (arith, atom_from-le (carbons r d) n (first_drawn r - first_drawn r))) (chain_end-le n (carbons r d))
      (λ i h g. atom_from-within (carbons r d) n (i - first_drawn r) (omega arith))

  pub carbon-atoms-distinct : distinct (carbon_atoms r d n) ≡ true
  carbon-atoms-distinct = rises-distinct n (chain_end n (carbons r d)) (carbon_atoms r d n) carbon-atoms-rise

  -- ---- the flexible carbons

  flex : List reading.Carbon
  flex = flexible (mark_of (bond_at r d (literal_end r d))) d.unlocated

  length-flex : d.unlocated ≢ 0 → length flex ≡ 2 * d.unlocated + 2
  unfolding flex drawn_count flexible_count carbons
  length-flex h =
      let e : cond (eqb d.unlocated 0) 0 (2 * d.unlocated + 2) ≡ 2 * d.unlocated + 2 = rw (ne_eqb d.unlocated 0 h) in
      omega (arith, length-append (literal r d) flex, length-carbons r d, length-literal r d)

  flexible-end : chain_end n (carbons r d) ≡ flexible_atom r d n + length flex
  unfolding flex carbons flexible_atom
  flexible-end =
      chain_end-append n (literal r d) flex ∙ bare-chain flex (chain_end n (literal r d)) (flexible-bare (mark_of (bond_at r d (literal_end r d))) d.unlocated)

  pub flexible-from : n ≤ flexible_atom r d n
  unfolding flexible_atom
  flexible-from = chain_end-le n (literal r d)

  -- the j-th flexible carbon is the j-th atom from P on
  pub flexible-atom : (j : ℕ) → atom_of (first_drawn r) n (carbons r d) (first_drawn r + (length (literal r d) + j)) ≡ flexible_atom r d n + j
  unfolding atom_of carbons flexible_atom flex
  flexible-atom j =
      let e : first_drawn r + (length (literal r d) + j) - first_drawn r ≡ length (literal r d) + j = omega arith in
      rw e (atom_from-append (literal r d) flex n j ∙ bare-atoms flex (chain_end n (literal r d)) j (flexible-bare (mark_of (bond_at r d (literal_end r d))) d.unlocated))

  -- so it stands once among the carbons
  flexible-once : (j : ℕ) → j < length flex → times (flexible_atom r d n + j) (carbon_atoms r d n) ≡ 1
  unfolding carbon_atoms carbons flex
  flexible-once j h =
      let k : ℕ = first_drawn r + (length (literal r d) + j) in
      let some : 1 ≤ times (atom_of (first_drawn r) n (carbons r d) k) (carbon_atoms r d n) =
      times-value (atom_of (first_drawn r) n (carbons r d)) (first_drawn r) (length (carbons r d)) k (omega arith) (omega (arith, length-append (literal r d) flex))
      in
      let most : times (flexible_atom r d n + j) (carbon_atoms r d n) ≤ 1 = distinct-times (carbon_atoms r d n) carbon-atoms-distinct (flexible_atom r d n + j) in
      omega (arith, ap (λ (z : ℕ). times z (carbon_atoms r d n)) (flexible-atom j))

-- ---- what stands at atoms

pub atoms_of-append : {A : Type 0} (ms ns : List (At A)) → atoms_of (ms ++ ns) ≡ atoms_of ms ++ atoms_of ns
unfolding atoms_of
atoms_of-append [] ns = refl
atoms_of-append (at i a ∷ ms) ns = ap (λ (z : List ℕ). i ∷ z) (atoms_of-append ms ns)

pub notes_of-append : {A : Type 0} (ms ns : List (At A)) → notes_of (ms ++ ns) ≡ notes_of ms ++ notes_of ns
unfolding notes_of
notes_of-append [] ns = refl
notes_of-append {A} (at i a ∷ ms) ns = ap (λ (z : List A). a ∷ z) (notes_of-append ms ns)

atoms_of-values : {A : Type 0} (f : ℕ → ℕ) (g : ℕ → A) (k n : ℕ) → atoms_of (values_from (λ i. at (f i) (g i)) k n) ≡ values_from f k n
unfolding atoms_of values_from
atoms_of-values f g k zero = refl
atoms_of-values f g k (suc n) = ap (λ (z : List ℕ). f k ∷ z) (atoms_of-values f g (suc k) n)

notes_of-values : {A : Type 0} (f : ℕ → ℕ) (g : ℕ → A) (k n : ℕ) → notes_of (values_from (λ i. at (f i) (g i)) k n) ≡ values_from g k n
unfolding notes_of values_from
notes_of-values f g k zero = refl
notes_of-values {A} f g k (suc n) = ap (λ (z : List A). g k ∷ z) (notes_of-values f g (suc k) n)

-- values go on
values-more : {A : Type 0} (g : ℕ → A) (k n : ℕ) → values_from g k n ++ g (k + n) ∷ [] ≡ values_from g k (suc n)
unfolding values_from
values-more {A} g k zero = let e : k + 0 ≡ k = omega arith in rw e
values-more {A} g k (suc n) =
    let e : k + suc n ≡ suc k + n = omega arith in
    ap (λ (z : List A). g k ∷ z) (rw e (values-more g (suc k) n))

-- ---- the marks

pub marked-atoms : (p v n : ℕ) → atoms_of (mark_list p v (suc n)) ≡ values_from (λ i. p + 2 * i) 0 (suc n) ++ (p + 2 * suc n + 1) ∷ []
unfolding mark_list atoms_of
marked-atoms p v n =
    atoms_of-append (values_from (λ i. at (p + 2 * i) (v + i)) 0 (suc n)) (at (p + 2 * suc n + 1) (v + suc n) ∷ [])
    ∙ ap (λ (z : List ℕ). z ++ (p + 2 * suc n + 1) ∷ []) (atoms_of-values (λ i. p + 2 * i) (λ i. v + i) 0 (suc n))

marked-notes : (p v n : ℕ) → notes_of (mark_list p v (suc n)) ≡ values_from (λ i. v + i) 0 (suc (suc n))
unfolding mark_list notes_of
marked-notes p v n =
    let e : 0 + suc n ≡ suc n = omega arith in
    notes_of-append (values_from (λ i. at (p + 2 * i) (v + i)) 0 (suc n)) (at (p + 2 * suc n + 1) (v + suc n) ∷ [])
    ∙ (ap (λ (z : List ℕ). z ++ (v + suc n) ∷ []) (notes_of-values (λ i. p + 2 * i) (λ i. v + i) 0 (suc n)) ∙ rw e at (values-more (λ i. v + i) 0 (suc n)))

mark_list-rises : (p v n : ℕ) → Rises p (p + 2 * suc n + 2) (atoms_of (mark_list p v (suc n)))
mark_list-rises p v n =
    rw (marked-atoms p v n)
    (rises-append p (p + 2 * suc n) (p + 2 * suc n + 2) (values_from (λ i. p + 2 * i) 0 (suc n)) ((p + 2 * suc n + 1) ∷ [])
    (rises-values (λ i. p + 2 * i) 0 (suc n) p (p + 2 * suc n) (λ i h. omega arith) (omega arith) (omega arith) (λ i h g. omega arith)) (omega arith, omega arith))

-- every fact of P, P+1, .. up to P+2n+1 is one of each marked atom
mark_list-all : (Q : ℕ → Type 0) (p v n : ℕ) → ((j : ℕ) → j < 2 * suc n + 2 → Q (p + j)) → All Q (atoms_of (mark_list p v (suc n)))
mark_list-all Q p v n h =
    let e : p + 2 * suc n + 1 ≡ p + (2 * suc n + 1) = omega arith in
    rw (marked-atoms p v n)
    (all_append Q (values_from (λ i. p + 2 * i) 0 (suc n)) ((p + 2 * suc n + 1) ∷ [])
    (all-values Q (λ i. p + 2 * i) 0 (suc n) (λ i a b. h (2 * i) (omega arith))) (rw e (h (2 * suc n + 1) (omega arith)), tt))

length-atoms_of : {A : Type 0} (ms : List (At A)) → length (atoms_of ms) ≡ length ms
unfolding atoms_of
length-atoms_of [] = refl
length-atoms_of (at i a ∷ ms) = ap suc (length-atoms_of ms)

-- a mark for each variable
pub variables-notes : (p v u : ℕ) → notes_of (mark_list p v u) ≡ values_from (λ i. v + i) 0 (cond (eqb u 0) 0 (suc u))
unfolding mark_list notes_of values_from
variables-notes p v zero = refl
variables-notes p v (suc u) = rw (ne_eqb (suc u) 0 (λ e. omega arith)) (marked-notes p v u)

module _ (r : Role) (d : Chain) (n v : ℕ) where
  -- the marked atoms rise, and lie among the chain's carbons
  pub marks-rise : Rises n (chain_end n (carbons r d)) (atoms_of (marks r d n v))
  unfolding marks
  marks-rise = go d.unlocated refl
    where
      go : (u : ℕ) → d.unlocated ≡ u → Rises n (chain_end n (carbons r d)) (atoms_of (mark_list (flexible_atom r d n) v u))
      go zero e = unfold mark_list atoms_of in chain_end-le n (carbons r d)
      go (suc u) e =
          rises-from n (flexible_atom r d n) (chain_end n (carbons r d)) (atoms_of (mark_list (flexible_atom r d n) v (suc u))) (flexible-from r d n)
          (rises-to (flexible_atom r d n) (flexible_atom r d n + 2 * suc u + 2) (chain_end n (carbons r d)) (atoms_of (mark_list (flexible_atom r d n) v (suc u)))
          (mark_list-rises (flexible_atom r d n) v u) (omega (arith, flexible-end r d n, length-flex r d n (λ z. omega arith))))

  -- each stands once among them
  pub marks-carbons : All (λ i. times i (carbon_atoms r d n) ≡ 1) (atoms_of (marks r d n v))
  unfolding marks
  marks-carbons = go d.unlocated refl
    where
      go : (u : ℕ) → d.unlocated ≡ u → All (λ i. times i (carbon_atoms r d n) ≡ 1) (atoms_of (mark_list (flexible_atom r d n) v u))
      go zero e = unfold mark_list atoms_of in tt
      go (suc u) e =
          mark_list-all (λ i. times i (carbon_atoms r d n) ≡ 1) (flexible_atom r d n) v u
          (λ j h. flexible-once r d n j (omega (arith, length-flex r d n (λ z. omega arith))))

  -- the variables are v, v + 1, .., in the order of the text
  pub marks-notes : notes_of (marks r d n v) ≡ values_from (λ i. v + i) 0 (variables d)
  unfolding marks variables
  marks-notes = variables-notes (flexible_atom r d n) v d.unlocated

  -- and the sum has the same
  pub sums-notes : summed (sums r d v) ≡ values_from (λ i. v + i) 0 (variables d)
  unfolding sums summed variables values_from
  sums-notes = go (eqb d.unlocated 0)
    where
      go : (b : Bool)
          → summed (cond b [] (sum (values_from (λ i. v + i) 0 (cond b 0 (suc d.unlocated))) (remaining r d - d.unlocated - 1) ∷ []))
          ≡ values_from (λ i. v + i) 0 (cond b 0 (suc d.unlocated))
      go true = refl
      go false = append-nil (values_from (λ i. v + i) 0 (suc d.unlocated))

pub variables-rise : (v k : ℕ) → Rises v (v + k) (values_from (λ i. v + i) 0 k)
variables-rise v k = rises-values (λ i. v + i) 0 k v (v + k) (λ i h. omega arith) (omega arith) (omega arith) (λ i h g. omega arith)

-- ---- the floating parts

pub float_end-le : (n : ℕ) (ps : List Part) → n ≤ float_end n ps
unfolding float_end
float_end-le n [] = omega arith
float_end-le n (p ∷ ps) = omega (arith, float_end-le (suc n + p.size) ps)

site_lists-rise : (js : List ℕ) (m : ℕ) (ps : List Part) → Rises m (float_end m ps) (atoms_of (site_lists js m ps))
unfolding site_lists atoms_of float_end
site_lists-rise js m [] = omega arith
site_lists-rise js m (p ∷ ps) =
    (omega arith, rises-from (suc m) (suc m + p.size) (float_end (suc m + p.size) ps) (atoms_of (site_lists js (suc m + p.size) ps)) (omega arith) (site_lists-rise js (suc m + p.size) ps))

site_lists-all : (P : List ℕ → Type 0) (js : List ℕ) (m : ℕ) (ps : List Part) → (NonEmpty ps → P js) → All P (notes_of (site_lists js m ps))
unfolding site_lists notes_of
site_lists-all P js m [] h = tt
site_lists-all P js m (p ∷ ps) h = (h tt, site_lists-all P js (suc m + p.size) ps (λ z. h tt))

module _ (r : Role) (d : Chain) (n : ℕ) where
  -- the floating atoms rise, and come after all of the chain's carbons: so none is marked
  pub sites-rise : Rises (chain_end n (carbons r d)) (atoms_end r d n) (atoms_of (sites r d n))
  unfolding sites atoms_end
  sites-rise = site_lists-rise (site_atoms r d n) (chain_end n (carbons r d)) (floats d)

  pub atoms_end-le : chain_end n (carbons r d) ≤ atoms_end r d n
  unfolding atoms_end
  atoms_end-le = float_end-le (chain_end n (carbons r d)) (floats d)

  -- a site list holds carbons of the chain, each once
  pub sites-carbons : All (λ js. Rises n (chain_end n (carbons r d)) js) (notes_of (sites r d n))
  unfolding sites site_atoms
  sites-carbons =
      site_lists-all (λ js. Rises n (chain_end n (carbons r d)) js) (site_atoms r d n) (chain_end n (carbons r d)) (floats d)
      (λ z. rises-drop (site_skip r d) n (chain_end n (carbons r d)) (carbon_atoms r d n) (carbon-atoms-rise r d n))

  -- and is not empty
  pub sites-some : Drawable r d → All NonEmpty (notes_of (sites r d n))
  unfolding sites site_atoms floats branches
  sites-some a =
      site_lists-all NonEmpty (site_atoms r d n) (chain_end n (carbons r d)) (floats d)
      (λ z. some_left (site_atoms r d n) (omega (arith, length-drop (site_skip r d) (carbon_atoms r d n), carbon-atoms-count r d n, site_left r d a (unmapped (floating d) z))))
    where
      some_left : (js : List ℕ) → 0 < length js → NonEmpty js
      some_left [] h = absurd (omega arith)
      some_left (j ∷ js) h = tt

      unmapped : (gs : List Mod) → NonEmpty (branches gs) → NonEmpty gs
      unmapped [] z = z
      unmapped (g ∷ gs) z = tt
