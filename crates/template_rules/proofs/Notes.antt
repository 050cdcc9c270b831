-- What is said of the atoms of chains that stand one after the other: marks, sums, site lists and sn sites keep the rules of a line.
-- Assumes nothing.
use Prim.Native.Nat.{ℕ, suc, ◌+◌, ◌*◌, ◌≤◌, ◌<◌}
use native.Mathlib.Omega.{arith}
use mathlib.Core.Path.{◌≡◌, refl, sym, ap, ap₂, ◌∙◌}
use mathlib.Core.Logic.{◌≢◌}
use mathlib.Core.Bool.{Bool, true, false, cond}
use mathlib.Core.Option.{Option, none, some}
use mathlib.Core.List.{List, [], ◌∷◌, ◌++◌, append_assoc}
use lib.ListN.{length}
use lib.Dec.{eqb, ltb}
use borrow.Author.Tests.{ne_eqb, lt-ltb, le-ltb}
use Rattle.chain_record.specs.plain.Chain.{Chain}
use Rattle.reading_rules.specs.reading.Molecule.{At, at, atoms_of, notes_of, look, Sum, sum, variables_of}
use Rattle.reading_rules.specs.reading.Line.{flat, summed}
use Rattle.reading_rules.specs.reading.Chain.{chain_end}
use Rattle.reading_rules.proofs.reading.PartingLaws.{All, all_map, NonEmpty}
use Rattle.chain_rules.specs.declared.chain.Role.{Role}
use Rattle.chain_rules.specs.chain.Lists.{values_from}
use Rattle.chain_rules.specs.chain.Drawing as draw
use Rattle.chain_rules.specs.chain.Drawing.{carbons, carbon_atoms, atoms_end, variables}
use Rattle.chain_rules.specs.chain.Counts.{total, Counts, Meets}
use Rattle.chain_rules.proofs.chain.Lists.{Rises, rises-le, rises-from, rises-to, rises-append, rises-within, all_append, all_left, all_right}
use Rattle.chain_rules.proofs.chain.Accepted.{Drawable, drawn-some, unlocated-most}
use Rattle.chain_rules.proofs.chain.Atoms.{chain_end-le, atoms_end-le, carbon-atoms-rise, carbon-atoms-count, marks-rise, marks-notes, sums-notes, variables-rise, sites-rise, sites-carbons, sites-some, atoms_of-append, notes_of-append}
use Rattle.chain_rules.proofs.chain.Counts.{SumStands, sums-stand, Chosen, sums-chosen}
use Rattle.template_rules.specs.Drawn.{Placed, all_marks, all_sites, all_sums, site_note, sn_sites}
use Rattle.template_rules.proofs.Placing.{SiteFrom, Placing}

-- the atom after a chain's last
abbrev pub end_of : Placed → ℕ
end_of p = atoms_end p.role p.chain p.first

abbrev marks_of : Placed → List (At ℕ)
marks_of p = draw.marks p.role p.chain p.first p.variable

-- ---- where the chains stand

first-le : (p : Placed) → p.first ≤ end_of p
first-le p = omega (arith, chain_end-le p.first (carbons p.role p.chain), atoms_end-le p.role p.chain p.first)

pub placing-le : (lo hi v w : ℕ) (ps : List Placed) → Placing lo hi v w ps → lo ≤ hi
placing-le lo hi v w [] h = h.0
placing-le lo hi v w (p ∷ ps) h = omega (arith, h.0.from, first-le p, placing-le (end_of p) hi (v + variables p.chain) w ps h.1)

pub placing-within : (lo hi v w : ℕ) (ps : List Placed) → Placing lo hi v w ps → All (λ p. (lo ≤ p.first) × (end_of p ≤ hi)) ps
placing-within lo hi v w [] h = tt
placing-within lo hi v w (p ∷ ps) h = (
  (h.0.from, placing-le (end_of p) hi (v + variables p.chain) w ps h.1),
  all_map {P = λ (q : Placed). (end_of p ≤ q.first) × (end_of q ≤ hi)} (λ q g. (omega (arith, g.0, h.0.from, first-le p), g.1)) ps
      (placing-within (end_of p) hi (v + variables p.chain) w ps h.1),
)

pub placing-drawable : (lo hi v w : ℕ) (ps : List Placed) → Placing lo hi v w ps → All (λ p. Drawable p.role p.chain) ps
placing-drawable lo hi v w [] h = tt
placing-drawable lo hi v w (p ∷ ps) h = (h.0.drawable, placing-drawable (end_of p) hi (v + variables p.chain) w ps h.1)

-- ---- the marks

pub all-marks-rise : (lo hi v w : ℕ) (ps : List Placed) → Placing lo hi v w ps → Rises lo hi (atoms_of (all_marks ps))
unfolding all_marks
all-marks-rise lo hi v w [] h = unfold atoms_of in h.0
all-marks-rise lo hi v w (p ∷ ps) h =
    rw (atoms_of-append (marks_of p) (all_marks ps))
    (rises-append lo (end_of p) hi (atoms_of (marks_of p)) (atoms_of (all_marks ps))
    (rises-from lo p.first (end_of p) (atoms_of (marks_of p)) h.0.from
    (rises-to p.first (chain_end p.first (carbons p.role p.chain)) (end_of p) (atoms_of (marks_of p)) (marks-rise p.role p.chain p.first p.variable)
    (atoms_end-le p.role p.chain p.first)))
    (all-marks-rise (end_of p) hi (v + variables p.chain) w ps h.1))

-- variables are given in the order of the text
pub all-variables-rise : (lo hi v w : ℕ) (ps : List Placed) → Placing lo hi v w ps → Rises v w (notes_of (all_marks ps))
unfolding all_marks
all-variables-rise lo hi v w [] h = unfold notes_of in omega (arith, h.1)
all-variables-rise lo hi v w (p ∷ ps) h =
    let u : ℕ = v + variables p.chain in
    let e : notes_of (marks_of p) ≡ values_from (λ i. v + i) 0 (variables p.chain) =
    marks-notes p.role p.chain p.first p.variable ∙ ap (λ (z : ℕ). values_from (λ i. z + i) 0 (variables p.chain)) h.0.variable
    in
    rw (notes_of-append (marks_of p) (all_marks ps), e)
    (rises-append v u w (values_from (λ i. v + i) 0 (variables p.chain)) (notes_of (all_marks ps)) (variables-rise v (variables p.chain))
    (all-variables-rise (end_of p) hi u w ps h.1))

summed-append : (xs ys : List Sum) → summed (xs ++ ys) ≡ summed xs ++ summed ys
unfolding summed
summed-append [] ys = refl
summed-append (s ∷ xs) ys = ap (λ (z : List ℕ). variables_of s ++ z) (summed-append xs ys) ∙ sym (append_assoc (variables_of s) (summed xs) (summed ys))

-- the sums have the marked variables, in the same order
pub all-summed : (ps : List Placed) → summed (all_sums ps) ≡ notes_of (all_marks ps)
unfolding all_sums all_marks summed notes_of
all-summed [] = refl
all-summed (p ∷ ps) =
    summed-append (draw.sums p.role p.chain p.variable) (all_sums ps)
    ∙ (ap₂ (λ (x y : List ℕ). x ++ y) (sums-notes p.role p.chain p.first p.variable ∙ sym (marks-notes p.role p.chain p.first p.variable)) (all-summed ps)
    ∙ sym (notes_of-append (marks_of p) (all_marks ps)))

pub all-sums-stand : (ps : List Placed) → All (λ p. Drawable p.role p.chain) ps → All SumStands (all_sums ps)
unfolding all_sums
all-sums-stand [] h = tt
all-sums-stand (p ∷ ps) h =
    all_append SumStands (draw.sums p.role p.chain p.variable) (all_sums ps) (sums-stand p.role p.chain h.0 p.variable) (all-sums-stand ps h.1)

-- at most 127 variables for a chain
pub variables-most : (lo hi v w : ℕ) (ps : List Placed) → Placing lo hi v w ps → w ≤ v + 127 * length ps
variables-most lo hi v w [] h = omega (arith, h.1)
variables-most lo hi v w (p ∷ ps) h =
    omega (arith, few p.role p.chain h.0.drawable, variables-most (end_of p) hi (v + variables p.chain) w ps h.1)
  where
    few : (r : Role) (d : Chain) → Drawable r d → variables d ≤ 127
    few r d a = unfold variables in go (eqb d.unlocated 0)
      where
        go : (b : Bool) → cond b 0 (suc d.unlocated) ≤ 127
        go true = omega arith
        go false = omega (arith, unlocated-most r d a)

-- ---- the site lists

abbrev sites_of : Placed → List (At (List ℕ))
sites_of p = draw.sites p.role p.chain p.first

pub all-sites-rise : (lo hi v w : ℕ) (ps : List Placed) → Placing lo hi v w ps → Rises lo hi (atoms_of (all_sites ps))
unfolding all_sites
all-sites-rise lo hi v w [] h = unfold atoms_of in h.0
all-sites-rise lo hi v w (p ∷ ps) h =
    let m : ℕ = chain_end p.first (carbons p.role p.chain) in
    rw (atoms_of-append (sites_of p) (all_sites ps))
    (rises-append lo (end_of p) hi (atoms_of (sites_of p)) (atoms_of (all_sites ps))
    (rises-from lo m (end_of p) (atoms_of (sites_of p)) (omega (arith, h.0.from, chain_end-le p.first (carbons p.role p.chain))) (sites-rise p.role p.chain p.first))
    (all-sites-rise (end_of p) hi (v + variables p.chain) w ps h.1))

flat-all : (P : ℕ → Type 0) (xs : List (List ℕ)) → All (All P) xs → All P (flat xs)
unfolding flat
flat-all P [] h = tt
flat-all P (x ∷ xs) h = all_append P x (flat xs) h.0 (flat-all P xs h.1)

-- every site is an atom of the molecule, and no list of them is empty
pub all-sites-within : (lo hi v w : ℕ) (ps : List Placed) → Placing lo hi v w ps → All (All (λ i. i < hi)) (notes_of (all_sites ps))
unfolding all_sites
all-sites-within lo hi v w [] h = unfold notes_of in tt
all-sites-within lo hi v w (p ∷ ps) h =
    let m : ℕ = chain_end p.first (carbons p.role p.chain) in
    rw (notes_of-append (sites_of p) (all_sites ps))
    (all_append (All (λ i. i < hi)) (notes_of (sites_of p)) (notes_of (all_sites ps))
    (all_map {P = λ (js : List ℕ). Rises p.first m js}
    (λ js g.
    all_map {P = λ (i : ℕ). (p.first ≤ i) × (i < m)}
    (λ i q. omega (arith, q.1, atoms_end-le p.role p.chain p.first, placing-le (end_of p) hi (v + variables p.chain) w ps h.1)) js
    (rises-within p.first m js g)) (notes_of (sites_of p)) (sites-carbons p.role p.chain p.first))
    (all-sites-within (end_of p) hi (v + variables p.chain) w ps h.1))

pub all-sites-flat : (hi : ℕ) (fs : List (At (List ℕ))) → All (All (λ i. i < hi)) (notes_of fs) → All (λ i. i < hi) (flat (notes_of fs))
all-sites-flat hi fs h = flat-all (λ i. i < hi) (notes_of fs) h

pub all-sites-some : (ps : List Placed) → All (λ p. Drawable p.role p.chain) ps → All NonEmpty (notes_of (all_sites ps))
unfolding all_sites
all-sites-some [] h = unfold notes_of in tt
all-sites-some (p ∷ ps) h =
    rw (notes_of-append (sites_of p) (all_sites ps))
    (all_append NonEmpty (notes_of (sites_of p)) (notes_of (all_sites ps)) (sites-some p.role p.chain p.first h.0) (all-sites-some ps h.1))

-- ---- the sn sites

-- a chain has atoms
first-lt : (p : Placed) → Drawable p.role p.chain → p.first < end_of p
first-lt p a =
    go (carbon_atoms p.role p.chain p.first) (carbon-atoms-rise p.role p.chain p.first) (omega (arith, carbon-atoms-count p.role p.chain p.first, drawn-some p.role p.chain a))
  where
    m : ℕ
    m = chain_end p.first (carbons p.role p.chain)

    go : (is : List ℕ) → Rises p.first m is → 0 < length is → p.first < end_of p
    go [] h g = absurd (omega arith)
    go (i ∷ is) h g = omega (arith, h.0, rises-le (suc i) m is h.1, atoms_end-le p.role p.chain p.first)

pub sn-sites-rise : (lo hi v w : ℕ) (ps : List Placed) → Placing lo hi v w ps → Rises lo hi (atoms_of (sn_sites ps))
unfolding sn_sites
sn-sites-rise lo hi v w [] h = unfold atoms_of in h.0
sn-sites-rise lo hi v w (p ∷ ps) h =
    rw (atoms_of-append (site_note p.site p.sn) (sn_sites ps))
    (rises-append lo (end_of p) hi (atoms_of (site_note p.site p.sn)) (atoms_of (sn_sites ps)) (one p.site h.0.site)
    (sn-sites-rise (end_of p) hi (v + variables p.chain) w ps h.1))
  where
    one : (o : Option ℕ) → SiteFrom lo p.first o → Rises lo (end_of p) (atoms_of (site_note o p.sn))
    one none g = unfold atoms_of in omega (arith, h.0.from, first-le p)
    one (some i) g = unfold atoms_of in (g.0, omega (arith, g.1, first-lt p h.0.drawable))

-- ---- the marks of one chain among all

pub look-outside : {A : Type 0} (i : ℕ) (ms : List (At A)) → All (λ j. i ≢ j) (atoms_of ms) → look i ms ≡ none
unfolding look atoms_of
look-outside i [] h = refl
look-outside i (at j a ∷ ms) h = rw (ne_eqb i j h.0) (look-outside i ms h.1)

look-first : {A : Type 0} (i : ℕ) (ms ns : List (At A)) → look i ns ≡ none → look i (ms ++ ns) ≡ look i ms
unfolding look
look-first i [] ns h = h
look-first {A} i (at j a ∷ ms) ns h = ap (λ (z : Option A). cond (eqb i j) (some a) z) (look-first i ms ns h)

look-second : {A : Type 0} (i : ℕ) (ms ns : List (At A)) → All (λ j. i ≢ j) (atoms_of ms) → look i (ms ++ ns) ≡ look i ns
unfolding look atoms_of
look-second i [] ns h = refl
look-second i (at j a ∷ ms) ns h = rw (ne_eqb i j h.0) (look-second i ms ns h.1)

-- at an atom of a chain there is what the chain's own marks say
pub own-marks : (lo hi v w : ℕ) (ps : List Placed) → Placing lo hi v w ps
    → All (λ p. (i : ℕ) → p.first ≤ i → i < end_of p → look i (all_marks ps) ≡ look i (draw.marks p.role p.chain p.first p.variable)) ps
unfolding all_marks
own-marks lo hi v w [] h = tt
own-marks lo hi v w (p ∷ ps) h = (
  (λ i a b.
      look-first i (marks_of p) (all_marks ps)
      (look-outside i (all_marks ps)
      (all_map {P = λ (j : ℕ). (end_of p ≤ j) × (j < hi)} (λ j q e. omega (arith, q.0)) (atoms_of (all_marks ps))
      (rises-within (end_of p) hi (atoms_of (all_marks ps)) (all-marks-rise (end_of p) hi (v + variables p.chain) w ps h.1))))),
  later ps (placing-within (end_of p) hi (v + variables p.chain) w ps h.1) (own-marks (end_of p) hi (v + variables p.chain) w ps h.1),
)
  where
    before : (i : ℕ) → end_of p ≤ i → All (λ j. i ≢ j) (atoms_of (marks_of p))
    before i g =
        let m : ℕ = chain_end p.first (carbons p.role p.chain) in
        all_map {P = λ (j : ℕ). (p.first ≤ j) × (j < m)} (λ j q e. omega (arith, q.1, atoms_end-le p.role p.chain p.first)) (atoms_of (marks_of p))
        (rises-within p.first m (atoms_of (marks_of p)) (marks-rise p.role p.chain p.first p.variable))

    later : (qs : List Placed) → All (λ q. (end_of p ≤ q.first) × (end_of q ≤ hi)) qs
        → All (λ q. (i : ℕ) → q.first ≤ i → i < end_of q → look i (all_marks ps) ≡ look i (marks_of q)) qs
        → All (λ q. (i : ℕ) → q.first ≤ i → i < end_of q → look i (marks_of p ++ all_marks ps) ≡ look i (marks_of q)) qs
    later [] g f = tt
    later (q ∷ qs) g f = ((λ i a b. look-second i (marks_of p) (all_marks ps) (before i (omega (arith, g.0.0))) ∙ f.0 i a b), later qs g.1 f.1)

-- no mark stands before the chains
pub marks-after : (m : ℕ) (ps : List Placed) → All (λ p. m ≤ p.first) ps → All (λ j. m ≤ j) (atoms_of (all_marks ps))
unfolding all_marks
marks-after m [] h = unfold atoms_of in tt
marks-after m (p ∷ ps) h =
    let e : ℕ = chain_end p.first (carbons p.role p.chain) in
    rw (atoms_of-append (marks_of p) (all_marks ps))
    (all_append (λ j. m ≤ j) (atoms_of (marks_of p)) (atoms_of (all_marks ps))
    (all_map {P = λ (j : ℕ). (p.first ≤ j) × (j < e)} (λ j q. omega (arith, q.0, h.0)) (atoms_of (marks_of p))
    (rises-within p.first e (atoms_of (marks_of p)) (marks-rise p.role p.chain p.first p.variable))) (marks-after m ps h.1))

-- ---- counts for all sums

pub total-agrees : (f g : ℕ → ℕ) (is : List ℕ) → All (λ i. f i ≡ g i) is → total f is ≡ total g is
unfolding total
total-agrees f g [] h = refl
total-agrees f g (i ∷ is) h = omega (arith, h.0, total-agrees f g is h.1)

-- a choice that gives the variables of the sums the same counts meets them, too
sums-agree : (f g : ℕ → ℕ) (ss : List Sum) → All (λ x. f x ≡ g x) (summed ss) → All (Meets g) ss → All (Meets f) ss
unfolding summed
sums-agree f g [] h m = tt
sums-agree f g (sum vs n ∷ ss) h m =
    (total-agrees f g vs (all_left (λ x. f x ≡ g x) vs (summed ss) h) ∙ m.0, sums-agree f g ss (all_right (λ x. f x ≡ g x) vs (summed ss) h) m.1)

-- the first choice below u, the second from u on
either : (ℕ → ℕ) → (ℕ → ℕ) → ℕ → ℕ → ℕ
either f g u x = cond (ltb x u) (f x) (g x)

either-counts : (f g : ℕ → ℕ) (u : ℕ) → Counts f → Counts g → Counts (either f g u)
unfolding either
either-counts f g u h k x = go (ltb x u)
  where
    go : (b : Bool) → 1 ≤ cond b (f x) (g x)
    go true = h x
    go false = k x

-- every sum of the chains can be met at once
pub all-chosen : (lo hi v w : ℕ) (ps : List Placed) → Placing lo hi v w ps → Chosen (all_sums ps)
unfolding all_sums either
all-chosen lo hi v w [] h = record { count = λ x. 1; counts = λ x. omega arith; meets = tt }
all-chosen lo hi v w (p ∷ ps) h =
    let u : ℕ = v + variables p.chain in
    both u (sums-chosen p.role p.chain h.0.drawable p.variable) (all-chosen (end_of p) hi u w ps h.1) own others
  where
    own : All (λ x. x < v + variables p.chain) (summed (draw.sums p.role p.chain p.variable))
    own =
        let e : summed (draw.sums p.role p.chain p.variable) ≡ values_from (λ i. v + i) 0 (variables p.chain) =
        sums-notes p.role p.chain p.first p.variable ∙ ap (λ (z : ℕ). values_from (λ i. z + i) 0 (variables p.chain)) h.0.variable
        in
        rw e
        (all_map {P = λ (x : ℕ). (v ≤ x) × (x < v + variables p.chain)} (λ x q. q.1) (values_from (λ i. v + i) 0 (variables p.chain))
        (rises-within v (v + variables p.chain) (values_from (λ i. v + i) 0 (variables p.chain)) (variables-rise v (variables p.chain))))

    others : All (λ x. v + variables p.chain ≤ x) (summed (all_sums ps))
    others =
        rw (all-summed ps)
        (all_map {P = λ (x : ℕ). (v + variables p.chain ≤ x) × (x < w)} (λ x q. q.0) (notes_of (all_marks ps))
        (rises-within (v + variables p.chain) w (notes_of (all_marks ps)) (all-variables-rise (end_of p) hi (v + variables p.chain) w ps h.1)))

    both : (u : ℕ) (x : Chosen (draw.sums p.role p.chain p.variable)) (y : Chosen (all_sums ps)) → All (λ i. i < u) (summed (draw.sums p.role p.chain p.variable))
        → All (λ i. u ≤ i) (summed (all_sums ps)) → Chosen (draw.sums p.role p.chain p.variable ++ all_sums ps)
    both u x y a b =
        record {
          count = either x.count y.count u;
          counts = either-counts x.count y.count u x.counts y.counts;
          meets =
              all_append (Meets (either x.count y.count u)) (draw.sums p.role p.chain p.variable) (all_sums ps)
              (sums-agree (either x.count y.count u) x.count (draw.sums p.role p.chain p.variable)
              (all_map {P = λ (i : ℕ). i < u} (λ i q. rw (lt-ltb i u q)) (summed (draw.sums p.role p.chain p.variable)) a) x.meets)
              (sums-agree (either x.count y.count u) y.count (all_sums ps) (all_map {P = λ (i : ℕ). u ≤ i} (λ i q. rw (le-ltb i u q)) (summed (all_sums ps)) b) y.meets);
        }

-- a choice that meets all sums meets those of each chain
pub own-sums : (count : ℕ → ℕ) (ps : List Placed) → All (Meets count) (all_sums ps) → All (λ p. All (Meets count) (draw.sums p.role p.chain p.variable)) ps
unfolding all_sums
own-sums count [] h = tt
own-sums count (p ∷ ps) h = (
  all_left (Meets count) (draw.sums p.role p.chain p.variable) (all_sums ps) h,
  own-sums count ps (all_right (Meets count) (draw.sums p.role p.chain p.variable) (all_sums ps) h),
)
