-- DEMAND 3 for every request that is accepted: one proof for all templates that pass the tests, of which the eight classes are instances.
-- Assumes nothing.
use Prim.Native.Nat.{ℕ, ◌+◌, ◌-◌, ◌≤◌, ◌<◌}
use native.Mathlib.Omega.{arith}
use mathlib.Core.Path.{◌≡◌, refl, sym, ap, ◌∙◌}
use mathlib.Core.Bool.{Bool, true, false, cond, not, ◌||◌, ◌&&◌, false≢true}
use mathlib.Core.Option.{none, some}
use mathlib.Core.List.{List, [], ◌∷◌, ◌++◌, map}
use lib.ListN.{length}
use lib.Dec.{ltb}
use borrow.Author.Tests.{leb-true, ltb-true}
use Rattle.chain_record.specs.plain.Chain.{Chain}
use Rattle.reading_rules.specs.reading.Ascii.{ascii}
use Rattle.reading_rules.specs.reading.Lexer.{memb, pieces_of}
use Rattle.reading_rules.specs.reading.Piece.{show}
use Rattle.reading_rules.specs.reading.Row.{Row}
use Rattle.reading_rules.specs.reading.Molecule.{At, atoms_of, notes_of, look, variables_of, Molecule, molecule_of, set_of, sum_key}
use Rattle.reading_rules.specs.reading.Line.{flat, below, distinct, rising}
use Rattle.reading_rules.specs.reading.Chain.{chain_end}
use Rattle.reading_rules.proofs.reading.PartingLaws.{All, all_map, NonEmpty, and_left, and_right}
use Rattle.reading_rules.proofs.reading.ListLaws.{below_all, all-below, once-self}
use Rattle.reading_rules.proofs.reading.BlockLaws.{LabelFits}
use Rattle.reading_rules.proofs.reading.LineLaws.{WellFormed, line-reads-back}
use Rattle.chain_rules.specs.declared.chain.Role.{Role}
use Rattle.chain_rules.specs.declared.chain.Role.TheVariants as role
use Rattle.chain_rules.specs.chain.Lists.{any_of, all_of, Each}
use Rattle.chain_rules.specs.chain.Features.{first_drawn}
use Rattle.chain_rules.specs.chain.Drawing as draw
use Rattle.chain_rules.specs.chain.Drawing.{carbons, carbon_atoms}
use Rattle.chain_rules.specs.chain.Counts.{total, copies, Meets}
use Rattle.chain_rules.proofs.chain.Lists.{all-each, each_all, Rises, rises-within, rises-distinct, rises-rising, rises-none, all_both}
use Rattle.chain_rules.proofs.chain.Accepted.{Drawable, first_one, drawn-most, carbon-most}
use Rattle.chain_rules.proofs.chain.Atoms.{carbon-atoms-rise, carbon-atoms-count, atoms_end-le}
use Rattle.chain_rules.proofs.chain.Counts.{SumStands, Chosen, written-add-up}
use Rattle.template_rules.specs.declared.Class.{Class}
use Rattle.template_rules.specs.declared.Class.TheVariants.{Fa, Gl1, Gl2, Gl3, Gp, Cl, Sb, Sa}
use Rattle.template_rules.specs.Template.{Element, glycerol, elements, fewest, most as most_tokens, role_of, has_tail}
use Rattle.template_rules.specs.Drawn.{Placed, fixed_pieces, placed_from, placed, all_marks, all_sites, all_sums, by_sn, sn_sites, labels, or_no_rows, rows_drawn, molecule_drawn}
use Rattle.template_rules.specs.Written.{head_carbons, indices_of, text_of, line_of}
use Rattle.template_rules.specs.Atoms.{bytes_at, variable_at, label_at, marks_in, site_lists_in, Among}
use Rattle.template_rules.specs.Chains.{Listed, AddsUp, site_by, sites_by, Joined, parent_of, HeadedBy, Stretch, star_lists, Stars, carbon_marks, Summed, Grouped}
use Rattle.template_rules.specs.Promise.{Choice, OwnText, Promise}
use Rattle.template_rules.proofs.Templates.{sns_of, is_base, has_base, headed, Fitting, fitting}
use Rattle.template_rules.proofs.Rows.{Carbonic}
use Rattle.template_rules.proofs.Placing.{Strand, variables_to, AcceptsFrom, accepts-at, anchors}
use Rattle.template_rules.proofs.Strands.{in_rows, stretch, rows-joined, sites-by, stars-stand, lists-starred, all-marks-own, sum-own, groups-whole}
use Rattle.template_rules.proofs.Whole.{Stands, stands}
use Rattle.template_rules.proofs.Text.{text-reads}
use Rattle.template_rules.proofs.Notes.{end_of, placing-within, placing-drawable, all-marks-rise, all-variables-rise, all-summed, all-sums-stand, variables-most, all-sites-rise, all-sites-within, all-sites-flat, all-sites-some, sn-sites-rise, own-marks, look-outside, marks-after, total-agrees, all-chosen, own-sums}
use Rattle.template_rules.proofs.Sorted.{sns-placed, headed-first, base-placed, length-placed, placed-apart, all-sorted, sn_of, sorted-rise, site-notes-rise, sorted-sites-apart, sorted-sites-all}
use Rattle.template_rules.proofs.Tail.{TailReads, tail-fits, tail-whole}
use Rattle.template_rules.proofs.Listing.{chains-listed}
use Rattle.template_rules.proofs.Molecules.{bytes-at, variable-at, label-at, marks-in, lists-in, joined_in, headed-in, sums-in, set_all, all_set, sums-among}

-- ---- what is accepted

-- the number of tokens fits the class, every chain is read and has no refusal in its place, and the tail reads by itself where there is one
pub record Accepted (c : Class) (t : List ℕ) (ds : List Chain) : Type 0 where
  pub few : fewest c ≤ length ds
  pub many : length ds ≤ most_tokens c
  pub chains : AcceptsFrom (role_of c) 1 ds
  pub tail : has_tail c ≡ true → TailReads t

-- ---- a base's C1 and C2 before its other carbons

heads-number : (r : Role) (is : List ℕ) → length (head_carbons r ++ is) ≡ first_drawn r - 1 + length is
heads-number role.Slot is = omega arith
heads-number role.Acyl is = omega arith
heads-number role.Base is = omega arith

heads-once : (r : Role) (a b : ℕ) (is : List ℕ) → (is_base r ≡ true → 2 ≤ a) → Rises a b is → distinct (head_carbons r ++ is) ≡ true
unfolding distinct memb
heads-once role.Slot a b is h g = rises-distinct a b is g
heads-once role.Acyl a b is h g = rises-distinct a b is g
heads-once role.Base a b is h g =
    let two : 2 ≤ a = h refl in
    rw (rises-none a b 1 is g (omega arith), rises-none a b 0 is g (omega arith)) (rises-distinct a b is g)

heads-each : (P : ℕ → Type 0) (r : Role) (is : List ℕ) → (is_base r ≡ true → P 0 × P 1) → All P is → All P (head_carbons r ++ is)
heads-each P role.Slot is h g = g
heads-each P role.Acyl is h g = g
heads-each P role.Base is h g = ((h refl).1, ((h refl).0, g))

-- each counts one
heads-total : (count : ℕ → ℕ) (r : Role) (is : List ℕ) → (is_base r ≡ true → (count 0 ≡ 1) × (count 1 ≡ 1)) → total count (head_carbons r ++ is) ≡ first_drawn r - 1 + total count is
unfolding total
heads-total count role.Slot is h = omega arith
heads-total count role.Acyl is h = omega arith
heads-total count role.Base is h = omega (arith, h refl)

-- ---- any template that passes the tests

module _ (t : List ℕ) (ds : List Chain) (most : ℕ) (ρ : ℕ → Role) (tailed : Bool) (es : List Element) (f : Fitting most ρ tailed es) (π : Role → List ℕ) (s : Stands π t ds es) where
  abbrev ps : List Placed
  ps = placed_from t ds 0 0 es

  sns-within : All (λ p. (1 ≤ p.sn) × (p.sn < 5)) ps
  unfolding all_of
  sns-within =
      sns-placed (λ z. (1 ≤ z) × (z < 5)) t ds 0 0 es (all_both (λ z. 1 ≤ z) (λ z. z < 5) (sns_of es) (positive (sns_of es) f.from_one) (below_all 5 (sns_of es) f.four))
    where
      positive : (xs : List ℕ) → all_of (ltb 0) xs ≡ true → All (λ z. 1 ≤ z) xs
      positive [] h = tt
      positive (x ∷ xs) h = (ltb-true 0 x (and_left (ltb 0 x) (all_of (ltb 0) xs) h), positive xs (and_right (ltb 0 x) (all_of (ltb 0) xs) h))

  -- the labels, by rising sn
  abbrev all-labels : List (At ℕ)
  all-labels = sn_sites (by_sn ps)

  notes-rise : Rises 1 5 (notes_of all-labels)
  notes-rise = site-notes-rise 1 5 (by_sn ps) (sorted-rise 1 5 ps (omega arith) sns-within (placed-apart t ds 0 0 es f.apart))

  abbrev n : ℕ
  n = length s.rows

  -- either all labels or none
  record LabelsWell (ls : List (At ℕ)) : Type 0 where
    atoms : below n (atoms_of ls) ≡ true
    apart : distinct (atoms_of ls) ≡ true
    rises : rising (notes_of ls) ≡ true
    fits : All LabelFits (notes_of ls)

  labels-well : LabelsWell all-labels
  unfolding LabelFits
  labels-well =
      let r : Rises 0 n (atoms_of (sn_sites ps)) = sn-sites-rise 0 n 0 (variables_to ds 0 es) ps s.placing in
      record {
        atoms = all-below n (atoms_of all-labels)
            (sorted-sites-all (λ i. i < n) ps (all_map {P = λ (i : ℕ). (0 ≤ i) × (i < n)} (λ i h. h.1) (atoms_of (sn_sites ps)) (rises-within 0 n (atoms_of (sn_sites ps)) r)));
        apart = sorted-sites-apart ps (rises-distinct 0 n (atoms_of (sn_sites ps)) r);
        rises = rises-rising 1 5 (notes_of all-labels) notes-rise;
        fits = all_map {P = λ (i : ℕ). (1 ≤ i) × (i < 5)} (λ i h. (h.0, omega (arith, h.1))) (notes_of all-labels) (rises-within 1 5 (notes_of all-labels) notes-rise);
      }

  no-labels : LabelsWell []
  unfolding atoms_of notes_of below distinct rising
  no-labels = record { atoms = refl; apart = refl; rises = refl; fits = tt }

  cond-well : (b : Bool) → LabelsWell (cond b all-labels [])
  cond-well true = labels-well
  cond-well false = no-labels

  -- what is said of the atoms keeps the rules of a line
  well-formed : (swap : Bool) → WellFormed n (labels swap all-labels) (all_marks ps) (all_sites ps) (all_sums ps)
  unfolding labels
  well-formed swap =
      let l : LabelsWell (labels swap all-labels) = cond-well (swap && ltb 1 (length all-labels)) in
      let w : ℕ = variables_to ds 0 es in
      let ms : Rises 0 n (atoms_of (all_marks ps)) = all-marks-rise 0 n 0 w ps s.placing in
      let vs : Rises 0 w (notes_of (all_marks ps)) = all-variables-rise 0 n 0 w ps s.placing in
      let fs : Rises 0 n (atoms_of (all_sites ps)) = all-sites-rise 0 n 0 w ps s.placing in
      let many : w ≤ 508 = omega (arith, variables-most 0 n 0 w ps s.placing, length-placed t ds 0 0 es, leb-true (length (sns_of es)) 4 f.few) in
      let ds : All (λ p. Drawable p.role p.chain) ps = placing-drawable 0 n 0 w ps s.placing in
      record {
        atoms = omega (arith, s.few);
        label-atoms = l.atoms;
        label-apart = l.apart;
        label-rising = l.rises;
        label-fits = l.fits;
        mark-atoms = within (atoms_of (all_marks ps)) ms;
        mark-apart = rises-distinct 0 n (atoms_of (all_marks ps)) ms;
        mark-named = all-below 702 (notes_of (all_marks ps))
            (all_map {P = λ (i : ℕ). (0 ≤ i) × (i < w)} (λ i h. omega (arith, h.1)) (notes_of (all_marks ps)) (rises-within 0 w (notes_of (all_marks ps)) vs));
        site-atoms = within (atoms_of (all_sites ps)) fs;
        site-apart = rises-distinct 0 n (atoms_of (all_sites ps)) fs;
        site-sites = all-below n (flat (notes_of (all_sites ps))) (all-sites-flat n (all_sites ps) (all-sites-within 0 n 0 w ps s.placing));
        site-some = all-sites-some ps ds;
        sum-marked = rw (all-summed ps) (once-self (notes_of (all_marks ps)) (rises-distinct 0 w (notes_of (all_marks ps)) vs));
        sum-only = rw (all-summed ps) (once-self (notes_of (all_marks ps)) (rises-distinct 0 w (notes_of (all_marks ps)) vs));
        sum-some = all_map {P = SumStands} (λ x h. some_of (variables_of x) h.some) (all_sums ps) (all-sums-stand ps ds);
        sum_number = all_map {P = SumStands} (λ x h. omega (arith, h.small)) (all_sums ps) (all-sums-stand ps ds);
      }
    where
      within : (is : List ℕ) → Rises 0 (length s.rows) is → below (length s.rows) is ≡ true
      within is r = all-below (length s.rows) is (all_map {P = λ (i : ℕ). (0 ≤ i) × (i < length s.rows)} (λ i h. h.1) is (rises-within 0 (length s.rows) is r))

      some_of : (xs : List ℕ) → 0 < length xs → NonEmpty xs
      some_of [] h = absurd (omega arith)
      some_of (x ∷ xs) h = tt

  -- THE LINE READS as the molecule of the drawing
  abbrev drawn_molecule : Bool → Molecule
  drawn_molecule swap = molecule_of s.rows (labels swap all-labels) (all_marks ps) (all_sites ps) (all_sums ps)

  -- ---- the indices of a chain

  -- a base stands in a template that begins with its C1 and C2
  headed-base : All (λ p. is_base p.role ≡ true → headed es ≡ true) ps
  headed-base =
      all_map {P = λ (p : Placed). is_base p.role ≡ true → any_of has_base es ≡ true} (λ p h e. go (any_of has_base es) (headed es) f.base (h e)) ps (base-placed t ds 0 0 es)
    where
      go : (a b : Bool) → (not a || b) ≡ true → a ≡ true → b ≡ true
      go true b h e = h
      go false b h e = absurd (false≢true e)

  -- where no mark is
  no-head-mark : headed es ≡ true → (i : ℕ) → i < 2 → look i (all_marks ps) ≡ none
  no-head-mark h i l =
      look-outside i (all_marks ps)
      (all_map {P = λ (j : ℕ). 2 ≤ j} (λ j q e. omega arith) (atoms_of (all_marks ps))
      (marks-after 2 ps (all_map {P = λ (p : Placed). headed es ≡ true → 2 ≤ p.first} (λ p q. q h) ps (headed-first t ds es))))

  -- what is known of a chain that stands among the rows
  record Known (p : Placed) : Type 0 where
    drawable : Drawable p.role p.chain
    ends : end_of p ≤ n
    inside : All (Carbonic 0 s.rows) (carbon_atoms p.role p.chain p.first)
    strand : Strand π none 0 s.rows p
    head : is_base p.role ≡ true → headed es ≡ true
    late : headed es ≡ true → 2 ≤ p.first
    marks : (i : ℕ) → p.first ≤ i → i < end_of p → look i (all_marks ps) ≡ look i (draw.marks p.role p.chain p.first p.variable)

  known : All Known ps
  known =
      go ps (placing-drawable 0 n 0 w ps s.placing) (placing-within 0 n 0 w ps s.placing) s.strands headed-base (headed-first t ds es) (own-marks 0 n 0 w ps s.placing)
    where
      w : ℕ
      w = variables_to ds 0 es

      go : (qs : List Placed) → All (λ p. Drawable p.role p.chain) qs → All (λ p. (0 ≤ p.first) × (end_of p ≤ n)) qs → All (Strand π none 0 s.rows) qs
          → All (λ p. is_base p.role ≡ true → headed es ≡ true) qs → All (λ p. headed es ≡ true → 2 ≤ p.first) qs
          → All (λ p. (i : ℕ) → p.first ≤ i → i < end_of p → look i (all_marks ps) ≡ look i (draw.marks p.role p.chain p.first p.variable)) qs → All Known qs
      go [] a b c d l e = tt
      go (q ∷ qs) a b c d l e =
          (record { drawable = a.0; ends = b.0.1; inside = in_rows 0 s.rows q a.0 c.0; strand = c.0; head = d.0; late = l.0; marks = e.0 }, go qs a.1 b.1 c.1 d.1 l.1 e.1)

  module _ (swap : Bool) where
    -- the row of a carbon is its atom's in the molecule
    carbonic-bytes : (i : ℕ) → Carbonic 0 s.rows i → bytes_at (drawn_molecule swap) i ≡ some (ascii "C")
    carbonic-bytes i c =
        let e : i - 0 ≡ i = omega arith in
        bytes-at s.rows (labels swap all-labels) (all_marks ps) (all_sites ps) (all_sums ps) i (ascii "C") (rw e at c.is)

    carbonic-variable : (i : ℕ) → Carbonic 0 s.rows i → variable_at (drawn_molecule swap) i ≡ look i (all_marks ps)
    carbonic-variable i c =
        let e : i - 0 ≡ i = omega arith in
        variable-at s.rows (labels swap all-labels) (all_marks ps) (all_sites ps) (all_sums ps) i (ascii "C") (rw e at c.is)

    listed : (p : Placed) → Known p → Listed (drawn_molecule swap) p
    unfolding indices_of
    listed p k =
        let is : List ℕ = carbon_atoms p.role p.chain p.first in
        record {
          number = heads-number p.role is ∙ ap (λ (z : ℕ). first_drawn p.role - 1 + z) (carbon-atoms-count p.role p.chain p.first);
          once = heads-once p.role p.first (chain_end p.first (carbons p.role p.chain)) is (λ e. k.late (k.head e)) (carbon-atoms-rise p.role p.chain p.first);
          each =
              all-each (λ i. bytes_at (drawn_molecule swap) i ≡ some (ascii "C")) (head_carbons p.role ++ is)
              (heads-each (λ i. bytes_at (drawn_molecule swap) i ≡ some (ascii "C")) p.role is (λ e. (carbonic-bytes 0 (s.heads (k.head e)).0, carbonic-bytes 1 (s.heads (k.head e)).1))
              (all_map {P = Carbonic 0 s.rows} (λ i c. carbonic-bytes i c) is k.inside));
        }

    -- ---- the counts

    -- what the molecule says of a chain's carbon is what the chain's own marks say
    own-copies : (count : ℕ → ℕ) (p : Placed) → Known p
        → All (λ i. copies count (variable_at (drawn_molecule swap) i) ≡ copies count (look i (draw.marks p.role p.chain p.first p.variable))) (carbon_atoms p.role p.chain p.first)
    own-copies count p k =
        let m : ℕ = chain_end p.first (carbons p.role p.chain) in
        let is : List ℕ = carbon_atoms p.role p.chain p.first in
        all_map {P = λ (i : ℕ). Carbonic 0 s.rows i × ((p.first ≤ i) × (i < m))}
        (λ i h. ap (copies count) (carbonic-variable i h.0 ∙ k.marks i h.1.0 (omega (arith, h.1.1, atoms_end-le p.role p.chain p.first)))) is
        (all_both (Carbonic 0 s.rows) (λ i. (p.first ≤ i) × (i < m)) is k.inside (rises-within p.first m is (carbon-atoms-rise p.role p.chain p.first)))

    -- C1 and C2 of a base have no mark
    head-copies : (count : ℕ → ℕ) (p : Placed) → Known p → is_base p.role ≡ true
        → (copies count (variable_at (drawn_molecule swap) 0) ≡ 1) × (copies count (variable_at (drawn_molecule swap) 1) ≡ 1)
    unfolding copies
    head-copies count p k e = (
      ap (copies count) (carbonic-variable 0 (s.heads (k.head e)).0 ∙ no-head-mark (k.head e) 0 (omega arith)),
      ap (copies count) (carbonic-variable 1 (s.heads (k.head e)).1 ∙ no-head-mark (k.head e) 1 (omega arith)),
    )

    adds-up : (count : ℕ → ℕ) → All (Meets count) (all_sums ps) → (p : Placed) → Known p → All (Meets count) (draw.sums p.role p.chain p.variable)
        → AddsUp (drawn_molecule swap) count p
    unfolding indices_of
    adds-up count h p k m =
        let g : ℕ → ℕ = λ i. copies count (variable_at (drawn_molecule swap) i) in
        let is : List ℕ = carbon_atoms p.role p.chain p.first in
        let own : total g is ≡ total (λ i. copies count (look i (draw.marks p.role p.chain p.first p.variable))) is =
        total-agrees g (λ i. copies count (look i (draw.marks p.role p.chain p.first p.variable))) is (own-copies count p k)
        in
        record { written = omega (arith, heads-total g p.role is (head-copies count p k), written-add-up p.role p.chain k.drawable p.first p.variable count m) }

    -- ---- the parts of the promise

    all_listed : Each (Listed (drawn_molecule swap)) (by_sn ps)
    all_listed = all-each (Listed (drawn_molecule swap)) (by_sn ps) (all-sorted (Listed (drawn_molecule swap)) ps (all_map {P = Known} (λ p k. listed p k) ps known))

    chosen : (count : ℕ → ℕ) × Choice (drawn_molecule swap) count
    chosen =
        let x : Chosen (all_sums ps) = all-chosen 0 n 0 (variables_to ds 0 es) ps s.placing in (
          x.count,
          record {
            counts = x.counts;
            meets =
                rw (sums-in s.rows (labels swap all-labels) (all_marks ps) (all_sites ps) (all_sums ps))
                (all-each (Meets x.count) (set_of sum_key (all_sums ps)) (set_all (Meets x.count) (all_sums ps) x.meets));
          },
        )

    all-add-up : (count : ℕ → ℕ) → Choice (drawn_molecule swap) count → Each (AddsUp (drawn_molecule swap) count) (by_sn ps)
    all-add-up count x =
        let m : All (Meets count) (all_sums ps) =
        all_set (Meets count) (all_sums ps)
        (each_all (Meets count) (set_of sum_key (all_sums ps)) (rw (sums-in s.rows (labels swap all-labels) (all_marks ps) (all_sites ps) (all_sums ps)) at x.meets))
        in
        all-each (AddsUp (drawn_molecule swap) count) (by_sn ps)
        (all-sorted (AddsUp (drawn_molecule swap) count) ps
        (all_map {P = λ (p : Placed). Known p × All (Meets count) (draw.sums p.role p.chain p.variable)} (λ p h. adds-up count m p h.0 h.1) ps
        (all_both Known (λ p. All (Meets count) (draw.sums p.role p.chain p.variable)) ps known (own-sums count ps m))))

  -- ---- what the promise says of each chain among the rows

  of-each : (P : Placed → Type 0) → ((p : Placed) → Known p → P p) → Each P ps
  of-each P h = all-each P ps (all_map {P = Known} h ps known)

  all-sites-by : sn_sites (by_sn ps) ≡ sites_by (by_sn ps)
  all-sites-by =
      sites-by (by_sn ps) (all-sorted (λ p. p.site ≡ site_by p.role p.first) ps (all_map {P = Known} (λ p k. k.strand.site) ps known))

  -- the labels of the molecule are the sites, or none
  labels-are : (swap : Bool) (i : ℕ) → label_at (drawn_molecule swap) i ≡ cond (swap && ltb 1 (length all-labels)) (look i all-labels) none
  unfolding labels
  labels-are swap i =
      label-at s.rows (labels swap all-labels) (all_marks ps) (all_sites ps) (all_sums ps) i (below_all n (atoms_of (labels swap all-labels)) (cond-well (swap && ltb 1 (length all-labels))).atoms)
      ∙ go (swap && ltb 1 (length all-labels))
    where
      go : (b : Bool) → look i (cond b (sn_sites (by_sn (placed_from t ds 0 0 es))) []) ≡ cond b (look i (sn_sites (by_sn (placed_from t ds 0 0 es)))) none
      go true = refl
      go false = unfold look in refl

  module _ (swap : Bool) where
    marks-all : marks_in (drawn_molecule swap) ≡ all_marks ps
    marks-all = marks-in s.rows (labels swap all-labels) (all_marks ps) (all_sites ps) (all_sums ps) (all-marks-rise 0 n 0 (variables_to ds 0 es) ps s.placing)

    marks-are : marks_in (drawn_molecule swap) ≡ carbon_marks ps
    marks-are = marks-all ∙ all-marks-own ps (placing-drawable 0 n 0 (variables_to ds 0 es) ps s.placing)

    variables-apart : distinct (notes_of (marks_in (drawn_molecule swap))) ≡ true
    variables-apart =
        let w : ℕ = variables_to ds 0 es in
        rw marks-all (rises-distinct 0 w (notes_of (all_marks ps)) (all-variables-rise 0 n 0 w ps s.placing))

    sums-are : Each (Summed (drawn_molecule swap)) ps
    sums-are =
        all-each (Summed (drawn_molecule swap)) ps
        (all_map {P = λ (p : Placed). Known p × Each (λ x. Among x (set_of sum_key (all_sums ps))) (draw.sums p.role p.chain p.variable)}
        (λ p h. record { stands = rw (sums-in s.rows (labels swap all-labels) (all_marks ps) (all_sites ps) (all_sums ps)) h.1; variables = sum-own p h.0.drawable }) ps
        (all_both Known (λ p. Each (λ x. Among x (set_of sum_key (all_sums ps))) (draw.sums p.role p.chain p.variable)) ps known (sums-among (all_sums ps) ps (λ x h. h))))

    lists-are : site_lists_in (drawn_molecule swap) ≡ star_lists ps
    lists-are =
        lists-in s.rows (labels swap all-labels) (all_marks ps) (all_sites ps) (all_sums ps) (all-sites-rise 0 n 0 (variables_to ds 0 es) ps s.placing)
        ∙ lists-starred ps (placing-drawable 0 n 0 (variables_to ds 0 es) ps s.placing)

  sns-rise : Rises 1 5 (map sn_of (by_sn ps))
  sns-rise = sorted-rise 1 5 ps (omega arith) sns-within (placed-apart t ds 0 0 es f.apart)

-- ---- an accepted request

-- its template is drawn
pub drawn-request : (c : Class) (t : List ℕ) (ds : List Chain) → Accepted c t ds → Stands (parent_of c) t ds (elements c)
drawn-request c t ds a =
    stands (parent_of c) refl t ds (most_tokens c) (role_of c) (has_tail c) (elements c) (fitting c) (accepts-at (role_of c) ds a.chains) (λ e. tail-fits t (a.tail e)) (anchors c t ds)

-- the texts of the eight templates
own-texts : (c : Class) → Each OwnText (elements c)
unfolding elements glycerol fixed_pieces pieces_of show
own-texts Fa = ((refl, refl), (tt, tt))
own-texts Gl1 = ((refl, refl), (tt, ((refl, refl), (tt, ((refl, refl), (tt, tt))))))
own-texts Gl2 = ((refl, refl), (tt, ((refl, refl), (tt, ((refl, refl), (tt, tt))))))
own-texts Gl3 = ((refl, refl), (tt, ((refl, refl), (tt, ((refl, refl), (tt, tt))))))
own-texts Gp = ((refl, refl), (tt, ((refl, refl), (tt, ((refl, refl), (tt, tt))))))
own-texts Cl = ((refl, refl), (tt, ((refl, refl), (tt, ((refl, refl), (tt, ((refl, refl), (tt, tt))))))))
own-texts Sb = ((refl, refl), (tt, ((refl, refl), (tt, tt))))
own-texts Sa = ((refl, refl), (tt, ((refl, refl), (tt, ((refl, refl), (tt, tt))))))

-- ---- DEMAND 3

pub promise : (c : Class) (swap : Bool) (t : List ℕ) (ds : List Chain) → Accepted c t ds → Promise c swap t ds
unfolding placed line_of text_of molecule_drawn rows_drawn
promise c swap t ds a =
    record {
      reads =
          line-reads-back (text_of c t ds) s.rows (labels swap (sn_sites (by_sn ps))) (all_marks ps) (all_sites ps) (all_sums ps)
          (text-reads t ds (role_of c) (accepts-at (role_of c) ds a.chains) (most_tokens c) (has_tail c) es f (λ e. tail-fits t (a.tail e)) s)
          (well-formed t ds (most_tokens c) (role_of c) (has_tail c) es f (parent_of c) s swap)
          ∙ ap (λ (m : Molecule). some m) (sym same);
      chains = chains-listed t ds (most_tokens c) es f.places a.many (placed-apart t ds 0 0 es f.apart) 5 (sns-rise t ds (most_tokens c) (role_of c) (has_tail c) es f (parent_of c) s);
      indices = rw same (all_listed t ds (most_tokens c) (role_of c) (has_tail c) es f (parent_of c) s swap);
      choice = rw same (chosen t ds (most_tokens c) (role_of c) (has_tail c) es f (parent_of c) s swap);
      carbons = rw same (all-add-up t ds (most_tokens c) (role_of c) (has_tail c) es f (parent_of c) s swap);
      rows = rw same_rows (each (Stretch s.rows) (λ p k. stretch s.rows p k.drawable k.strand));
      sites = all-sites-by t ds (most_tokens c) (role_of c) (has_tail c) es f (parent_of c) s;
      joined = rw same (each (Joined c drawn) (λ p k. joined_in s.rows (labels swap (sn_sites (by_sn ps))) (all_marks ps) (all_sites ps) (all_sums ps) c p (rows-joined s.rows p k.drawable k.strand (λ e. (refl, (k.late (k.head e), (s.heads (k.head e)).0))))));
      heads = rw same (each (λ p. HeadedBy p.role drawn p) (λ p k. headed-in s.rows (labels swap (sn_sites (by_sn ps))) (all_marks ps) (all_sites ps) (all_sums ps) p k.drawable (λ e. s.neck (k.head e))));
      labelled = rw (same, ← all-sites-by t ds (most_tokens c) (role_of c) (has_tail c) es f (parent_of c) s) (labels-are t ds (most_tokens c) (role_of c) (has_tail c) es f (parent_of c) s swap);
      floats = rw same (lists-are t ds (most_tokens c) (role_of c) (has_tail c) es f (parent_of c) s swap);
      stars = rw same_rows (each (Stars s.rows) (λ p k. stars-stand s.rows p k.drawable k.strand));
      marks = rw same (marks-are t ds (most_tokens c) (role_of c) (has_tail c) es f (parent_of c) s swap);
      summed = rw same (sums-are t ds (most_tokens c) (role_of c) (has_tail c) es f (parent_of c) s swap);
      variables = rw same (variables-apart t ds (most_tokens c) (role_of c) (has_tail c) es f (parent_of c) s swap);
      drawn = rw same_rows s.is;
      texts = own-texts c;
      tail = λ e. tail-whole t (a.tail e);
      groups = each Grouped (λ p k. groups-whole p k.drawable);
    }
  where
    es : List Element
    es = elements c

    f : Fitting (most_tokens c) (role_of c) (has_tail c) (elements c)
    f = fitting c

    s : Stands (parent_of c) t ds (elements c)
    s = drawn-request c t ds a

    ps : List Placed
    ps = placed_from t ds 0 0 (elements c)

    each : (P : Placed → Type 0) → ((p : Placed) → Known t ds (most_tokens c) (role_of c) (has_tail c) (elements c) (fitting c) (parent_of c) s p → P p) → Each P ps
    each = of-each t ds (most_tokens c) (role_of c) (has_tail c) es f (parent_of c) s

    drawn : Molecule
    drawn = molecule_of s.rows (labels swap (sn_sites (by_sn ps))) (all_marks ps) (all_sites ps) (all_sums ps)

    same_rows : rows_drawn c t ds ≡ s.rows
    same_rows = ap or_no_rows s.is

    same : molecule_drawn c swap t ds ≡ molecule_of s.rows (labels swap (sn_sites (by_sn ps))) (all_marks ps) (all_sites ps) (all_sums ps)
    same = ap (λ (z : List Row). molecule_of z (labels swap (sn_sites (by_sn ps))) (all_marks ps) (all_sites ps) (all_sums ps)) (ap or_no_rows s.is)

-- ---- how large its numbers are

-- a chain lists no more carbons than it has
pub indices-most : (p : Placed) → Drawable p.role p.chain → length (indices_of p) ≤ p.chain.carbon
unfolding indices_of
indices-most p a =
    omega (
      arith,
      heads-number p.role (carbon_atoms p.role p.chain p.first),
      carbon-atoms-count p.role p.chain p.first,
      first_one p.role,
      drawn-most p.role p.chain a,
    )

-- and those are at most 255
pub indices-few : (p : Placed) → Drawable p.role p.chain → length (indices_of p) ≤ 255
indices-few p a = omega (arith, indices-most p a, carbon-most p.role p.chain a)

-- every index is below 4000, so that it has 16 bits to spare
pub indices-small : (c : Class) (t : List ℕ) (ds : List Chain) → Accepted c t ds → All (λ p. All (λ i. i < 4000) (indices_of p)) (placed c t ds)
unfolding placed indices_of
indices-small c t ds a =
    all_map {P = Known t ds (most_tokens c) (role_of c) (has_tail c) (elements c) (fitting c) (parent_of c) (drawn-request c t ds a)} (λ p k. small p k) (placed_from t ds 0 0 (elements c)) (known t ds (most_tokens c) (role_of c) (has_tail c) (elements c) (fitting c) (parent_of c) (drawn-request c t ds a))
  where
    small : (p : Placed) → Known t ds (most_tokens c) (role_of c) (has_tail c) (elements c) (fitting c) (parent_of c) (drawn-request c t ds a) p → All (λ i. i < 4000) (head_carbons p.role ++ carbon_atoms p.role p.chain p.first)
    small p k =
        let m : ℕ = chain_end p.first (carbons p.role p.chain) in
        let is : List ℕ = carbon_atoms p.role p.chain p.first in
        heads-each (λ i. i < 4000) p.role is (λ e. (omega arith, omega arith))
        (all_map {P = λ (i : ℕ). (p.first ≤ i) × (i < m)} (λ i h. omega (arith, h.1, atoms_end-le p.role p.chain p.first, k.ends, (drawn-request c t ds a).few)) is
        (rises-within p.first m is (carbon-atoms-rise p.role p.chain p.first)))
