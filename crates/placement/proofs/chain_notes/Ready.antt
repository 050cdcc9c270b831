-- An accepted request: every chain stands in its place, and the numbers of its place leave room.
-- Assumes nothing.
use Prim.Native.Nat.{ℕ, zero, suc, ◌+◌, ◌≤◌, ◌<◌}
use native.Mathlib.Omega.{arith}
use mathlib.Core.Path.{◌≡◌, refl, sym, ◌∙◌}
use mathlib.Core.Bool.{Bool, true, false, cond, false≢true}
use mathlib.Core.Option.{none, some}
use mathlib.Core.List.{List, [], ◌∷◌}
use lib.Dec.{eqb, ltb}
use lib.ListN.{length}
use borrow.Author.Tests.{ltb-true, leb-true, eqb-true}
use Rattle.chain_record.specs.plain.Chain.{Chain}
use Rattle.reading_rules.proofs.reading.PartingLaws.{All, all_map, and_left, and_right}
use Rattle.reading_rules.proofs.reading.ListLaws.{below_all}
use Rattle.chain_rules.specs.declared.chain.Role.{Role}
use Rattle.chain_rules.specs.chain.Lists.{all_of, Each}
use Rattle.chain_rules.specs.chain.Drawing.{carbons, variables}
use Rattle.chain_rules.proofs.chain.Lists.{all-each}
use Rattle.chain_rules.proofs.chain.Atoms.{chain_end-le, atoms_end-le}
use Rattle.chain_rules.proofs.chain.Accepted.{Drawable, first_one, drawn-most, carbon-most, unlocated-most}
use Rattle.drawn_chain.specs.drawable.Drawn.{Drawn, Draws}
use Rattle.chain_indices.proofs.atoms.Readable.{sound-readable}
use Rattle.template_rules.specs.declared.Class.{Class}
use Rattle.template_rules.specs.Template.{elements}
use Rattle.template_rules.specs.Drawn.{Placed, unless_empty, placed_from, placed}
use Rattle.template_rules.specs.Written.{indices_of}
use Rattle.template_rules.specs.Chains.{parent_of}
use Rattle.template_rules.proofs.Templates.{sns_of, fitting}
use Rattle.template_rules.proofs.Placing.{Accepts, Placing, variables_to}
use Rattle.template_rules.proofs.Notes.{end_of, placing-within, variables-most}
use Rattle.template_rules.proofs.Sorted.{sns-placed, length-placed}
use Rattle.template_rules.proofs.Whole as Whole
use Rattle.template_rules.proofs.Theorem.{Accepted, drawn-request, indices-small}
use Rattle.placement.specs.chain_notes.Fragment.{Carries, Stands, Told}

-- ---- a chain

-- a chain that is drawn in its place
pub carried : (r : Role) (d : Chain) (x : Drawn) → Drawable r d → Draws r d x → Carries r d x
carried r d x a g =
    record {
      some = omega (arith, a.carbons);
      draws = g;
      readable = sound-readable d a.sound;
      drawn = omega (arith, first_one r, drawn-most r d a, carbon-most r d a);
      bonds = omega (arith, unlocated-most r d a);
      rings = a.sound.within.rings;
    }

-- a chain without a refusal, or one without carbons
pub stands-carried : (r : Role) (d : Chain) (x : Drawn) → Accepts r d → Draws r d x → Stands r (unless_empty (some d)) x
stands-carried r d x a g = go (eqb d.carbon 0) refl
  where
    go : (b : Bool) → eqb d.carbon 0 ≡ b → Stands r (cond b none (some d)) x
    go true e = g.carbon ∙ eqb-true d.carbon 0 e
    go false e = carried r d x (record { sound = a.sound; kind = a.kind; placed = a.placed; draws = a.draws; carbons = positive d.carbon e }) g
      where
        positive : (n : ℕ) → eqb n 0 ≡ false → 0 < n
        positive zero q = absurd (false≢true (sym q))
        positive (suc n) q = omega arith

-- ---- the chains that are placed

-- the variables of the chains before each
placing-variables : (lo hi v w : ℕ) (ps : List Placed) → Placing lo hi v w ps → (v ≤ w) × All (λ p. p.variable ≤ w) ps
placing-variables lo hi v w [] h = (omega (arith, h.1), tt)
placing-variables lo hi v w (p ∷ ps) h =
    let q = placing-variables (end_of p) hi (v + variables p.chain) w ps h.1 in
    (omega (arith, q.0), (omega (arith, h.0.variable, q.0), q.1))

-- the sns of a template are those from 1 to 4
pub sns-few : (c : Class) (t : List ℕ) (ds : List Chain) → All (λ p. (1 ≤ p.sn) × (p.sn ≤ 4)) (placed c t ds)
unfolding placed all_of
sns-few c t ds = sns-placed (λ n. (1 ≤ n) × (n ≤ 4)) t ds 0 0 (elements c) (go (sns_of (elements c)) (fitting c).from_one (below_all 5 (sns_of (elements c)) (fitting c).four))
  where
    go : (l : List ℕ) → all_of (ltb 0) l ≡ true → All (λ n. n < 5) l → All (λ n. (1 ≤ n) × (n ≤ 4)) l
    go [] e h = tt
    go (n ∷ l) e h = ((omega (arith, ltb-true 0 n (and_left (ltb 0 n) (all_of (ltb 0) l) e)), omega (arith, h.0)), go l (and_right (ltb 0 n) (all_of (ltb 0) l) e) h.1)

-- the numbers of every chain of an accepted request leave room
pub told : (c : Class) (t : List ℕ) (ds : List Chain) → Accepted c t ds → Each Told (placed c t ds)
unfolding placed
told c t ds a =
    all-each Told ps
    (go ps (placing-within 0 (length st.rows) 0 w ps st.placing) (placing-variables 0 (length st.rows) 0 w ps st.placing).1 (indices-small c t ds a))
  where
    ps : List Placed
    ps = placed_from t ds 0 0 (elements c)

    st : Whole.Stands (parent_of c) t ds (elements c)
    st = drawn-request c t ds a

    w : ℕ
    w = variables_to ds 0 (elements c)

    few : w ≤ 508
    few = omega (arith, variables-most 0 (length st.rows) 0 w ps st.placing, length-placed t ds 0 0 (elements c), leb-true (length (sns_of (elements c))) 4 (fitting c).few)

    go : (qs : List Placed) → All (λ p. (0 ≤ p.first) × (end_of p ≤ length st.rows)) qs → All (λ p. p.variable ≤ w) qs → All (λ p. All (λ i. i < 4000) (indices_of p)) qs → All Told qs
    go [] e f g = tt
    go (q ∷ qs) e f g = (
      record {
        first = omega (arith, chain_end-le q.first (carbons q.role q.chain), atoms_end-le q.role q.chain q.first, e.0.1, st.few);
        variable = omega (arith, f.0, few);
        indices = all-each (λ i. i ≤ 65535) (indices_of q) (all_map {P = λ (i : ℕ). i < 4000} (λ i h. omega arith) (indices_of q) g.0);
      },
      go qs e.1 f.1 g.1,
    )
