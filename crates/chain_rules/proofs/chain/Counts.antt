-- What the repeat counts of a chain add up to: its written carbons; and that there are such counts.
-- Assumes nothing.
use Prim.Native.Nat.{ℕ, zero, suc, ◌+◌, ◌-◌, ◌*◌, ◌≤◌, ◌<◌}
use native.Mathlib.Omega.{arith}
use mathlib.Core.Path.{◌≡◌, refl, sym, ap, ◌∙◌}
use mathlib.Core.Bool.{Bool, true, false, cond, not, false≢true}
use mathlib.Core.Option.{none, some}
use mathlib.Core.List.{List, [], ◌∷◌}
use lib.ListN.{length}
use lib.Dec.{eqb}
use borrow.Author.Tests.{eqb-true, eqb-false, eq-eqb, ne_eqb, not-true}
use Rattle.chain_record.specs.plain.Chain.{Chain}
use Rattle.chain_record.proofs.plain.Sound.{Reduced}
use Rattle.reading_rules.specs.reading.Lexer.{memb}
use Rattle.reading_rules.specs.reading.Molecule.{At, at, atoms_of, notes_of, look, Sum, sum, variables_of, number_of}
use Rattle.reading_rules.specs.reading.Line.{distinct, times}
use Rattle.reading_rules.proofs.reading.PartingLaws.{All, and_left, and_right}
use Rattle.chain_rules.specs.declared.chain.Role.{Role}
use Rattle.chain_rules.specs.chain.Lists.{values_from}
use Rattle.chain_rules.specs.chain.Features.{first_drawn, prefix_end, literal_end, remaining, flexible_count, drawn_count}
use Rattle.chain_rules.specs.chain.Drawing.{carbon_atoms, marks, variables, sums}
use Rattle.chain_rules.specs.chain.Counts.{total, copies, Counts, Meets, methyls}
use Rattle.chain_rules.proofs.chain.Lists.{rises-distinct, length-values}
use Rattle.chain_rules.proofs.chain.Accepted.{Drawable, first_one, first_on, prefix-on, tail-long, carbon-most}
use Rattle.chain_rules.proofs.chain.Atoms.{carbon-atoms-count, marks-rise, marks-carbons, marks-notes}

-- ---- marked atoms among others

look_none : {A : Type 0} (i : ℕ) (ms : List (At A)) → memb i (atoms_of ms) ≡ false → look i ms ≡ none
unfolding look memb atoms_of
look_none i [] h = refl
look_none {A} i (at j a ∷ ms) h = go (eqb i j) h (look_none i ms)
  where
    go : (b : Bool) → (mathlib.Core.Bool.◌||◌ b (memb i (atoms_of ms))) ≡ false → (memb i (atoms_of ms) ≡ false → look i ms ≡ none) → cond b (some a) (look i ms) ≡ none
    go true e ih = absurd (false≢true (sym e))
    go false e ih = ih e

module _ (count : ℕ → ℕ) where
  counted : List (At ℕ) → ℕ → ℕ
  counted ms i = copies count (look i ms)

  -- one mark more, at an atom that is not among them
  more-none : (i v : ℕ) (ms : List (At ℕ)) (is : List ℕ) → times i is ≡ 0 → total (counted (at i v ∷ ms)) is ≡ total (counted ms) is
  unfolding total counted look times
  more-none i v ms [] h = refl
  more-none i v ms (j ∷ is) h = go (eqb i j) refl h (more-none i v ms is)
    where
      go : (b : Bool) → eqb i j ≡ b → cond b (suc (times i is)) (times i is) ≡ 0 → (times i is ≡ 0 → total (counted (at i v ∷ ms)) is ≡ total (counted ms) is)
          → copies count (cond (eqb j i) (some v) (look j ms)) + total (counted (at i v ∷ ms)) is ≡ copies count (look j ms) + total (counted ms) is
      go true e t ih = absurd (omega arith)
      go false e t ih = rw (ne_eqb j i (λ q. eqb-false i j e (sym q))) (omega (arith, ih t))

  -- one mark more, at an atom that stands among them once
  more-once : (i v : ℕ) (ms : List (At ℕ)) (is : List ℕ) → look i ms ≡ none → times i is ≡ 1
      → total (counted (at i v ∷ ms)) is + 1 ≡ total (counted ms) is + count v
  unfolding total counted look times copies
  more-once i v ms [] n h = absurd (omega arith)
  more-once i v ms (j ∷ is) n h = go (eqb i j) refl h (more-once i v ms is n)
    where
      here : i ≡ j → times i is ≡ 0
          → copies count (cond (eqb j i) (some v) (look j ms)) + total (counted (at i v ∷ ms)) is + 1 ≡ copies count (look j ms) + total (counted ms) is + count v
      here e t =
          let o : look j ms ≡ none = ap (λ (z : ℕ). look z ms) (sym e) ∙ n in
          rw (eq-eqb j i (sym e), o) (omega (arith, more-none i v ms is t))

      go : (b : Bool) → eqb i j ≡ b → cond b (suc (times i is)) (times i is) ≡ 1 → (times i is ≡ 1 → total (counted (at i v ∷ ms)) is + 1 ≡ total (counted ms) is + count v)
          → copies count (cond (eqb j i) (some v) (look j ms)) + total (counted (at i v ∷ ms)) is + 1 ≡ copies count (look j ms) + total (counted ms) is + count v
      go true e t ih = here (eqb-true i j e) (omega arith)
      go false e t ih = rw (ne_eqb j i (λ q. eqb-false i j e (sym q))) (omega (arith, ih t))

  no-marks : (is : List ℕ) → total (counted []) is ≡ length is
  unfolding total counted look copies
  no-marks [] = refl
  no-marks (i ∷ is) = omega (arith, no-marks is)

  -- THE COUNT: of atoms among which each marked one stands once, all but the marked count one each, and those what their variables count
  pub total-marked : (ms : List (At ℕ)) (is : List ℕ) → distinct (atoms_of ms) ≡ true → All (λ i. times i is ≡ 1) (atoms_of ms)
      → total (λ i. copies count (look i ms)) is + length (notes_of ms) ≡ length is + total count (notes_of ms)
  unfolding distinct atoms_of notes_of total counted
  total-marked [] is d h = omega (arith, no-marks is)
  total-marked (at i v ∷ ms) is d h =
      omega (
        arith,
        more-once i v ms is (look_none i ms (not-true (memb i (atoms_of ms)) (and_left (not (memb i (atoms_of ms))) (distinct (atoms_of ms)) d))) h.0,
        total-marked ms is (and_right (not (memb i (atoms_of ms))) (distinct (atoms_of ms)) d) h.1,
      )

-- ---- the sum of a chain

-- a sum that can be met: it has variables, no more than its number, which is small
pub record SumStands (s : Sum) : Type 0 where
  pub some : 0 < length (variables_of s)
  pub enough : length (variables_of s) ≤ number_of s
  pub small : number_of s ≤ 255

module _ (r : Role) (d : Chain) (a : Drawable r d) where
  -- for every choice of counts that meets the sum, the drawn carbons with their counts are those of the chain from f on
  pub carbons-add-up : (n v : ℕ) (count : ℕ → ℕ) → All (Meets count) (sums r d v)
      → total (λ i. copies count (look i (marks r d n v))) (carbon_atoms r d n) + first_drawn r ≡ d.carbon + 1
  unfolding sums drawn_count flexible_count literal_end remaining variables total
  carbons-add-up n v count h =
      go (eqb d.unlocated 0) refl h
      (total-marked count (marks r d n v) (carbon_atoms r d n) (rises-distinct n _ (atoms_of (marks r d n v)) (marks-rise r d n v)) (marks-carbons r d n v))
      (marks-notes r d n v) (carbon-atoms-count r d n)
    where
      all : ℕ
      all = total (λ i. copies count (look i (marks r d n v))) (carbon_atoms r d n)

      go : (b : Bool) → eqb d.unlocated 0 ≡ b
          → All (Meets count) (cond b [] (sum (values_from (λ i. v + i) 0 (cond b 0 (suc d.unlocated))) (d.carbon - prefix_end r d - d.unlocated - 1) ∷ []))
          → all + length (notes_of (marks r d n v)) ≡ length (carbon_atoms r d n) + total count (notes_of (marks r d n v))
          → notes_of (marks r d n v) ≡ values_from (λ i. v + i) 0 (cond b 0 (suc d.unlocated))
          → length (carbon_atoms r d n) ≡ suc (cond b d.carbon (prefix_end r d)) - first_drawn r + cond b 0 (2 * d.unlocated + 2)
          → all + first_drawn r ≡ d.carbon + 1
      go true e m t w l =
          let x : length (notes_of (marks r d n v)) ≡ 0 = ap length w ∙ length-values (λ i. v + i) 0 0 in
          let y : total count (notes_of (marks r d n v)) ≡ 0 = ap (total count) w in
          omega (arith, first_on r d a)
      go false e m t w l =
          let x : length (notes_of (marks r d n v)) ≡ suc d.unlocated = ap length w ∙ length-values (λ i. v + i) 0 (suc d.unlocated) in
          let y : total count (notes_of (marks r d n v)) ≡ d.carbon - prefix_end r d - d.unlocated - 1 = ap (total count) w ∙ m.0 in
          let z : 2 * d.unlocated + 2 ≤ d.carbon - prefix_end r d = tail-long r d a (eqb-false d.unlocated 0 e) in
          omega (arith, prefix-on r d a)

  -- .. and with the carbons before f, which the template draws, and one for a methyl they are the written carbons
  pub written-add-up : (n v : ℕ) (count : ℕ → ℕ) → All (Meets count) (sums r d v)
      → first_drawn r - 1 + total (λ i. copies count (look i (marks r d n v))) (carbon_atoms r d n) + methyls d ≡ d.written
  unfolding methyls
  written-add-up n v count h = go d.branched a.sound.reduced
    where
      go : (b : Bool) → Reduced b d.written d.carbon
          → first_drawn r - 1 + total (λ i. copies count (look i (marks r d n v))) (carbon_atoms r d n) + cond b 1 0 ≡ d.written
      go true e = omega (arith, carbons-add-up n v count h, first_one r)
      go false e = omega (arith, carbons-add-up n v count h, first_one r)

  -- ---- there are such counts

  pub sums-stand : (v : ℕ) → All SumStands (sums r d v)
  unfolding sums variables remaining
  sums-stand v = go (eqb d.unlocated 0) refl
    where
      go : (b : Bool) → eqb d.unlocated 0 ≡ b
          → All SumStands (cond b [] (sum (values_from (λ i. v + i) 0 (cond b 0 (suc d.unlocated))) (d.carbon - prefix_end r d - d.unlocated - 1) ∷ []))
      go true e = tt
      go false e =
          let x : length (values_from (λ i. v + i) 0 (suc d.unlocated)) ≡ suc d.unlocated = length-values (λ i. v + i) 0 (suc d.unlocated) in
          let z : 2 * d.unlocated + 2 ≤ d.carbon - prefix_end r d = tail-long r d a (eqb-false d.unlocated 0 e) in
          (record { some = omega arith; enough = omega arith; small = omega (arith, carbon-most r d a) }, tt)

-- the first variable counts what the others leave, and each of those counts one
unfoldable pub choice : ℕ → ℕ → ℕ → ℕ → ℕ
choice v n k x = cond (eqb x v) (n - k) 1

total-ones : (count : ℕ → ℕ) (f : ℕ → ℕ) (i k : ℕ) → ((j : ℕ) → i ≤ j → count (f j) ≡ 1) → total count (values_from f i k) ≡ k
unfolding total values_from
total-ones count f i zero h = refl
total-ones count f i (suc k) h = omega (arith, h i (omega arith), total-ones count f (suc i) k (λ j q. h j (omega arith)))

-- what a choice of counts must meet of k + 1 variables from v on
choice-meets : (v n k : ℕ) → k < n → total (choice v n k) (values_from (λ i. v + i) 0 (suc k)) ≡ n
unfolding total values_from choice
choice-meets v n k h =
    let first : choice v n k (v + 0) ≡ n - k = rw (eq-eqb (v + 0) v (omega arith)) in
    let rest : total (choice v n k) (values_from (λ i. v + i) 1 k) ≡ k =
    total-ones (choice v n k) (λ i. v + i) 1 k (λ j q. rw (ne_eqb (v + j) v (λ e. omega arith)))
    in
    omega arith

choice-counts : (v n k : ℕ) → k < n → Counts (choice v n k)
unfolding choice
choice-counts v n k h x = go (eqb x v)
  where
    go : (b : Bool) → 1 ≤ cond b (n - k) 1
    go true = omega arith
    go false = omega arith

pub record Chosen (ss : List Sum) : Type 0 where
  pub count : ℕ → ℕ
  pub counts : Counts count
  pub meets : All (Meets count) ss

-- every chain's sum can be met
pub sums-chosen : (r : Role) (d : Chain) → Drawable r d → (v : ℕ) → Chosen (sums r d v)
unfolding sums variables remaining
sums-chosen r d a v = go (eqb d.unlocated 0) refl
  where
    go : (b : Bool) → eqb d.unlocated 0 ≡ b
        → Chosen (cond b [] (sum (values_from (λ i. v + i) 0 (cond b 0 (suc d.unlocated))) (d.carbon - prefix_end r d - d.unlocated - 1) ∷ []))
    go true e = record { count = λ x. 1; counts = λ x. omega arith; meets = tt }
    go false e =
        let n : ℕ = d.carbon - prefix_end r d - d.unlocated - 1 in
        let z : 2 * d.unlocated + 2 ≤ d.carbon - prefix_end r d = tail-long r d a (eqb-false d.unlocated 0 e) in
        record {
          count = choice v n d.unlocated;
          counts = choice-counts v n d.unlocated (omega arith);
          meets = (choice-meets v n d.unlocated (omega arith), tt);
        }
