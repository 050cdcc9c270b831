-- What the numbers of the code say of the chains that they stand for. Assumes nothing.
use Prim.Native.Nat.{ℕ, zero, suc, ◌+◌, ◌*◌, ◌≤◌, ◌<◌, min}
use native.Mathlib.Nat.{mul-le-mul_right}
use native.Mathlib.Omega.{arith}
use mathlib.Core.Path.{◌≡◌, refl, sym, ap}
use mathlib.Core.Bool.{Bool, true, false}
use mathlib.Core.Option.{Option, none, some}
use mathlib.Core.List.{List, [], ◌∷◌}
use lib.ListN.{length, take, drop, get_or}
use lib.Dec.{ltb}
use borrow.Author.Tests.{ltb-true, ltb-false}
use Rattle.std.proofs.lemmas.List.{get_or_past}
use Rattle.chain_record.specs.plain.Chain.{Chain}
use Rattle.reading_rules.proofs.reading.Part.{none≢some}
use Rattle.reading_rules.proofs.reading.PartingLaws.{All}
use Rattle.chain_rules.proofs.chain.Lists.{all_append}
use Rattle.chain_rules.specs.declared.chain.Role.{Role}
use Rattle.chain_rules.specs.declared.chain.Role.TheVariants.{Slot}
use Rattle.chain_rules.specs.chain.Features.{groups_on, floating}
use Rattle.drawn_chain.specs.declared.drawable.Shape.{Shape}
use Rattle.drawn_chain.specs.declared.rooms.Lists.{Lists}
use Rattle.drawn_chain.specs.declared.rooms.TheConstants.{NO_LISTS}
use Rattle.drawn_chain.specs.drawable.Drawn.{Drawn, drawn_of}
use Rattle.drawn_chain.specs.drawable.Chains.{drawn_in, items_of}
use Rattle.drawn_chain.proofs.drawable.Parts.{groups-few, floats-few}
use Rattle.request_chains.specs.chain_shapes.Shapes.{no_shape, chains_kept}
use Rattle.template_rules.specs.declared.Class.{Class}
use Rattle.template_rules.specs.Template.{Element, fixed, tail, slot, chain, elements, role_of, has_tail}
use Rattle.template_rules.specs.Drawn.{chain_at, nonempty, fixed_pieces, tail_part, atoms_of_pieces, site_of, place, atoms_after, variables_after, placed_from, placed}
use Rattle.template_rules.specs.Written.{line_of}
use Rattle.chain_rules.specs.chain.Lists.{Each}
use Rattle.placement.specs.chain_notes.Fragment as fragment
use Rattle.request_chains.specs.chain_shapes.Sn.{drawn_at, IsDrawn}
use Rattle.placement.specs.chain_notes.Fragment.{Carries, Stood}
use Rattle.class_templates.specs.Templates.{TailOf}
use Rattle.class_templates.specs.Classes.{StoodIn}
use Rattle.class_lines.specs.longest.Longest.{text_most, drawn_most, sites_most, numbers_most, chain_most, chain_most_of, most_at, line_most}
use Rattle.class_lines.specs.longest.Covered.{shape_most, ChainCovered, Covered, SlightShape, SlightAt, Slight, SlightCovered}
use Rattle.class_lines.proofs.longest.Chains.{Modest}
use Rattle.class_lines.proofs.longest.Line.{line-most}

-- ---- more of anything makes a line no shorter

numbers_more : (c u g f q g' f' q' : ℕ) → g ≤ g' → f ≤ f' → q ≤ q' → numbers_most c u g f q ≤ numbers_most c u g' f' q'
unfolding numbers_most text_most sites_most
numbers_more c u g f q g' f' q' a b e = omega (arith, mul-le-mul_right (14 + 6 * drawn_most c u) b)

-- ---- a chain by its numbers

module _ (r : Role) (d : Chain) (x : Shape) (l : Lists) (h : Carries r d (drawn_of x l)) where
  groups-held : length (groups_on r d) ≤ 18
  groups-held = omega (arith, ap length h.draws.groups, groups-few x l)

  floats-held : length (floating d) ≤ min x.float_count 18
  floats-held = omega (arith, ap length h.draws.floats, floats-few x l)

  modest : Modest r d
  modest =
      record {
        drawn = h.drawn;
        groups = groups-held;
        floats = omega (arith, floats-held);
        unlocated = h.bonds;
        carbon = omega (arith, h.readable.carbons);
      }

  chain-covered : chain_most r d ≤ shape_most x
  unfolding chain_most shape_most
  chain-covered =
      rw (h.draws.carbon, h.draws.unlocated)
      (numbers_more d.carbon d.unlocated (length (groups_on r d)) (length (floating d)) (length d.rings) 18 (min x.float_count 18) 8 groups-held floats-held h.rings)

-- ---- the chain of an sn

-- what stands at a place of some chains is one of the numbers, with some part
abbrev Picked : List Shape → ℕ → ℕ → Option Drawn → Type 0
Picked xs n i none = Unit {0}
Picked xs n i (some y) = (i < n) × ((l : Lists) × (y ≡ drawn_of (get_or xs i no_shape) l))

picked : (xs : List Shape) (n i : ℕ) (l : List Lists) → Picked xs n i (drawn_at (suc i) (take n (items_of xs l)))
unfolding drawn_at items_of
picked xs zero i l = tt
picked [] (suc n) i l = tt
picked (x ∷ xs) (suc n) zero l = (omega arith, (get_or l 0 NO_LISTS, refl))
picked (x ∷ xs) (suc n) (suc i) l = go (drawn_at (suc i) (take n (items_of xs (drop 1 l)))) (picked xs n i (drop 1 l))
  where
    go : (o : Option Drawn) → Picked xs n i o → Picked (x ∷ xs) (suc n) (suc i) o
    go none h = tt
    go (some y) h = (omega (arith, h.0), h.1)

-- a chain with carbons has a place among those that count, and its numbers there
record Numbered (ns : List Shape) (count i : ℕ) (r : Role) (d : Chain) : Type 0 where
  counted : i < count
  modest : Modest r d
  covered : chain_most r d ≤ shape_most (get_or ns i no_shape)
  carbon : d.carbon ≡ (get_or ns i no_shape).carbon

module _ (ρ : ℕ → Role) (ds : List Chain) (count : ℕ) (ns : List Shape) (l : List Lists) (h : Stood ρ ds (chains_kept count ns l)) where
  told : (i : ℕ) (d : Chain) → nonempty (suc i) ds ≡ some d → Numbered ns count i (ρ (suc i)) d
  unfolding drawn_in
  told i d e = go (drawn_at (suc i) (take count (items_of ns l))) refl (picked ns count i l)
    where
      r : Role
      r = ρ (suc i)

      carried : (y : Drawn) → IsDrawn (drawn_at (suc i) (take count (items_of ns l))) y → Carries r d y
      carried y g = let z = h.stands (suc i) y (record { is = g }) in rw e at z

      go : (o : Option Drawn) → drawn_at (suc i) (take count (items_of ns l)) ≡ o → Picked ns count i o → Numbered ns count i r d
      go none q p =
          let z : Carries r d (drawn_of no_shape NO_LISTS) = carried (drawn_of no_shape NO_LISTS) (rw q refl) in
          absurd (omega (arith, z.some, z.draws.carbon))
      go (some y) q p =
          let x = get_or ns i no_shape in
          let z : Carries r d (drawn_of x p.1.0) = carried (drawn_of x p.1.0) (rw q (sym p.1.1)) in
          record { counted = p.0; modest = modest r d x p.1.0 z; covered = chain-covered r d x p.1.0 z; carbon = sym z.draws.carbon }

  -- an sn is never 0
  no-chain : (ds : List Chain) (d : Chain) → nonempty zero ds ≡ some d → ⊥
  unfolding nonempty chain_at
  no-chain [] d e = none≢some e
  no-chain (b ∷ ds) d e = none≢some e

  all-modest : (sn : ℕ) (d : Chain) → nonempty sn ds ≡ some d → Modest (ρ sn) d
  all-modest zero d e = absurd (no-chain ds d e)
  all-modest (suc i) d e = (told i d e).modest

  all-slight : (m : ℕ) → Slight m count ns → (sn : ℕ) (d : Chain) → nonempty sn ds ≡ some d → d.carbon ≤ m
  all-slight m g zero d e = absurd (no-chain ds d e)
  all-slight m g (suc i) d e = let z = told i d e in omega (arith, z.carbon, (g.all i z.counted).carbons)

-- ---- what the functions answer

-- a number no less than what the shape at a place adds, if it counts
shape-covered : (count i r : ℕ) (ns : List Shape) → r ≤ 30000000 → (i < count → shape_most (get_or ns i no_shape) ≤ r) → ChainCovered count ns i r
shape-covered count i r ns f g = record { few = f; covers = λ ρ ds l h. go ρ ds l h (nonempty (suc i) ds) refl }
  where
    go : (ρ : ℕ → Role) (ds : List Chain) (l : List Lists) → Stood ρ ds (chains_kept count ns l) → (o : Option Chain) → nonempty (suc i) ds ≡ o → chain_most_of (ρ (suc i)) o ≤ r
    go ρ ds l h none q = omega arith
    go ρ ds l h (some d) q = let z = told ρ ds count ns l h i d q in omega (arith, z.covered, g z.counted)

-- past the chains that count
pub past-covered : (count i : ℕ) (ns : List Shape) → count ≤ i → ChainCovered count ns i 0
past-covered count i ns g = shape-covered count i 0 ns (omega arith) (λ h. absurd (omega (arith, g, h)))

-- one that counts
pub there-covered : (count i r : ℕ) (ns : List Shape) (x : Shape) → x ≡ get_or ns i no_shape → r ≡ shape_most x → r ≤ 30000000 → ChainCovered count ns i r
there-covered count i r ns x e f g = shape-covered count i r ns g (λ h. rw (f, e) (omega arith))

-- THE LINE
pub line-covered : (t : List ℕ) (k count : ℕ) (ns : List Shape) (a b c d : ℕ) → ChainCovered count ns 0 a → ChainCovered count ns 1 b → ChainCovered count ns 2 c → ChainCovered count ns 3 d
    → Covered t k count ns (120 + length t + k + (a + b + c + d))
unfolding line_most most_at
line-covered t k count ns a b c d p q r s = record { covers = go }
  where
    go : (x : Class) (swap : Bool) (ds : List Chain) (l : List Lists) → (has_tail x ≡ true → TailOf t k) → StoodIn x ds (chains_kept count ns l) → Each fragment.Told (placed x t ds)
        → length (line_of x swap t ds) ≤ 120 + length t + k + (a + b + c + d)
    go x swap ds l h g m =
        omega (
          arith,
          line-most x swap t k ds h m (all-modest (role_of x) ds count ns l g),
          p.covers (role_of x) ds l g,
          q.covers (role_of x) ds l g,
          r.covers (role_of x) ds l g,
          s.covers (role_of x) ds l g,
        )

-- ---- chains of which none is long

-- one past those that count
pub past-slight : (m count i : ℕ) (ns : List Shape) → count ≤ i → SlightAt m count ns i
past-slight m count i ns g = λ h. absurd (omega arith)

-- one that counts
pub there-slight : (m count i : ℕ) (ns : List Shape) (x : Shape) → x ≡ get_or ns i no_shape → x.carbon ≤ m → x.unlocated ≤ m → SlightAt m count ns i
there-slight m count i ns x e a b = λ h. rw (← e) (record { carbons = a; bonds = b })

-- all of them: past the last place stands an empty chain
pub slight : {m count : ℕ} {ns : List Shape} (n : ℕ) → length ns ≤ n → ((i : ℕ) → i < n → SlightAt m count ns i) → Slight m count ns
slight {m} {count} {ns} n size f = record { all = λ i. go i (ltb i n) refl }
  where
    go : (i : ℕ) (b : Bool) → ltb i n ≡ b → SlightAt m count ns i
    go i true e = f i (ltb-true i n e)
    go i false e = λ h. rw (get_or_past ns i no_shape (omega (arith, size, ltb-false i n e))) (record { carbons = omega arith; bonds = omega arith })

-- what one adds to a line
slight-numbers : (c u f : ℕ) → c ≤ 30 → u ≤ 30 → f ≤ 18 → numbers_most c u 18 f 8 ≤ 12672
unfolding numbers_most text_most sites_most drawn_most
slight-numbers c u f a b e = omega (arith, mul-le-mul_right (14 + 6 * (c + 2 * u + 2)) e)

slight-shape : (x : Shape) → SlightShape 30 x → shape_most x ≤ 12672
unfolding shape_most
slight-shape x h = slight-numbers x.carbon x.unlocated (min x.float_count 18) h.carbons h.bonds (omega arith)

slight-chain : (count i : ℕ) (ns : List Shape) → SlightAt 30 count ns i → ChainCovered count ns i 12672
slight-chain count i ns g = shape-covered count i 12672 ns (omega arith) (λ h. slight-shape (get_or ns i no_shape) (g h))

-- a line of four of them
pub slight-covered : (t : List ℕ) (k : ℕ) → SlightCovered 30 t k (120 + length t + k + 50688)
slight-covered t k =
    record {
      covers = λ count ns h.
          line-covered t k count ns 12672 12672 12672 12672
          (slight-chain count 0 ns (h.all 0))
          (slight-chain count 1 ns (h.all 1))
          (slight-chain count 2 ns (h.all 2))
          (slight-chain count 3 ns (h.all 3));
    }

-- the chains of a template are those of the tokens
slight-place : (m sn : ℕ) (r : Role) (s : Option ℕ) (n v : ℕ) (o : Option Chain) → ((d : Chain) → o ≡ some d → d.carbon ≤ m) → All (λ p. p.chain.carbon ≤ m) (place sn r s n v o)
slight-place m sn r s n v none h = tt
slight-place m sn r s n v (some d) h = (h d refl, tt)

slight-from : (m : ℕ) (t : List ℕ) (ds : List Chain) → ((sn : ℕ) (d : Chain) → nonempty sn ds ≡ some d → d.carbon ≤ m) → (n v : ℕ) (es : List Element) → All (λ p. p.chain.carbon ≤ m) (placed_from t ds n v es)
unfolding placed_from
slight-from m t ds h n v [] = tt
slight-from m t ds h n v (fixed b ∷ es) = slight-from m t ds h (n + atoms_of_pieces (fixed_pieces b)) v es
slight-from m t ds h n v (tail ∷ es) = slight-from m t ds h (n + (tail_part t).size) v es
slight-from m t ds h n v (slot sn ∷ es) =
    all_append (λ p. p.chain.carbon ≤ m) (place sn Slot (site_of Slot n) (suc n) v (nonempty sn ds)) _ (slight-place m sn Slot (site_of Slot n) (suc n) v (nonempty sn ds) (h sn))
    (slight-from m t ds h (atoms_after Slot (suc n) (nonempty sn ds)) (variables_after v (nonempty sn ds)) es)
slight-from m t ds h n v (chain sn r ∷ es) =
    all_append (λ p. p.chain.carbon ≤ m) (place sn r (site_of r n) n v (nonempty sn ds)) _ (slight-place m sn r (site_of r n) n v (nonempty sn ds) (h sn))
    (slight-from m t ds h (atoms_after r n (nonempty sn ds)) (variables_after v (nonempty sn ds)) es)

pub slight-placed : (m : ℕ) (c : Class) (t : List ℕ) (ds : List Chain) (count : ℕ) (ns : List Shape) (l : List Lists) → StoodIn c ds (chains_kept count ns l) → Slight m count ns
    → All (λ p. p.chain.carbon ≤ m) (placed c t ds)
unfolding placed
slight-placed m c t ds count ns l h g = slight-from m t ds (all-slight (role_of c) ds count ns l h m g) 0 0 (elements c)
