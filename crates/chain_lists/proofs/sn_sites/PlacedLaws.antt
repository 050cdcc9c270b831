-- What holds of every chain that a template places, for every class, tail and chains.
-- Assumes nothing.
use Prim.Native.Nat.{ℕ, suc, ◌+◌, ◌≤◌, ◌<◌}
use native.Mathlib.Omega.{arith}
use mathlib.Core.Path.{◌≡◌, refl}
use mathlib.Core.Bool.{true}
use mathlib.Core.Option.{Option, none, some}
use mathlib.Core.List.{List, [], ◌∷◌}
use lib.Dec.{ltb}
use lib.ListN.{length}
use borrow.Author.Tests.{ltb-true, leb-true}
use Rattle.chain_record.specs.plain.Chain.{Chain}
use Rattle.reading_rules.proofs.reading.PartingLaws.{All, all_map, and_left, and_right}
use Rattle.reading_rules.proofs.reading.ListLaws.{below_all}
use Rattle.chain_rules.specs.declared.chain.Role.{Role}
use Rattle.chain_rules.specs.declared.chain.Role.TheVariants.{Slot, Acyl, Base}
use Rattle.chain_rules.specs.chain.Lists.{all_of, Each}
use Rattle.chain_rules.proofs.chain.Lists.{all-each, all_append, all_both}
use Rattle.template_rules.specs.declared.Class.{Class}
use Rattle.template_rules.specs.Template.{Element, fixed, tail, slot, chain, elements}
use Rattle.template_rules.specs.Drawn as request
use Rattle.template_rules.specs.Drawn.{nonempty, fixed_pieces, tail_part, atoms_of_pieces, site_of, place, atoms_after, variables_after, placed_from, placed}
use Rattle.template_rules.proofs.Templates.{sns_of, fitting}
use Rattle.template_rules.proofs.Sorted.{sns-placed, length-placed}
use Rattle.placement.specs.chain_notes.Fragment.{site_or}

-- ---- the sns are 1 to 4

positive : (xs : List ℕ) → all_of (ltb 0) xs ≡ true → All (λ z. 1 ≤ z) xs
unfolding all_of
positive [] h = tt
positive (x ∷ xs) h = (ltb-true 0 x (and_left (ltb 0 x) (all_of (ltb 0) xs) h), positive xs (and_right (ltb 0 x) (all_of (ltb 0) xs) h))

pub sns-told : (c : Class) (t : List ℕ) (ds : List Chain) → Each (λ p. (1 ≤ p.sn) × (p.sn ≤ 4)) (placed c t ds)
unfolding placed
sns-told c t ds =
    let f = fitting c in
    let within : All (λ z. (1 ≤ z) × (z ≤ 4)) (sns_of (elements c)) =
    all_both (λ z. 1 ≤ z) (λ z. z ≤ 4) (sns_of (elements c)) (positive (sns_of (elements c)) f.from_one)
    (all_map {P = λ z. z < 5} (λ z h. omega arith) (sns_of (elements c)) (below_all 5 (sns_of (elements c)) f.four)) in
    all-each (λ (p : request.Placed). (1 ≤ p.sn) × (p.sn ≤ 4)) (placed_from t ds 0 0 (elements c)) (sns-placed (λ z. (1 ≤ z) × (z ≤ 4)) t ds 0 0 (elements c) within)

-- ---- no more chains than four

pub places-few : (c : Class) (t : List ℕ) (ds : List Chain) → length (placed c t ds) ≤ 4
unfolding placed
places-few c t ds = omega (arith, length-placed t ds 0 0 (elements c), leb-true (length (sns_of (elements c))) 4 (fitting c).few)

-- ---- the site of a chain is that of its role

-- a base has none, any other chain has one
abbrev pub Sited : request.Placed → Type 0
Sited p = p.site ≡ site_of p.role (site_or p.first p.site)

sited-at : (r : Role) (n m : ℕ) → site_of r n ≡ site_of r (site_or m (site_of r n))
sited-at Slot n m = refl
sited-at Acyl n m = refl
sited-at Base n m = refl

sited-place : (sn : ℕ) (r : Role) (i n v : ℕ) (o : Option Chain) → All Sited (place sn r (site_of r i) n v o)
sited-place sn r i n v none = tt
sited-place sn r i n v (some d) = (sited-at r i n, tt)

sited-from : (t : List ℕ) (ds : List Chain) (n v : ℕ) (es : List Element) → All Sited (placed_from t ds n v es)
unfolding placed_from
sited-from t ds n v [] = tt
sited-from t ds n v (fixed b ∷ es) = sited-from t ds (n + atoms_of_pieces (fixed_pieces b)) v es
sited-from t ds n v (tail ∷ es) = sited-from t ds (n + (tail_part t).size) v es
sited-from t ds n v (slot sn ∷ es) =
    all_append Sited (place sn Slot (site_of Slot n) (suc n) v (nonempty sn ds)) _ (sited-place sn Slot n (suc n) v (nonempty sn ds))
    (sited-from t ds (atoms_after Slot (suc n) (nonempty sn ds)) (variables_after v (nonempty sn ds)) es)
sited-from t ds n v (chain sn r ∷ es) =
    all_append Sited (place sn r (site_of r n) n v (nonempty sn ds)) _ (sited-place sn r n n v (nonempty sn ds))
    (sited-from t ds (atoms_after r n (nonempty sn ds)) (variables_after v (nonempty sn ds)) es)

pub sites-placed : (c : Class) (t : List ℕ) (ds : List Chain) → Each Sited (placed c t ds)
unfolding placed
sites-placed c t ds = all-each Sited (placed_from t ds 0 0 (elements c)) (sited-from t ds 0 0 (elements c))
