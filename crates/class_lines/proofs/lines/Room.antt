-- The room that the indices and rows of an accepted request take: no more chains than tokens, each with no more indices than carbons and 16 floating
-- groups.
-- Assumes nothing.
use Prim.Native.Nat.{ℕ, suc, ◌*◌, ◌≤◌}
use native.Mathlib.Nat.{mul-le-mul_right}
use native.Mathlib.Omega.{arith}
use mathlib.Core.Path.{◌≡◌, refl, ap}
use mathlib.Core.Bool.{Bool, true, false, cond}
use mathlib.Core.List.{List, [], ◌∷◌}
use lib.Dec.{eqb}
use lib.ListN.{length, length-append}
use Rattle.chain_record.specs.declared.plain.Mod.{Mod}
use Rattle.chain_record.specs.plain.Chain.{Chain}
use Rattle.reading_rules.proofs.reading.PartingLaws.{All, all_map}
use Rattle.chain_rules.specs.chain.Features.{unlocated, floating}
use Rattle.chain_rules.proofs.chain.Accepted.{Drawable, carbon-most}
use Rattle.chain_rules.proofs.chain.Lists.{all_both}
use Rattle.drawn_chain.proofs.drawable.Lists.{length-only}
use Rattle.chain_pieces.specs.branches.Text.{rows_in}
use Rattle.template_rules.specs.declared.Class.{Class}
use Rattle.template_rules.specs.Template.{elements}
use Rattle.template_rules.specs.Drawn.{Placed, placed_from, placed, by_sn}
use Rattle.template_rules.specs.Written.{indices_of}
use Rattle.template_rules.specs.Promise.{names_of, chains_from}
use Rattle.template_rules.proofs.Placing.{variables_to}
use Rattle.template_rules.proofs.Notes.{placing-drawable}
use Rattle.template_rules.proofs.Sorted.{length-sorted}
use Rattle.template_rules.proofs.Theorem.{Accepted, promise, drawn-request, indices-most}
use Rattle.placement.specs.chain_notes.Fragment.{rows_of, gathered}

rows_few : (p : Placed) → Drawable p.role p.chain → length (rows_of p) ≤ 16
unfolding rows_of rows_in floating unlocated
rows_few p a = omega (arith, same (floating p.chain), length-only (λ (g : Mod). eqb g.pos 0) p.chain.groups, a.sound.within.groups)
  where
    same : (gs : List Mod) → length (rows_in gs) ≡ length gs
    same [] = refl
    same (g ∷ gs) = ap suc (same gs)

gathered-most : (f : Placed → List ℕ) (m : ℕ) (ps : List Placed) → All (λ p. length (f p) ≤ m) ps → length (gathered f ps) ≤ length ps * m
unfolding gathered
gathered-most f m [] a = omega arith
gathered-most f m (p ∷ ps) a = omega (arith, length-append (f p) (gathered f ps), a.0, gathered-most f m ps a.1)

-- the more places, the more room
more-places : (k m n r : ℕ) → k ≤ n → r ≤ k * m → r ≤ n * m
more-places k m n r h g = omega (arith, g, mul-le-mul_right m h)

-- ---- no more chains are placed than there are tokens

length-names : (ps : List Placed) → length (names_of ps) ≡ length ps
unfolding names_of
length-names [] = refl
length-names (p ∷ ps) = ap suc (length-names ps)

length-chains : (sn : ℕ) (ds : List Chain) → length (chains_from sn ds) ≤ length ds
unfolding chains_from
length-chains sn [] = omega arith
length-chains sn (d ∷ ds) = go (eqb d.carbon 0) (length-chains (suc sn) ds)
  where
    go : (b : Bool) → length (chains_from (suc sn) ds) ≤ length ds → length (cond b (chains_from (suc sn) ds) ((sn, d) ∷ chains_from (suc sn) ds)) ≤ suc (length ds)
    go true h = omega arith
    go false h = omega arith

pub places-most : (c : Class) (t : List ℕ) (ds : List Chain) → Accepted c t ds → length (placed c t ds) ≤ length ds
places-most c t ds a =
    let same : length (names_of (by_sn (placed c t ds))) ≡ length (chains_from 1 ds) = ap (λ l. length l) (promise c false t ds a).chains in
    omega (arith, same, length-names (by_sn (placed c t ds)), length-sorted (placed c t ds), length-chains 1 ds)

-- THE ROOM that an accepted request takes
module _ (c : Class) (t : List ℕ) (ds : List Chain) (a : Accepted c t ds) where
  drawable : All (λ p. Drawable p.role p.chain) (placed c t ds)
  unfolding placed
  drawable = let st = drawn-request c t ds a in placing-drawable 0 (length st.rows) 0 (variables_to ds 0 (elements c)) (placed_from t ds 0 0 (elements c)) st.placing

  -- the indices, where no chain has more than m carbons
  pub index-room : (m : ℕ) → All (λ p. p.chain.carbon ≤ m) (placed c t ds) → length (gathered indices_of (placed c t ds)) ≤ length ds * m
  index-room m h =
      let few : All (λ p. length (indices_of p) ≤ m) (placed c t ds) =
      all_map {P = λ p. Drawable p.role p.chain × (p.chain.carbon ≤ m)} (λ p q. omega (arith, indices-most p q.0, q.1)) (placed c t ds)
      (all_both (λ p. Drawable p.role p.chain) (λ p. p.chain.carbon ≤ m) (placed c t ds) drawable h) in
      more-places (length (placed c t ds)) m (length ds) _ (places-most c t ds a) (gathered-most indices_of m (placed c t ds) few)

  -- none has more than 255
  pub carbons-few : All (λ p. p.chain.carbon ≤ 255) (placed c t ds)
  carbons-few = all_map {P = λ p. Drawable p.role p.chain} (λ p q. carbon-most p.role p.chain q) (placed c t ds) drawable

  pub rows-room : length (gathered rows_of (placed c t ds)) ≤ length ds * 16
  rows-room =
      more-places (length (placed c t ds)) 16 (length ds) _ (places-most c t ds a)
      (gathered-most rows_of 16 (placed c t ds) (all_map {P = λ p. Drawable p.role p.chain} rows_few (placed c t ds) drawable))
