-- Laws of the members of a chain: their rows and their places, carbon by carbon and part by part.
use mathlib.Core.Path.{◌≡◌, refl, ap, ◌∙◌}
use mathlib.Core.Bool.{Bool, false}
use Prim.Native.Nat.{ℕ, suc, ◌+◌}
use native.Mathlib.Omega.{arith}
use mathlib.Core.List.{List, [], ◌∷◌, ◌++◌}
use lib.ListN.{length}
use Rattle.scanner.specs.part.Ascii.{ascii}
use Rattle.reading_rules.specs.smiles.Row.{link, Row, row}
use Rattle.reading_rules.specs.smiles.Machine.{plainly}
use Rattle.reading_rules.specs.smiles.Part.{Part, hung}
use Rattle.reading_rules.specs.smiles.Chain.{Ring, Carbon, carbon_end, carbon_last, part_rows, bridge_rows, ring_links, Kind, other, Member, others, carbon_members, float_members, rows_of, places}

-- ---- rows

pub rows_append : (xs ys : List Member) → rows_of (xs ++ ys) ≡ rows_of xs ++ rows_of ys
unfolding rows_of
rows_append [] ys = refl
rows_append (x ∷ xs) ys = ap (λ (z : List Row). x.row ∷ z) (rows_append xs ys)

pub rows-others : (rs : List Row) (ys : List Member) → rows_of (others rs ++ ys) ≡ rs ++ rows_of ys
unfolding rows_of others
rows-others [] ys = refl
rows-others (r ∷ rs) ys = ap (λ (z : List Row). r ∷ z) (rows-others rs ys)

pub rows-length : (xs : List Member) → length (rows_of xs) ≡ length xs
unfolding rows_of
rows-length [] = refl
rows-length (x ∷ xs) = ap suc (rows-length xs)

-- a carbon, what branches off it, its bridge, and the carbons after it
pub carbon-rows : (pos : ℕ → ℕ) (rs : List Ring) (k n prev : ℕ) (c : Carbon) (cs : List Carbon)
    → rows_of (carbon_members pos rs k n prev (c ∷ cs))
    ≡ (row (ascii "C") (link prev (plainly c.before) ∷ ring_links pos k rs) ∷ [])
    ++ (part_rows n (suc n) c.parts ++ (bridge_rows c.bridge n ++ rows_of (carbon_members pos rs (suc k) (carbon_end n c) (carbon_last n c) cs)))
unfolding carbon_members rows_of
carbon-rows pos rs k n prev c cs =
    let more : List Member = carbon_members pos rs (suc k) (carbon_end n c) (carbon_last n c) cs in
    ap (λ (z : List Row). row (ascii "C") (link prev (plainly c.before) ∷ ring_links pos k rs) ∷ z)
    (rows-others (part_rows n (suc n) c.parts) (others (bridge_rows c.bridge n) ++ more)
    ∙ ap (λ (z : List Row). part_rows n (suc n) c.parts ++ z) (rows-others (bridge_rows c.bridge n) more))

-- a `*` with its part, and the parts after it
pub float-rows : (n : ℕ) (p : Part) (ps : List Part) → rows_of (float_members n (p ∷ ps)) ≡ (row (ascii "*") [] ∷ hung n (suc n) p) ++ rows_of (float_members (suc n + p.size) ps)
unfolding float_members rows_of
float-rows n p ps = ap (λ (z : List Row). row (ascii "*") [] ∷ z) (rows-others (hung n (suc n) p) (float_members (suc n + p.size) ps))

-- ---- places

-- other atoms are passed over by whoever looks for carbons or for stars
pub places-others : (is : Kind → Bool) → is other ≡ false → (n : ℕ) (rs : List Row) (ys : List Member) → places is n (others rs ++ ys) ≡ places is (n + length rs) ys
unfolding places others
places-others is e n [] ys = ap (λ (z : ℕ). places is z ys) (omega arith)
places-others is e n (r ∷ rs) ys = rw e (places-others is e (suc n) rs ys ∙ ap (λ (z : ℕ). places is z ys) (omega arith))
