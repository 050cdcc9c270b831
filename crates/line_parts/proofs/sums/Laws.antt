-- Laws of the writers of sums: a law for each way out and each turn of a loop. Assumes nothing.
use Prim.Native.Nat.{ℕ, zero, suc, ◌+◌, ◌^◌, ◌<◌}
use native.Mathlib.Nat.{zero-add}
use native.Mathlib.Numerals.{add-one}
use mathlib.Core.Path.{◌≡◌, refl, ap, ◌∙◌}
use mathlib.Core.Bool.{Bool}
use mathlib.Core.List.{List, [], ◌∷◌, ◌++◌, map, map-append, append_assoc}
use lib.ListN.{length, length-map}
use lib.Dec.{ltb}
use Rattle.writer.specs.emit.Text.{Written}
use Rattle.writer.proofs.emit.Laws.{written-append}
use Rattle.reading_rules.specs.reading.Ascii.{ascii}
use Rattle.reading_rules.specs.reading.Names.{name_of}
use Rattle.reading_rules.specs.reading.Parting.{joined}
use Rattle.reading_rules.specs.reading.Molecule.{sum}
use Rattle.reading_rules.specs.reading.Show.{show_sum}
use Rattle.line_parts.specs.shown.Chained.{part_lead, shown_parts, listed, numbered}
use Rattle.line_parts.specs.shown.Notes.{numbers_from, sum_list}
use Rattle.line_parts.proofs.shown.Chained.{one-shown, none-shown}
use Rattle.line_parts.proofs.shown.Laws.{part-more, values-more, values_length}

pub sum-text : {xs ys zs ws : List ℕ} {a p q r : ℕ} (vs : List ℕ) (n : ℕ) → length xs < 2 ^ 64 → Written xs a (ascii "constrain(") ys p
    → Written ys p (joined 43 (map name_of vs)) zs q → Written zs q (numbered (ascii "=") n 41) ws r → Written xs a (show_sum (sum vs n)) ws r
unfolding show_sum numbered ascii
sum-text vs n g w u t = simp append_assoc at (written-append g (written-append g w u) t)

numbers-snoc : (v i : ℕ) → numbers_from v (suc i) ≡ numbers_from v i ++ ((v + i) ∷ [])
unfolding numbers_from
numbers-snoc v i = values-more (λ j. v + j) 0 i ∙ ap (λ (k : ℕ). numbers_from v i ++ ((v + k) ∷ [])) (zero-add i)

numbers-length : (v i : ℕ) → length (numbers_from v i) ≡ i
unfolding numbers_from
numbers-length v i = values_length (λ j. v + j) 0 i

-- a turn of the loop
pub variables-more : {xs ys zs : List ℕ} {a p q : ℕ} (i : ℕ) (g : length xs < 2 ^ 64) (v : ℕ) → Written xs a (joined 43 (map name_of (numbers_from v i))) ys p
    → Written ys p (listed (ltb 0 i) 43 (name_of (v + i))) zs q → Written xs a (joined 43 (map name_of (numbers_from v (i + 1)))) zs q
variables-more i g v w u =
    rw (add-one, numbers-snoc v i, map-append)
    (part-more 43 (map name_of (numbers_from v i)) (name_of (v + i)) i (length-map (numbers_from v i) name_of ∙ numbers-length v i) g w u)

pub sums_none : (first : Bool) (v n total : ℕ) (xs : List ℕ) (a : ℕ) → n ≡ 0 → a < 2 ^ 64 → Written xs a (shown_parts first (map show_sum (sum_list v n total))) xs a
unfolding sum_list
sums_none first v n total xs a e h = rw e (none-shown _ _ first xs a h)

pub sums-one : {xs ys zs : List ℕ} {a p q : ℕ} (first : Bool) (v n total : ℕ) → (n ≡ 0 → ⊥) → length xs < 2 ^ 64 → Written xs a (part_lead first) ys p
    → Written ys p (show_sum (sum (numbers_from v (n + 1)) total)) zs q → Written xs a (shown_parts first (map show_sum (sum_list v n total))) zs q
unfolding sum_list
sums-one first v zero total h g w u = absurd (h refl)
sums-one first v (suc n) total h g w u = one-shown _ _ first g w (rw add-one at u)
