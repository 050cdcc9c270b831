-- `swappable(..)` and `constrain(..)` that are shown are read as what they show.
-- Assumes nothing.
use Prim.Native.Nat.{ℕ, ◌^◌, ◌<◌}
use mathlib.Core.Path.{◌≡◌, refl}
use mathlib.Core.Bool.{true, false, not}
use mathlib.Core.Option.{some}
use mathlib.Core.List.{List, [], ◌∷◌, ◌++◌, map, append_assoc}
use Rattle.scanner.specs.scan.Number.{is_digit}
use Rattle.writer.specs.emit.Text.{decimal}
use Rattle.reading_rules.specs.smiles.Ascii.{ascii}
use Rattle.reading_rules.specs.smiles.Lexer.{memb, within}
use Rattle.reading_rules.specs.words.Parting.{joined}
use Rattle.reading_rules.specs.words.Names.{name_count, small, name_of, variable}
use Rattle.reading_rules.specs.molecule.Molecule.{At, at, notes_of, Sum, sum}
use Rattle.reading_rules.specs.reading.Blocks.{label_of}
use Rattle.reading_rules.specs.reading.Trailer.{swap_of, sum_of, trailer, only_sums, read_trailer}
use Rattle.reading_rules.specs.reading.Show.{show_label, show_swap, show_sum, swap_texts, trailer_texts}
use Rattle.reading_rules.proofs.words.PartingLaws.{every, All, all_map, all_any, NonEmpty, clear, Clears, clear-append, clear-joined, clears-shown, clears-append, parted-one, parted-then, each-shown, enclosed-between, list_read}
use Rattle.reading_rules.proofs.words.NumeralLaws.{number-decimal}
use Rattle.reading_rules.proofs.words.NameLaws.{variable-name}
use Rattle.reading_rules.proofs.reading.BlockLaws.{decimal-clear, name-clear, LabelFits, label-read, label-clear}

-- what can be shown: variables that have a name of their own, at least one, and a number below 2^32
abbrev pub SumFits : Sum → Type 0
SumFits (sum vs n) = NonEmpty vs × (All (λ v. v < name_count) vs × (n < 2 ^ 32))

-- ---- `swappable(..)`

labels-clear : (ss sns : List ℕ) → All LabelFits sns → memb 44 ss ≡ false → clear ss (ascii "sn") ≡ true → every (λ s. not (is_digit s)) ss ≡ true
    → clear ss (joined 44 (map show_label sns)) ≡ true
labels-clear ss sns h m a d = clear-joined ss 44 (map show_label sns) m (clears-shown ss show_label sns (all_map (λ sn f. label-clear ss sn f a d) sns h))

swap-read : (sns : List ℕ) → NonEmpty sns → All LabelFits sns → swap_of (show_swap sns) ≡ some sns
unfolding swap_of show_swap ascii clear memb every is_digit
swap-read sns n h =
    rw (enclosed-between (ascii "swappable(") 41 (joined 44 (map show_label sns)) (labels-clear (41 ∷ []) sns h refl refl refl))
    (list_read 44 label_of show_label sns n (all_map (λ sn f. label-clear (44 ∷ []) sn f refl refl) sns h) (all_map (λ sn f. label-read sn f) sns h))

swap-clear : (sns : List ℕ) → All LabelFits sns → clear (32 ∷ 59 ∷ []) (show_swap sns) ≡ true
unfolding show_swap ascii clear memb every is_digit
swap-clear sns h =
    clear-append (32 ∷ 59 ∷ []) (joined 44 (map show_label sns)) (41 ∷ []) (labels-clear (32 ∷ 59 ∷ []) sns h refl refl refl) refl

-- ---- `constrain(..)`

names-clear : (ss vs : List ℕ) → memb 43 ss ≡ false → every (λ s. not (small s)) ss ≡ true → clear ss (joined 43 (map name_of vs)) ≡ true
names-clear ss vs m h = clear-joined ss 43 (map name_of vs) m (clears-shown ss name_of vs (all_any (λ v. name-clear ss v h) vs))

-- a sum between its brackets
sum_text : List ℕ → ℕ → List ℕ
sum_text vs n = joined 43 (map name_of vs) ++ (61 ∷ decimal n)

sum-clear-in : (ss vs : List ℕ) (n : ℕ) → memb 43 ss ≡ false → memb 61 ss ≡ false → every (λ s. not (small s)) ss ≡ true → every (λ s. not (is_digit s)) ss ≡ true
    → clear ss (sum_text vs n) ≡ true
unfolding sum_text clear
sum-clear-in ss vs n p e a d =
    clear-append ss (joined 43 (map name_of vs)) (61 ∷ decimal n) (names-clear ss vs p a) (rw (e, decimal-clear ss n d))

shown-sum : (vs : List ℕ) (n : ℕ) → show_sum (sum vs n) ≡ ascii "constrain(" ++ (sum_text vs n ++ (41 ∷ []))
unfolding show_sum sum_text ascii
shown-sum vs n = simp append_assoc

pub sum-read : (vs : List ℕ) (n : ℕ) → NonEmpty vs → All (λ v. v < name_count) vs → n < 2 ^ 32 → sum_of (show_sum (sum vs n)) ≡ some (sum vs n)
unfolding sum_of clear memb every is_digit small within sum_text
sum-read vs n e h b =
    rw (
      shown-sum vs n,
      enclosed-between (ascii "constrain(") 41 (sum_text vs n) (sum-clear-in (41 ∷ []) vs n refl refl refl refl),
      parted-then 61 (joined 43 (map name_of vs)) (decimal n) (names-clear (61 ∷ []) vs refl refl),
      parted-one 61 (decimal n) (decimal-clear (61 ∷ []) n refl),
      list_read 43 variable name_of vs e (all_any (λ v. name-clear (43 ∷ []) v refl) vs) (all_map (λ v f. variable-name v f) vs h),
      number-decimal n b,
    )

sum-clear : (s : Sum) → clear (32 ∷ 59 ∷ []) (show_sum s) ≡ true
unfolding ascii clear memb every is_digit small within
sum-clear (sum vs n) =
    rw (shown-sum vs n)
    (clear-append (32 ∷ 59 ∷ []) (sum_text vs n) (41 ∷ []) (sum-clear-in (32 ∷ 59 ∷ []) vs n refl refl refl refl) refl)

-- ---- both

swap-texts-clear : (labels : List (At ℕ)) → All LabelFits (notes_of labels) → Clears (32 ∷ 59 ∷ []) (swap_texts labels)
unfolding swap_texts
swap-texts-clear [] h = tt
swap-texts-clear (l ∷ ls) h = (swap-clear (notes_of (l ∷ ls)) h, tt)

-- no part of a trailer has a blank or a `;`
pub trailer-clear : (labels : List (At ℕ)) (sums : List Sum) → All LabelFits (notes_of labels) → Clears (32 ∷ 59 ∷ []) (trailer_texts labels sums)
unfolding trailer_texts
trailer-clear labels sums h =
    clears-append (32 ∷ 59 ∷ []) (swap_texts labels) (map show_sum sums) (swap-texts-clear labels h)
    (clears-shown (32 ∷ 59 ∷ []) show_sum sums (all_any sum-clear sums))

sums-read : (ws : List ℕ) (sums : List Sum) → All SumFits sums → only_sums ws (map show_sum sums) ≡ some (trailer ws sums)
unfolding only_sums
sums-read ws sums h = rw (each-shown sum_of show_sum sums (all_map read sums h))
  where
    read : (s : Sum) → SumFits s → sum_of (show_sum s) ≡ some s
    read (sum vs n) f = sum-read vs n f.0 f.1.0 f.1.1

-- a trailer that is shown is read as what it shows
pub trailer-read : (labels : List (At ℕ)) (sums : List Sum) → All LabelFits (notes_of labels) → All SumFits sums → NonEmpty (trailer_texts labels sums)
    → read_trailer (trailer_texts labels sums) ≡ some (trailer (notes_of labels) sums)
unfolding read_trailer trailer_texts swap_texts notes_of
trailer-read [] [] l s n = absurd n
trailer-read [] (sum vs k ∷ sums) l s n = sums-read [] (sum vs k ∷ sums) s
trailer-read (at a sn ∷ labels) sums l s n =
    rw (swap-read (sn ∷ notes_of labels) tt l, read_trailer) (sums-read (sn ∷ notes_of labels) sums s)
