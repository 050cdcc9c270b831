-- Blocks that are shown are read as what they show.
-- Assumes nothing.
use Prim.Native.Nat.{ℕ, zero, suc, ◌+◌, ◌^◌, ◌≤◌, ◌<◌}
use native.Mathlib.Decide.{ℕ_discrete, dec_le}
use native.Mathlib.Omega.{arith}
use mathlib.Core.Path.{◌≡◌, refl, sym, ap, ◌∙◌}
use mathlib.Core.Bool.{Bool, true, false, cond, not, ◌||◌, false≢true}
use mathlib.Core.Option.{Option, none, some}
use mathlib.Core.List.{List, [], ◌∷◌, ◌++◌, map}
use lib.ListN.{length}
use lib.Dec.{eqb}
use borrow.Author.Tests.{le-leb, le-ltb, ne_eqb, eq-eqb, not-true}
use Rattle.reading_rules.specs.smiles.Ascii.{ascii}
use Rattle.reading_rules.specs.smiles.Lexer.{memb, within}
use Rattle.reading_rules.specs.words.Parting.{each, parted, follows, joined}
use Rattle.writer.specs.emit.Text.{decimal}
use Rattle.scanner.specs.scan.Number.{is_digit}
use Rattle.scanner.specs.scan.Part.{same_bytes}
use Rattle.reading_rules.specs.words.Numeral.{number}
use Rattle.reading_rules.specs.words.Names.{name_count, small, name_of}
use Rattle.reading_rules.specs.molecule.Molecule.{At, at, atoms_of, notes_of, look}
use Rattle.reading_rules.specs.reading.Blocks.{sn_digit, label_of, entry_of, labelled, some_labels, entries_of, mark_of, sites_of, Blocks, blocks, only_sites, marks_then, read_blocks}
use Rattle.reading_rules.specs.reading.Line.{distinct, times}
use Rattle.reading_rules.specs.reading.Show.{show_label, show_entry, entries, up_to_last, label_block, show_mark, show_sites, label_blocks, block_texts}
use Rattle.reading_rules.proofs.words.PartingLaws.{and_left, and_right, every, All, all_map, all_any, NonEmpty, clear, Clears, clear-append, clear-class, clear-joined, clears-shown, clears-append, parted-one, parted-then, each-shown, enclosed-between, list_read}
use Rattle.reading_rules.proofs.words.NumeralLaws.{decimal-digits, number-decimal}
use Rattle.reading_rules.proofs.words.NameLaws.{name-small, variable-name}

-- a decimal number has no byte that is no digit, and a name none that is no small letter
pub decimal-clear : (ss : List ℕ) (n : ℕ) → every (λ s. not (is_digit s)) ss ≡ true → clear ss (decimal n) ≡ true
decimal-clear ss n h = clear-class is_digit ss (decimal n) (decimal-digits n) h

pub name-clear : (ss : List ℕ) (v : ℕ) → every (λ s. not (small s)) ss ≡ true → clear ss (name_of v) ≡ true
name-clear ss v h = clear-class small ss (name_of v) (name-small v) h

-- ---- marks

-- what can be shown: numbers below 2^32, variables that have a name of their own, lists that are not empty
abbrev pub MarkFits : At ℕ → Type 0
MarkFits (at i v) = (i < 2 ^ 32) × (v < name_count)

abbrev pub SitesFit : At (List ℕ) → Type 0
SitesFit (at i js) = (i < 2 ^ 32) × (NonEmpty js × All (λ j. j < 2 ^ 32) js)

pub mark-read : (i v : ℕ) → i < 2 ^ 32 → v < name_count → mark_of (show_mark (at i v)) ≡ some (at i v)
unfolding mark_of show_mark ascii follows every is_digit small within parted same_bytes
mark-read i v h g =
    rw (
      parted-then 58 (decimal i) (name_of v ++ (58 ∷ 104 ∷ 116 ∷ [])) (decimal-clear (58 ∷ []) i refl),
      parted-then 58 (name_of v) (104 ∷ 116 ∷ []) (name-clear (58 ∷ []) v refl),
      number-decimal i h,
      variable-name v g,
    )

pub sites-read : (i : ℕ) (js : List ℕ) → i < 2 ^ 32 → NonEmpty js → All (λ j. j < 2 ^ 32) js → sites_of (show_sites (at i js)) ≡ some (at i js)
unfolding sites_of show_sites ascii follows every is_digit within memb
sites-read i js h n g =
    rw (
      parted-then 58 (decimal i) (joined 46 (map decimal js)) (decimal-clear (58 ∷ []) i refl),
      parted-one 58 (joined 46 (map decimal js))
          (clear-joined (58 ∷ []) 46 (map decimal js) refl (clears-shown (58 ∷ []) decimal js (all_any (λ j. decimal-clear (58 ∷ []) j refl) js))),
      number-decimal i h,
      list_read 46 number decimal js n (all_any (λ j. decimal-clear (46 ∷ []) j refl) js) (all_map (λ j b. number-decimal j b) js g),
    )

-- marks and site lists have no blank, bar or comma
pub mark-clear : (m : At ℕ) → clear (32 ∷ 124 ∷ 44 ∷ []) (show_mark m) ≡ true
unfolding show_mark ascii clear memb every is_digit small within
mark-clear (at i v) =
    clear-append ss (decimal i) (58 ∷ (name_of v ++ (58 ∷ 104 ∷ 116 ∷ []))) (decimal-clear ss i refl)
    (clear-append ss (name_of v) (58 ∷ 104 ∷ 116 ∷ []) (name-clear ss v refl) refl)
  where
    ss : List ℕ
    ss = 32 ∷ 124 ∷ 44 ∷ []

pub sites-clear : (f : At (List ℕ)) → clear (32 ∷ 124 ∷ 44 ∷ []) (show_sites f) ≡ true
unfolding show_sites ascii clear memb every is_digit within
sites-clear (at i js) =
    clear-append ss (decimal i) (58 ∷ joined 46 (map decimal js)) (decimal-clear ss i refl)
    (clear-joined ss 46 (map decimal js) refl (clears-shown ss decimal js (all_any (λ j. decimal-clear ss j refl) js)))
  where
    ss : List ℕ
    ss = 32 ∷ 124 ∷ 44 ∷ []

-- ---- labels

-- a label that can be shown: sn1 to sn4
unfoldable pub LabelFits : ℕ → Type 0
LabelFits sn = (1 ≤ sn) × (sn ≤ 4)

within-yes : (lo hi x : ℕ) → lo ≤ x → x ≤ hi → within lo hi x ≡ true
unfolding within
within-yes lo hi x h g = rw (le-leb lo x h, le-leb x hi g)

pub label-read : (sn : ℕ) → LabelFits sn → label_of (show_label sn) ≡ some sn
unfolding label_of show_label ascii follows sn_digit LabelFits
label-read sn h = rw (within-yes 49 52 (48 + sn) (omega arith) (omega arith)) (ap (λ (z : ℕ). some z) (omega arith))

-- a label is letters and a is_digit
pub label-clear : (ss : List ℕ) (sn : ℕ) → LabelFits sn → clear ss (ascii "sn") ≡ true → every (λ s. not (is_digit s)) ss ≡ true → clear ss (show_label sn) ≡ true
unfolding show_label LabelFits every is_digit within
label-clear ss sn h a d =
    clear-append ss (ascii "sn") ((48 + sn) ∷ []) a
    (clear-class is_digit ss ((48 + sn) ∷ []) (rw (le-ltb (48 + sn) 48 (omega arith), le-leb (48 + sn) 57 (omega arith))) d)

EntryFits : Option ℕ → Type 0
EntryFits none = Unit {0}
EntryFits (some sn) = LabelFits sn

entry_read : (o : Option ℕ) → EntryFits o → entry_of (show_entry o) ≡ some o
unfolding entry_of show_entry EntryFits show_label ascii
entry_read none h = refl
entry_read (some sn) h = let e : label_of (show_label sn) ≡ some sn = label-read sn h in rw e

entry-clear : (ss : List ℕ) (o : Option ℕ) → EntryFits o → clear ss (ascii "sn") ≡ true → every (λ s. not (is_digit s)) ss ≡ true → clear ss (show_entry o) ≡ true
unfolding show_entry EntryFits clear
entry-clear ss none h a d = refl
entry-clear ss (some sn) h a d = label-clear ss sn h a d

look-fits : (i : ℕ) (ls : List (At ℕ)) → All LabelFits (notes_of ls) → EntryFits (look i ls)
unfolding look EntryFits notes_of
look-fits i [] h = tt
look-fits i (at j sn ∷ ls) h = go (eqb i j) (look-fits i ls h.1)
  where
    go : (b : Bool) → EntryFits (look i ls) → EntryFits (cond b (some sn) (look i ls))
    go true r = h.0
    go false r = r

entries_fit : (n i : ℕ) (ls : List (At ℕ)) → All LabelFits (notes_of ls) → All EntryFits (entries n i ls)
unfolding entries
entries_fit zero i ls h = tt
entries_fit (suc n) i ls h = (look-fits i ls h, entries_fit n (suc i) ls h)

-- ---- the entries of a `$..$` are the labels, atom by atom

entry_more : (a i sn : ℕ) (ls : List (At ℕ)) → (i ≡ a → ⊥) → look i (at a sn ∷ ls) ≡ look i ls
unfolding look
entry_more a i sn ls h = rw (ne_eqb i a h)

look-here : (a sn : ℕ) (ls : List (At ℕ)) → look a (at a sn ∷ ls) ≡ some sn
unfolding look
look-here a sn ls = rw (eq-eqb a a refl)

look_none : (i : ℕ) (ls : List (At ℕ)) → memb i (atoms_of ls) ≡ false → look i ls ≡ none
unfolding look atoms_of memb
look_none i [] h = refl
look_none i (at j sn ∷ ls) h = go (eqb i j) h (look_none i ls)
  where
    go : (b : Bool) → (b || memb i (atoms_of ls)) ≡ false → (memb i (atoms_of ls) ≡ false → look i ls ≡ none) → cond b (some sn) (look i ls) ≡ none
    go true e f = absurd (false≢true (sym e))
    go false e f = f e

-- entries past an atom do not have its label
entries-past : (n i a sn : ℕ) (ls : List (At ℕ)) → a < i → entries n i (at a sn ∷ ls) ≡ entries n i ls
unfolding entries
entries-past zero i a sn ls h = refl
entries-past (suc n) i a sn ls h = rw (entry_more a i sn ls (λ e. omega arith), entries-past n (suc i) a sn ls (omega arith))

-- the note at an atom, read off its entry
labelled-before : (j i : ℕ) (es : List (Option ℕ)) → j < i → look j (labelled i es) ≡ none
unfolding labelled look
labelled-before j i [] h = refl
labelled-before j i (none ∷ es) h = labelled-before j (suc i) es (omega arith)
labelled-before j i (some sn ∷ es) h = rw (ne_eqb j i (λ e. omega arith)) (labelled-before j (suc i) es (omega arith))

labelled-here : (i : ℕ) (o : Option ℕ) (es : List (Option ℕ)) → look i (labelled i (o ∷ es)) ≡ o
unfolding labelled look
labelled-here i none es = labelled-before i (suc i) es (omega arith)
labelled-here i (some sn) es = rw (eq-eqb i i refl)

labelled-later : (j i : ℕ) (o : Option ℕ) (es : List (Option ℕ)) → i < j → look j (labelled i (o ∷ es)) ≡ look j (labelled (suc i) es)
unfolding labelled look
labelled-later j i none es h = refl
labelled-later j i (some sn) es h = rw (ne_eqb j i (λ e. omega arith))

labelled-within : (n i j : ℕ) (ls : List (At ℕ)) → i ≤ j → j < i + n → look j (labelled i (entries n i ls)) ≡ look j ls
unfolding entries
labelled-within zero i j ls h g = absurd (omega arith)
labelled-within (suc n) i j ls h g = go (ℕ_discrete i j) (λ l. labelled-within n (suc i) j ls l (omega arith))
  where
    go : Dec (i ≡ j) → (i < j → look j (labelled (suc i) (entries n (suc i) ls)) ≡ look j ls) → look j (labelled i (look i ls ∷ entries n (suc i) ls)) ≡ look j ls
    go (yes e) f = rw (← e) (labelled-here i (look i ls) (entries n (suc i) ls))
    go (no e) f = labelled-later j i (look i ls) (entries n (suc i) ls) (omega arith) ∙ f (omega arith)

labelled-past : (j i : ℕ) (es : List (Option ℕ)) → i + length es ≤ j → look j (labelled i es) ≡ none
unfolding labelled look
labelled-past j i [] h = refl
labelled-past j i (none ∷ es) h = labelled-past j (suc i) es (omega arith)
labelled-past j i (some sn ∷ es) h = rw (ne_eqb j i (λ e. omega arith)) (labelled-past j (suc i) es (omega arith))

pub entries-length : (n i : ℕ) (ls : List (At ℕ)) → length (entries n i ls) ≡ n
unfolding entries
entries-length zero i ls = refl
entries-length (suc n) i ls = ap suc (entries-length n (suc i) ls)

last-all : (k : ℕ) (ls : List (At ℕ)) → up_to_last ls ≤ k → All (λ i. i < k) (atoms_of ls)
unfolding up_to_last atoms_of
last-all k [] h = tt
last-all k (at i sn ∷ ls) h = (omega arith, last-all k ls (omega arith))

pub all-last : (k : ℕ) (ls : List (At ℕ)) → All (λ i. i < k) (atoms_of ls) → up_to_last ls ≤ k
unfolding up_to_last atoms_of
all-last k [] h = omega arith
all-last k (at i sn ∷ ls) h = omega (arith, all-last k ls h.1)

look-above : (j : ℕ) (ls : List (At ℕ)) → All (λ i. i < j) (atoms_of ls) → look j ls ≡ none
unfolding look atoms_of
look-above j [] h = refl
look-above j (at i sn ∷ ls) h = rw (ne_eqb j i (λ e. omega arith)) (look-above j ls h.1)

-- the labels as they are read
unfoldable pub read_labels : List (At ℕ) → List (At ℕ)
read_labels ls = labelled 0 (entries (up_to_last ls) 0 ls)

-- each atom has the label that it had
pub labels-look : (ls : List (At ℕ)) (j : ℕ) → look j (read_labels ls) ≡ look j ls
unfolding read_labels
labels-look ls j = go (dec_le (up_to_last ls) j)
  where
    go : Dec (up_to_last ls ≤ j) → look j (labelled 0 (entries (up_to_last ls) 0 ls)) ≡ look j ls
    go (yes l) =
        labelled-past j 0 (entries (up_to_last ls) 0 ls) (omega (arith, entries-length (up_to_last ls) 0 ls))
        ∙ sym (look-above j ls (last-all j ls l))
    go (no l) = labelled-within (up_to_last ls) 0 j ls (omega arith) (omega arith)

-- ---- and each label stands there as often as it did

hit : ℕ → Option ℕ → ℕ
hit x none = 0
hit x (some sn) = cond (eqb x sn) 1 0

hit-none : (x : ℕ) → hit x none ≡ 0
unfolding hit
hit-none x = refl

counted : ℕ → ℕ → ℕ → List (At ℕ) → ℕ
counted x n i ls = times x (notes_of (labelled i (entries n i ls)))

times-note : (x i : ℕ) (o : Option ℕ) (es : List (Option ℕ)) → times x (notes_of (labelled i (o ∷ es))) ≡ hit x o + times x (notes_of (labelled (suc i) es))
unfolding hit labelled notes_of times
times-note x i none es = omega arith
times-note x i (some sn) es = go (eqb x sn) (times x (notes_of (labelled (suc i) es)))
  where
    go : (b : Bool) (t : ℕ) → cond b (suc t) t ≡ cond b 1 0 + t
    go true t = omega arith
    go false t = omega arith

counted_step : (x n i : ℕ) (ls : List (At ℕ)) → counted x (suc n) i ls ≡ hit x (look i ls) + counted x n (suc i) ls
unfolding counted entries
counted_step x n i ls = times-note x i (look i ls) (entries n (suc i) ls)

counted-past : (x n i a sn : ℕ) (ls : List (At ℕ)) → a < i → counted x n i (at a sn ∷ ls) ≡ counted x n i ls
unfolding counted
counted-past x n i a sn ls h = rw (entries-past n i a sn ls h)

counted-add : (x n i a sn : ℕ) (ls : List (At ℕ)) → look a ls ≡ none → i ≤ a → a < i + n → counted x n i (at a sn ∷ ls) ≡ hit x (some sn) + counted x n i ls
counted-add x zero i a sn ls m h g = absurd (omega arith)
counted-add x (suc n) i a sn ls m h g = go (ℕ_discrete i a) (λ l. counted-add x n (suc i) a sn ls m l (omega arith))
  where
    go : Dec (i ≡ a) → (i < a → counted x n (suc i) (at a sn ∷ ls) ≡ hit x (some sn) + counted x n (suc i) ls)
        → counted x (suc n) i (at a sn ∷ ls) ≡ hit x (some sn) + counted x (suc n) i ls
    go (yes e) f =
        let p : look i (at a sn ∷ ls) ≡ some sn = ap (λ (z : ℕ). look z (at a sn ∷ ls)) e ∙ look-here a sn ls in
        let q : look i ls ≡ none = ap (λ (z : ℕ). look z ls) e ∙ m in
        let r : hit x (look i (at a sn ∷ ls)) ≡ hit x (some sn) = ap (hit x) p in
        let s : hit x (look i ls) ≡ 0 = ap (hit x) q ∙ hit-none x in
        omega (arith, counted_step x n i (at a sn ∷ ls), counted_step x n i ls, counted-past x n (suc i) a sn ls (omega arith))
    go (no e) f =
        let r : hit x (look i (at a sn ∷ ls)) ≡ hit x (look i ls) = ap (hit x) (entry_more a i sn ls e) in
        omega (arith, counted_step x n i (at a sn ∷ ls), counted_step x n i ls, f (omega arith))

counted_none : (x n i : ℕ) → counted x n i [] ≡ 0
unfolding hit look
counted_none x zero i = unfold counted entries labelled notes_of times in refl
counted_none x (suc n) i = counted_step x n i [] ∙ omega (arith, counted_none x n (suc i))

counted-all : (x n : ℕ) (ls : List (At ℕ)) → distinct (atoms_of ls) ≡ true → All (λ i. i < n) (atoms_of ls) → counted x n 0 ls ≡ times x (notes_of ls)
unfolding notes_of atoms_of times distinct hit
counted-all x n [] d b = counted_none x n 0
counted-all x n (at a sn ∷ ls) d b =
    counted-add x n 0 a sn ls (look_none a ls (not-true (memb a (atoms_of ls)) (and_left (not (memb a (atoms_of ls))) (distinct (atoms_of ls)) d))) (omega arith) (omega arith)
    ∙ go (eqb x sn) (counted-all x n ls (and_right (not (memb a (atoms_of ls))) (distinct (atoms_of ls)) d) b.1)
  where
    go : (c : Bool) → counted x n 0 ls ≡ times x (notes_of ls) → cond c 1 0 + counted x n 0 ls ≡ cond c (suc (times x (notes_of ls))) (times x (notes_of ls))
    go true r = omega arith
    go false r = omega arith

pub labels-times : (ls : List (At ℕ)) → distinct (atoms_of ls) ≡ true → (x : ℕ) → times x (notes_of (read_labels ls)) ≡ times x (notes_of ls)
unfolding read_labels counted
labels-times ls d x = counted-all x (up_to_last ls) ls d (last-all (up_to_last ls) ls (omega arith))

-- ---- the blocks

some_read : (a sn : ℕ) (ls : List (At ℕ)) (es : List (Option ℕ)) → look a ls ≡ some sn → some_labels ls es ≡ some es
unfolding look
some_read a sn [] es h = cc
some_read a sn (l ∷ ls) es h = refl

some-entries : (n i : ℕ) (ls : List (At ℕ)) → 1 ≤ n → NonEmpty (entries n i ls)
unfolding entries
some-entries zero i ls h = absurd (omega arith)
some-entries (suc n) i ls h = tt

-- the text of a `$..$` between its signs
entries_text : List (At ℕ) → List ℕ
entries_text ls = joined 59 (map show_entry (entries (up_to_last ls) 0 ls))

entries-clear : (ss : List ℕ) (ls : List (At ℕ)) → All LabelFits (notes_of ls) → memb 59 ss ≡ false → clear ss (ascii "sn") ≡ true → every (λ s. not (is_digit s)) ss ≡ true
    → clear ss (entries_text ls) ≡ true
unfolding entries_text
entries-clear ss ls h m a d =
    clear-joined ss 59 (map show_entry (entries (up_to_last ls) 0 ls)) m
    (clears-shown ss show_entry (entries (up_to_last ls) 0 ls)
    (all_map (λ o f. entry-clear ss o f a d) (entries (up_to_last ls) 0 ls) (entries_fit (up_to_last ls) 0 ls h)))

labels-read : (a sn : ℕ) (ls : List (At ℕ)) → All LabelFits (notes_of (at a sn ∷ ls))
    → entries_of (label_block (at a sn ∷ ls)) ≡ some (entries (up_to_last (at a sn ∷ ls)) 0 (at a sn ∷ ls))
unfolding entries_of label_block ascii entries_text clear memb every is_digit
labels-read a sn ls h =
    let ks : List (At ℕ) = at a sn ∷ ls in
    let es : List (Option ℕ) = entries (up_to_last ks) 0 ks in
    let fits : All EntryFits es = entries_fit (up_to_last ks) 0 ks h in
    rw (
      enclosed-between (36 ∷ []) 36 (joined 59 (map show_entry es)) (entries-clear (36 ∷ []) ks h refl refl refl),
      list_read 59 entry_of show_entry es (some-entries (up_to_last ks) 0 ks (last_some a sn ls))
          (all_map (λ o f. entry-clear (59 ∷ []) o f refl refl) es fits) (all_map (λ o f. entry_read o f) es fits),
    )
    (some_read a sn (labelled 0 es) es (labels-look' ks a ∙ look-here a sn ls))
  where
    last_some : (a sn : ℕ) (ls : List (At ℕ)) → 1 ≤ up_to_last (at a sn ∷ ls)
    last_some a sn ls = unfold up_to_last in omega arith

    labels-look' : (ks : List (At ℕ)) (j : ℕ) → look j (labelled 0 (entries (up_to_last ks) 0 ks)) ≡ look j ks
    labels-look' ks j = unfold read_labels in labels-look ks j

label-block-clear : (ls : List (At ℕ)) → All LabelFits (notes_of ls) → clear (32 ∷ 124 ∷ 44 ∷ []) (label_block ls) ≡ true
unfolding label_block ascii entries_text clear memb every is_digit
label-block-clear ls h =
    clear-append (32 ∷ 124 ∷ 44 ∷ []) (joined 59 (map show_entry (entries (up_to_last ls) 0 ls))) (36 ∷ [])
    (entries-clear (32 ∷ 124 ∷ 44 ∷ []) ls h refl refl refl) refl

label-blocks-clear : (ls : List (At ℕ)) → All LabelFits (notes_of ls) → Clears (32 ∷ 124 ∷ 44 ∷ []) (label_blocks ls)
unfolding label_blocks
label-blocks-clear [] h = tt
label-blocks-clear (l ∷ ls) h = (label-block-clear (l ∷ ls) h, tt)

-- no block has a blank, a bar or a comma
pub blocks-clear : (labels marks : List (At ℕ)) (sites : List (At (List ℕ))) → All LabelFits (notes_of labels) → Clears (32 ∷ 124 ∷ 44 ∷ []) (block_texts labels marks sites)
unfolding block_texts
blocks-clear labels marks sites h =
    clears-append (32 ∷ 124 ∷ 44 ∷ []) (label_blocks labels) (map show_mark marks ++ map show_sites sites) (label-blocks-clear labels h)
    (clears-append (32 ∷ 124 ∷ 44 ∷ []) (map show_mark marks) (map show_sites sites) (clears-shown (32 ∷ 124 ∷ 44 ∷ []) show_mark marks (all_any mark-clear marks))
    (clears-shown (32 ∷ 124 ∷ 44 ∷ []) show_sites sites (all_any sites-clear sites)))

each-sites : (sites : List (At (List ℕ))) → All SitesFit sites → each sites_of (map show_sites sites) ≡ some sites
each-sites sites h = each-shown sites_of show_sites sites (all_map read sites h)
  where
    read : (f : At (List ℕ)) → SitesFit f → sites_of (show_sites f) ≡ some f
    read (at i js) h = sites-read i js h.0 h.1.0 h.1.1

no-mark : (k : List (At ℕ) → List (List ℕ) → Option Blocks) (sites : List (At (List ℕ))) → marks_then k (map show_sites sites) ≡ k [] (map show_sites sites)
unfolding marks_then mark_of show_sites ascii follows
no-mark k [] = refl
no-mark k (at i js ∷ sites) = refl

marks-read : (k : List (At ℕ) → List (List ℕ) → Option Blocks) (marks : List (At ℕ)) (sites : List (At (List ℕ))) → All MarkFits marks
    → marks_then k (map show_mark marks ++ map show_sites sites) ≡ k marks (map show_sites sites)
unfolding marks_then
marks-read k [] sites h = no-mark k sites
marks-read k (at i v ∷ marks) sites h =
    let e : mark_of (show_mark (at i v)) ≡ some (at i v) = mark-read i v h.0.0 h.0.1 in
    rw (e, marks_then) (marks-read (λ ms r. k (at i v ∷ ms) r) marks sites h.1)

only-read : (es : List (Option ℕ)) (marks : List (At ℕ)) (sites : List (At (List ℕ))) → All SitesFit sites → only_sites es marks (map show_sites sites) ≡ some (blocks es marks sites)
unfolding only_sites
only-read es marks sites h = rw (each-sites sites h)

-- the entries of the shown labels
unfoldable pub entries_shown : List (At ℕ) → List (Option ℕ)
unfolding entries up_to_last
entries_shown ls = entries (up_to_last ls) 0 ls

-- blocks that are shown are read as what they show
pub blocks-read : (labels marks : List (At ℕ)) (sites : List (At (List ℕ))) → All LabelFits (notes_of labels) → All MarkFits marks → All SitesFit sites
    → NonEmpty (block_texts labels marks sites) → read_blocks (block_texts labels marks sites) ≡ some (blocks (entries_shown labels) marks sites)
unfolding read_blocks block_texts label_blocks entries_shown
blocks-read (at a sn ∷ labels) marks sites l m s n =
    rw (labels-read a sn labels l, read_blocks)
    (marks-read (only_sites (entries (up_to_last (at a sn ∷ labels)) 0 (at a sn ∷ labels))) marks sites m
    ∙ only-read (entries (up_to_last (at a sn ∷ labels)) 0 (at a sn ∷ labels)) marks sites s)
blocks-read [] [] [] l m s n = absurd n
blocks-read [] [] (at i js ∷ sites) l m s n =
    marks-read (only_sites []) [] (at i js ∷ sites) tt ∙ only-read [] [] (at i js ∷ sites) s
blocks-read [] (at i v ∷ marks) sites l m s n =
    marks-read (only_sites []) (at i v ∷ marks) sites m ∙ only-read [] (at i v ∷ marks) sites s
