-- A line that is shown is read as the molecule that it shows, or is unreadable where that molecule breaks a rule.
-- Assumes nothing.
use Prim.Native.Nat.{ℕ, zero, suc, ◌^◌, ◌≤◌, ◌<◌}
use native.Mathlib.Nat.{le_trans}
use native.Mathlib.Omega.{arith}
use mathlib.Core.Path.{◌≡◌, refl, sym, ap, ◌∙◌}
use mathlib.Core.Bool.{true}
use mathlib.Core.Option.{Option, some}
use mathlib.Core.List.{List, [], ◌∷◌, ◌++◌, append_assoc, append-nil}
use lib.ListN.{length}
use borrow.Author.Tests.{le-leb}
use Rattle.reading_rules.specs.smiles.Ascii.{ascii}
use Rattle.reading_rules.specs.smiles.Lexer.{memb}
use Rattle.reading_rules.specs.smiles.Row.{Row, row}
use Rattle.reading_rules.specs.smiles.Text.{read_text}
use Rattle.reading_rules.specs.words.Parting.{parted, joined}
use Rattle.reading_rules.specs.words.Names.{name_count}
use Rattle.reading_rules.specs.molecule.Molecule.{At, at, atoms_of, notes_of, look, Atom, Sum, sum, variables_of, number_of, molecule, atoms_from, bonds_of, set_of, sum_key, molecule_of}
use Rattle.reading_rules.specs.reading.Blocks.{Blocks, blocks, read_blocks}
use Rattle.reading_rules.specs.reading.Trailer.{Trailer, trailer, read_trailer}
use Rattle.reading_rules.specs.reading.Line.{Apart, apart, barred, apart_of, flat, summed, below, distinct, times, once, rising, placed_well, swaps_well, sums_well, judged, judged_apart, read_line}
use Rattle.reading_rules.specs.reading.Show.{block_texts, trailer_texts, label_blocks, swap_texts, show_blocks, show_line, entries, up_to_last}
use Rattle.reading_rules.proofs.words.PartingLaws.{All, all_map, NonEmpty, clear, Clears, clear-append, clear-one, clear-joined, parted-one, parted-then, parted-again, enclosed-between}
use Rattle.reading_rules.proofs.reading.ListLaws.{below_all, times-all, all-times, once-elim, once-intro, distinct-times, once-self, rising-distinct}
use Rattle.reading_rules.proofs.reading.BlockLaws.{LabelFits, MarkFits, SitesFit, blocks-clear, blocks-read, entries_shown, entries-length, all-last, read_labels, labels-look, labels-times}
use Rattle.reading_rules.proofs.reading.TrailerLaws.{SumFits, trailer-clear, trailer-read}
use Rattle.reading_rules.proofs.reading.NoBlank.{text-clear}

-- ---- the parts of a line that is shown

barred-read : (bs : List (List ℕ)) (o : Option Blocks) → NonEmpty bs → Clears (32 ∷ 124 ∷ 44 ∷ []) bs → read_blocks bs ≡ o → barred (124 ∷ (joined 44 bs ++ 124 ∷ [])) ≡ o
unfolding barred ascii memb
barred-read bs o n c e =
    rw (
      enclosed-between (124 ∷ []) 124 (joined 44 bs)
          (clear-joined (124 ∷ []) 44 bs refl (all_map (λ p h. clear-one 124 (32 ∷ 124 ∷ 44 ∷ []) p refl h) bs c)),
      parted-again 44 bs n (all_map (λ p h. clear-one 44 (32 ∷ 124 ∷ 44 ∷ []) p refl h) bs c),
    )
    e

-- the blocks between their bars have no blank
bars-clear : (bs : List (List ℕ)) → Clears (32 ∷ 124 ∷ 44 ∷ []) bs → clear (32 ∷ []) (124 ∷ (joined 44 bs ++ 124 ∷ [])) ≡ true
unfolding clear memb
bars-clear bs c =
    clear-append (32 ∷ []) (joined 44 bs) (124 ∷ [])
    (clear-joined (32 ∷ []) 44 bs refl (all_map (λ p h. clear-one 32 (32 ∷ 124 ∷ 44 ∷ []) p refl h) bs c)) refl

module _ (text : List ℕ) (blank : clear (32 ∷ []) text ≡ true) where
  apart_bare : apart_of (parted 32 text) ≡ some (apart text (blocks [] [] []) (trailer [] []))
  unfolding apart_of
  apart_bare = rw (parted-one 32 text blank)

  apart-blocks : (b : List ℕ) (bs : List (List ℕ)) (B : Blocks) → Clears (32 ∷ 124 ∷ 44 ∷ []) (b ∷ bs) → read_blocks (b ∷ bs) ≡ some B
      → apart_of (parted 32 (text ++ show_blocks (b ∷ bs) [])) ≡ some (apart text B (trailer [] []))
  unfolding show_blocks ascii
  apart-blocks b bs B c e =
      let r : parted 32 (text ++ 32 ∷ 124 ∷ (joined 44 (b ∷ bs) ++ 124 ∷ [])) ≡ text ∷ (124 ∷ (joined 44 (b ∷ bs) ++ 124 ∷ [])) ∷ [] =
      parted-then 32 text (124 ∷ (joined 44 (b ∷ bs) ++ 124 ∷ [])) blank
      ∙ ap (λ (z : List (List ℕ)). text ∷ z) (parted-one 32 (124 ∷ (joined 44 (b ∷ bs) ++ 124 ∷ [])) (bars-clear (b ∷ bs) c))
      in
      ap apart_of r ∙ (unfold apart_of in rw (barred-read (b ∷ bs) (some B) tt c e))

  apart-both : (b : List ℕ) (bs : List (List ℕ)) (t : List ℕ) (ts : List (List ℕ)) (B : Blocks) (R : Trailer) → Clears (32 ∷ 124 ∷ 44 ∷ []) (b ∷ bs)
      → Clears (32 ∷ 59 ∷ []) (t ∷ ts) → read_blocks (b ∷ bs) ≡ some B → read_trailer (t ∷ ts) ≡ some R
      → apart_of (parted 32 (text ++ show_blocks (b ∷ bs) (t ∷ ts))) ≡ some (apart text B R)
  unfolding show_blocks ascii
  apart-both b bs t ts B R c d e f =
      let u : List ℕ = 124 ∷ (joined 44 (b ∷ bs) ++ 124 ∷ []) in
      let w : List ℕ = joined 59 (t ∷ ts) in
      let q : text ++ 32 ∷ 124 ∷ (joined 44 (b ∷ bs) ++ 124 ∷ 32 ∷ w) ≡ text ++ 32 ∷ (u ++ 32 ∷ w) =
      ap (λ (z : List ℕ). text ++ 32 ∷ 124 ∷ z) (sym (append_assoc (joined 44 (b ∷ bs)) (124 ∷ []) (32 ∷ w)))
      in
      let r : parted 32 (text ++ 32 ∷ (u ++ 32 ∷ w)) ≡ text ∷ u ∷ w ∷ [] =
      parted-then 32 text (u ++ 32 ∷ w) blank
      ∙ ap (λ (z : List (List ℕ)). text ∷ z)
      (parted-then 32 u w (bars-clear (b ∷ bs) c) ∙ ap (λ (z : List (List ℕ)). u ∷ z) (parted-one 32 w (trail-clear (t ∷ ts) d)))
      in
      ap (λ (z : List ℕ). apart_of (parted 32 z)) q
      ∙ (ap apart_of r
      ∙ (unfold apart_of memb in rw (barred-read (b ∷ bs) (some B) tt c e, parted-again 59 (t ∷ ts) tt (all_map (λ p h. clear-one 59 (32 ∷ 59 ∷ []) p refl h) (t ∷ ts) d), f)))
    where
      trail-clear : (ts : List (List ℕ)) → Clears (32 ∷ 59 ∷ []) ts → clear (32 ∷ []) (joined 59 ts) ≡ true
      trail-clear ts d = unfold memb in clear-joined (32 ∷ []) 59 ts refl (all_map (λ p h. clear-one 32 (32 ∷ 59 ∷ []) p refl h) ts d)

-- ---- a line that is shown, taken apart

-- What can be shown: every number, variable and label has a text of its own, no list is empty, and there are sums only beside blocks
pub record Showable (labels marks : List (At ℕ)) (sites : List (At (List ℕ))) (sums : List Sum) : Type 0 where
  pub labels-fit : All LabelFits (notes_of labels)
  pub marks-fit : All MarkFits marks
  pub sites-fit : All SitesFit sites
  pub sums-fit : All SumFits sums
  pub beside : NonEmpty sums → NonEmpty (block_texts labels marks sites)

-- what the line says of its rows
abbrev pub Said : List ℕ → List (At ℕ) → List (At ℕ) → List (At (List ℕ)) → List Sum → Option Apart
Said text labels marks sites sums = some (apart text (blocks (entries_shown labels) marks sites) (trailer (notes_of labels) sums))

no-trailer : (labels : List (At ℕ)) (sums : List Sum) → trailer_texts labels sums ≡ [] → trailer [] [] ≡ trailer (notes_of labels) sums
unfolding notes_of trailer_texts swap_texts
no-trailer [] [] e = refl
no-trailer [] (x ∷ sums) e = cc
no-trailer (l ∷ labels) sums e = cc

no_blocks : (text : List ℕ) (labels marks : List (At ℕ)) (sites : List (At (List ℕ))) (sums : List Sum) → block_texts labels marks sites ≡ []
    → (NonEmpty sums → NonEmpty (block_texts labels marks sites))
    → apart text (blocks [] [] []) (trailer [] []) ≡ apart text (blocks (entries_shown labels) marks sites) (trailer (notes_of labels) sums)
unfolding block_texts label_blocks notes_of entries_shown
no_blocks text [] [] [] [] e h = refl
no_blocks text [] [] [] (x ∷ sums) e h = absurd (h tt)
no_blocks text [] [] (f ∷ sites) sums e h = cc
no_blocks text [] (m ∷ marks) sites sums e h = cc
no_blocks text (l ∷ labels) marks sites sums e h = cc

apart-shown : (text : List ℕ) (labels marks : List (At ℕ)) (sites : List (At (List ℕ))) (sums : List Sum) → clear (32 ∷ []) text ≡ true
    → Showable labels marks sites sums → apart_of (parted 32 (show_line text labels marks sites sums)) ≡ Said text labels marks sites sums
unfolding show_line
apart-shown text labels marks sites sums c s =
    go (block_texts labels marks sites) refl (trailer_texts labels sums) refl (blocks-clear labels marks sites s.labels-fit)
    (trailer-clear labels sums s.labels-fit) (blocks-read labels marks sites s.labels-fit s.marks-fit s.sites-fit)
    (trailer-read labels sums s.labels-fit s.sums-fit)
  where
    go : (bs : List (List ℕ)) → block_texts labels marks sites ≡ bs → (ts : List (List ℕ)) → trailer_texts labels sums ≡ ts → Clears (32 ∷ 124 ∷ 44 ∷ []) bs
        → Clears (32 ∷ 59 ∷ []) ts → (NonEmpty bs → read_blocks bs ≡ some (blocks (entries_shown labels) marks sites))
        → (NonEmpty ts → read_trailer ts ≡ some (trailer (notes_of labels) sums))
        → apart_of (parted 32 (text ++ show_blocks bs ts)) ≡ Said text labels marks sites sums
    go [] e ts f cb ct rb rt =
        rw append-nil (apart_bare text c) ∙ ap some (no_blocks text labels marks sites sums e s.beside)
    go (b ∷ bs) e [] f cb ct rb rt =
        apart-blocks text c b bs (blocks (entries_shown labels) marks sites) cb (rb tt)
        ∙ ap (λ (z : Trailer). some (apart text (blocks (entries_shown labels) marks sites) z)) (no-trailer labels sums f)
    go (b ∷ bs) e (t ∷ ts) f cb ct rb rt =
        apart-both text c b bs t ts (blocks (entries_shown labels) marks sites) (trailer (notes_of labels) sums) cb ct (rb tt) (rt tt)

-- A line that is shown is judged by what it shows
pub line-judged : (text : List ℕ) (rows : List Row) (labels marks : List (At ℕ)) (sites : List (At (List ℕ))) (sums : List Sum) → read_text text ≡ some rows
    → Showable labels marks sites sums
    → read_line (show_line text labels marks sites sums) ≡ judged (blocks (entries_shown labels) marks sites) (trailer (notes_of labels) sums) rows
unfolding read_line judged_apart
line-judged text rows labels marks sites sums r s = rw (apart-shown text labels marks sites sums (text-clear text rows r) s, r)

-- ---- a line that keeps the rules

-- What the caller supplies. n is the number of atoms of the text
pub record WellFormed (n : ℕ) (labels marks : List (At ℕ)) (sites : List (At (List ℕ))) (sums : List Sum) : Type 0 where
  pub atoms : n ≤ 2 ^ 32
  -- labels: at atoms of the text, no two at one atom, by rising sn from 1 to 4
  pub label-atoms : below n (atoms_of labels) ≡ true
  pub label-apart : distinct (atoms_of labels) ≡ true
  pub label-rising : rising (notes_of labels) ≡ true
  pub label-fits : All LabelFits (notes_of labels)
  -- marks: at atoms of the text, no two at one atom, of variables that have names
  pub mark-atoms : below n (atoms_of marks) ≡ true
  pub mark-apart : distinct (atoms_of marks) ≡ true
  pub mark-named : below name_count (notes_of marks) ≡ true
  -- site lists: at atoms of the text, no two at one atom, of atoms of the text, none empty
  pub site-atoms : below n (atoms_of sites) ≡ true
  pub site-apart : distinct (atoms_of sites) ≡ true
  pub site-sites : below n (flat (notes_of sites)) ≡ true
  pub site-some : All NonEmpty (notes_of sites)
  -- sums: each marked variable once, and no other; none empty; numbers that can be read
  pub sum-marked : once (notes_of marks) (summed sums) ≡ true
  pub sum-only : once (summed sums) (notes_of marks) ≡ true
  pub sum-some : All (λ s. NonEmpty (variables_of s)) sums
  pub sum_number : All (λ s. number_of s < 2 ^ 32) sums

-- lists as a drawing makes them: marks and site lists by rising atom, variables rising, the sums' variables those of the marks in order
pub rising-well : (n : ℕ) (labels marks : List (At ℕ)) (sites : List (At (List ℕ))) (sums : List Sum) → n ≤ 2 ^ 32
    → below n (atoms_of labels) ≡ true → distinct (atoms_of labels) ≡ true → rising (notes_of labels) ≡ true → All LabelFits (notes_of labels)
    → below n (atoms_of marks) ≡ true → rising (atoms_of marks) ≡ true → rising (notes_of marks) ≡ true → below name_count (notes_of marks) ≡ true
    → below n (atoms_of sites) ≡ true → rising (atoms_of sites) ≡ true → below n (flat (notes_of sites)) ≡ true → All NonEmpty (notes_of sites)
    → summed sums ≡ notes_of marks → All (λ s. NonEmpty (variables_of s)) sums → All (λ s. number_of s < 2 ^ 32) sums → WellFormed n labels marks sites sums
rising-well n labels marks sites sums small la ld lr lf ma mr vr vn sa sr ss se same ue un =
    let each-once : once (notes_of marks) (notes_of marks) ≡ true = once-self (notes_of marks) (rising-distinct (notes_of marks) vr) in
    record {
      atoms = small;
      label-atoms = la;
      label-apart = ld;
      label-rising = lr;
      label-fits = lf;
      mark-atoms = ma;
      mark-apart = rising-distinct (atoms_of marks) mr;
      mark-named = vn;
      site-atoms = sa;
      site-apart = rising-distinct (atoms_of sites) sr;
      site-sites = ss;
      site-some = se;
      sum-marked = rw same each-once;
      sum-only = rw same each-once;
      sum-some = ue;
      sum_number = un;
    }

all_left : {A : Type 0} (P : A → Type 0) (xs ys : List A) → All P (xs ++ ys) → All P xs
all_left P [] ys h = tt
all_left P (x ∷ xs) ys h = (h.0, all_left P xs ys h.1)

all_right : {A : Type 0} (P : A → Type 0) (xs ys : List A) → All P (xs ++ ys) → All P ys
all_right P [] ys h = h
all_right P (x ∷ xs) ys h = all_right P xs ys h.1

fit-marks : (n : ℕ) (ms : List (At ℕ)) → n ≤ 2 ^ 32 → All (λ i. i < n) (atoms_of ms) → All (λ v. v < name_count) (notes_of ms) → All MarkFits ms
unfolding atoms_of notes_of
fit-marks n [] l a v = tt
fit-marks n (at i v ∷ ms) l a w = ((omega arith, w.0), fit-marks n ms l a.1 w.1)

fit-sites : (n : ℕ) (fs : List (At (List ℕ))) → n ≤ 2 ^ 32 → All (λ i. i < n) (atoms_of fs) → All (λ j. j < n) (flat (notes_of fs)) → All NonEmpty (notes_of fs)
    → All SitesFit fs
unfolding atoms_of notes_of flat
fit-sites n [] l a s e = tt
fit-sites n (at i js ∷ fs) l a s e = (
  (omega arith, (e.0, all_map (λ j h. le_trans h l) js (all_left (λ j. j < n) js (flat (notes_of fs)) s))),
  fit-sites n fs l a.1 (all_right (λ j. j < n) js (flat (notes_of fs)) s) e.1,
)

fit-sums : (ss : List Sum) → All (λ v. v < name_count) (summed ss) → All (λ s. NonEmpty (variables_of s)) ss → All (λ s. number_of s < 2 ^ 32) ss → All SumFits ss
unfolding summed
fit-sums [] v e n = tt
fit-sums (sum vs k ∷ ss) v e n =
    ((e.0, (all_left (λ v. v < name_count) vs (summed ss) v, n.0)), fit-sums ss (all_right (λ v. v < name_count) vs (summed ss) v) e.1 n.1)

-- sums stand beside marks
summed-some : (ss : List Sum) → NonEmpty ss → All (λ s. NonEmpty (variables_of s)) ss → NonEmpty (summed ss)
unfolding summed
summed-some [] n e = n
summed-some (sum [] k ∷ ss) n e = absurd e.0
summed-some (sum (v ∷ vs) k ∷ ss) n e = tt

marks-some : (xs : List ℕ) (ms : List (At ℕ)) → NonEmpty xs → once xs (notes_of ms) ≡ true → NonEmpty ms
unfolding once notes_of times
marks-some [] ms n h = absurd n
marks-some (x ∷ xs) [] n h = let z : ◌≡◌ {A = ℕ} 0 1 = cc in absurd (omega arith)
marks-some (x ∷ xs) (m ∷ ms) n h = tt

blocks-some : (labels marks : List (At ℕ)) (sites : List (At (List ℕ))) → NonEmpty marks → NonEmpty (block_texts labels marks sites)
unfolding block_texts label_blocks
blocks-some labels [] sites n = absurd n
blocks-some [] (m ∷ marks) sites n = tt
blocks-some (l ∷ labels) (m ∷ marks) sites n = tt

module _ (n : ℕ) (labels marks : List (At ℕ)) (sites : List (At (List ℕ))) (sums : List Sum) (w : WellFormed n labels marks sites sums) where
  sums-named : All (λ v. v < name_count) (summed sums)
  sums-named =
      all-times (summed sums)
      (λ v t. times-all (λ v. v < name_count) (notes_of marks) (below_all name_count (notes_of marks) w.mark-named) v
      (omega (arith, once-elim (summed sums) (notes_of marks) w.sum-only v t)))

  well-showable : Showable labels marks sites sums
  well-showable =
      record {
        labels-fit = w.label-fits;
        marks-fit = fit-marks n marks w.atoms (below_all n (atoms_of marks) w.mark-atoms) (below_all name_count (notes_of marks) w.mark-named);
        sites-fit =
            fit-sites n sites w.atoms (below_all n (atoms_of sites) w.site-atoms) (below_all n (flat (notes_of sites)) w.site-sites) w.site-some;
        sums-fit = fit-sums sums sums-named w.sum-some w.sum_number;
        beside =
            λ e. blocks-some labels marks sites (marks-some (summed sums) marks (summed-some sums e w.sum-some) w.sum-only);
      }

  well-placed : placed_well n (blocks (entries_shown labels) marks sites) ≡ true
  unfolding placed_well entries_shown
  well-placed =
      let l : length (entries (up_to_last labels) 0 labels) ≤ n =
      omega (arith, entries-length (up_to_last labels) 0 labels, all-last n labels (below_all n (atoms_of labels) w.label-atoms))
      in
      rw (le-leb (length (entries (up_to_last labels) 0 labels)) n l, w.mark-atoms, w.site-atoms, w.site-sites, w.mark-apart, w.site-apart)

  well-swaps : swaps_well (notes_of (read_labels labels)) (notes_of labels) ≡ true
  unfolding swaps_well
  well-swaps =
      rw (
        w.label-rising,
        once-intro (notes_of (read_labels labels)) (notes_of labels)
            (λ x t. omega (arith, labels-times labels w.label-apart x, distinct-times (notes_of labels) (rising-distinct (notes_of labels) w.label-rising) x)),
        once-intro (notes_of labels) (notes_of (read_labels labels))
            (λ x t. omega (arith, labels-times labels w.label-apart x, distinct-times (notes_of labels) (rising-distinct (notes_of labels) w.label-rising) x)),
      )

  well-sums : sums_well (notes_of marks) (summed sums) ≡ true
  unfolding sums_well
  well-sums = rw (w.sum-marked, w.sum-only)

-- ---- the molecule

atoms-same : (n : ℕ) (rows : List Row) (a b ms : List (At ℕ)) (fs : List (At (List ℕ))) → ((i : ℕ) → look i a ≡ look i b) → atoms_from n rows a ms fs ≡ atoms_from n rows b ms fs
unfolding atoms_from
atoms-same n [] a b ms fs h = refl
atoms-same n (row x ks ∷ rows) a b ms fs h = rw (h n, atoms-same (suc n) rows a b ms fs h)

-- a molecule sees only which label each atom has
pub molecule-same : (rows : List Row) (a b ms : List (At ℕ)) (fs : List (At (List ℕ))) (ss : List Sum) → ((i : ℕ) → look i a ≡ look i b)
    → molecule_of rows a ms fs ss ≡ molecule_of rows b ms fs ss
unfolding molecule_of
molecule-same rows a b ms fs ss h = ap (λ (z : List Atom). molecule z (bonds_of rows) (set_of sum_key ss)) (atoms-same zero rows a b ms fs h)

-- THE LINE READS BACK: a text with labels, marks, site lists and sums that keep the rules is shown as a line that reads to exactly the molecule
-- of the text's rows with those labels, marks, site lists and sums
pub line-reads-back : (text : List ℕ) (rows : List Row) (labels marks : List (At ℕ)) (sites : List (At (List ℕ))) (sums : List Sum) → read_text text ≡ some rows
    → WellFormed (length rows) labels marks sites sums
    → read_line (show_line text labels marks sites sums) ≡ some (molecule_of rows labels marks sites sums)
unfolding judged read_labels entries_shown
line-reads-back text rows labels marks sites sums r w =
    line-judged text rows labels marks sites sums r (well-showable (length rows) labels marks sites sums w)
    ∙ (rw (
      well-placed (length rows) labels marks sites sums w,
      well-swaps (length rows) labels marks sites sums w,
      well-sums (length rows) labels marks sites sums w,
    )
    (ap some (molecule-same rows (read_labels labels) labels marks sites sums (labels-look labels))))
