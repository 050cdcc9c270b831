-- Every line that reads keeps the rules of 01, and lines that break them are refused: this file says so of every line, shown or not.
-- Assumes nothing.
use Prim.Native.Nat.{ℕ, ◌≤◌, ◌<◌}
use native.Mathlib.Omega.{arith}
use mathlib.Core.Path.{◌≡◌, refl, sym, ap, ◌∙◌}
use mathlib.Core.Bool.{Bool, true, false, cond, ◌&&◌}
use mathlib.Core.Option.{Option, none, some}
use mathlib.Core.List.{List}
use lib.ListN.{length}
use lib.Dec.{leb}
use borrow.Author.Tests.{leb-true}
use Rattle.reading_rules.specs.smiles.Row.{Row}
use Rattle.reading_rules.specs.smiles.Text.{read_text}
use Rattle.reading_rules.specs.words.Parting.{◌>>=◌, parted}
use Rattle.reading_rules.specs.molecule.Molecule.{At, atoms_of, notes_of, Sum, Molecule, molecule_of}
use Rattle.reading_rules.specs.reading.Blocks.{blocks, labelled}
use Rattle.reading_rules.specs.reading.Trailer.{trailer}
use Rattle.reading_rules.specs.reading.Line.{Apart, apart, apart_of, flat, summed, below, distinct, times, once, rising, placed_well, swaps_well, sums_well, judged, judged_apart, read_line}
use Rattle.reading_rules.proofs.words.PartingLaws.{and_left, and_right, All}
use Rattle.reading_rules.proofs.reading.ListLaws.{below_all, once-elim, distinct-times}
use Rattle.reading_rules.proofs.reading.Exact.{line_of, apart-exact}

-- What holds of a line that reads as m
pub record Kept (xs : List ℕ) (m : Molecule) : Type 0 where
  -- its parts, of which it is the text and nothing else
  pub text : List ℕ
  pub rows : List Row
  pub entries : List (Option ℕ)
  pub marks : List (At ℕ)
  pub sites : List (At (List ℕ))
  pub swaps : List ℕ
  pub sums : List Sum
  pub parts : apart_of (parted 32 xs) ≡ some (apart text (blocks entries marks sites) (trailer swaps sums))
  pub line-is : line_of (apart text (blocks entries marks sites) (trailer swaps sums)) ≡ xs
  pub text-reads : read_text text ≡ some rows
  pub molecule-is : m ≡ molecule_of rows (labelled 0 entries) marks sites sums
  -- "an index past the atoms"
  pub entry-atoms : length entries ≤ length rows
  pub mark-atoms : All (λ i. i < length rows) (atoms_of marks)
  pub site-atoms : All (λ i. i < length rows) (atoms_of sites)
  pub site-sites : All (λ i. i < length rows) (flat (notes_of sites))
  -- "an atom .. marked, or an atom given sites, twice"
  pub mark-once : (i : ℕ) → times i (atoms_of marks) ≤ 1
  pub site-once : (i : ℕ) → times i (atoms_of sites) ≤ 1
  -- "a variable marked .. twice; a marked variable not exactly once in the sums, or an unmarked one there"
  pub marked-summed : (v : ℕ) → 1 ≤ times v (notes_of marks) → times v (summed sums) ≡ 1
  pub summed-marked : (v : ℕ) → 1 ≤ times v (summed sums) → times v (notes_of marks) ≡ 1
  -- "`swappable` stands exactly with it and holds its labels, strictly rising"
  pub swaps-rise : rising swaps ≡ true
  pub label-swaps : (sn : ℕ) → 1 ≤ times sn (notes_of (labelled 0 entries)) → times sn swaps ≡ 1
  pub swap-labels : (sn : ℕ) → 1 ≤ times sn swaps → times sn (notes_of (labelled 0 entries)) ≡ 1

-- the answer to a test
tested : {A : Type 0} (b : Bool) (a m : A) → cond b (some a) none ≡ some m → (b ≡ true) × (m ≡ a)
tested true a m e = (refl, cc)
tested false a m e = let z : ◌≡◌ {A = ℕ} 0 1 = cc in absurd (omega arith)

record Placed (n : ℕ) (es : List (Option ℕ)) (ms : List (At ℕ)) (fs : List (At (List ℕ))) : Type 0 where
  entry-atoms : length es ≤ n
  mark-atoms : below n (atoms_of ms) ≡ true
  site-atoms : below n (atoms_of fs) ≡ true
  site-sites : below n (flat (notes_of fs)) ≡ true
  mark-apart : distinct (atoms_of ms) ≡ true
  site-apart : distinct (atoms_of fs) ≡ true

placed : (n : ℕ) (es : List (Option ℕ)) (ms : List (At ℕ)) (fs : List (At (List ℕ))) → placed_well n (blocks es ms fs) ≡ true → Placed n es ms fs
unfolding placed_well
placed n es ms fs h =
    go (leb (length es) n) refl (below n (atoms_of ms)) refl (below n (atoms_of fs)) refl (below n (flat (notes_of fs))) refl (distinct (atoms_of ms)) refl
    (distinct (atoms_of fs)) refl h
  where
    go : (a : Bool) → leb (length es) n ≡ a → (b : Bool) → below n (atoms_of ms) ≡ b → (c : Bool) → below n (atoms_of fs) ≡ c
        → (d : Bool) → below n (flat (notes_of fs)) ≡ d → (e : Bool) → distinct (atoms_of ms) ≡ e → (f : Bool) → distinct (atoms_of fs) ≡ f
        → (a && b && c && d && e && f) ≡ true → Placed n es ms fs
    go a p b q c r d s e t f u h =
        let ae : (a && b && c && d && e) ≡ true = and_left (a && b && c && d && e) f h in
        let ad : (a && b && c && d) ≡ true = and_left (a && b && c && d) e ae in
        let ac : (a && b && c) ≡ true = and_left (a && b && c) d ad in
        let ab : (a && b) ≡ true = and_left (a && b) c ac in
        record {
          entry-atoms = leb-true (length es) n (p ∙ and_left a b ab);
          mark-atoms = q ∙ and_right a b ab;
          site-atoms = r ∙ and_right (a && b) c ac;
          site-sites = s ∙ and_right (a && b && c) d ad;
          mark-apart = t ∙ and_right (a && b && c && d) e ae;
          site-apart = u ∙ and_right (a && b && c && d && e) f h;
        }

kept-judged : (xs : List ℕ) (m : Molecule) (text : List ℕ) (es : List (Option ℕ)) (ms : List (At ℕ)) (fs : List (At (List ℕ))) (ws : List ℕ) (ss : List Sum) (rows : List Row)
    → apart_of (parted 32 xs) ≡ some (apart text (blocks es ms fs) (trailer ws ss)) → read_text text ≡ some rows
    → judged (blocks es ms fs) (trailer ws ss) rows ≡ some m → Kept xs m
unfolding judged swaps_well sums_well
kept-judged xs m text es ms fs ws ss rows p r h =
    let labels : List ℕ = notes_of (labelled 0 es) in
    let pw : Bool = placed_well (length rows) (blocks es ms fs) in
    let sw : Bool = rising ws && once labels ws && once ws labels in
    let uw : Bool = once (notes_of ms) (summed ss) && once (summed ss) (notes_of ms) in
    let t : ((pw && sw && uw) ≡ true) × (m ≡ molecule_of rows (labelled 0 es) ms fs ss) = tested (pw && sw && uw) (molecule_of rows (labelled 0 es) ms fs ss) m h in
    let both : (pw && sw) ≡ true = and_left (pw && sw) uw t.0 in
    let well : Placed (length rows) es ms fs = placed (length rows) es ms fs (and_left pw sw both) in
    let swap : sw ≡ true = and_right pw sw both in
    let rise : (rising ws && once labels ws) ≡ true = and_left (rising ws && once labels ws) (once ws labels) swap in
    let sum : uw ≡ true = and_right (pw && sw) uw t.0 in
    record {
      text = text;
      rows = rows;
      entries = es;
      marks = ms;
      sites = fs;
      swaps = ws;
      sums = ss;
      parts = p;
      line-is = apart-exact xs (apart text (blocks es ms fs) (trailer ws ss)) p;
      text-reads = r;
      molecule-is = t.1;
      entry-atoms = well.entry-atoms;
      mark-atoms = below_all (length rows) (atoms_of ms) well.mark-atoms;
      site-atoms = below_all (length rows) (atoms_of fs) well.site-atoms;
      site-sites = below_all (length rows) (flat (notes_of fs)) well.site-sites;
      mark-once = distinct-times (atoms_of ms) well.mark-apart;
      site-once = distinct-times (atoms_of fs) well.site-apart;
      marked-summed = once-elim (notes_of ms) (summed ss) (and_left (once (notes_of ms) (summed ss)) (once (summed ss) (notes_of ms)) sum);
      summed-marked = once-elim (summed ss) (notes_of ms) (and_right (once (notes_of ms) (summed ss)) (once (summed ss) (notes_of ms)) sum);
      swaps-rise = and_left (rising ws) (once labels ws) rise;
      label-swaps = once-elim labels ws (and_right (rising ws) (once labels ws) rise);
      swap-labels = once-elim ws labels (and_right (rising ws && once labels ws) (once ws labels) swap);
    }

-- every line that reads keeps the rules
pub read_kept : (xs : List ℕ) (m : Molecule) → read_line xs ≡ some m → Kept xs m
unfolding read_line judged_apart
read_kept xs m h = go (apart_of (parted 32 xs)) refl h
  where
    texts : (text : List ℕ) (es : List (Option ℕ)) (ms : List (At ℕ)) (fs : List (At (List ℕ))) (ws : List ℕ) (ss : List Sum)
        → apart_of (parted 32 xs) ≡ some (apart text (blocks es ms fs) (trailer ws ss)) → (o : Option (List Row)) → read_text text ≡ o
        → (o >>= λ rs. judged (blocks es ms fs) (trailer ws ss) rs) ≡ some m → Kept xs m
    texts text es ms fs ws ss p none r e = let z : ◌≡◌ {A = ℕ} 0 1 = cc in absurd (omega arith)
    texts text es ms fs ws ss p (some rows) r e = kept-judged xs m text es ms fs ws ss rows p r e

    go : (o : Option Apart) → apart_of (parted 32 xs) ≡ o → (o >>= λ p. judged_apart p) ≡ some m → Kept xs m
    go none p e = let z : ◌≡◌ {A = ℕ} 0 1 = cc in absurd (omega arith)
    go (some (apart text (blocks es ms fs) (trailer ws ss))) p e = texts text es ms fs ws ss p (read_text text) refl e

-- ---- lines that break a rule

-- a line is refused if no molecule can be its reading
refused : (xs : List ℕ) → ((m : Molecule) → Kept xs m → ⊥) → read_line xs ≡ none
refused xs f = go (read_line xs) refl
  where
    go : (o : Option Molecule) → read_line xs ≡ o → o ≡ none
    go none e = refl
    go (some m) e = absurd (f m (read_kept xs m e))

-- a line with these parts
module _ (xs text : List ℕ) (es : List (Option ℕ)) (ms : List (At ℕ)) (fs : List (At (List ℕ))) (ws : List ℕ) (ss : List Sum)
    (parts : apart_of (parted 32 xs) ≡ some (apart text (blocks es ms fs) (trailer ws ss))) where
  same-marks : (m : Molecule) (k : Kept xs m) → k.marks ≡ ms
  same-marks m k = let p : apart_of (parted 32 xs) ≡ some (apart k.text (blocks k.entries k.marks k.sites) (trailer k.swaps k.sums)) = k.parts in cc

  same-sites : (m : Molecule) (k : Kept xs m) → k.sites ≡ fs
  same-sites m k = let p : apart_of (parted 32 xs) ≡ some (apart k.text (blocks k.entries k.marks k.sites) (trailer k.swaps k.sums)) = k.parts in cc

  same-sums : (m : Molecule) (k : Kept xs m) → k.sums ≡ ss
  same-sums m k = let p : apart_of (parted 32 xs) ≡ some (apart k.text (blocks k.entries k.marks k.sites) (trailer k.swaps k.sums)) = k.parts in cc

  -- an atom marked twice
  pub marked-twice : (i : ℕ) → 2 ≤ times i (atoms_of ms) → read_line xs ≡ none
  marked-twice i h = refused xs (λ m k. omega (arith, ap (λ (z : List (At ℕ)). times i (atoms_of z)) (same-marks m k), k.mark-once i))

  -- an atom given sites twice
  pub sited-twice : (i : ℕ) → 2 ≤ times i (atoms_of fs) → read_line xs ≡ none
  sited-twice i h = refused xs (λ m k. omega (arith, ap (λ (z : List (At (List ℕ))). times i (atoms_of z)) (same-sites m k), k.site-once i))

  -- a marked variable not exactly once in the sums
  pub not-summed-once : (v : ℕ) → 1 ≤ times v (notes_of ms) → (times v (summed ss) ≡ 1 → ⊥) → read_line xs ≡ none
  not-summed-once v h n =
      refused xs
      (λ m k.
      let a : times v (notes_of k.marks) ≡ times v (notes_of ms) = ap (λ (z : List (At ℕ)). times v (notes_of z)) (same-marks m k) in
      let b : times v (summed k.sums) ≡ times v (summed ss) = ap (λ (z : List Sum). times v (summed z)) (same-sums m k) in
      n (sym b ∙ k.marked-summed v (omega arith)))

  -- a variable marked twice, or one in the sums that is not marked
  pub not-marked-once : (v : ℕ) → 1 ≤ times v (summed ss) → (times v (notes_of ms) ≡ 1 → ⊥) → read_line xs ≡ none
  not-marked-once v h n =
      refused xs
      (λ m k.
      let a : times v (notes_of k.marks) ≡ times v (notes_of ms) = ap (λ (z : List (At ℕ)). times v (notes_of z)) (same-marks m k) in
      let b : times v (summed k.sums) ≡ times v (summed ss) = ap (λ (z : List Sum). times v (summed z)) (same-sums m k) in
      n (sym a ∙ k.summed-marked v (omega arith)))
