-- What is read is what was shown: a line is taken apart only where it is the text of its parts, so the reader accepts nothing beside the
-- forms that 01 names.
-- Assumes nothing.
use Prim.Native.Nat.{ℕ, ◌+◌, ◌-◌, ◌≤◌}
use native.Mathlib.Omega.{arith}
use mathlib.Core.Path.{◌≡◌, refl, sym, ap, ap₂, ◌∙◌, subst}
use mathlib.Core.Bool.{Bool, true, false, cond, ◌&&◌}
use mathlib.Core.Option.{Option, none, some, some-injective}
use mathlib.Core.List.{List, [], ◌∷◌, ◌++◌, map, append_assoc, append-nil}
use lib.Dec.{eqb, leb}
use borrow.Author.Tests.{eqb-true, leb-true}
use Rattle.scanner.specs.scan.Part.{same_bytes}
use Rattle.writer.specs.emit.Text.{decimal}
use Rattle.reading_rules.specs.smiles.Ascii.{ascii}
use Rattle.reading_rules.specs.smiles.Lexer.{within}
use Rattle.reading_rules.specs.words.Parting.{◌>>=◌, each, on_first, parted, two, three, follows, closed, enclosed, led, joined}
use Rattle.reading_rules.specs.words.Numeral.{number}
use Rattle.reading_rules.specs.words.Names.{name_of, variable}
use Rattle.reading_rules.specs.molecule.Molecule.{At, at, Sum, sum}
use Rattle.reading_rules.specs.reading.Blocks.{sn_digit, label_of, entry_of, labelled, some_labels, entries_of, mark_of, sites_of, Blocks, blocks, only_sites, marks_then, read_blocks}
use Rattle.reading_rules.specs.reading.Trailer.{swap_of, sum_of, Trailer, trailer, only_sums, read_trailer}
use Rattle.reading_rules.specs.reading.Line.{Apart, apart, barred, apart_of}
use Rattle.reading_rules.specs.reading.Show.{show_label, show_entry, show_mark, show_sites, show_swap, show_sum, show_trailer, show_blocks}
use Rattle.reading_rules.proofs.words.PartingLaws.{and_left, NonEmpty}
use Rattle.reading_rules.proofs.words.NumeralLaws.{number-told}
use Rattle.reading_rules.proofs.words.NameLaws.{name-variable}

-- ---- readers in a row

-- where a reader and the one after it answer, the first does, and then the second
after : {A B P : Type 0} (o : Option A) (k : A → Option B) (b : B) → (o >>= k) ≡ some b → ((a : A) → o ≡ some a → k a ≡ some b → P) → P
after none k b e f = let z : ◌≡◌ {A = ℕ} 0 1 = cc in absurd (omega arith)
after (some a) k b e f = f a refl e

tested : {A : Type 0} (t : Bool) (a b : A) → cond t (some a) none ≡ some b → (t ≡ true) × (a ≡ b)
tested true a b e = (refl, cc)
tested false a b e = let z : ◌≡◌ {A = ℕ} 0 1 = cc in absurd (omega arith)

same-told : (xs ys : List ℕ) → same_bytes xs ys ≡ true → xs ≡ ys
unfolding same_bytes
same-told [] [] e = refl
same-told [] (y ∷ ys) e = let z : ◌≡◌ {A = ℕ} 0 1 = cc in absurd (omega arith)
same-told (x ∷ xs) [] e = let z : ◌≡◌ {A = ℕ} 0 1 = cc in absurd (omega arith)
same-told (x ∷ xs) (y ∷ ys) e = go (eqb x y) refl e (same-told xs ys)
  where
    go : (b : Bool) → eqb x y ≡ b → cond b (same_bytes xs ys) false ≡ true → (same_bytes xs ys ≡ true → xs ≡ ys) → ◌≡◌ {A = List ℕ} (x ∷ xs) (y ∷ ys)
    go true p q f = ap₂ (λ (z : ℕ) (t : List ℕ). z ∷ t) (eqb-true x y p) (f q)
    go false p q f = let z : ◌≡◌ {A = ℕ} 0 1 = cc in absurd (omega arith)

-- ---- parts

parted-some : (s : ℕ) (xs : List ℕ) → NonEmpty (parted s xs)
unfolding parted on_first
parted-some s [] = tt
parted-some s (x ∷ xs) = go (eqb x s) (parted s xs)
  where
    go : (b : Bool) (ps : List (List ℕ)) → NonEmpty (cond b ([] ∷ ps) (on_first x ps))
    go true ps = tt
    go false [] = tt
    go false (p ∷ ps) = tt

-- parting loses nothing
pub parted-whole : (s : ℕ) (xs : List ℕ) → joined s (parted s xs) ≡ xs
unfolding parted on_first joined led
parted-whole s [] = refl
parted-whole s (x ∷ xs) = go (eqb x s) refl (parted s xs) (parted-some s xs) (parted-whole s xs)
  where
    go : (b : Bool) → eqb x s ≡ b → (ps : List (List ℕ)) → NonEmpty ps → joined s ps ≡ xs → joined s (cond b ([] ∷ ps) (on_first x ps)) ≡ x ∷ xs
    go b e [] n h = absurd n
    go true e (p ∷ ps) n h = ap₂ (λ (z : ℕ) (t : List ℕ). z ∷ t) (sym (eqb-true x s e)) h
    go false e (p ∷ ps) n h = ap (λ (t : List ℕ). x ∷ t) h

follows-told : (w xs r : List ℕ) → follows w xs ≡ some r → w ++ r ≡ xs
unfolding follows
follows-told [] xs r e = cc
follows-told (y ∷ w) [] r e = let z : ◌≡◌ {A = ℕ} 0 1 = cc in absurd (omega arith)
follows-told (y ∷ w) (x ∷ xs) r e = go (eqb y x) refl e (follows-told w xs r)
  where
    go : (b : Bool) → eqb y x ≡ b → cond b (follows w xs) none ≡ some r → (follows w xs ≡ some r → w ++ r ≡ xs) → y ∷ (w ++ r) ≡ x ∷ xs
    go true p q f = ap₂ (λ (z : ℕ) (t : List ℕ). z ∷ t) (eqb-true y x p) (f q)
    go false p q f = let z : ◌≡◌ {A = ℕ} 0 1 = cc in absurd (omega arith)

-- the text of two parts, of three, and of one that is closed
two-told : (s : ℕ) (xs : List ℕ) (r : List ℕ × List ℕ) → two (parted s xs) ≡ some r → r.0 ++ s ∷ r.1 ≡ xs
unfolding joined led
two-told s xs r e = go (parted s xs) (parted-whole s xs) e
  where
    go : (ps : List (List ℕ)) → joined s ps ≡ xs → two ps ≡ some r → r.0 ++ s ∷ r.1 ≡ xs
    go [] j e = let z : ◌≡◌ {A = ℕ} 0 1 = cc in absurd (omega arith)
    go (p ∷ []) j e = let z : ◌≡◌ {A = ℕ} 0 1 = cc in absurd (omega arith)
    go (p ∷ q ∷ []) j e =
        let t : ◌≡◌ {A = List ℕ × List ℕ} (p, q) r = cc in
        ap (λ (w : List ℕ × List ℕ). w.0 ++ s ∷ w.1) (sym t) ∙ (ap (λ (w : List ℕ). p ++ s ∷ w) (sym (append-nil q)) ∙ j)
    go (p ∷ q ∷ u ∷ ps) j e = let z : ◌≡◌ {A = ℕ} 0 1 = cc in absurd (omega arith)

three-told : (s : ℕ) (xs : List ℕ) (r : List ℕ × List ℕ × List ℕ) → three (parted s xs) ≡ some r → r.0 ++ s ∷ (r.1 ++ s ∷ r.2) ≡ xs
unfolding joined led
three-told s xs r e = go (parted s xs) (parted-whole s xs) e
  where
    go : (ps : List (List ℕ)) → joined s ps ≡ xs → three ps ≡ some r → r.0 ++ s ∷ (r.1 ++ s ∷ r.2) ≡ xs
    go [] j e = let z : ◌≡◌ {A = ℕ} 0 1 = cc in absurd (omega arith)
    go (p ∷ []) j e = let z : ◌≡◌ {A = ℕ} 0 1 = cc in absurd (omega arith)
    go (p ∷ q ∷ []) j e = let z : ◌≡◌ {A = ℕ} 0 1 = cc in absurd (omega arith)
    go (p ∷ q ∷ u ∷ []) j e =
        let t : ◌≡◌ {A = List ℕ × List ℕ × List ℕ} (p, q, u) r = cc in
        ap (λ (w : List ℕ × List ℕ × List ℕ). w.0 ++ s ∷ (w.1 ++ s ∷ w.2)) (sym t)
        ∙ (ap (λ (w : List ℕ). p ++ s ∷ (q ++ s ∷ w)) (sym (append-nil u)) ∙ j)
    go (p ∷ q ∷ u ∷ v ∷ ps) j e = let z : ◌≡◌ {A = ℕ} 0 1 = cc in absurd (omega arith)

closed-told : (s : ℕ) (xs a : List ℕ) → closed (parted s xs) ≡ some a → a ++ s ∷ [] ≡ xs
unfolding joined led
closed-told s xs a e = go (parted s xs) (parted-whole s xs) e
  where
    go : (ps : List (List ℕ)) → joined s ps ≡ xs → closed ps ≡ some a → a ++ s ∷ [] ≡ xs
    go [] j e = let z : ◌≡◌ {A = ℕ} 0 1 = cc in absurd (omega arith)
    go (p ∷ []) j e = let z : ◌≡◌ {A = ℕ} 0 1 = cc in absurd (omega arith)
    go (p ∷ [] ∷ []) j e = let t : p ≡ a = cc in ap (λ (w : List ℕ). w ++ s ∷ []) (sym t) ∙ j
    go (p ∷ [] ∷ q ∷ ps) j e = let z : ◌≡◌ {A = ℕ} 0 1 = cc in absurd (omega arith)
    go (p ∷ (x ∷ q) ∷ ps) j e = let z : ◌≡◌ {A = ℕ} 0 1 = cc in absurd (omega arith)

enclosed-told : (w : List ℕ) (s : ℕ) (xs a : List ℕ) → enclosed w s xs ≡ some a → w ++ (a ++ s ∷ []) ≡ xs
unfolding enclosed
enclosed-told w s xs a e =
    after (follows w xs) _ a e λ r f c. ap (λ (z : List ℕ). w ++ z) (closed-told s r a c) ∙ follows-told w xs r f

-- each part is shown as itself
each-told : {A : Type 0} (f : List ℕ → Option A) (g : A → List ℕ) → ((p : List ℕ) (a : A) → f p ≡ some a → g a ≡ p) → (ps : List (List ℕ)) (r : List A)
    → each f ps ≡ some r → map g r ≡ ps
unfolding each
each-told f g h [] r e = let t : [] ≡ r = cc in ap (map g) (sym t)
each-told f g h (p ∷ ps) r e =
    after (f p) _ r e λ a i c. after (each f ps) _ r c λ q j d.
    ap (map g) (sym (some-injective (a ∷ q) r d)) ∙ ap₂ (λ (x : List ℕ) (y : List (List ℕ)). x ∷ y) (h p a i) (each-told f g h ps q j)

list-told : {A : Type 0} (s : ℕ) (f : List ℕ → Option A) (g : A → List ℕ) → ((p : List ℕ) (a : A) → f p ≡ some a → g a ≡ p) → (xs : List ℕ) (r : List A)
    → each f (parted s xs) ≡ some r → joined s (map g r) ≡ xs
list-told s f g h xs r e = ap (joined s) (each-told f g h (parted s xs) r e) ∙ parted-whole s xs

-- ---- numbers and names

number-shown : (p : List ℕ) (n : ℕ) → number p ≡ some n → decimal n ≡ p
number-shown p n e = (number-told p n e).1

variable-shown : (p : List ℕ) (v : ℕ) → variable p ≡ some v → name_of v ≡ p
variable-shown p v e = (name-variable p v e).1

-- ---- labels

sn-told : (r : List ℕ) (sn : ℕ) → sn_digit r ≡ some sn → (48 + sn) ∷ [] ≡ r
unfolding sn_digit within
sn-told [] sn e = let z : ◌≡◌ {A = ℕ} 0 1 = cc in absurd (omega arith)
sn-told (x ∷ []) sn e =
    let t : ((leb 49 x && leb x 52) ≡ true) × (x - 48 ≡ sn) = tested (leb 49 x && leb x 52) (x - 48) sn e in
    let lo : 49 ≤ x = leb-true 49 x (and_left (leb 49 x) (leb x 52) t.0) in
    ap (λ (z : ℕ). z ∷ []) (omega (arith, t.1))
sn-told (x ∷ y ∷ r) sn e = let z : ◌≡◌ {A = ℕ} 0 1 = cc in absurd (omega arith)

label-shown : (p : List ℕ) (sn : ℕ) → label_of p ≡ some sn → show_label sn ≡ p
unfolding label_of show_label
label-shown p sn e =
    after (follows (ascii "sn") p) _ sn e λ r f c. ap (λ (z : List ℕ). ascii "sn" ++ z) (sn-told r sn c) ∙ follows-told (ascii "sn") p r f

entry-shown : (p : List ℕ) (o : Option ℕ) → entry_of p ≡ some o → show_entry o ≡ p
unfolding entry_of show_entry
entry-shown [] o e = let t : none ≡ o = cc in ap show_entry (sym t)
entry-shown (x ∷ p) o e =
    after (label_of (x ∷ p)) _ o e λ sn f c. ap show_entry (sym (some-injective (some sn) o c)) ∙ label-shown (x ∷ p) sn f

-- the text of a `$..$`
unfoldable pub show_entries : List (Option ℕ) → List ℕ
unfolding ascii joined show_entry
show_entries es = ascii "$" ++ (joined 59 (map show_entry es) ++ ascii "$")

some-told : (ls : List (At ℕ)) (es r : List (Option ℕ)) → some_labels ls es ≡ some r → es ≡ r
some-told [] es r e = let z : ◌≡◌ {A = ℕ} 0 1 = cc in absurd (omega arith)
some-told (l ∷ ls) es r e = cc

entries-shown : (p : List ℕ) (es : List (Option ℕ)) → entries_of p ≡ some es → show_entries es ≡ p
unfolding entries_of show_entries ascii
entries-shown p es e =
    after (enclosed (ascii "$") 36 p) _ es e λ r f c. after (each entry_of (parted 59 r)) _ es c λ q g d.
    ap show_entries (sym (some-told (labelled 0 q) q es d))
    ∙ (ap (λ (z : List ℕ). 36 ∷ (z ++ 36 ∷ [])) (list-told 59 entry_of show_entry entry-shown r q g) ∙ enclosed-told (ascii "$") 36 p r f)

-- ---- marks and site lists

mark-shown : (p : List ℕ) (m : At ℕ) → mark_of p ≡ some m → show_mark m ≡ p
unfolding mark_of show_mark ascii
mark-shown p m e =
    after (follows (ascii "Sg:n:") p) _ m e λ r f c. after (three (parted 58 r)) _ m c λ q g d. after (number q.0) _ m d λ i h k.
    after (variable q.1) _ m k λ v j l.
    let t : (same_bytes q.2 (ascii "ht") ≡ true) × (at i v ≡ m) = tested (same_bytes q.2 (ascii "ht")) (at i v) m l in
    ap show_mark (sym t.1)
    ∙ (marked i v q.0 q.1 q.2 (number-shown q.0 i h) (variable-shown q.1 v j) (same-told q.2 (ascii "ht") t.0)
    ∙ (ap (λ (z : List ℕ). ascii "Sg:n:" ++ z) (three-told 58 r q g) ∙ follows-told (ascii "Sg:n:") p r f))
  where
    marked : (i v : ℕ) (a b c : List ℕ) → decimal i ≡ a → name_of v ≡ b → c ≡ ascii "ht" → show_mark (at i v) ≡ ascii "Sg:n:" ++ (a ++ 58 ∷ (b ++ 58 ∷ c))
    marked i v a b c x y z = rw (x, y, z)

sites-shown : (p : List ℕ) (f : At (List ℕ)) → sites_of p ≡ some f → show_sites f ≡ p
unfolding sites_of show_sites ascii
sites-shown p m e =
    after (follows (ascii "m:") p) _ m e λ r f c. after (two (parted 58 r)) _ m c λ q g d. after (number q.0) _ m d λ i h k.
    after (each number (parted 46 q.1)) _ m k λ js j l.
    ap show_sites (sym (some-injective (at i js) m l))
    ∙ (ap₂ (λ (z w : List ℕ). ascii "m:" ++ (z ++ 58 ∷ w)) (number-shown q.0 i h) (list-told 46 number decimal number-shown q.1 js j)
    ∙ (ap (λ (z : List ℕ). ascii "m:" ++ z) (two-told 58 r q g) ∙ follows-told (ascii "m:") p r f))

-- ---- `swappable(..)` and `constrain(..)`

swap-shown : (p ws : List ℕ) → swap_of p ≡ some ws → show_swap ws ≡ p
unfolding swap_of show_swap
swap-shown p ws e =
    after (enclosed (ascii "swappable(") 41 p) _ ws e λ r f c.
    ap (λ (z : List ℕ). ascii "swappable(" ++ (z ++ 41 ∷ [])) (list-told 44 label_of show_label label-shown r ws c) ∙ enclosed-told (ascii "swappable(") 41 p r f

sum-shown : (p : List ℕ) (s : Sum) → sum_of p ≡ some s → show_sum s ≡ p
unfolding sum_of show_sum
sum-shown p s e =
    after (enclosed (ascii "constrain(") 41 p) _ s e λ r f c. after (two (parted 61 r)) _ s c λ q g d.
    after (each variable (parted 43 q.0)) _ s d λ vs h k. after (number q.1) _ s k λ n j l.
    ap show_sum (sym (some-injective (sum vs n) s l))
    ∙ (ap₂ (λ (z w : List ℕ). ascii "constrain(" ++ (z ++ 61 ∷ (w ++ 41 ∷ []))) (list-told 43 variable name_of variable-shown q.0 vs h) (number-shown q.1 n j)
    ∙ (ap (λ (z : List ℕ). ascii "constrain(" ++ z) (sym (append_assoc q.0 (61 ∷ q.1) (41 ∷ [])))
    ∙ (ap (λ (z : List ℕ). ascii "constrain(" ++ (z ++ 41 ∷ [])) (two-told 61 r q g) ∙ enclosed-told (ascii "constrain(") 41 p r f)))

-- ---- blocks and trailer

-- the `$..$`, where there are entries
unfoldable pub entry_blocks : List (Option ℕ) → List (List ℕ)
unfolding show_entries
entry_blocks [] = []
entry_blocks (e ∷ es) = show_entries (e ∷ es) ∷ []

-- the texts of what blocks say
unfoldable pub texts_of : Blocks → List (List ℕ)
unfolding entry_blocks show_mark show_sites
texts_of (blocks es ms fs) = entry_blocks es ++ (map show_mark ms ++ map show_sites fs)

only-shown : (es : List (Option ℕ)) (ms : List (At ℕ)) (bs : List (List ℕ)) (B : Blocks) → only_sites es ms bs ≡ some B → texts_of B ≡ entry_blocks es ++ (map show_mark ms ++ bs)
unfolding only_sites texts_of
only-shown es ms bs B e =
    after (each sites_of bs) _ B e λ fs f c.
    ap texts_of (sym (some-injective (blocks es ms fs) B c)) ∙ ap (λ (z : List (List ℕ)). entry_blocks es ++ (map show_mark ms ++ z)) (each-told sites_of show_sites sites-shown bs fs f)

-- the marks that were read, and the blocks after them
record Marked (k : List (At ℕ) → List (List ℕ) → Option Blocks) (bs : List (List ℕ)) (B : Blocks) : Type 0 where
  marks : List (At ℕ)
  rest : List (List ℕ)
  shown : map show_mark marks ++ rest ≡ bs
  goes_on : k marks rest ≡ some B

marks-told : (k : List (At ℕ) → List (List ℕ) → Option Blocks) (bs : List (List ℕ)) (B : Blocks) → marks_then k bs ≡ some B → Marked k bs B
unfolding marks_then
marks-told k [] B e = record { marks = []; rest = []; shown = refl; goes_on = e }
marks-told k (b ∷ bs) B e = go (mark_of b) refl e (λ m f. marks-told (λ ms r. k (m ∷ ms) r) bs B f)
  where
    go : (o : Option (At ℕ)) → mark_of b ≡ o → elim o [ none ↦ k [] (b ∷ bs) | some m ↦ marks_then (λ ms r. k (m ∷ ms) r) bs ] ≡ some B
        → ((m : At ℕ) → marks_then (λ ms r. k (m ∷ ms) r) bs ≡ some B → Marked (λ ms r. k (m ∷ ms) r) bs B) → Marked k (b ∷ bs) B
    go none p f ih = record { marks = []; rest = b ∷ bs; shown = refl; goes_on = f }
    go (some m) p f ih =
        let i : Marked (λ ms r. k (m ∷ ms) r) bs B = ih m f in
        record {
          marks = m ∷ i.marks;
          rest = i.rest;
          shown = ap₂ (λ (x : List ℕ) (y : List (List ℕ)). x ∷ y) (mark-shown b m p) i.shown;
          goes_on = i.goes_on;
        }

marks-shown : (es : List (Option ℕ)) (bs : List (List ℕ)) (B : Blocks) → marks_then (only_sites es) bs ≡ some B → texts_of B ≡ entry_blocks es ++ bs
marks-shown es bs B e =
    let m : Marked (only_sites es) bs B = marks-told (only_sites es) bs B e in
    only-shown es m.marks m.rest B m.goes_on ∙ ap (λ (z : List (List ℕ)). entry_blocks es ++ z) m.shown

entries-some : (p : List ℕ) (es : List (Option ℕ)) → entries_of p ≡ some es → entry_blocks es ≡ show_entries es ∷ []
unfolding entries_of entry_blocks
entries-some p (x ∷ es) e = refl
entries-some p [] e =
    after (enclosed (ascii "$") 36 p) _ [] e λ r f c. after (each entry_of (parted 59 r)) _ [] c λ q g d. nothing q (some-told (labelled 0 q) q [] d) d
  where
    nothing : (q : List (Option ℕ)) → q ≡ [] → some_labels (labelled 0 q) q ≡ some [] → entry_blocks [] ≡ show_entries [] ∷ []
    nothing [] n d = unfold labelled in cc
    nothing (x ∷ q) n d = cc

-- blocks are read only from their own texts
pub blocks-shown : (bs : List (List ℕ)) (B : Blocks) → read_blocks bs ≡ some B → texts_of B ≡ bs
unfolding read_blocks
blocks-shown [] B e = cc
blocks-shown (b ∷ bs) B e = go (entries_of b) refl e
  where
    go : (o : Option (List (Option ℕ))) → entries_of b ≡ o → elim o [ none ↦ marks_then (only_sites []) (b ∷ bs) | some es ↦ marks_then (only_sites es) bs ] ≡ some B
        → texts_of B ≡ b ∷ bs
    go none p f = unfold entry_blocks in marks-shown [] (b ∷ bs) B f
    go (some es) p f =
        marks-shown es bs B f
        ∙ (ap (λ (z : List (List ℕ)). z ++ bs) (entries-some b es p) ∙ ap (λ (z : List ℕ). z ∷ bs) (entries-shown b es p))

-- the `swappable(..)`, where there are labels
unfoldable pub swap_part : List ℕ → List (List ℕ)
unfolding show_swap
swap_part [] = []
swap_part (w ∷ ws) = show_swap (w ∷ ws) ∷ []

-- the texts of what a trailer says
unfoldable pub parts_of : Trailer → List (List ℕ)
unfolding swap_part show_sum
parts_of (trailer ws ss) = swap_part ws ++ map show_sum ss

sums-shown : (ws : List ℕ) (ts : List (List ℕ)) (R : Trailer) → only_sums ws ts ≡ some R → parts_of R ≡ swap_part ws ++ ts
unfolding only_sums parts_of
sums-shown ws ts R e =
    after (each sum_of ts) _ R e λ ss f c.
    ap parts_of (sym (some-injective (trailer ws ss) R c)) ∙ ap (λ (z : List (List ℕ)). swap_part ws ++ z) (each-told sum_of show_sum sum-shown ts ss f)

swap-some : (p ws : List ℕ) → swap_of p ≡ some ws → swap_part ws ≡ show_swap ws ∷ []
unfolding swap_of swap_part
swap-some p (w ∷ ws) e = refl
swap-some p [] e = after (enclosed (ascii "swappable(") 41 p) _ [] e λ r f c. nothing (parted 44 r) (parted-some 44 r) (each-told label_of show_label label-shown (parted 44 r) [] c)
  where
    nothing : (ps : List (List ℕ)) → NonEmpty ps → [] ≡ ps → swap_part [] ≡ show_swap [] ∷ []
    nothing [] n e = absurd n
    nothing (q ∷ ps) n e = cc

-- a trailer is read only from its own text
pub trailer-shown : (ts : List (List ℕ)) (R : Trailer) → read_trailer ts ≡ some R → parts_of R ≡ ts
unfolding read_trailer
trailer-shown [] R e = cc
trailer-shown (t ∷ ts) R e = go (swap_of t) refl e
  where
    go : (o : Option (List ℕ)) → swap_of t ≡ o → elim o [ none ↦ only_sums [] (t ∷ ts) | some ws ↦ only_sums ws ts ] ≡ some R → parts_of R ≡ t ∷ ts
    go none p f = unfold swap_part in sums-shown [] (t ∷ ts) R f
    go (some ws) p f =
        sums-shown ws ts R f ∙ (ap (λ (z : List (List ℕ)). z ++ ts) (swap-some t ws p) ∙ ap (λ (z : List ℕ). z ∷ ts) (swap-shown t ws p))

-- ---- the line

-- the line of a text, blocks and a trailer
unfoldable pub line_of : Apart → List ℕ
unfolding texts_of parts_of show_blocks
line_of (apart text B R) = text ++ show_blocks (texts_of B) (parts_of R)

blocks-text : (ps ts : List (List ℕ)) → NonEmpty ps → show_blocks ps ts ≡ 32 ∷ 124 ∷ (joined 44 ps ++ 124 ∷ show_trailer ts)
unfolding show_blocks ascii
blocks-text [] ts n = absurd n
blocks-text (p ∷ ps) ts n = refl

trailer-text : (ts : List (List ℕ)) → NonEmpty ts → show_trailer ts ≡ 32 ∷ joined 59 ts
unfolding show_trailer ascii
trailer-text [] n = absurd n
trailer-text (t ∷ ts) n = refl

-- bars and what stands between them
barred-shown : (b : List ℕ) (B : Blocks) → barred b ≡ some B → (124 ∷ (joined 44 (texts_of B) ++ 124 ∷ []) ≡ b) × NonEmpty (texts_of B)
unfolding barred ascii
barred-shown b B e =
    after (enclosed (ascii "|") 124 b) _ B e λ r f c.
    let t : texts_of B ≡ parted 44 r = blocks-shown (parted 44 r) B c in (
      ap (λ (z : List (List ℕ)). 124 ∷ (joined 44 z ++ 124 ∷ [])) t ∙ (ap (λ (z : List ℕ). 124 ∷ (z ++ 124 ∷ [])) (parted-whole 44 r) ∙ enclosed-told (ascii "|") 124 b r f),
      subst NonEmpty (sym t) (parted-some 44 r),
    )

-- A line is taken apart only where it is the line of its parts
pub apart-exact : (xs : List ℕ) (p : Apart) → apart_of (parted 32 xs) ≡ some p → line_of p ≡ xs
unfolding line_of joined led
apart-exact xs p e = go (parted 32 xs) (parted-whole 32 xs) e
  where
    bare : (t : List ℕ) → line_of (apart t (blocks [] [] []) (trailer [] [])) ≡ t
    bare t = unfold texts_of entry_blocks show_blocks in append-nil t

    go : (ps : List (List ℕ)) → joined 32 ps ≡ xs → apart_of ps ≡ some p → line_of p ≡ xs
    go [] j e = unfold apart_of in cc
    go (t ∷ []) j e =
        let q : apart t (blocks [] [] []) (trailer [] []) ≡ p = unfold apart_of in some-injective (apart t (blocks [] [] []) (trailer [] [])) p e in
        ap line_of (sym q) ∙ (bare t ∙ (sym (append-nil t) ∙ j))
    go (t ∷ b ∷ []) j e =
        unfold apart_of in
        after (barred b) _ p e λ B f c.
        let s : (124 ∷ (joined 44 (texts_of B) ++ 124 ∷ []) ≡ b) × NonEmpty (texts_of B) = barred-shown b B f in
        ap line_of (sym (some-injective (apart t B (trailer [] [])) p c))
        ∙ (ap (λ (z : List ℕ). t ++ z) (blocks-text (texts_of B) [] s.1)
        ∙ (ap (λ (z : List ℕ). t ++ 32 ∷ z) (s.0 ∙ sym (append-nil b)) ∙ j))
    go (t ∷ b ∷ r ∷ []) j e =
        unfold apart_of in
        after (barred b) _ p e λ B f c. after (read_trailer (parted 59 r)) _ p c λ R g d.
        let s : (124 ∷ (joined 44 (texts_of B) ++ 124 ∷ []) ≡ b) × NonEmpty (texts_of B) = barred-shown b B f in
        let u : parts_of R ≡ parted 59 r = trailer-shown (parted 59 r) R g in
        let w : show_trailer (parts_of R) ≡ 32 ∷ r = trailer-text (parts_of R) (subst NonEmpty (sym u) (parted-some 59 r)) ∙ ap (λ (z : List ℕ). 32 ∷ z) (ap (joined 59) u ∙ parted-whole 59 r) in
        ap line_of (sym (some-injective (apart t B R) p d))
        ∙ (ap (λ (z : List ℕ). t ++ z) (blocks-text (texts_of B) (parts_of R) s.1 ∙ ap (λ (z : List ℕ). 32 ∷ 124 ∷ (joined 44 (texts_of B) ++ 124 ∷ z)) w)
        ∙ (ap (λ (z : List ℕ). t ++ 32 ∷ z) (sym (append_assoc (124 ∷ joined 44 (texts_of B)) (124 ∷ []) (32 ∷ r)) ∙ ap (λ (z : List ℕ). z ++ 32 ∷ r) s.0)
        ∙ (ap (λ (z : List ℕ). t ++ 32 ∷ (b ++ 32 ∷ z)) (sym (append-nil r)) ∙ j)))
    go (t ∷ b ∷ r ∷ q ∷ ps) j e = unfold apart_of in cc
