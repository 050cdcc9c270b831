-- Laws of the writers of the entries of labels: a law for each way out and each turn of a loop. Assumes nothing.
use Prim.Native.Nat.{ℕ, zero, suc, ◌+◌, ◌-◌, ◌^◌, ◌≤◌, ◌<◌, min, max}
use native.Mathlib.Nat.{add-zero, zero-add, add-suc, suc-add}
use native.Mathlib.Numerals.{add-one}
use native.Mathlib.Decide.{dec_le}
use native.Mathlib.Omega.{arith}
use mathlib.Core.Path.{◌≡◌, refl, sym, ap, ◌∙◌}
use mathlib.Core.Bool.{Bool, true, false, cond}
use mathlib.Core.Option.{none, some}
use mathlib.Core.List.{List, [], ◌∷◌, ◌++◌, map, map-append, append_assoc, append-nil}
use lib.ListN.{length, take, drop, get_or, replicate, length-map, drop_of_length-le}
use lib.Seq.{drop-cons, get_or-take, length-take-le}
use lib.Dec.{eqb}
use borrow.Author.Tests.{lt-ltb, le-ltb, eq-eqb, ne_eqb}
use Rattle.writer.specs.emit.Text.{Written}
use Rattle.writer.proofs.emit.Laws.{written-append, written-nil, written-length}
use Rattle.reading_rules.specs.reading.Ascii.{ascii}
use Rattle.reading_rules.specs.reading.Parting.{led, joined}
use Rattle.reading_rules.specs.reading.Molecule.{At, at, look}
use Rattle.reading_rules.specs.reading.Show.{show_label, show_entry, entries, up_to_last, label_block, label_blocks}
use Rattle.reading_rules.proofs.reading.BlockLaws.{entries-length}
use Rattle.line_parts.specs.declared.shown.Site.{Site}
use Rattle.line_parts.specs.shown.Chained.{block_lead, shown_blocks}
use Rattle.line_parts.specs.shown.Notes.{labels_of}
use Rattle.line_parts.proofs.shown.Chained.{one-shown, none-shown}
use Rattle.sn_labels.specs.label_block.Gaps.{Gap, nearest}
use Rattle.sn_labels.proofs.label_block.Sites.{labels-snoc, take_counted, counted_none, counted-some}

-- what the code has past an array's end
abbrev no_site : Site
no_site = record { sn = 0; atom = 0 }

-- ---- the last atom with a label

last_snoc : (ls : List (At ℕ)) (j sn : ℕ) → up_to_last (ls ++ (at j sn ∷ [])) ≡ max (up_to_last ls) (suc j)
unfolding up_to_last
last_snoc [] j sn = omega arith
last_snoc (at i s ∷ ls) j sn = rw (last_snoc ls j sn) (omega arith)

module _ (l : List Site) (k : length l ≡ 4) (count i : ℕ) (b : count ≤ 4) where
  pub end_more : (d : Site) (end past next : ℕ) → i < count → end ≡ up_to_last (labels_of (take i l)) → past ≡ (get_or l i d).atom + 1 → next ≡ max end past
      → next ≡ up_to_last (labels_of (take (i + 1) l))
  end_more d end past next h e f g =
      rw (labels-snoc l i d (omega arith), last_snoc (labels_of (take i l)) (get_or l i d).atom (get_or l i d).sn, ← e) (omega arith)

-- ---- the label of an atom

pub look-cons : (a : ℕ) (s : Site) (l : List Site) → look a (labels_of (s ∷ l)) ≡ cond (eqb a s.atom) (some s.sn) (look a (labels_of l))
unfolding look labels_of
look-cons a s l = refl

pub look-nil : (a : ℕ) → look a (labels_of []) ≡ none
unfolding look labels_of
look-nil a = refl

module _ (a : ℕ) (l : List Site) (k : length l ≡ 4) (count i : ℕ) (b : count ≤ 4) (f : look a (labels_of (take count l)) ≡ look a (labels_of (drop i (take count l)))) where
  look-step : (d : Site) → i < count → look a (labels_of (take count l)) ≡ cond (eqb a (get_or l i d).atom) (some (get_or l i d).sn) (look a (labels_of (drop (i + 1) (take count l))))
  look-step d h =
      let n : i < length (take count l) = omega (arith, length-take-le count l (omega arith)) in
      let z : drop i (take count l) ≡ get_or l i d ∷ drop (i + 1) (take count l)
      = drop-cons (take count l) i d n ∙ (rw (add-one i, get_or-take count l i d h)) in
      f ∙ (ap (λ (r : List Site). look a (labels_of r)) z ∙ look-cons a (get_or l i d) (drop (i + 1) (take count l)))

  pub entry_here : {xs ys zs : List ℕ} {p q : ℕ} (d : Site) → i < count → (get_or l i d).atom ≡ a → length xs < 2 ^ 64 → Written xs p [] ys p
      → Written ys p (show_label (get_or l i d).sn) zs q → Written xs p (show_entry (look a (labels_of (take count l)))) zs q
  unfolding show_entry
  entry_here d h e g w u = rw (look-step d h, eq-eqb a (get_or l i d).atom (sym e)) (written-append g w u)

  pub entry_next : i < count → ((get_or l i no_site).atom ≡ a → ⊥) → look a (labels_of (take count l)) ≡ look a (labels_of (drop (i + 1) (take count l)))
  entry_next h e = rw (ne_eqb a (get_or l i no_site).atom (λ z. e (sym z))) at (look-step no_site h)

  pub entry-none : {xs ys : List ℕ} {p : ℕ} → count ≤ i → Written xs p [] ys p → Written xs p (show_entry (look a (labels_of (take count l)))) ys p
  unfolding show_entry
  entry-none h w =
      let n : length (take count l) ≤ i = omega (arith, length-take-le count l (omega arith)) in
      rw (f, drop_of_length-le (take count l) n, look-nil a) w

-- ---- the list of entries

entries-snoc : (n i : ℕ) (ls : List (At ℕ)) → entries (suc n) i ls ≡ entries n i ls ++ (look (i + n) ls ∷ [])
unfolding entries
entries-snoc zero i ls = rw add-zero
entries-snoc (suc n) i ls = rw (entries-snoc n (suc i) ls, add-suc, suc-add)

led-snoc : (s : ℕ) (ps : List (List ℕ)) (t : List ℕ) → led s (ps ++ (t ∷ [])) ≡ led s ps ++ s ∷ t
unfolding led
led-snoc s [] t = rw append-nil
led-snoc s (p ∷ ps) t = rw (led-snoc s ps t, append_assoc)

later-snoc : (s n : ℕ) (ps : List (List ℕ)) (t : List ℕ) → length ps ≡ suc n → joined s (ps ++ (t ∷ [])) ≡ joined s ps ++ s ∷ t
unfolding joined
later-snoc s n [] t e = absurd (omega arith)
later-snoc s n (p ∷ ps) t e = rw (led-snoc s ps t, append_assoc)

-- the entries of the atoms below n, a `;` after each
unfoldable pub closed : ℕ → List (At ℕ) → List ℕ
closed zero ls = []
closed (suc n) ls = closed n ls ++ (show_entry (look n ls) ++ (59 ∷ []))

first_entry : (ls : List (At ℕ)) → joined 59 (map show_entry (entries 1 0 ls)) ≡ show_entry (look 0 ls)
unfolding joined led entries
first_entry ls = rw append-nil

pub entries-closed : (n : ℕ) (ls : List (At ℕ)) → joined 59 (map show_entry (entries (suc n) 0 ls)) ≡ closed n ls ++ show_entry (look n ls)
unfolding closed
entries-closed zero ls = first_entry ls
entries-closed (suc n) ls =
    rw (
      entries-snoc (suc n) 0 ls,
      zero-add,
      map-append show_entry (entries (suc n) 0 ls) (look (suc n) ls ∷ []),
      later-snoc
          59
          n
          (map show_entry (entries (suc n) 0 ls))
          (show_entry (look (suc n) ls))
          (length-map (entries (suc n) 0 ls) show_entry ∙ entries-length (suc n) 0 ls),
      entries-closed n ls,
    )
    (simp append_assoc)

pub entries_none : (xs : List ℕ) (a n : ℕ) (ls : List (At ℕ)) → n ≡ 0 → a < 2 ^ 64 → Written xs a (joined 59 (map show_entry (entries n 0 ls))) xs a
unfolding joined entries
entries_none xs a n ls e h = rw e (written-nil xs a h)

pub entries-some : {xs ys : List ℕ} {a p : ℕ} (n : ℕ) (ls : List (At ℕ)) → (n ≡ 0 → ⊥) → Written xs a (joined 59 (map show_entry (entries (n - 1 + 1) 0 ls))) ys p
    → Written xs a (joined 59 (map show_entry (entries n 0 ls))) ys p
entries-some n ls h w = let e : n - 1 + 1 ≡ n = omega arith in rw e at w

-- ---- atoms without a label: a `;` each

pub shift : (n x : ℕ) → replicate n x ++ (x ∷ []) ≡ x ∷ replicate n x
shift zero x = refl
shift (suc n) x = ap (λ (l : List ℕ). x ∷ l) (shift n x)

pub closed-gap : (a d : ℕ) (ls : List (At ℕ)) → ((j : ℕ) → a < j → j < suc (a + d) → look j ls ≡ none)
    → closed (suc (a + d)) ls ≡ closed a ls ++ (show_entry (look a ls) ++ (59 ∷ replicate d 59))
unfolding closed show_entry
closed-gap a zero ls h = rw add-zero
closed-gap a (suc d) ls h =
    rw (add-suc a d, closed-gap a d ls (λ j l m. h j l (omega arith)), h (suc (a + d)) (omega arith) (omega arith)) (simp (append_assoc, shift d 59))

pub through-gap : {xs ys zs ws : List ℕ} {a p q r : ℕ} (ls : List (At ℕ)) (atom last next : ℕ) → Gap atom last ls next → length xs < 2 ^ 64
    → Written xs a (closed atom ls) ys p → Written ys p (show_entry (look atom ls)) zs q → Written zs q (replicate (next - atom) 59) ws r → Written xs a (closed next ls) ws r
through-gap {xs} {ys} {zs} {ws} {a} {p} {q} {r} ls atom last next g h w u v = go (next - atom - 1) (omega (arith, g.past))
  where
    go : (d : ℕ) → next ≡ suc (atom + d) → Written xs a (closed next ls) ws r
    go d e =
        let z : next - atom ≡ suc d = omega arith in
        let t : Written zs q (replicate (suc d) 59) ws r = rw z at v in
        rw (e, closed-gap atom d ls (λ j l m. g.bare j l (omega arith))) (written-append h w (written-append (rw (written-length w) h) u t))

pub through-all : {xs ys zs : List ℕ} {a p q : ℕ} (ls : List (At ℕ)) (atom last : ℕ) → atom ≤ last → last ≤ atom → length xs < 2 ^ 64
    → Written xs a (closed atom ls) ys p → Written ys p (show_entry (look atom ls)) zs q → Written xs a (joined 59 (map show_entry (entries (last + 1) 0 ls))) zs q
through-all ls atom last h k g w u = let e : last ≡ atom = omega arith in rw (e, add-one, entries-closed atom ls) (written-append g w u)

-- ---- the next atom with a label

module _ (a j n : ℕ) where
  pub near-past : (r : ℕ) → a < j → r ≡ min j n → r ≡ nearest a j n
  unfolding nearest
  near-past r h e = rw (e, lt-ltb a j h)

  pub near-low : j ≤ a → n ≡ nearest a j n
  unfolding nearest
  near-low h = rw (le-ltb a j h)

-- what `nearest` is, for arithmetic
data Near (a j n : ℕ) : Type 0 where
  low : j ≤ a → nearest a j n ≡ n → Near a j n
  high : a < j → nearest a j n ≡ min j n → Near a j n

near : (a j n : ℕ) → Near a j n
unfolding nearest
near a j n = go (dec_le j a)
  where
    go : Dec (j ≤ a) → Near a j n
    go (yes h) = low h (rw (le-ltb a j h))
    go (no h) = high (omega arith) (rw (lt-ltb a j (omega arith)))

look-snoc : (j : ℕ) (ls : List (At ℕ)) (a sn : ℕ) → look j ls ≡ none → (j ≡ a → ⊥) → look j (ls ++ (at a sn ∷ [])) ≡ none
unfolding look
look-snoc j [] a sn e h = rw (ne_eqb j a h)
look-snoc j (at b s ∷ ls) a sn e h = go (eqb j b) e (λ z. look-snoc j ls a sn z h)
  where
    go : (t : Bool) → cond t (some s) (look j ls) ≡ none → (look j ls ≡ none → look j (ls ++ (at a sn ∷ [])) ≡ none)
        → cond t (some s) (look j (ls ++ (at a sn ∷ []))) ≡ none
    go true z f = z
    go false z f = f z

gap-snoc : (a last n j sn r : ℕ) (ls : List (At ℕ)) → Gap a last ls n → r ≡ nearest a j n → Near a j n → Gap a last (ls ++ (at j sn ∷ [])) r
gap-snoc a last n j sn r ls g e (low h f) =
    record { past = omega arith; within = omega arith; bare = λ m l u. look-snoc m ls j sn (g.bare m l (omega arith)) (λ z. omega arith) }
gap-snoc a last n j sn r ls g e (high h f) =
    record { past = omega arith; within = omega arith; bare = λ m l u. look-snoc m ls j sn (g.bare m l (omega arith)) (λ z. omega arith) }

pub next-none : (a last : ℕ) → a < last → (ls : List Site) → Gap a last (labels_of (take 0 ls)) last
unfolding labels_of look
next-none a last h ls = record { past = h; within = omega arith; bare = λ j l m. refl }

module _ (l : List Site) (k : length l ≡ 4) (count i a last : ℕ) (b : count ≤ 4) where
  pub next_more : (d : Site) (n r : ℕ) → i < count → Gap a last (labels_of (take i l)) n → r ≡ nearest a (get_or l i d).atom n
      → Gap a last (labels_of (take (i + 1) l)) r
  next_more d n r h g e =
      rw (labels-snoc l i d (omega arith))
      (gap-snoc a last n (get_or l i d).atom (get_or l i d).sn r (labels_of (take i l)) g e (near a (get_or l i d).atom n))

pub list-entries : {xs ys : List ℕ} {a p : ℕ} (ls : List (At ℕ)) (n : ℕ) → n ≡ up_to_last ls → Written xs a (joined 59 (map show_entry (entries n 0 ls))) ys p
    → Written xs a (joined 59 (map show_entry (entries (up_to_last ls) 0 ls))) ys p
list-entries ls n e w = rw e at w

pub block-text : {xs ys zs ws : List ℕ} {a p q r : ℕ} (ls : List (At ℕ)) → length xs < 2 ^ 64 → Written xs a (ascii "$") ys p
    → Written ys p (joined 59 (map show_entry (entries (up_to_last ls) 0 ls))) zs q → Written zs q (ascii "$") ws r → Written xs a (label_block ls) ws r
unfolding label_block
block-text ls g w u v = rw append_assoc at (written-append g (written-append g w u) v)

-- ---- the sites that count

some-labels : (l : List Site) → 0 < length l → label_blocks (labels_of l) ≡ label_block (labels_of l) ∷ []
unfolding label_blocks labels_of
some-labels [] h = absurd (omega arith)
some-labels (s ∷ l) h = refl

module _ (first : Bool) (l : List Site) (count n : ℕ) (k : length l ≡ 4) (e : n ≡ min count 4) where
  pub block_none : (xs : List ℕ) (a : ℕ) → n ≡ 0 → a < 2 ^ 64 → Written xs a (shown_blocks first (label_blocks (labels_of (take count l)))) xs a
  unfolding label_blocks labels_of
  block_none xs a z h = rw (counted_none l count n k e z) (none-shown _ _ first xs a h)

  pub block-some : {xs ys zs : List ℕ} {a p q : ℕ} → (n ≡ 0 → ⊥) → length xs < 2 ^ 64 → Written xs a (block_lead first) ys p
      → Written ys p (label_block (labels_of (take n l))) zs q → Written xs a (shown_blocks first (label_blocks (labels_of (take count l)))) zs q
  block-some h g w u = rw (← take_counted l count n k e, some-labels (take n l) (counted-some l count n k e h)) (one-shown _ _ first g w u)
