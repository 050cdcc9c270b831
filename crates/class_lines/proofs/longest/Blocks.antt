-- How long the blocks and the trailer of a line are. Assumes nothing.
use Prim.Native.Nat.{ℕ, zero, suc, ◌+◌, ◌-◌, ◌*◌, ◌/◌, ◌%◌, ◌^◌, ◌≤◌, ◌<◌}
use native.Mathlib.Nat.{pow-suc}
use native.Mathlib.Decide.{dec_le}
use native.Mathlib.Omega.{arith}
use mathlib.Core.Path.{◌≡◌, refl}
use mathlib.Core.Bool.{Bool, true, false, cond}
use mathlib.Core.Option.{Option, none, some}
use mathlib.Core.List.{List, [], ◌∷◌, ◌++◌, map}
use lib.Dec.{eqb, ltb, leb}
use lib.ListN.{length, length-append}
use Rattle.writer.specs.emit.Text.{decimal}
use Rattle.writer.proofs.emit.Laws.{decimal-small, decimal_step}
use Rattle.reading_rules.specs.reading.Ascii.{ascii}
use Rattle.reading_rules.specs.reading.Parting.{joined, led, semicolon, comma, point, plus}
use Rattle.reading_rules.specs.reading.Names.{name_of, name_below, name_count}
use Rattle.reading_rules.specs.reading.Molecule.{At, at, notes_of, look, Sum, sum}
use Rattle.reading_rules.specs.reading.Show.{show_label, show_entry, entries, up_to_last, label_block, label_blocks, show_mark, show_sites, block_texts, show_swap, show_sum, swap_texts, trailer_texts, show_trailer, show_blocks, show_line}
use Rattle.reading_rules.proofs.reading.PartingLaws.{All}
use Rattle.class_lines.proofs.longest.Once.{one, one-most, once-here}

-- ---- numbers and names

-- the digits of a number below a power of ten
digits-few : (k n : ℕ) → n < 10 ^ suc k → length (decimal n) ≤ suc k
digits-few zero n h = let z : n < 10 = h in rw (decimal-small n z) (omega arith)
digits-few (suc k) n h = go (dec_le 10 n) (digits-few k (n / 10))
  where
    go : Dec (10 ≤ n) → (n / 10 < 10 ^ suc k → length (decimal (n / 10)) ≤ suc k) → length (decimal n) ≤ suc (suc k)
    go (yes l) f =
        let m : n < 10 ^ suc k * 10 = (rw pow-suc at h) in
        let i = f (omega arith) in
        rw (decimal_step n l, length-append (decimal (n / 10)) ((48 + n % 10) ∷ [])) (omega arith)
    go (no l) f = rw (decimal-small n (omega arith)) (omega arith)

index-few : (n : ℕ) → n ≤ 65535 → length (decimal n) ≤ 5
index-few n h = digits-few 4 n (omega arith)

number-few : (n : ℕ) → n ≤ 4294967295 → length (decimal n) ≤ 10
number-few n h = digits-few 9 n (omega arith)

name-few : (v : ℕ) → length (name_of v) ≤ 2
unfolding name_of name_below
name-few v = go (ltb i 26)
  where
    i : ℕ
    i = v % name_count

    go : (b : Bool) → length (cond b ((97 + i) ∷ []) ((97 + (i - 26) / 26) ∷ (97 + (i - 26) % 26) ∷ [])) ≤ 2
    go true = omega arith
    go false = omega arith

-- ---- parts joined

-- the bytes of parts, with one more for each
unfoldable pub total : List (List ℕ) → ℕ
total [] = 0
total (p ∷ ps) = suc (length p) + total ps

led-total : (s : ℕ) (ps : List (List ℕ)) → length (led s ps) ≡ total ps
unfolding led total
led-total s [] = refl
led-total s (p ∷ ps) = omega (arith, length-append p (led s ps), led-total s ps)

joined-total : (s : ℕ) (ps : List (List ℕ)) → length (joined s ps) ≤ total ps
unfolding joined total
joined-total s [] = omega arith
joined-total s (p ∷ ps) = omega (arith, length-append p (led s ps), led-total s ps)

total-append : (ps qs : List (List ℕ)) → total (ps ++ qs) ≡ total ps + total qs
unfolding total
total-append [] qs = omega arith
total-append (p ∷ ps) qs = omega (arith, total-append ps qs)

pub total-map : {A : Type 0} (f : A → List ℕ) (k : ℕ) (xs : List A) → All (λ x. length (f x) < k) xs → total (map f xs) ≤ length xs * k
unfolding total
total-map f k [] h = omega arith
total-map f k (x ∷ xs) h = omega (arith, h.0, total-map f k xs h.1)

any-total : {A : Type 0} (f : A → List ℕ) (k : ℕ) (xs : List A) → ((x : A) → length (f x) < k) → total (map f xs) ≤ length xs * k
unfolding total
any-total f k [] h = omega arith
any-total f k (x ∷ xs) h = omega (arith, h x, any-total f k xs h)

-- ---- the blocks

-- an atom that a `u32` numbers
abbrev pub Numbered : {A : Type 0} → At A → Type 0
Numbered (at i a) = i ≤ 4294967295

pub mark-few : (m : At ℕ) → Numbered m → length (show_mark m) < 22
unfolding show_mark ascii
mark-few (at i v) h =
    omega (
      arith,
      length-append (decimal i) (ascii ":" ++ (name_of v ++ ascii ":ht")),
      length-append (name_of v) (ascii ":ht"),
      number-few i h,
      name-few v,
    )

indices-few : (js : List ℕ) → All (λ j. j ≤ 65535) js → total (map decimal js) ≤ 6 * length js
unfolding total
indices-few [] h = omega arith
indices-few (j ∷ js) h = omega (arith, index-few j h.0, indices-few js h.1)

-- a site list of at most n sites
abbrev pub Sited : ℕ → At (List ℕ) → Type 0
Sited n (at i js) = (i ≤ 4294967295) × (All (λ j. j ≤ 65535) js × (length js ≤ n))

pub sites-few : (n : ℕ) (s : At (List ℕ)) → Sited n s → length (show_sites s) < 14 + 6 * n
unfolding show_sites ascii
sites-few n (at i js) h =
    omega (
      arith,
      length-append (decimal i) (ascii ":" ++ joined point (map decimal js)),
      number-few i h.0,
      joined-total point (map decimal js),
      indices-few js h.1.0,
      h.1.1,
    )

label-few : (sn : ℕ) → length (show_label sn) < 4
unfolding show_label ascii
label-few sn = omega arith

-- how many entries are labels
unfoldable labelled : List (Option ℕ) → ℕ
labelled [] = 0
labelled (none ∷ es) = labelled es
labelled (some sn ∷ es) = suc (labelled es)

entries-total : (es : List (Option ℕ)) → total (map show_entry es) ≤ length es + 3 * labelled es
unfolding total labelled show_entry
entries-total [] = omega arith
entries-total (none ∷ es) = omega (arith, entries-total es)
entries-total (some sn ∷ es) = omega (arith, label-few sn, entries-total es)

length-entries : (n i : ℕ) (ls : List (At ℕ)) → length (entries n i ls) ≡ n
unfolding entries
length-entries zero i ls = refl
length-entries (suc n) i ls = omega (arith, length-entries n (suc i) ls)

-- atoms from i on meet a label once if it stands at one of them
entries-more : (n i j sn : ℕ) (ls : List (At ℕ)) → labelled (entries n i (at j sn ∷ ls)) ≤ one (leb i j) + labelled (entries n i ls)
unfolding entries labelled look
entries-more zero i j sn ls = omega arith
entries-more (suc n) i j sn ls = omega (arith, here (eqb i j) (look i ls), entries-more n (suc i) j sn ls, once-here j i)
  where
    es : List (Option ℕ)
    es = entries n (suc i) (at j sn ∷ ls)

    fs : List (Option ℕ)
    fs = entries n (suc i) ls

    here : (b : Bool) (o : Option ℕ) → labelled (cond b (some sn) o ∷ es) + labelled fs ≤ one b + labelled (o ∷ fs) + labelled es
    here true none = omega arith
    here true (some x) = omega arith
    here false none = omega arith
    here false (some x) = omega arith

entries-few : (n i : ℕ) (ls : List (At ℕ)) → labelled (entries n i ls) ≤ length ls
unfolding labelled entries look
entries-few n i [] = none-there n i
  where
    none-there : (n i : ℕ) → labelled (entries n i []) ≤ 0
    none-there zero i = omega arith
    none-there (suc n) i = none-there n (suc i)
entries-few n i (at j sn ∷ ls) = omega (arith, entries-more n i j sn ls, entries-few n i ls, one-most (leb i j))

-- a byte for each atom up to the last with a label, and three more for each label
labels-few : (ls : List (At ℕ)) → total (label_blocks ls) ≤ 3 + up_to_last ls + 3 * length ls
unfolding label_blocks label_block total ascii
labels-few [] = omega arith
labels-few (l ∷ ls) =
    let es = entries (up_to_last (l ∷ ls)) 0 (l ∷ ls) in
    omega (
      arith,
      length-append (joined semicolon (map show_entry es)) (ascii "$"),
      joined-total semicolon (map show_entry es),
      entries-total es,
      length-entries (up_to_last (l ∷ ls)) 0 (l ∷ ls),
      entries-few (up_to_last (l ∷ ls)) 0 (l ∷ ls),
    )

-- ---- the trailer

length-notes : {A : Type 0} (ls : List (At A)) → length (notes_of ls) ≡ length ls
unfolding notes_of
length-notes [] = refl
length-notes (at i a ∷ ls) = omega (arith, length-notes ls)

swap-few : (ls : List (At ℕ)) → total (swap_texts ls) ≤ 12 + 4 * length ls
unfolding swap_texts show_swap total ascii
swap-few [] = omega arith
swap-few (l ∷ ls) =
    let ns = notes_of (l ∷ ls) in
    omega (
      arith,
      length-append (joined comma (map show_label ns)) (ascii ")"),
      joined-total comma (map show_label ns),
      any-total show_label 4 ns label-few,
      length-notes (l ∷ ls),
    )

-- a sum of at most n variables
abbrev pub Summed : ℕ → Sum → Type 0
Summed n (sum vs m) = (m ≤ 4294967295) × (length vs ≤ n)

pub sum-few : (n : ℕ) (s : Sum) → Summed n s → length (show_sum s) < 23 + 3 * n
unfolding show_sum ascii
sum-few n (sum vs m) h =
    omega (
      arith,
      length-append (joined plus (map name_of vs)) (ascii "=" ++ (decimal m ++ ascii ")")),
      length-append (decimal m) (ascii ")"),
      joined-total plus (map name_of vs),
      any-total name_of 3 vs (λ v. below v (name-few v)),
      number-few m h.0,
      h.1,
    )
  where
    below : (v : ℕ) → length (name_of v) ≤ 2 → length (name_of v) < 3
    below v g = omega arith

-- ---- the line

trailer-few : (ts : List (List ℕ)) → length (show_trailer ts) ≤ 1 + total ts
unfolding show_trailer ascii
trailer-few [] = omega arith
trailer-few (t ∷ ts) = omega (arith, joined-total semicolon (t ∷ ts))

blocks-few : (bs ts : List (List ℕ)) → length (show_blocks bs ts) ≤ 4 + total bs + total ts
unfolding show_blocks ascii
blocks-few [] ts = omega arith
blocks-few (b ∷ bs) ts =
    omega (
      arith,
      length-append (joined comma (b ∷ bs)) (ascii "|" ++ show_trailer ts),
      joined-total comma (b ∷ bs),
      trailer-few ts,
    )

pub line-few : (text : List ℕ) (labels marks : List (At ℕ)) (sites : List (At (List ℕ))) (sums : List Sum)
    → length (show_line text labels marks sites sums) ≤ length text + 19 + up_to_last labels + 7 * length labels + (total (map show_mark marks) + (total (map show_sites sites) + total (map show_sum sums)))
unfolding show_line block_texts trailer_texts
line-few text labels marks sites sums =
    omega (
      arith,
      length-append text (show_blocks (block_texts labels marks sites) (trailer_texts labels sums)),
      blocks-few (block_texts labels marks sites) (trailer_texts labels sums),
      total-append (label_blocks labels) (map show_mark marks ++ map show_sites sites),
      total-append (map show_mark marks) (map show_sites sites),
      total-append (swap_texts labels) (map show_sum sums),
      labels-few labels,
      swap-few labels,
    )
