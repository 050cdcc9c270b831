-- Laws of the entries of sites whose atoms fall: from the last site on, the `;`s up to its atom, and its label. Assumes nothing.
use Prim.Native.Nat.{ℕ, zero, suc, ◌+◌, ◌-◌, ◌^◌, ◌≤◌, ◌<◌}
use native.Mathlib.Omega.{arith}
use mathlib.Core.Path.{◌≡◌, refl, sym, ap, ◌∙◌}
use mathlib.Core.Bool.{Bool, true, false, false≢true}
use mathlib.Core.Option.{none, some}
use mathlib.Core.List.{List, [], ◌∷◌, ◌++◌, map, append_assoc}
use lib.ListN.{length, take, drop, get_or, replicate}
use lib.Seq.{drop-cons, get_or-take, length-take-le}
use borrow.Author.Tests.{eq-eqb, ne_eqb}
use Rattle.writer.specs.emit.Text.{Written}
use Rattle.writer.proofs.emit.Laws.{written-append, written-nil, written-length}
use Rattle.reading_rules.specs.reading.Parting.{joined}
use Rattle.reading_rules.specs.reading.Molecule.{At, look}
use Rattle.reading_rules.specs.reading.Show.{show_label, show_entry, entries, up_to_last}
use Rattle.line_parts.specs.declared.shown.Site.{Site}
use Rattle.line_parts.specs.shown.Notes.{labels_of, Digits}
use Rattle.sn_labels.specs.label_block.Falling.{Under, Falling, FallTold}
use Rattle.sn_labels.proofs.label_block.Sites.{site-digit}
use Rattle.sn_labels.proofs.label_block.Laws.{look-cons, look-nil, closed, closed-gap, entries-closed, shift}

-- ---- from behind

none-behind : {A : Type 0} (l : List A) (n : ℕ) → drop n (take n l) ≡ []
none-behind l zero = refl
none-behind [] (suc n) = refl
none-behind (x ∷ l) (suc n) = none-behind l n

one-behind : (l : List Site) (n i : ℕ) (d : Site) → length l ≡ 4 → n ≤ 4 → 0 < i → i ≤ n → drop (i - 1) (take n l) ≡ get_or l (i - 1) d ∷ drop i (take n l)
one-behind l n i d k b h g =
    let s : suc (i - 1) ≡ i = omega arith in
    let m : i - 1 < length (take n l) = omega (arith, length-take-le n l (omega arith)) in
    rw (get_or-take n l (i - 1) d (omega arith), s) at (drop-cons (take n l) (i - 1) d m)

-- ---- whether they fall

higher : (m k : ℕ) (l : List Site) → Under m l → m ≤ k → Under k l
unfolding Under
higher m k [] u h = tt
higher m k (s ∷ l) u h = (omega (arith, u.0), u.1)

pub fall-none : (l : List Site) (n : ℕ) → Under 0 (drop n (take n l))
unfolding Under
fall-none l n = rw (none-behind l n) tt

pub fall-more : (l : List Site) (n i last next : ℕ) (d : Site) → length l ≡ 4 → n ≤ 4 → 0 < i → i ≤ n → next ≡ (get_or l (i - 1) d).atom + 1 → last < next → Under last (drop i (take n l))
    → Under next (drop (i - 1) (take n l))
unfolding Under
fall-more l n i last next d k b h g e up u =
    rw (one-behind l n i d k b h g) (omega arith, higher last (get_or l (i - 1) d).atom (drop i (take n l)) u (omega arith))

pub fall-not : (l : List Site) → FallTold l false
fall-not l = record { told = λ e. absurd (false≢true e) }

under-falls : (m : ℕ) (l : List Site) → Under m l → Falling l
unfolding Under Falling
under-falls m [] u = tt
under-falls m (s ∷ l) u = u.1

pub fall-all : (l : List Site) (n i last : ℕ) → i ≤ 0 → Under last (drop i (take n l)) → FallTold (take n l) true
fall-all l n i last h u =
    let z : i ≡ 0 = omega arith in
    let v : Under last (take n l) = rw z at u in
    record { told = λ e. under-falls last (take n l) v }

pub fall-told : (l : List Site) (r : Bool) → r ≡ true → FallTold l r → Falling l
fall-told l r e f = f.told e

-- ---- their entries

-- the atom of the first, which is the last of the text
unfoldable pub top_atom : List Site → ℕ
top_atom [] = 0
top_atom (s ∷ l) = s.atom

unfoldable pub fall_text : List Site → List ℕ
unfolding top_atom
fall_text [] = []
fall_text (s ∷ l) = fall_text l ++ (replicate (s.atom - top_atom l) 59 ++ show_label s.sn)

under_none : (m j : ℕ) (l : List Site) → Under m l → m ≤ j → look j (labels_of l) ≡ none
unfolding Under
under_none m j [] u h = look-nil j
under_none m j (s ∷ l) u h =
    rw (look-cons j s l, ne_eqb j s.atom (λ e. omega (arith, u.0, e))) (under_none s.atom j l u.1 (omega (arith, u.0)))

look-later : (j : ℕ) (s : Site) (l : List Site) → j < s.atom → look j (labels_of (s ∷ l)) ≡ look j (labels_of l)
look-later j s l h = rw (look-cons j s l, ne_eqb j s.atom (λ e. omega arith)) refl

look-first : (s : Site) (l : List Site) → look s.atom (labels_of (s ∷ l)) ≡ some s.sn
look-first s l = rw (look-cons s.atom s l, eq-eqb s.atom s.atom refl) refl

closed-later : (n : ℕ) (s : Site) (l : List Site) → n ≤ s.atom → closed n (labels_of (s ∷ l)) ≡ closed n (labels_of l)
unfolding closed
closed-later zero s l h = refl
closed-later (suc n) s l h = rw (closed-later n s l (omega arith), look-later n s l (omega arith))

closed-bare : (n : ℕ) (ls : List (At ℕ)) → ((j : ℕ) → j < n → look j ls ≡ none) → closed n ls ≡ replicate n 59
unfolding closed show_entry
closed-bare zero ls h = refl
closed-bare (suc n) ls h = rw (closed-bare n ls (λ j l. h j (omega arith)), h n (omega arith)) (shift n 59)

top-shown : (t : Site) (a b c : List ℕ) → (a ++ b) ++ (show_entry (some t.sn) ++ c) ≡ (a ++ (b ++ show_label t.sn)) ++ c
unfolding show_entry
top-shown t a b c = simp append_assoc

top-step : (s t : Site) (l : List Site) (d : ℕ) → s.atom ≡ suc (t.atom + d) → Under t.atom l → closed t.atom (labels_of (t ∷ l)) ≡ fall_text l ++ replicate (t.atom - top_atom l) 59
    → closed s.atom (labels_of (s ∷ t ∷ l)) ≡ fall_text (t ∷ l) ++ replicate (s.atom - top_atom (t ∷ l)) 59
unfolding Under fall_text top_atom
top-step s t l d e u c =
    let ls = labels_of (s ∷ t ∷ l) in
    let f : s.atom - t.atom ≡ suc d = omega arith in
    let bare : (j : ℕ) → t.atom < j → j < suc (t.atom + d) → look j ls ≡ none
    = λ j h k. look-later j s (t ∷ l) (omega arith) ∙ under_none (suc t.atom) j (t ∷ l) (omega arith, u) h in
    let gap : closed s.atom ls ≡ closed t.atom ls ++ (show_entry (look t.atom ls) ++ (59 ∷ replicate d 59)) = ap (λ (n : ℕ). closed n ls) e ∙ closed-gap t.atom d ls bare in
    rw (gap, closed-later t.atom s (t ∷ l) (omega arith), look-later t.atom s (t ∷ l) (omega arith), c, look-first t l, f)
    (top-shown t (fall_text l) (replicate (t.atom - top_atom l) 59) (59 ∷ replicate d 59))

top_closed : (s : Site) (l : List Site) → Under s.atom l → closed s.atom (labels_of (s ∷ l)) ≡ fall_text l ++ replicate (s.atom - top_atom l) 59
unfolding Under fall_text top_atom
top_closed s [] u = let z : s.atom - 0 ≡ s.atom = omega arith in rw z (closed-bare s.atom (labels_of (s ∷ [])) (λ j h. look-later j s [] h ∙ look-nil j))
top_closed s (t ∷ l) u = top-step s t l (s.atom - t.atom - 1) (omega (arith, u.0)) u.1 (top_closed t l u.1)

last_under : (m : ℕ) (l : List Site) → Under m l → up_to_last (labels_of l) ≤ m
unfolding Under up_to_last labels_of
last_under m [] u = omega arith
last_under m (s ∷ l) u = omega (arith, u.0, last_under s.atom l u.1)

last-first : (s : Site) (l : List Site) → Under s.atom l → up_to_last (labels_of (s ∷ l)) ≡ suc s.atom
unfolding up_to_last labels_of
last-first s l u = omega (arith, last_under s.atom l u)

-- THE ENTRIES of sites whose atoms fall
falling-shown : (l : List Site) → Falling l → fall_text l ≡ joined 59 (map show_entry (entries (up_to_last (labels_of l)) 0 (labels_of l)))
unfolding Falling fall_text show_entry joined entries up_to_last labels_of
falling-shown [] f = refl
falling-shown (s ∷ l) f =
    sym (rw (last-first s l f, entries-closed s.atom (labels_of (s ∷ l)), look-first s l, top_closed s l f) (append_assoc (fall_text l) (replicate (s.atom - top_atom l) 59) (show_label s.sn)))

-- ---- a turn of the loop

pub shown-none : (l : List Site) (n : ℕ) (xs : List ℕ) (a : ℕ) → a < 2 ^ 64 → Written xs a (fall_text (drop n (take n l))) xs a
unfolding fall_text
shown-none l n xs a h = rw (none-behind l n) (written-nil xs a h)

pub top-none : (l : List Site) (n : ℕ) → 0 ≡ top_atom (drop n (take n l))
unfolding top_atom
top-none l n = rw (none-behind l n)

falling-drop : (l : List Site) (i : ℕ) → Falling l → Falling (drop i l)
unfolding Falling Under
falling-drop l zero f = f
falling-drop [] (suc i) f = tt
falling-drop (s ∷ l) (suc i) f = falling-drop l i (under-falls s.atom l f)

top-under : (s : Site) (l : List Site) → Falling (s ∷ l) → top_atom l ≤ s.atom
unfolding Falling Under top_atom
top-under s [] f = omega arith
top-under s (t ∷ l) f = omega (arith, f.0)

module _ (l : List Site) (n i from : ℕ) (d : Site) (k : length l ≡ 4) (b : n ≤ 4) (h : 0 < i) (g : i ≤ n) where
  pub top_within : Falling (take n l) → from ≡ top_atom (drop i (take n l)) → from ≤ (get_or l (i - 1) d).atom
  top_within f e =
      let v : Falling (get_or l (i - 1) d ∷ drop i (take n l)) = rw (one-behind l n i d k b h g) at (falling-drop (take n l) (i - 1) f) in
      omega (arith, e, top-under (get_or l (i - 1) d) (drop i (take n l)) v)

  pub digit-behind : Digits (take n l) → (get_or l (i - 1) d).sn < 10
  digit-behind e = site-digit l n (i - 1) d k b (omega arith) e

  pub top-more : (get_or l (i - 1) d).atom ≡ top_atom (drop (i - 1) (take n l))
  unfolding top_atom
  top-more = rw (one-behind l n i d k b h g)

  pub shown-more : {xs ys zs ws : List ℕ} {a p q r : ℕ} → from ≡ top_atom (drop i (take n l)) → length xs < 2 ^ 64 → Written xs a (fall_text (drop i (take n l))) ys p
      → Written ys p (replicate ((get_or l (i - 1) d).atom - from) 59) zs q → Written zs q (show_label (get_or l (i - 1) d).sn) ws r
      → Written xs a (fall_text (drop (i - 1) (take n l))) ws r
  unfolding fall_text
  shown-more e m w u v =
      rw (one-behind l n i d k b h g, ← e) (written-append m w (written-append (rw (written-length w) m) u v))

pub shown-all : {xs ys : List ℕ} {a p : ℕ} (l : List Site) (n i : ℕ) → i ≤ 0 → Falling (take n l) → Written xs a (fall_text (drop i (take n l))) ys p
    → Written xs a (joined 59 (map show_entry (entries (up_to_last (labels_of (take n l))) 0 (labels_of (take n l))))) ys p
shown-all l n i h f w =
    let z : i ≡ 0 = omega arith in
    rw (z, falling-shown (take n l) f) at w
