-- Laws of the writers of runs: what a bond and a carbon leave in the slice, and a law for each turn of a loop and each way out.
-- Assumes nothing.
use Prim.Native.Nat.{ℕ, zero, suc, ◌+◌, ◌-◌, ◌*◌, ◌^◌, ◌≤◌, ◌<◌, min}
use native.Mathlib.Nat.{add-zero, add-suc, suc-add}
use native.Mathlib.Numerals.{add-one}
use native.Mathlib.Decide.{dec_le}
use native.Mathlib.Omega.{arith}
use mathlib.Core.Path.{◌≡◌, refl}
use mathlib.Core.List.{List, [], ◌∷◌, ◌++◌, append-nil, append_assoc}
use lib.ListN.{length, get_or, set, length-append}
use lib.Seq.{set-set}
use borrow.Author.Tests.{ne_eqb}
use Rattle.writer.specs.emit.Text.{Written}
use Rattle.writer.proofs.emit.Laws.{written-nil, written-append, written-length}
use Rattle.reading_rules.specs.reading.Ascii.{ascii}
use Rattle.reading_rules.specs.reading.Piece.{show}
use Rattle.reading_rules.specs.reading.Chain.{mark_pieces, bridge_pieces}
use Rattle.chain_rules.specs.chain.Bonds.{mark_of}
use Rattle.chain_pieces.specs.backbone.Text.{carbon_text, bridge_text}
use Rattle.carbons.proofs.Left.{written-three}
use Rattle.chain_pieces.specs.runs.Links.{link_text, links_text, Links, Run}

-- ---- a bond and the carbon after it

pub link-empty : link_text 0 ≡ 67 ∷ []
unfolding link_text bridge_text bridge_pieces carbon_text mark_of mark_pieces show ascii
link-empty = refl

link-marked : (b : ℕ) → link_text (suc b) ≡ suc b ∷ 67 ∷ []
unfolding link_text bridge_text bridge_pieces carbon_text mark_of mark_pieces show ascii
link-marked b = go (dec_le (suc b) 78) (dec_le (suc b) 79)
  where
    go : Dec (suc b ≤ 78) → Dec (suc b ≤ 79) → link_text (suc b) ≡ suc b ∷ 67 ∷ []
    go (yes h) l = rw (ne_eqb (suc b) 79 (λ e. omega arith))
    go (no h) (no l) = rw (ne_eqb (suc b) 79 (λ e. omega arith))
    go (no h) (yes l) = let z : suc b ≡ 79 = omega arith in rw z

link-length : (b : ℕ) → length (link_text b) ≤ 2
link-length zero = rw link-empty (omega arith)
link-length (suc b) = rw (link-marked b) (omega arith)

pub carbon-length : (b : ℕ) → length (carbon_text b) ≤ 2
unfolding link_text
carbon-length b = omega (arith, link-length b, length-append (bridge_text b) (carbon_text b))

pub link-stored : (xs : List ℕ) (at b p : ℕ) → length xs < 2 ^ 64 → at + 2 ≤ length xs → p ≡ at + min b 1 → Written xs at (link_text b) (set (set xs at b) p 67) (p + 1)
link-stored xs at zero p g h e =
    let z : p ≡ at = omega arith in
    rw (link-empty, z) (record { elements = set-set xs at 0 67; next = omega arith })
link-stored xs at (suc b) p g h e =
    let z : p ≡ at + 1 = omega arith in
    rw (link-marked b, z) (record { elements = rw add-one; next = omega arith })

pub link-room : {xs ys : List ℕ} {at p : ℕ} (a : ℕ) → at + 4 ≤ length xs → Written xs at (link_text a) ys p → p + 2 ≤ length ys
link-room a h w = omega (arith, w.next, link-length a, written-length w)

pub two-room : {xs ys : List ℕ} {at p : ℕ} (a b : ℕ) → at + 8 ≤ length xs → Written xs at (link_text a ++ link_text b) ys p → p + 4 ≤ length ys
two-room a b h w = omega (arith, w.next, length-append (link_text a) (link_text b), link-length a, link-length b, written-length w)

pub three-room : {xs ys : List ℕ} {at p : ℕ} (a b : ℕ) → at + 6 ≤ length xs → Written xs at (link_text a ++ link_text b) ys p → p + 2 ≤ length ys
three-room a b h w = omega (arith, w.next, length-append (link_text a) (link_text b), link-length a, link-length b, written-length w)

pub plain-stored : (xs : List ℕ) (at : ℕ) → length xs < 2 ^ 64 → at + 4 ≤ length xs
    → Written xs at (67 ∷ 67 ∷ 67 ∷ 67 ∷ []) (set (set (set (set xs at 67) (at + 1) 67) (at + 2) 67) (at + 3) 67) (at + 4)
plain-stored xs at g h =
    let a : at + 1 ≡ suc at = omega arith in
    let b : at + 2 ≡ suc (suc at) = omega arith in
    let d : at + 3 ≡ suc (suc (suc at)) = omega arith in
    record { elements = rw (a, b, d); next = omega arith }

-- ---- carbons one after the other

links-append : (ks : List ℕ) (k m n : ℕ) → links_text ks k (m + n) ≡ links_text ks k m ++ links_text ks (k + m) n
unfolding links_text
links-append ks k zero n =
    let z : zero + n ≡ n = omega arith in
    rw (z, add-zero)
links-append ks k (suc m) n = rw (suc-add m n, links-append ks (suc k) m n, add-suc, suc-add) (simp append_assoc)

links-length : (ks : List ℕ) (k n : ℕ) → length (links_text ks k n) ≤ n * 2
unfolding links_text
links-length ks k zero = omega arith
links-length ks k (suc n) =
    omega (arith, length-append (link_text (get_or ks (k - 1) 0)) (links_text ks (suc k) n), link-length (get_or ks (k - 1) 0), links-length ks (suc k) n)

links-single : (ks : List ℕ) (k : ℕ) → links_text ks k 1 ≡ link_text (get_or ks (k - 1) 0)
unfolding links_text
links-single ks k = append-nil (link_text (get_or ks (k - 1) 0))

module _ (ks : List ℕ) (k : ℕ) (h : 1 ≤ k) where
  links-four : links_text ks k 4
      ≡ (link_text (get_or ks (k - 1) 0) ++ link_text (get_or ks (k - 1 + 1) 0)) ++ (link_text (get_or ks (k - 1 + 2) 0) ++ link_text (get_or ks (k - 1 + 3) 0))
  unfolding links_text
  links-four =
      let a : k - 1 + 1 ≡ suc k - 1 = omega arith in
      let b : k - 1 + 2 ≡ suc (suc k) - 1 = omega arith in
      let d : k - 1 + 3 ≡ suc (suc (suc k)) - 1 = omega arith in
      rw (a, b, d) (simp (append_assoc, append-nil))

  pub four-plain : {xs ys : List ℕ} {at p : ℕ} (w : ℕ) → w ≡ get_or ks (k - 1) 0 + get_or ks (k - 1 + 1) 0 * 256 + get_or ks (k - 1 + 2) 0 * 65536 + get_or ks (k - 1 + 3) 0 * 16777216
      → w ≡ 0 → Written xs at (67 ∷ 67 ∷ 67 ∷ 67 ∷ []) ys p → Written xs at (links_text ks k 4) ys p
  four-plain w e f v =
      let a : get_or ks (k - 1) 0 ≡ 0 = omega arith in
      let b : get_or ks (k - 1 + 1) 0 ≡ 0 = omega arith in
      let d : get_or ks (k - 1 + 2) 0 ≡ 0 = omega arith in
      let g : get_or ks (k - 1 + 3) 0 ≡ 0 = omega arith in
      rw (links-four, a, b, d, g, link-empty) v

  pub four-linked : {xs ys : List ℕ} {at p : ℕ}
      → Written xs at ((link_text (get_or ks (k - 1) 0) ++ link_text (get_or ks (k - 1 + 1) 0)) ++ (link_text (get_or ks (k - 1 + 2) 0) ++ link_text (get_or ks (k - 1 + 3) 0))) ys p
      → Written xs at (links_text ks k 4) ys p
  four-linked v = rw links-four v

  pub three-linked : {xs ys zs : List ℕ} {at p q : ℕ} → length xs < 2 ^ 64 → Written xs at (link_text (get_or ks (k - 1) 0) ++ link_text (get_or ks k 0)) ys p
      → Written ys p (link_text (get_or ks (k + 1) 0)) zs q → Written xs at (links_text ks k 3) zs q
  unfolding links_text
  three-linked g v w =
      let a : suc k - 1 ≡ k = omega arith in
      let b : suc (suc k) - 1 ≡ k + 1 = omega arith in
      let e : links_text ks k 3 ≡ (link_text (get_or ks (k - 1) 0) ++ link_text (get_or ks k 0)) ++ link_text (get_or ks (k + 1) 0)
      = simp (a, b, append_assoc, append-nil) in
      rw e (written-append g v w)

-- ---- how far they are written

module _ (ks us : List ℕ) (k last : ℕ) where
  pub links-none : (xs : List ℕ) (at : ℕ) → k ≤ last + 1 → at < 2 ^ 64 → Links ks us k last xs at xs at k
  unfolding links_text
  links-none xs at h g =
      let z : k - k ≡ 0 = omega arith in
      record { low = omega arith; high = h; free = λ j a b. absurd (omega arith); text = rw z (written-nil xs at g) }

  module _ {xs ys : List ℕ} {at p j : ℕ} (v : Links ks us k last xs at ys p j) where
    links-on : {zs : List ℕ} {q : ℕ} (d : ℕ) → length xs < 2 ^ 64 → j + d ≤ last + 1 → ((i : ℕ) → j ≤ i → i < j + d → get_or us i 0 ≡ 0)
        → Written ys p (links_text ks j d) zs q → Links ks us k last xs at zs q (j + d)
    links-on {zs} {q} d g h f w =
        record {
          low = omega (arith, v.low);
          high = h;
          free = λ i a b. go i a b (dec_le j i);
          text = rw (z, links-append ks k (j - k) d) (written-append g v.text (rw (← y) at w));
        }
      where
        z : j + d - k ≡ j - k + d
        z = omega (arith, v.low)

        y : k + (j - k) ≡ j
        y = omega (arith, v.low)

        go : (i : ℕ) → k ≤ i → i < j + d → Dec (j ≤ i) → get_or us i 0 ≡ 0
        go i a b (yes l) = f i l b
        go i a b (no l) = v.free i a (omega arith)

    pub links-one : {zs : List ℕ} {q : ℕ} → length xs < 2 ^ 64 → j ≤ last → get_or us j 0 ≡ 0 → Written ys p (link_text (get_or ks (j - 1) 0)) zs q
        → Links ks us k last xs at zs q (j + 1)
    links-one g h e w = links-on 1 g (omega arith) (λ i a b. let z : i ≡ j = omega arith in rw z e) (rw (links-single ks j) w)

    pub links-more : {zs : List ℕ} {q : ℕ} (w : ℕ) → length xs < 2 ^ 64 → j + 3 ≤ last
        → w ≡ get_or us j 0 + get_or us (j + 1) 0 * 256 + get_or us (j + 2) 0 * 65536 + get_or us (j + 3) 0 * 16777216 → w ≡ 0
        → Written ys p (links_text ks j 4) zs q → Links ks us k last xs at zs q (j + 4)
    links-more w g h e f t = links-on 4 g (omega arith) (λ i a b. go i a b (dec_le i j) (dec_le i (j + 1)) (dec_le i (j + 2))) t
      where
        go : (i : ℕ) → j ≤ i → i < j + 4 → Dec (i ≤ j) → Dec (i ≤ j + 1) → Dec (i ≤ j + 2) → get_or us i 0 ≡ 0
        go i a b (yes l) m n = let z : i ≡ j = omega arith in rw z (omega arith)
        go i a b (no l) (yes m) n = let z : i ≡ j + 1 = omega arith in rw z (omega arith)
        go i a b (no l) (no m) (yes n) = let z : i ≡ j + 2 = omega arith in rw z (omega arith)
        go i a b (no l) (no m) (no n) = let z : i ≡ j + 3 = omega arith in rw z (omega arith)

    pub links-then : {zs : List ℕ} {q c : ℕ} → length xs < 2 ^ 64 → Links ks us j last ys p zs q c → Links ks us k last xs at zs q c
    links-then {c = c} g w =
        let z : j + (c - j) ≡ c = omega (arith, w.low) in
        rw z at (links-on (c - j) g (omega (arith, w.low, w.high)) (λ i a b. w.free i a (omega arith)) w.text)

    pub links-room : at + (last + 1 - k) * 2 ≤ length xs → p + (last + 1 - j) * 2 ≤ length ys
    links-room h = omega (arith, v.low, v.high, v.text.next, links-length ks k (j - k), written-length v.text)

    pub one-room : at + (last + 1 - k) * 2 ≤ length xs → j ≤ last → p + 2 ≤ length ys
    one-room h l = omega (arith, links-room h)

    pub four-room : at + (last + 1 - k) * 2 ≤ length xs → j + 3 ≤ last → p + 8 ≤ length ys
    four-room h l = omega (arith, links-room h)

    pub links-size : length ys ≡ length xs
    links-size = written-length v.text

-- ---- carbons of which it does not matter what they carry

free-none : (j : ℕ) → get_or {A = ℕ} [] j 0 ≡ 0
free-none j = refl

module _ {xs ys : List ℕ} {at p j : ℕ} (ks : List ℕ) (k last : ℕ) (v : Links ks [] k last xs at ys p j) where
  pub through-four : {zs : List ℕ} {q : ℕ} → length xs < 2 ^ 64 → j + 3 ≤ last → Written ys p (links_text ks j 4) zs q → Links ks [] k last xs at zs q (j + 4)
  through-four g h w = links-on ks [] k last v 4 g (omega arith) (λ i a b. free-none i) w

  pub through-one : {zs : List ℕ} {q : ℕ} → length xs < 2 ^ 64 → j ≤ last → Written ys p (link_text (get_or ks (j - 1) 0)) zs q → Links ks [] k last xs at zs q (j + 1)
  through-one g h w = links-one ks [] k last v g h (free-none j) w

  pub through-end : last < j → Written xs at (links_text ks k (last + 1 - k)) ys p
  through-end h =
      let z : j ≡ last + 1 = omega (arith, v.high) in
      rw z at v.text

  pub through-then : {zs : List ℕ} {q : ℕ} → length xs < 2 ^ 64 → Written ys p (links_text ks j (last + 1 - j)) zs q → Written xs at (links_text ks k (last + 1 - k)) zs q
  through-then {zs} {q} g w =
      let z : j + (last + 1 - j) ≡ last + 1 = omega (arith, v.high) in
      let u : Links ks [] k last xs at zs q (last + 1) = rw z at (links-on ks [] k last v (last + 1 - j) g (omega (arith, v.high)) (λ i a b. free-none i) w) in
      u.text

-- three carbons, and all that are left
pub near-three : {xs ys : List ℕ} {at p : ℕ} (ks : List ℕ) (k last : ℕ) → k + 2 ≤ last → Written xs at (links_text ks k 3) ys p → Links ks [] k last xs at ys p (k + 3)
near-three ks k last h w =
    let z : k + 3 - k ≡ 3 = omega arith in
    record { low = omega arith; high = omega arith; free = λ j a b. free-none j; text = rw z w }

pub near-end : {xs ys : List ℕ} {at p : ℕ} (ks : List ℕ) (k last : ℕ) → k ≤ last + 1 → Written xs at (links_text ks k (last + 1 - k)) ys p → Links ks [] k last xs at ys p (last + 1)
near-end ks k last h w = record { low = h; high = omega arith; free = λ j a b. free-none j; text = w }

pub run-done : {xs ys zs ws : List ℕ} {at p q r c : ℕ} (ks us : List ℕ) (k last : ℕ) → get_or us k 0 ≡ 0 → length xs < 2 ^ 64
    → Written xs at (carbon_text (get_or ks (k - 1) 0)) ys p → Links ks us (k + 1) last ys p zs q c → Written zs q (bridge_text (get_or ks (c - 1) 0)) ws r → Run ks us k last xs at ws r c
run-done {c = c} ks us k last e g u v w =
    record { low = omega (arith, v.low); high = v.high; free = λ j a b. go j a b (dec_le j k); text = written-three g u v.text w }
  where
    go : (j : ℕ) → k ≤ j → j < c → Dec (j ≤ k) → get_or us j 0 ≡ 0
    go j a b (yes l) = let z : j ≡ k = omega arith in rw z e
    go j a b (no l) = v.free j (omega arith) b
