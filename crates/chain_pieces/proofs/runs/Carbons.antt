-- Carbons between empty bonds: written at once, the last of them over those that stand there already, and how many bonds are seen to be empty.
-- Assumes nothing.
use Prim.Native.Nat.{ℕ, zero, suc, ◌+◌, ◌-◌, ◌*◌, ◌^◌, ◌≤◌, ◌<◌}
use native.Mathlib.Nat.{add-zero}
use native.Mathlib.Decide.{dec_le}
use native.Mathlib.Omega.{arith}
use mathlib.Core.Path.{◌≡◌, refl, sym, ap, ◌∙◌}
use mathlib.Core.Bool.{Bool, true, false, not}
use mathlib.Core.List.{List}
use lib.ListN.{length, take, drop, get_or, set, replicate, length-replicate, replicate-append-replicate}
use lib.Seq.{take_all, take_at, drop_at}
use lib.Dec.{eqb}
use borrow.Author.Tests.{eqb-true, not-false}
use Rattle.writer.specs.emit.Text.{Written}
use Rattle.writer.proofs.emit.Laws.{written-nil, written-append}
use Rattle.writer.proofs.emit.Over.{written_over}
use Rattle.chain_pieces.specs.runs.Links.{links_text}
use Rattle.chain_pieces.proofs.runs.Laws.{link-empty}

-- ---- so many at once

carbons-append : {xs ys zs : List ℕ} {at p r : ℕ} (m n : ℕ) → length xs < 2 ^ 64 → Written xs at (replicate m 67) ys p → Written ys p (replicate n 67) zs r
    → Written xs at (replicate (m + n) 67) zs r
carbons-append m n g v w = rw (← replicate-append-replicate {A = ℕ} m n 67) (written-append g v w)

pub carbons-eight : {xs ys zs : List ℕ} {at p r : ℕ} → length xs < 2 ^ 64 → Written xs at (replicate 4 67) ys p → Written ys p (replicate 4 67) zs r → Written xs at (replicate 8 67) zs r
carbons-eight g v w = carbons-append 4 4 g v w

pub carbons-sixteen : {xs ys zs : List ℕ} {at p r : ℕ} → length xs < 2 ^ 64 → Written xs at (replicate 8 67) ys p → Written ys p (replicate 8 67) zs r → Written xs at (replicate 16 67) zs r
carbons-sixteen g v w = carbons-append 8 8 g v w

-- ---- one by one

pub carbons-none : (xs : List ℕ) (at : ℕ) → at < 2 ^ 64 → Written xs at (replicate (at - at) 67) xs at
carbons-none xs at h =
    let z : at - at ≡ 0 = omega arith in
    rw z (written-nil xs at h)

pub carbons-one : {xs ys : List ℕ} {at p : ℕ} (end : ℕ) → length xs < 2 ^ 64 → at ≤ p → p < end → end ≤ length xs → Written xs at (replicate (p - at) 67) ys p
    → Written xs at (replicate (p + 1 - at) 67) (set ys p 67) (p + 1)
carbons-one {ys = ys} {at} {p} end g h k l w =
    let z : p + 1 - at ≡ p - at + 1 = omega arith in
    let u : Written ys p (replicate 1 67) (set ys p 67) (p + 1) = record { elements = refl; next = omega arith } in
    rw z (carbons-append (p - at) 1 g w u)

pub carbons-end : {xs ys : List ℕ} {at p : ℕ} (n : ℕ) → at ≤ p → p ≤ at + n → at + n ≤ p → Written xs at (replicate (p - at) 67) ys p → Written xs at (replicate n 67) ys p
carbons-end {at = at} {p} n h a b w =
    let z : p - at ≡ n = omega arith in
    rw z at w

-- ---- some of them twice

-- so many carbons
abbrev cs : ℕ → List ℕ
cs n = replicate n 67

-- the first w of n, and then the last w of them
pub carbons-twice : {xs ys zs : List ℕ} {at p r : ℕ} (w n : ℕ) → length xs < 2 ^ 64 → at + n ≤ length xs → w ≤ n → n ≤ w + w
    → Written xs at (replicate w 67) ys p → Written ys (at + (n - w)) (replicate w 67) zs r → Written xs at (replicate n 67) zs r
carbons-twice {ys = ys} {zs = zs} {p = p} {r = r} w n g h a b u v =
    let e : w + (n - w) ≡ n = omega arith in
    let f : n - w + w ≡ n = omega arith in
    let size : (m : ℕ) → length (cs m) ≡ m = λ m. length-replicate {A = ℕ} m 67 in
    let first : take w (cs n) ≡ cs w
    = ap (λ (k : ℕ). take w (cs k)) (sym e) ∙ ap (take w) (sym (replicate-append-replicate {A = ℕ} w (n - w) 67)) ∙ take_at (cs w) (cs (n - w)) w (size w) in
    let rest : drop (n - w) (cs n) ≡ cs w
    = ap (λ (k : ℕ). drop (n - w) (cs k)) (sym f) ∙ ap (drop (n - w)) (sym (replicate-append-replicate {A = ℕ} (n - w) w 67))
    ∙ drop_at (cs (n - w)) (cs w) (n - w) (size (n - w)) in
    let last : take w (drop (n - w) (cs n)) ≡ cs w = ap (take w) rest ∙ take_all w (cs w) (omega (arith, size w)) in
    written_over {ys = ys} {zs = zs} {p = p} {r = r} w (cs n) w (n - w) g (omega (arith, size n)) (omega (arith, size n)) (omega arith) refl (rw first u) (rw last v)

-- the same, where some of them are written twice
pub carbons-shared : {xs ys zs : List ℕ} {at p r : ℕ} (w n : ℕ) → length xs < 2 ^ 64 → at + n ≤ length xs → w ≤ n → n < w + w
    → Written xs at (replicate w 67) ys p → Written ys (at + (n - w)) (replicate w 67) zs r → Written xs at (replicate n 67) zs r
carbons-shared w n g h a b u v = carbons-twice w n g h a (omega arith) u v

-- ---- empty bonds

abbrev pub Empty : List ℕ → ℕ → ℕ → Type 0
Empty ks i n = (j : ℕ) → j < n → get_or ks (i + j) 0 ≡ 0

pub not_seen : {A : Type 0} → false ≡ true → A
not_seen e = let z : ◌≡◌ {A = ℕ} 0 1 = cc in absurd (omega arith)

-- a word of 0
empty-word : (ks : List ℕ) (i w : ℕ) → w ≡ get_or ks i 0 + get_or ks (i + 1) 0 * 256 + get_or ks (i + 2) 0 * 65536 + get_or ks (i + 3) 0 * 16777216 → w ≡ 0 → Empty ks i 4
empty-word ks i w e f j h = go (dec_le j 0) (dec_le j 1) (dec_le j 2)
  where
    go : Dec (j ≤ 0) → Dec (j ≤ 1) → Dec (j ≤ 2) → get_or ks (i + j) 0 ≡ 0
    go (yes l) m n = let z : i + j ≡ i = omega arith in rw z (omega arith)
    go (no l) (yes m) n = let z : i + j ≡ i + 1 = omega arith in rw z (omega arith)
    go (no l) (no m) (yes n) = let z : i + j ≡ i + 2 = omega arith in rw z (omega arith)
    go (no l) (no m) (no n) = let z : i + j ≡ i + 3 = omega arith in rw z (omega arith)

-- the first w of n, and the last w of them
empty-both : (ks : List ℕ) (i n w : ℕ) → w ≤ n → n ≤ w + w → Empty ks i w → Empty ks (i + (n - w)) w → Empty ks i n
empty-both ks i n w a b u v j h = go (dec_le (suc j) w)
  where
    go : Dec (suc j ≤ w) → get_or ks (i + j) 0 ≡ 0
    go (yes l) = u j l
    go (no l) = let z : i + j ≡ i + (n - w) + (j - (n - w)) = omega arith in rw z (v (j - (n - w)) (omega arith))

pub empty-words : (ks : List ℕ) (i n w v : ℕ) → 4 ≤ n → n ≤ 8
    → w ≡ get_or ks i 0 + get_or ks (i + 1) 0 * 256 + get_or ks (i + 2) 0 * 65536 + get_or ks (i + 3) 0 * 16777216 → w ≡ 0
    → v ≡ get_or ks (i + (n - 4)) 0 + get_or ks (i + (n - 4) + 1) 0 * 256 + get_or ks (i + (n - 4) + 2) 0 * 65536 + get_or ks (i + (n - 4) + 3) 0 * 16777216
    → eqb v 0 ≡ true → Empty ks i n
empty-words ks i n w v a b e f g h = empty-both ks i n 4 a (omega arith) (empty-word ks i w e f) (empty-word ks (i + (n - 4)) v g (eqb-true v 0 h))

-- two that were asked for
pub empty-asked : (ks : List ℕ) (i n w : ℕ) (a b : Bool) → w ≤ n → n ≤ w + w → (a ≡ true → Empty ks i w) → not a ≡ false → (b ≡ true → Empty ks (i + (n - w)) w)
    → b ≡ true → Empty ks i n
empty-asked ks i n w a b l h u e v f = empty-both ks i n w l h (u (not-false a e)) (v f)

-- carbons between empty bonds are their links
pub links-plain : (ks : List ℕ) (n k : ℕ) → 1 ≤ k → Empty ks (k - 1) n → links_text ks k n ≡ replicate n 67
unfolding links_text
links-plain ks zero k h f = refl
links-plain ks (suc n) k h f =
    let z : get_or ks (k - 1) 0 ≡ 0 = rw add-zero at (f 0 (omega arith)) in
    rw (z, link-empty, links-plain ks n (suc k) (omega arith) (λ j l. let e : suc k - 1 + j ≡ k - 1 + suc j = omega arith in rw e (f (suc j) (omega arith))))

pub plain-links : {xs ys : List ℕ} {at p : ℕ} (ks : List ℕ) (k n : ℕ) (e : Bool) → 1 ≤ k → (e ≡ true → Empty ks (k - 1) n) → e ≡ true → Written xs at (replicate n 67) ys p
    → Written xs at (links_text ks k n) ys p
plain-links ks k n e h f t w = rw (links-plain ks n k h (f t)) w
