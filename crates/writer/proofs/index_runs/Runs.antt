-- Laws of numbers that follow one another, and how they are written. Assumes nothing.
use Prim.Native.Nat.{ℕ, zero, suc, ◌+◌, ◌-◌, ◌^◌, ◌≤◌, ◌<◌}
use native.Mathlib.Nat.{add-zero}
use native.Mathlib.Omega.{arith}
use mathlib.Core.Path.{◌≡◌, refl, sym, ap, ◌∙◌}
use mathlib.Core.List.{List, [], ◌∷◌, ◌++◌, map-append}
use lib.ListN.{length, set, take, drop}
use lib.Seq.{take_all, take_at, drop_at}
use Rattle.writer.specs.emit.Text.{Written}
use Rattle.writer.proofs.emit.Laws.{written-nil, written-append}
use Rattle.writer.proofs.emit.Over.{written_over}
use Rattle.writer.specs.index_runs.Index.{index_from, indices, ups}

-- ---- numbers that follow one another

pub ups-more : (n m : ℕ) → ups n (suc m) ≡ ups n m ++ (n + m) ∷ []
unfolding ups
ups-more n zero = let z : n + 0 ≡ n = omega arith in rw z
ups-more n (suc m) = let z : n + suc m ≡ suc n + m = omega arith in rw z (ap (λ (l : List ℕ). n ∷ l) (ups-more (suc n) m))

ups-length : (n m : ℕ) → length (ups n m) ≡ m
unfolding ups
ups-length n zero = refl
ups-length n (suc m) = ap suc (ups-length (suc n) m)

ups-add : (n a b : ℕ) → ups n (a + b) ≡ ups n a ++ ups (n + a) b
unfolding ups
ups-add n zero b = let z : n + 0 ≡ n = omega arith in let y : 0 + b ≡ b = omega arith in rw (z, y)
ups-add n (suc a) b =
    let z : n + suc a ≡ suc n + a = omega arith in
    let y : suc a + b ≡ suc (a + b) = omega arith in
    rw (z, y) (ap (λ (l : List ℕ). n ∷ l) (ups-add (suc n) a b))

-- their indices, where none is too large
pub indices-small : (first n m : ℕ) → first + n + m ≤ 65535 → indices first (ups n m) ≡ ups (first + n) m
unfolding ups index_from
indices-small first n zero h = refl
indices-small first n (suc m) h =
    let e : index_from first n ≡ first + n = omega arith in
    let z : first + suc n ≡ suc (first + n) = omega arith in
    rw (e, indices-small first (suc n) m (omega arith), z)

-- ---- numbers written where there is room for all of them

pub one_written : (xs : List ℕ) (p n : ℕ) → p + 1 < 2 ^ 64 → Written xs p (n ∷ []) (set xs p n) (p + 1)
one_written xs p n h = record { elements = refl; next = omega arith }

pub fill_none : (xs : List ℕ) (at low : ℕ) → at < 2 ^ 64 → Written xs at (ups low 0) xs (at + 0)
unfolding ups
fill_none xs at low h = rw add-zero (written-nil xs at h)

pub fill_more : {xs ys : List ℕ} {at : ℕ} (low i n : ℕ) → length xs < 2 ^ 64 → at + n ≤ length xs → i < n → Written xs at (ups low i) ys (at + i)
    → Written xs at (ups low (i + 1)) (set ys (at + i) (low + i)) (at + (i + 1))
fill_more {ys = ys} {at} low i n g h k w =
    let z : i + 1 ≡ suc i = omega arith in
    let e : at + suc i ≡ at + i + 1 = omega arith in
    rw (z, ups-more low i, e) (written-append g w (one_written ys (at + i) (low + i) (omega arith)))

-- the first k of n and the last k of them
pub ends-filled : {xs ys zs : List ℕ} {at p r : ℕ} (k low n : ℕ) → k ≤ n → n ≤ k + k → length xs < 2 ^ 64 → at + n ≤ length xs → Written xs at (ups low k) ys p
    → Written ys (at + (n - k)) (ups (low + (n - k)) k) zs r → Written xs at (ups low n) zs r
ends-filled {ys = ys} {zs = zs} {p = p} {r = r} k low n h m g l v w =
    let e : k + (n - k) ≡ n = omega arith in
    let f : n - k + k ≡ n = omega arith in
    let first : take k (ups low n) ≡ ups low k
    = rw (← e) (ap (take k) (ups-add low k (n - k)) ∙ take_at (ups low k) (ups (low + k) (n - k)) k (ups-length low k)) in
    let rest : drop (n - k) (ups low n) ≡ ups (low + (n - k)) k
    = ap (λ (j : ℕ). drop (n - k) (ups low j)) (sym f) ∙ ap (drop (n - k)) (ups-add low (n - k) k) ∙ drop_at (ups low (n - k)) (ups (low + (n - k)) k) (n - k) (ups-length low (n - k)) in
    let last : take k (drop (n - k) (ups low n)) ≡ ups (low + (n - k)) k
    = ap (take k) rest ∙ take_all k (ups (low + (n - k)) k) (omega (arith, ups-length (low + (n - k)) k)) in
    written_over {ys = ys} {zs = zs} {p = p} {r = r} k (ups low n) k (n - k) g (omega (arith, ups-length low n)) (omega (arith, ups-length low n)) (omega arith) refl (rw first v) (rw last w)

-- ---- the indices of atoms that follow one another, one by one

pub each_none : (xs : List ℕ) (a first next : ℕ) → a < 2 ^ 64 → Written xs a (indices first (ups next 0)) xs a
unfolding ups
each_none xs a first next h = written-nil xs a h

pub each_more : {xs ys zs : List ℕ} {a p q : ℕ} (first next i m : ℕ) → length xs < 2 ^ 64 → Written xs a (indices first (ups next i)) ys p → m ≡ index_from first (next + i)
    → Written ys p (m ∷ []) zs q → Written xs a (indices first (ups next (i + 1))) zs q
each_more {xs} {ys} {zs} {a} {p} {q} first next i m g w e u =
    let z : i + 1 ≡ suc i = omega arith in
    let t : indices first (ups next (i + 1)) ≡ indices first (ups next i) ++ index_from first (next + i) ∷ []
    = rw (z, ups-more next i) (map-append (index_from first) (ups next i) ((next + i) ∷ [])) in
    rw t (written-append g w (rw e at u))

-- the same at once
pub run-filled : {xs ys : List ℕ} {a p : ℕ} (first next n : ℕ) → first < 40000 → next + n ≤ 23971 → Written xs a (ups (first + next) n) ys p → Written xs a (indices first (ups next n)) ys p
run-filled first next n h k w = rw (indices-small first next n (omega arith)) w
