-- Laws of the indices that are written where there is room: a law for each way out and for a turn of the loop. Assumes nothing.
use Prim.Native.Nat.{ℕ, ◌+◌, ◌*◌, ◌-◌, ◌/◌, ◌%◌, ◌^◌, ◌≤◌, ◌<◌}
use native.Mathlib.Omega.{arith}
use mathlib.Core.Path.{◌≡◌, refl, ap, ◌∙◌}
use mathlib.Core.Bool.{Bool, true, false}
use mathlib.Core.List.{List, [], ◌∷◌, map}
use lib.ListN.{length, take, get_or, set, length-set}
use lib.Dec.{ltb}
use borrow.Author.Tests.{lt-ltb}
use Rattle.writer.specs.emit.Text.{Written, decimal}
use Rattle.writer.proofs.emit.Laws.{written-append, written_small, written-two, written-three, written-length}
use Rattle.reading_rules.specs.reading.Parting.{joined}
use Rattle.line_parts.specs.shown.Chained.{listed, parting}
use Rattle.line_parts.proofs.sites.Laws.{sites-more}
use Rattle.sheet_frame.proofs.row_heads.Room.{digits-few}
use Rattle.sheet_output.specs.digit_pairs.Pairs.{Pairs}
use Rattle.sheet_output.specs.carbon_lists.Near.{Near, Dotted}

-- a byte where there is room
stored : (xs : List ℕ) (at b r : ℕ) → at < length xs → length xs < 2 ^ 64 → r ≡ at + 1 → Written xs at (b ∷ []) (set xs at b) r
stored xs at b r h g e = record { elements = refl; next = omega arith }

-- ---- a number

module _ (xs : List ℕ) (at n : ℕ) (room : at + 5 ≤ length xs) (g : length xs < 2 ^ 64) where
  pub stored_one : n < 10 → Near 5 xs at (decimal n) (set xs at (48 + n)) (at + 1)
  stored_one h = record { text = written_small n h (stored xs at (48 + n) (at + 1) (omega arith) g refl); next = omega arith }

  module _ (tens : ℕ) (e : tens ≡ n / 10) (h : 10 ≤ n) where
    pub stored-two : n < 100 → Near 5 xs at (decimal n) (set (set xs at (48 + tens)) (at + 1) (48 + (n - tens * 10))) (at + 2)
    stored-two k =
        let l = length-set xs at (48 + n / 10) in
        let d : n - tens * 10 ≡ n % 10 = omega (arith, e) in
        record {
          text = (rw (d, e) (written-two n g h k (stored xs at (48 + n / 10) (at + 1) (omega arith) g refl)
              (stored (set xs at (48 + n / 10)) (at + 1) (48 + n % 10) (at + 2) (omega (arith, l)) (omega (arith, l)) (omega arith))));
          next = omega arith;
        }

    pub stored-three : 100 ≤ n → n < 1000
        → Near 5 xs at (decimal n) (set (set (set xs at (48 + tens / 10)) (at + 1) (48 + tens % 10)) (at + 2) (48 + n % 10)) (at + 3)
    stored-three j k =
        let ys : List ℕ = set xs at (48 + tens / 10) in
        let zs : List ℕ = set ys (at + 1) (48 + tens % 10) in
        let l = length-set xs at (48 + tens / 10) in
        let m = length-set ys (at + 1) (48 + tens % 10) in
        let t : Written xs at (decimal tens) zs (at + 2)
        = written-two tens g (omega (arith, e)) (omega (arith, e)) (stored xs at (48 + tens / 10) (at + 1) (omega arith) g refl)
        (stored ys (at + 1) (48 + tens % 10) (at + 2) (omega (arith, l)) (omega (arith, l)) (omega arith)) in
        let d : decimal tens ≡ decimal (n / 10) = ap decimal e in
        record {
          text = written-three n g j (rw d at t) (stored zs (at + 2) (48 + n % 10) (at + 3) (omega (arith, l, m)) (omega (arith, l, m)) (omega arith));
          next = omega arith;
        }

pub stored-many : (xs ys : List ℕ) (at n r : ℕ) → n < 2 ^ 16 → Written xs at (decimal n) ys r → Near 5 xs at (decimal n) ys r
stored-many xs ys at n r h w = record { text = w; next = omega (arith, w.next, digits-few 4 n (omega arith)) }

-- ---- an index

pub stored-first : (xs ys : List ℕ) (at n r : ℕ) (more : Bool) → more ≡ false → Near 5 xs at (decimal n) ys r → Near 6 xs at (listed more 46 (decimal n)) ys r
unfolding listed parting
stored-first xs ys at n r more e w = record { text = (rw e w.text); next = omega (arith, w.next) }

pub stored_next : (xs ys : List ℕ) (at n r : ℕ) (more : Bool) → more ≡ true → at + 6 ≤ length xs → length xs < 2 ^ 64
    → Near 5 (set xs at 46) (at + 1) (decimal n) ys r → Near 6 xs at (listed more 46 (decimal n)) ys r
unfolding listed parting
stored_next xs ys at n r more e room g w =
    record { text = (rw e (written-append g (stored xs at 46 (at + 1) (omega arith) g refl) w.text)); next = omega (arith, w.next) }

pub stored-length : (xs : List ℕ) (at b : ℕ) {ts ys : List ℕ} {p r : ℕ} → Near 5 (set xs at b) p ts ys r → length ys ≡ length xs
stored-length xs at b w = written-length w.text ∙ length-set xs at b

-- ---- a table of digits

pub pair-high : (pairs : List ℕ) (n : ℕ) → n < 100 → 100 ≤ length pairs → Pairs pairs → get_or pairs n 0 / 256 < 256
pair-high pairs n k l t = let e = t.pair n k (omega arith) in omega (arith, e)

-- an index of two digits from the table
pub pair-stored : (xs pairs : List ℕ) (at n : ℕ) → at + 6 ≤ length xs → length xs < 2 ^ 64 → 10 ≤ n → n < 100 → 100 ≤ length pairs → Pairs pairs
    → Near 6 xs at (listed true 46 (decimal n)) (set (set (set xs at 46) (at + 1) (get_or pairs n 0 % 256)) (at + 2) (get_or pairs n 0 / 256)) (at + 3)
unfolding listed parting
pair-stored xs pairs at n room g h k l t =
    let e = t.pair n k (omega arith) in
    let a : get_or pairs n 0 % 256 ≡ 48 + n / 10 = omega (arith, e) in
    let b : get_or pairs n 0 / 256 ≡ 48 + n % 10 = omega (arith, e) in
    let ys : List ℕ = set xs at 46 in
    let zs : List ℕ = set ys (at + 1) (48 + n / 10) in
    let i = length-set xs at 46 in
    let j = length-set ys (at + 1) (48 + n / 10) in
    record {
      text = (rw (a, b) (written-append g (stored xs at 46 (at + 1) (omega arith) g refl)
          (written-two n (omega (arith, i)) h k (stored ys (at + 1) (48 + n / 10) (at + 2) (omega (arith, i)) (omega (arith, i)) (omega arith))
          (stored zs (at + 2) (48 + n % 10) (at + 3) (omega (arith, i, j)) (omega (arith, i, j)) (omega arith)))));
      next = omega arith;
    }

-- ---- the indices of a chain

pub dotted-start : (js : List ℕ) (from : ℕ) (ys : List ℕ) (p : ℕ) → from ≤ length js → Dotted js from ys p ys p from
dotted-start js from ys p h = record { text = λ xs a g w. w; low = omega arith; high = h; near = omega arith }

pub dotted-more : (js : List ℕ) (from : ℕ) (ys : List ℕ) (p : ℕ) (zs : List ℕ) (q i : ℕ) (ws : List ℕ) (r : ℕ) → 1 ≤ from → i < length js → Dotted js from ys p zs q i
    → Near 6 zs q (listed true 46 (decimal (get_or js i 0))) ws r → Dotted js from ys p ws r (i + 1)
dotted-more js from ys p zs q i ws r o h d n =
    let e : ltb 0 i ≡ true = lt-ltb 0 i (omega (arith, d.low)) in
    record {
      text = λ xs a g w. (sites-more i g js h (d.text xs a g w) (rw e n.text));
      low = omega (arith, d.low);
      high = omega arith;
      near = omega (arith, d.near, d.low, n.next);
    }

-- a turn of the loop over the chain: an index, and those of two digits after it
pub stored_more : {xs ys zs ws : List ℕ} {a p q r next : ℕ} (i : ℕ) (g : length xs < 2 ^ 64) (js : List ℕ) → i < length js → Written xs a (joined 46 (map decimal (take i js))) ys p
    → Near 6 ys p (listed (ltb 0 i) 46 (decimal (get_or js i 0))) zs q → Dotted js (i + 1) zs q ws r next → Written xs a (joined 46 (map decimal (take next js))) ws r
stored_more {xs} {a = a} i g js h w u d = d.text xs a g (sites-more i g js h w u.text)

pub stored-room : (js : List ℕ) (i n p q r next : ℕ) (ys zs ws ts : List ℕ) → i < length js → p + 6 * (length js - i) ≤ n → Near 6 ys p ts zs q → Dotted js (i + 1) zs q ws r next
    → r + 6 * (length js - next) ≤ n
stored-room js i n p q r next ys zs ws ts h room u d = omega (arith, u.next, d.near, d.low, d.high)

pub stored-high : (js : List ℕ) (from : ℕ) (zs : List ℕ) (q : ℕ) (ws : List ℕ) (r next : ℕ) → Dotted js from zs q ws r next → next ≤ length js
stored-high js from zs q ws r next d = d.high

pub stored-less : (js : List ℕ) (i : ℕ) (zs : List ℕ) (q : ℕ) (ws : List ℕ) (r next : ℕ) → i < length js → Dotted js (i + 1) zs q ws r next → length js - next < length js - i
stored-less js i zs q ws r next h d = omega (arith, d.low, d.high)
