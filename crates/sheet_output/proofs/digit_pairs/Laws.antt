-- Laws of a table of digits: of the loop over its numbers a turn and each way out. Assumes nothing.
use Prim.Native.Nat.{ℕ, ◌+◌, ◌*◌, ◌/◌, ◌%◌, ◌≤◌, ◌<◌}
use native.Mathlib.Decide.{dec_le}
use native.Mathlib.Omega.{arith}
use mathlib.Core.Path.{◌≡◌, ◌∙◌}
use mathlib.Core.List.{List}
use lib.ListN.{length, get_or, set, length-set}
use lib.Seq.{get_or-set_same, get_or-set_other}
use Rattle.sheet_output.specs.digit_pairs.Pairs.{Pairs}

-- a table that is right for the first n numbers
pub record Filled (xs : List ℕ) (n : ℕ) : Type 0 where
  pub pair : (k : ℕ) → k < n → k < length xs → get_or xs k 0 ≡ 12336 + k / 10 + k % 10 * 256

pub filled-start : (xs : List ℕ) → Filled xs 0
filled-start xs = record { pair = λ k h l. absurd (omega arith) }

pub filled_more : (xs : List ℕ) (n : ℕ) → Filled xs n → n < length xs → Filled (set xs n (12336 + n / 10 + n % 10 * 256)) (n + 1)
filled_more xs n f h = record { pair = λ k i l. (go k i l (dec_le n k)) }
  where
    v : ℕ
    v = 12336 + n / 10 + n % 10 * 256

    go : (k : ℕ) → k < n + 1 → k < length (set xs n v) → Dec (n ≤ k) → get_or (set xs n v) k 0 ≡ 12336 + k / 10 + k % 10 * 256
    go k i l (yes m) = let e : k ≡ n = omega arith in rw e (get_or-set_same xs n v 0 h)
    go k i l (no m) = get_or-set_other xs n k v 0 (λ z. omega arith) ∙ f.pair k (omega arith) (omega (arith, length-set xs n v))

pub filled-all : (xs : List ℕ) (n : ℕ) → Filled xs n → 100 ≤ n → Pairs xs
filled-all xs n f h = record { pair = λ k i l. (f.pair k (omega arith) l) }

pub filled-short : (xs : List ℕ) (n : ℕ) → Filled xs n → length xs ≤ n → Pairs xs
filled-short xs n f h = record { pair = λ k i l. (f.pair k (omega arith) l) }
