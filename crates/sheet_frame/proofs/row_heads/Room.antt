-- How long the parts of a row are. Assumes nothing.
use Prim.Native.Nat.{ℕ, zero, suc, ◌+◌, ◌*◌, ◌/◌, ◌%◌, ◌^◌, ◌≤◌, ◌<◌}
use native.Mathlib.Nat.{pow-suc}
use native.Mathlib.Decide.{dec_le}
use native.Mathlib.Omega.{arith}
use mathlib.Core.Path.{◌≡◌, refl}
use mathlib.Core.List.{List, [], ◌∷◌, ◌++◌, map}
use lib.ListN.{length, length-append}
use Rattle.writer.specs.emit.Text.{decimal}
use Rattle.writer.proofs.emit.Laws.{decimal-small, decimal_step}
use Rattle.reading_rules.specs.reading.Parting.{joined, led}
use Rattle.reading_rules.proofs.reading.PartingLaws.{All}
use Rattle.sheet_frame.specs.row_heads.Text.{ended, tabbed, Carbons, chains_text, row_text}

-- ---- numbers and lists

-- the digits of a number below a power of ten
pub digits-few : (k n : ℕ) → n < 10 ^ suc k → length (decimal n) ≤ suc k
digits-few zero n h = let z : n < 10 = h in rw (decimal-small n z) (omega arith)
digits-few (suc k) n h = go (dec_le 10 n) (digits-few k (n / 10))
  where
    go : Dec (10 ≤ n) → (n / 10 < 10 ^ suc k → length (decimal (n / 10)) ≤ suc k) → length (decimal n) ≤ suc (suc k)
    go (yes l) f =
        let m : n < 10 ^ suc k * 10 = (rw pow-suc at h) in
        let i = f (omega arith) in
        rw (decimal_step n l, length-append (decimal (n / 10)) ((48 + n % 10) ∷ [])) (omega arith)
    go (no l) f = rw (decimal-small n (omega arith)) (omega arith)

-- the bytes of parts, with one more for each
unfoldable pub total : List (List ℕ) → ℕ
total [] = 0
total (p ∷ ps) = suc (length p) + total ps

led-total : (s : ℕ) (ps : List (List ℕ)) → length (led s ps) ≡ total ps
unfolding led total
led-total s [] = refl
led-total s (p ∷ ps) = omega (arith, length-append p (led s ps), led-total s ps)

pub joined-total : (s : ℕ) (ps : List (List ℕ)) → length (joined s ps) ≤ total ps
unfolding joined total
joined-total s [] = omega arith
joined-total s (p ∷ ps) = omega (arith, length-append p (led s ps), led-total s ps)

pub numbers-total : (js : List ℕ) → All (λ j. j < 4000) js → total (map decimal js) ≤ 5 * length js
unfolding total
numbers-total [] a = omega arith
numbers-total (j ∷ js) a = omega (arith, digits-few 3 j (omega (arith, a.0)), numbers-total js a.1)

-- ---- a row

pub row-length : (a t : ℕ) (line : List ℕ) (cs : List Carbons) → length (row_text a t line cs) ≤ length (decimal a) + length (decimal t) + length line + length (chains_text cs) + 4
unfolding row_text tabbed ended joined led
row-length a t line cs =
    omega (
      arith,
      length-append (decimal a ++ 9 ∷ (decimal t ++ 9 ∷ (line ++ 9 ∷ (chains_text cs ++ [])))) (10 ∷ []),
      length-append (decimal a) (9 ∷ (decimal t ++ 9 ∷ (line ++ 9 ∷ (chains_text cs ++ [])))),
      length-append (decimal t) (9 ∷ (line ++ 9 ∷ (chains_text cs ++ []))),
      length-append line (9 ∷ (chains_text cs ++ [])),
      length-append (chains_text cs) [],
    )
