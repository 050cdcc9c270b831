-- Laws of a row that is cut: of the loop over its cells a turn and each way out. Assumes nothing.
use Prim.Native.Nat.{ℕ, ◌+◌, ◌-◌, ◌≤◌, ◌<◌}
use native.Mathlib.Nat.{add-zero}
use native.Mathlib.Decide.{dec_le}
use native.Mathlib.Omega.{arith}
use mathlib.Core.Path.{◌≡◌, refl, sym, ap, ◌∙◌}
use mathlib.Core.List.{List, []}
use lib.ListN.{length, get_or, set, take, drop, length-set, length-drop}
use lib.Seq.{set_out, get_or-set_same, get_or-set_other, get_or-drop, drop-drop}
use Rattle.scanner.specs.scan.Part.{Place, index_of}
use Rattle.scanner.proofs.scan.Laws.{to_end}
use Rattle.token_syntax.proofs.form.Laws.{parts_last, parts_more, parts_first}
use Rattle.sheet_input.specs.header.Header.{cells_of}
use Rattle.sheet_input.specs.cutting.Cut.{Between, Cut}

pub kept-past : (starts : List ℕ) (k at : ℕ) → length starts ≤ k → starts ≡ set starts k at
kept-past starts k at h = sym (set_out starts k at h)

module _ (row starts : List ℕ) (k : ℕ) where
  between-other : (m at : ℕ) → k < m → (k + 1 ≡ m → ⊥) → Between row starts k → Between row (set starts m at) k
  between-other m at h d b =
      let e : get_or (set starts m at) k 0 ≡ get_or starts k 0 = get_or-set_other starts m k at 0 (λ z. omega arith) in
      let f : get_or (set starts m at) (k + 1) 0 ≡ get_or starts (k + 1) 0 = get_or-set_other starts m (k + 1) at 0 d in
      record { low = (rw (e, f) b.low); high = (rw f b.high); cell = (rw (e, f) b.cell) }

-- n cells of a row are cut, and t is left of it from a place on
pub record Cutting (row starts t : List ℕ) (from n : ℕ) : Type 0 where
  pub rest : t ≡ drop from row
  pub within : from + length t ≡ length row
  pub count : length (cells_of row) ≡ n + length (cells_of t)
  pub next : drop n (cells_of row) ≡ cells_of t
  pub few : n + length t ≤ length row
  pub start : n < length starts → get_or starts n 0 ≡ from
  pub cells : (k : ℕ) → k + 1 < length starts → k < n → Between row starts k

-- what is kept after the start of the next cell says nothing yet
pub cut-next : (row starts t : List ℕ) (from n at : ℕ) (ks : List ℕ) → ks ≡ set starts (n + 1) at → Cutting row starts t from n → Cutting row ks t from n
cut-next row starts t from n at ks e c =
    let long : length ks ≡ length starts = rw (e, length-set) in
    record {
      rest = c.rest;
      within = c.within;
      count = c.count;
      next = c.next;
      few = c.few;
      start = λ h. (rw e (get_or-set_other starts (n + 1) n at 0 (λ z. omega arith) ∙ c.start (omega (arith, long))));
      cells = λ k h i. (rw e (between-other row starts k (n + 1) at (omega arith) (λ z. omega arith) (c.cells k (omega (arith, long)) i)));
    }

pub cut-start : (row starts ks : List ℕ) → ks ≡ set starts 0 0 → Cutting row ks row 0 0
cut-start row starts ks e =
    record {
      rest = refl;
      within = omega arith;
      count = omega arith;
      next = refl;
      few = omega arith;
      start = λ h. (let l = length-set starts 0 0 in rw e (get_or-set_same starts 0 0 0 (omega (arith, l, ap length e))));
      cells = λ k h i. absurd (omega arith);
    }

module _ (row starts t : List ℕ) (from n k : ℕ) (ks : List ℕ) (c : Cutting row starts t from n) (f : Place t (index_of 9 t) k)
    (e : ks ≡ set starts (n + 1) (from + (k + 1))) where
  long : length ks ≡ length starts
  long = rw (e, length-set)

  here : n + 1 < length starts → Between row ks n
  here h =
      let p = parts_first 9 t k f in
      let a : get_or ks n 0 ≡ from = rw e (get_or-set_other starts (n + 1) n (from + (k + 1)) 0 (λ z. omega arith) ∙ c.start (omega arith)) in
      let b : get_or ks (n + 1) 0 ≡ from + (k + 1) = rw e (get_or-set_same starts (n + 1) (from + (k + 1)) 0 (omega (arith, long))) in
      let s : from + (k + 1) - 1 - from ≡ k - 0 = omega arith in
      let g : get_or (cells_of row) (n + 0) [] ≡ take (k - 0) t = sym (get_or-drop n (cells_of row) 0 []) ∙ rw (c.next, p.1) in
      record {
        low = (rw (a, b) (omega arith));
        high = (rw b (omega (arith, c.within, f.within)));
        cell = (rw (a, b, s, ← c.rest) (sym (rw add-zero at g)));
      }

  cut_cells : (j : ℕ) → j + 1 < length ks → j < n + 1 → Between row ks j
  cut_cells j h i = go (dec_le n j)
    where
      go : Dec (n ≤ j) → Between row ks j
      go (yes l) = let z : j ≡ n = omega arith in rw z (here (omega (arith, long)))
      go (no l) = rw e (between-other row starts j (n + 1) (from + (k + 1)) (omega arith) (λ z. omega arith) (c.cells j (omega (arith, long)) (omega arith)))

  pub cut-last : k ≡ length t → Cut row ks (n + 1)
  cut-last d =
      record {
        count = (let z = parts_last 9 t k f d in let w = rw z at c.count in omega (arith, w));
        cells = cut_cells;
      }

  pub cut-more : (k ≡ length t → ⊥) → Cutting row ks (take (length t - (k + 1)) (drop (k + 1) t)) (from + (k + 1)) (n + 1)
  cut-more d =
      let p = parts_more 9 t k f d in
      let w = rw p at c.count in
      let s : length (take (length t - (k + 1)) (drop (k + 1) t)) ≡ length t - (k + 1) = rw (to_end (k + 1) t) (length-drop (k + 1) t) in
      let b : k < length t = omega (arith, f.within, d) in
      record {
        rest = (rw (to_end (k + 1) t) (ap (drop (k + 1)) c.rest ∙ drop-drop (k + 1) from row));
        within = omega (arith, s, c.within, b);
        count = omega (arith, w);
        next = sym (drop-drop 1 n (cells_of row)) ∙ ap (drop 1) (c.next ∙ p);
        few = omega (arith, s, c.few, b);
        start = λ h. (rw e (get_or-set_same starts (n + 1) (from + (k + 1)) 0 (omega (arith, long))));
        cells = cut_cells;
      }
