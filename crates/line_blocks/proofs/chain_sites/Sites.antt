-- Laws of the site lists of the chains. Assumes nothing.
use Prim.Native.Nat.{ℕ, zero, suc, ◌+◌, ◌-◌, ◌*◌, ◌≤◌, ◌<◌, ◌^◌, min}
use native.Mathlib.Numerals.{add-one}
use native.Mathlib.Omega.{arith}
use native.Mathlib.Decide.{dec_le}
use mathlib.Core.Path.{◌≡◌, refl, sym, ap, ◌∙◌}
use mathlib.Core.Bool.{true, false}
use mathlib.Core.List.{List, [], ◌∷◌, ◌++◌, append-nil, append_assoc, map, map-append}
use lib.ListN.{length, take, drop, get_or, length-drop, drop_of_length-le}
use lib.Seq.{take-suc, take_all, take-nil, drop-drop}
use Rattle.writer.specs.emit.Text.{Written}
use Rattle.reading_rules.specs.reading.Ascii.{ascii}
use Rattle.reading_rules.specs.reading.Molecule.{At, at}
use Rattle.reading_rules.specs.reading.Show.{show_sites}
use Rattle.reading_rules.specs.reading.Part.{Part}
use Rattle.reading_rules.specs.reading.Chain.{float_end}
use Rattle.chain_rules.specs.chain.Drawing.{branch_part, site_lists}
use Rattle.writer.specs.index_runs.Index.{in_room}
use Rattle.chain_indices.specs.carried_atoms.Counts.{Counts}
use Rattle.line_parts.specs.shown.Chained.{shown}
use Rattle.line_parts.proofs.shown.Chained.{still_one}
use Rattle.template_rules.specs.Written.{head_carbons}
use Rattle.placement.specs.declared.chain_notes.Placed.{Placed}
use Rattle.placement.specs.chain_notes.Fragment.{summed}
use Rattle.line_blocks.specs.declared.chain_marks.Next.{Next}
use Rattle.line_blocks.specs.chain_marks.Put.{PutBlocks}
use Rattle.line_blocks.proofs.chain_marks.Put.{put-none, put_then}
use Rattle.line_blocks.specs.chain_sites.Sites.{skipped, site_lists_of, site_lists_in}

-- ---- the floating atoms

pub float-put : {xs ys : List ℕ} {q : ℕ} (a : Next) (b : List ℕ) → Written xs a.at (shown (ascii " |") (ascii ",") a.first (b ∷ [])) ys q
    → PutBlocks (b ∷ []) xs a ys (record { at = q; first = false })
float-put a b w = record { text = w; first = sym (still_one a.first b []) }

lists-append : (js : List ℕ) (m : ℕ) (ps qs : List Part) → site_lists js m (ps ++ qs) ≡ site_lists js m ps ++ site_lists js (float_end m ps) qs
unfolding site_lists float_end
lists-append js m [] qs = refl
lists-append js m (p ∷ ps) qs = ap (λ (l : List (At (List ℕ))). at m js ∷ l) (lists-append js (suc m + p.size) ps qs)

ends-append : (m : ℕ) (ps qs : List Part) → float_end m (ps ++ qs) ≡ float_end (float_end m ps) qs
unfolding float_end
ends-append m [] qs = refl
ends-append m (p ∷ ps) qs = ends-append (suc m + p.size) ps qs

-- the floats so far are written, and the next is the atom `here`
pub record FloatsPut (js : List ℕ) (atom : ℕ) (rs xs : List ℕ) (a : Next) (i : ℕ) (ys : List ℕ) (b : Next) (here : ℕ) : Type 0 where
  pub is : here ≡ float_end atom (map branch_part (take i rs))
  pub few : here ≤ atom + 6 * i
  pub put : PutBlocks (map show_sites (site_lists js atom (map branch_part (take i rs)))) xs a ys b

pub floats-start : (js : List ℕ) (atom : ℕ) (rs xs : List ℕ) (a : Next) → a.at < 2 ^ 64 → FloatsPut js atom rs xs a 0 xs a atom
unfolding float_end site_lists
floats-start js atom rs xs a h = record { is = refl; few = omega arith; put = put-none _ _ xs a h }

pub floats-more : {js : List ℕ} {atom : ℕ} {rs xs ys zs : List ℕ} {a b c : Next} {i here : ℕ} (m : ℕ) → FloatsPut js atom rs xs a i ys b here
    → Counts 5 (branch_part (get_or rs i 0)).size m → PutBlocks (show_sites (at here js) ∷ []) ys b zs c → length xs < 2 ^ 64 → i < length rs
    → FloatsPut js atom rs xs a (i + 1) zs c (here + (1 + m))
unfolding float_end site_lists
floats-more {js} {atom} {rs} {i = i} {here} m v k w h l =
    let next : map branch_part (take (i + 1) rs) ≡ map branch_part (take i rs) ++ (branch_part (get_or rs i 0) ∷ []) = rw (add-one i, take-suc rs i 0 l) (map-append branch_part (take i rs) (get_or rs i 0 ∷ [])) in
    record {
      is = rw (next, ends-append atom (map branch_part (take i rs)) (branch_part (get_or rs i 0) ∷ []), ← v.is) (omega (arith, k.is));
      few = omega (arith, v.few, k.few);
      put = rw (next, lists-append js atom (map branch_part (take i rs)) (branch_part (get_or rs i 0) ∷ []), ← v.is, map-append) (put_then h v.put w);
    }

pub floats-all : {js : List ℕ} {atom : ℕ} {rs xs ys : List ℕ} {a b : Next} {i here : ℕ} → FloatsPut js atom rs xs a i ys b here → length rs ≤ i
    → PutBlocks (map show_sites (site_lists js atom (map branch_part rs))) xs a ys b
floats-all {rs = rs} {i = i} v h = rw (take_all i rs h) at v.put

-- ---- the indices that are no sites

pub skips-acyl : (p : Placed) (n : ℕ) → Counts 2 (length (head_carbons p.role)) n → p.acyl ≡ true → Counts 3 (skipped p) (n + 1)
skips-acyl p n c e = record { is = rw e (omega (arith, c.is)); few = omega (arith, c.few) }

pub skips-other : (p : Placed) (n : ℕ) → Counts 2 (length (head_carbons p.role)) n → p.acyl ≡ false → Counts 3 (skipped p) n
skips-other p n c e = record { is = rw e (omega (arith, c.is)); few = omega (arith, c.few) }

-- ---- the part of a list that is a chain's

drop-take : (k n : ℕ) (l : List ℕ) → drop k (take n l) ≡ take (n - k) (drop k l)
drop-take zero n l =
    let z : n - 0 ≡ n = omega arith in
    rw z
drop-take (suc k) zero l =
    let z : 0 - suc k ≡ 0 = omega arith in
    rw z
drop-take (suc k) (suc n) [] = sym (take-nil (suc n - suc k))
drop-take (suc k) (suc n) (x ∷ l) =
    let z : suc n - suc k ≡ n - k = omega arith in
    rw z (drop-take k n l)

-- what stands from a place on, of which s lead that are left out
part_of : (l : List ℕ) (from s count to start : ℕ) → to ≡ min (from + count) (length l) → start ≡ min (from + s) to → take (to - start) (drop start l) ≡ drop s (take count (drop from l))
part_of l from s count to start e g = go (dec_le (from + s) to) (dec_le (from + count) (length l)) ∙ sym (drop-take s count (drop from l) ∙ ap (take (count - s)) (drop-drop s from l))
  where
    go : Dec (from + s ≤ to) → Dec (from + count ≤ length l) → take (to - start) (drop start l) ≡ take (count - s) (drop (from + s) l)
    go (yes a) (yes b) =
        let p : start ≡ from + s = omega arith in
        let q : to - start ≡ count - s = omega arith in
        rw (q, p)
    go (yes a) (no b) =
        let p : start ≡ from + s = omega arith in
        rw p (take_all (to - (from + s)) (drop (from + s) l) (omega (arith, length-drop (from + s) l)) ∙ sym (take_all (count - s) (drop (from + s) l) (omega (arith, length-drop (from + s) l))))
    go (no a) (yes b) =
        let p : to - start ≡ 0 = omega arith in
        let q : count - s ≡ 0 = omega arith in
        rw (p, q)
    go (no a) (no b) =
        let p : to - start ≡ 0 = omega arith in
        let q : length l ≤ from + s = omega arith in
        rw (p, drop_of_length-le l q) (sym (take-nil (count - s)))

module _ {xs ys : List ℕ} {b : Next} (p : Placed) (numbers rows : List ℕ) (from row : ℕ) (a : Next) where
  pub sites-put : {to start end begin f k : ℕ} → to ≡ min (from + p.count) (length numbers) → Counts 3 (skipped p) k → start ≡ min (from + k) to
      → end ≡ min (row + p.float_count) (length rows) → begin ≡ min row end → f ≡ in_room p.first
      → PutBlocks (map show_sites (site_lists (take (to - start) (drop start numbers)) (f + p.floats) (map branch_part (take (end - begin) (drop begin rows))))) xs a ys b
      → PutBlocks (map show_sites (site_lists_of p (take p.count (drop from numbers)) (take p.float_count (drop row rows)))) xs a ys b
  unfolding site_lists_of
  sites-put {to} {start} {end} {begin} {f} {k} e c g h i z w =
      let g' : start ≡ min (from + skipped p) to = omega (arith, c.is) in
      let i' : begin ≡ min (row + 0) end = omega arith in
      rw (part_of numbers from (skipped p) p.count to start e g', part_of rows row 0 p.float_count end begin h i', z) at w

module _ (p : Placed) (numbers rows : List ℕ) (from row : ℕ) (xs : List ℕ) (a : Next) where
  pub sites-none : p.float_count ≡ 0 → a.at < 2 ^ 64 → PutBlocks (map show_sites (site_lists_of p (take p.count (drop from numbers)) (take p.float_count (drop row rows)))) xs a xs a
  unfolding site_lists_of site_lists
  sites-none e h = rw e (put-none _ _ xs a h)

-- ---- all chains

lists-snoc : (ps : List Placed) (p : Placed) (numbers rows : List ℕ)
    → site_lists_in (ps ++ p ∷ []) numbers rows
    ≡ site_lists_in ps numbers rows ++ site_lists_of p (take p.count (drop (summed (λ (q : Placed). q.count) ps) numbers)) (take p.float_count (drop (summed (λ (q : Placed). q.float_count) ps) rows))
unfolding site_lists_in summed
lists-snoc [] p numbers rows = append-nil (site_lists_of p (take p.count numbers) (take p.float_count rows))
lists-snoc (q ∷ ps) p numbers rows =
    rw (lists-snoc ps p (drop q.count numbers) (drop q.float_count rows), drop-drop (summed (λ (r : Placed). r.count) ps) q.count numbers, drop-drop (summed (λ (r : Placed). r.float_count) ps) q.float_count rows)
    (sym (append_assoc (site_lists_of q (take q.count numbers) (take q.float_count rows)) (site_lists_in ps (drop q.count numbers) (drop q.float_count rows)) _))

summed-snoc : (f : Placed → ℕ) (ps : List Placed) (p : Placed) → summed f (ps ++ p ∷ []) ≡ summed f ps + f p
unfolding summed
summed-snoc f [] p = omega arith
summed-snoc f (q ∷ ps) p = omega (arith, summed-snoc f ps p)

-- the site lists of the first i chains are written, and those of the next start at these places
pub record SitesTo (l : List Placed) (numbers rows xs : List ℕ) (a : Next) (i : ℕ) (ys : List ℕ) (b : Next) (from row : ℕ) : Type 0 where
  pub starts : from ≡ summed (λ (p : Placed). p.count) (take i l)
  pub begins : row ≡ summed (λ (p : Placed). p.float_count) (take i l)
  pub few : from ≤ 65535 * i
  pub less : row ≤ 65535 * i
  pub put : PutBlocks (map show_sites (site_lists_in (take i l) numbers rows)) xs a ys b

pub sites-start : (l : List Placed) (numbers rows xs : List ℕ) (a : Next) → a.at < 2 ^ 64 → SitesTo l numbers rows xs a 0 xs a 0 0
unfolding site_lists_in summed
sites-start l numbers rows xs a h = record { starts = refl; begins = refl; few = omega arith; less = omega arith; put = put-none _ _ xs a h }

pub sites-more : {numbers rows xs ys zs : List ℕ} {a b c : Next} {i from row : ℕ} (l : List Placed) (d : Placed) → length xs < 2 ^ 64 → i < length l → (get_or l i d).count < 65536 → (get_or l i d).float_count < 65536
    → SitesTo l numbers rows xs a i ys b from row
    → PutBlocks (map show_sites (site_lists_of (get_or l i d) (take (get_or l i d).count (drop from numbers)) (take (get_or l i d).float_count (drop row rows)))) ys b zs c
    → SitesTo l numbers rows xs a (i + 1) zs c (from + (get_or l i d).count) (row + (get_or l i d).float_count)
sites-more {numbers} {rows} {i = i} l d g h m k v w =
    let p : Placed = get_or l i d in
    let next : take (i + 1) l ≡ take i l ++ (p ∷ []) = rw (add-one i) (take-suc l i d h) in
    record {
      starts = rw (next, summed-snoc (λ (q : Placed). q.count) (take i l) p) (omega (arith, v.starts));
      begins = rw (next, summed-snoc (λ (q : Placed). q.float_count) (take i l) p) (omega (arith, v.begins));
      few = omega (arith, v.few);
      less = omega (arith, v.less);
      put =
          rw (next, lists-snoc (take i l) p numbers rows, ← v.starts, ← v.begins, map-append)
          (put_then g v.put w);
    }

pub sites-all : {l : List Placed} {numbers rows xs ys : List ℕ} {a b : Next} {i from row : ℕ} (ps : List Placed) → take i l ≡ ps → SitesTo l numbers rows xs a i ys b from row
    → PutBlocks (map show_sites (site_lists_in ps numbers rows)) xs a ys b
sites-all ps e v = rw e at v.put
