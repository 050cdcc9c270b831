-- Laws of the literal carbons that are numbered where there is room for all of them: each turn of the loop, and its end. Assumes nothing.
use Prim.Native.Nat.{ℕ, zero, suc, ◌+◌, ◌-◌, ◌*◌, ◌^◌, ◌≤◌, ◌<◌}
use native.Mathlib.Nat.{zero-add, add-zero, suc-add, add-suc}
use native.Mathlib.Omega.{arith}
use mathlib.Core.Path.{◌≡◌, refl, sym, ap, ◌∙◌}
use mathlib.Core.Bool.{Bool, false}
use mathlib.Core.List.{List, [], ◌∷◌, ◌++◌, map-append}
use lib.ListN.{length, get_or, set, length-append}
use borrow.Author.Tests.{ne_eqb}
use Rattle.writer.specs.emit.Text.{Written}
use Rattle.chain_record.specs.declared.plain.DbPos.{DbPos}
use Rattle.chain_record.specs.declared.plain.Mod.{Mod}
use Rattle.chain_record.specs.declared.plain.Ring.{Ring as Closed}
use Rattle.reading_rules.specs.reading.Chain.{Carbon, chain_end}
use Rattle.chain_rules.specs.chain.Lists.{values_from}
use Rattle.drawn_chain.specs.drawable.Drawn.{Drawn, groups_drawn}
use Rattle.chain_text.specs.fragment.Text.{carbon_of}
use Rattle.carbons.specs.ByCarbon.{BondsBy, Busy}
use Rattle.carbons.specs.Tokens.{ChainTokens, TokensOf}
use Rattle.carbons.proofs.Left.{left_less}
use Rattle.carbons.proofs.TokenLaws.{length-values}
use Rattle.carbons.proofs.Loads.{not-busy}
use Rattle.writer.specs.index_runs.Index.{index_from, indices, ups}
use Rattle.chain_indices.specs.carried_atoms.Counts.{Counts}
use Rattle.chain_indices.specs.atoms.Atoms.{carbon_size, starts, literal_of, IdleFour, LiteralNumbers}
use Rattle.writer.proofs.index_runs.Runs.{indices-small, one_written}
use Rattle.chain_indices.proofs.atoms.Runs.{Bares, bares-starts, bares-end, starts-append, end-append}
use Rattle.chain_indices.proofs.atoms.Bridges.{no-bridge}
use Rattle.chain_indices.proofs.atoms.AtomLaws.{Numbering, numbering-none, number-busy, number-bare, numbers-literal, numbers-size, empty-parts, bare-counted, bridge-zero}

-- four carbons that carry nothing, known by one number
pub four-idle : (us : List ℕ) (k last n : ℕ) → k + 3 ≤ last → n ≡ get_or us k 0 + get_or us (k + 1) 0 * 256 + get_or us (k + 2) 0 * 65536 + get_or us (k + 3) 0 * 16777216
    → n ≡ 0 → IdleFour us k last
four-idle us k last n h e z = record { within = h; idle = λ j f g. go j (j - k) (omega arith) (omega arith) }
  where
    go : (j d : ℕ) → j ≡ k + d → d < 4 → get_or us j 0 ≡ 0
    go j zero f g = let y : j ≡ k = omega arith in rw y (omega arith)
    go j (suc zero) f g = let y : j ≡ k + 1 = omega arith in rw y (omega arith)
    go j (suc (suc zero)) f g = let y : j ≡ k + 2 = omega arith in rw y (omega arith)
    go j (suc (suc (suc zero))) f g = let y : j ≡ k + 3 = omega arith in rw y (omega arith)
    go j (suc (suc (suc (suc d)))) f g = absurd (omega arith)

-- ---- a run of carbons of one atom each

pub values-append : {A : Type 0} (f : ℕ → A) (k n m : ℕ) → values_from f k (n + m) ≡ values_from f k n ++ values_from f (k + n) m
unfolding values_from
values-append f k zero m = rw (zero-add m, add-zero k)
values-append f k (suc n) m = rw (suc-add n m, add-suc k n, ← suc-add k n) (ap (λ (l : List _). f k ∷ l) (values-append f (suc k) n m))

pub bares-values : (f : ℕ → Carbon) (k n : ℕ) → ((j : ℕ) → k ≤ j → j < k + n → ((f j).parts ≡ []) × ((f j).bridge ≡ false)) → Bares (values_from f k n)
unfolding values_from
bares-values f k zero h = tt
bares-values f k (suc n) h =
    let a = h k (omega arith) (omega arith) in
    (a.0, a.1, bares-values f (suc k) n (λ j l g. h j (omega arith) (omega arith)))

numbering-run : {first at : ℕ} {cs rest : List Carbon} {xs ys zs : List ℕ} {p q count next : ℕ} (bs : List Carbon) → length xs < 2 ^ 64
    → Numbering first cs xs at ys p count next (bs ++ rest) → Bares bs → Written ys p (indices first (ups next (length bs))) zs q
    → Numbering first cs xs at zs q (count + length bs) (next + length bs) rest
numbering-run {first} {at} {cs} {rest} {xs} {ys} {zs} {p} {q} {count} {next} bs g v b w =
    let e : indices first (starts next (bs ++ rest)) ≡ indices first (ups next (length bs)) ++ indices first (starts (next + length bs) rest)
    = rw (starts-append next bs rest, bares-starts next bs b, bares-end next bs b) (map-append (index_from first) (ups next (length bs)) (starts (next + length bs) rest)) in
    record {
      left = left_less (indices first (starts (next + length bs) rest)) g v.left e w;
      counted = omega (arith, v.counted, length-append bs rest);
      ends = sym (end-append next bs rest ∙ ap (λ (n : ℕ). chain_end n rest) (bares-end next bs b)) ∙ v.ends;
      few = omega (arith, v.few);
    }

-- the literal carbons so far, where the first atom is the one given: how many they are, their atoms, the place and the next atom
pub record Within (first : ℕ) (cs : List Carbon) (xs : List ℕ) (at : ℕ) (ys : List ℕ) (p next : ℕ) (rest : List Carbon) : Type 0 where
  pub count : ℕ
  pub own : ℕ
  pub place : p ≡ at + count
  pub atom : next ≡ first + own
  pub numbering : Numbering first cs xs at ys p count own rest

pub within_none : (first : ℕ) (cs : List Carbon) (xs : List ℕ) (at : ℕ) → at < 2 ^ 64 → Within first cs xs at xs at first cs
within_none first cs xs at h = record { count = 0; own = 0; place = omega arith; atom = omega arith; numbering = numbering-none first cs xs at h }

pub within-size : {first at : ℕ} {cs rest : List Carbon} {xs ys : List ℕ} {p next : ℕ} → Within first cs xs at ys p next rest → length ys ≡ length xs
within-size v = numbers-size v.numbering

index_is : (first own next : ℕ) → first < 40000 → next ≡ first + own → next < 65535 → next ≡ index_from first own
unfolding index_from
index_is first own next h e k = omega arith

four-long : (n : ℕ) → length (ups n 4) ≡ 4
unfolding ups
four-long n = refl

pub four-place : {ys zs : List ℕ} {p q : ℕ} (n : ℕ) → p + 4 < 2 ^ 64 → Written ys p (ups n 4) zs q → q ≡ p + 4
four-place n h w = omega (arith, w.next, four-long n)

module _ {first at : ℕ} {cs : List Carbon} {xs ys : List ℕ} {p next : ℕ} (acyl : Bool) (ks us : List ℕ) (gs : List Mod) (bs : List DbPos) (rs : List Closed) (c k last : ℕ)
    (v : Within first cs xs at ys p next (values_from (carbon_of acyl ks gs) k (suc last - k))) (g : length xs < 2 ^ 64) (s : first < 40000) (t : next < 65000) where
  again : {zs : List ℕ} {rest : List Carbon} (n m : ℕ) → Numbering first cs xs at zs (p + n) (v.count + n) (v.own + m) rest → Within first cs xs at zs (p + n) (next + m) rest
  again n m w = record { count = v.count + n; own = v.own + m; place = omega (arith, v.place); atom = omega (arith, v.atom); numbering = w }

  is-bare : BondsBy bs rs c ks → Busy acyl gs rs us → c ≤ 255 → (j : ℕ) → j ≤ c → j < length us → get_or us j 0 ≡ 0 → ((carbon_of acyl ks gs j).parts ≡ []) × ((carbon_of acyl ks gs j).bridge ≡ false)
  unfolding carbon_of
  is-bare b u h j l r z =
      (empty-parts acyl gs rs j (not-busy j u r z), ne_eqb (get_or ks j 0) 79 (no-bridge j b u h l r z))

  pub within-four : {zs : List ℕ} {q : ℕ} → p + 4 < 2 ^ 64 → BondsBy bs rs c ks → Busy acyl gs rs us → c ≤ 255 → last ≤ c → last < length us → IdleFour us k last → Written ys p (ups next 4) zs q
      → Within first cs xs at zs q (next + 4) (values_from (carbon_of acyl ks gs) (k + 4) (suc last - (k + 4)))
  within-four {zs} {q} f b u h l r i w =
      let z : suc last - k ≡ 4 + (suc last - (k + 4)) = omega (arith, i.within) in
      let n : length (values_from (carbon_of acyl ks gs) k 4) ≡ 4 = length-values (carbon_of acyl ks gs) k 4 in
      let e : first + v.own ≡ next = sym v.atom in
      let q-is : q ≡ p + 4 = four-place next f w in
      let parts = rw (z, values-append (carbon_of acyl ks gs) k 4 (suc last - (k + 4))) at v.numbering in
      let a : Bares (values_from (carbon_of acyl ks gs) k 4) = bares-values (carbon_of acyl ks gs) k 4 (λ j o m. is-bare b u h j (omega (arith, i.within)) (omega (arith, i.within)) (i.idle j o m)) in
      let d : indices first (ups v.own 4) ≡ ups next 4 = indices-small first v.own 4 (omega (arith, v.atom)) ∙ ap (λ (m : ℕ). ups m 4) e in
      let y : Written ys p (indices first (ups v.own (length (values_from (carbon_of acyl ks gs) k 4)))) zs q = rw (n, d) w in
      let x = rw (n, q-is) at (numbering-run (values_from (carbon_of acyl ks gs) k 4) g parts a y) in
      rw q-is (again 4 4 x)

  pub within-bare : p + 1 < 2 ^ 64 → BondsBy bs rs c ks → Busy acyl gs rs us → c ≤ 255 → last ≤ c → last < length us → k ≤ last → get_or us k 0 ≡ 0
      → Within first cs xs at (set ys p next) (p + 1) (next + 1) (values_from (carbon_of acyl ks gs) (k + 1) (suc last - (k + 1)))
  within-bare f b u h l r o z =
      again 1 1
      (number-bare acyl ks gs rs k last v.numbering next 1 g u r o (index_is first v.own next s v.atom (omega arith)) (one_written ys p next f) z
      (bare-counted (get_or ks k 0) 0 (bridge-zero (get_or ks k 0) (no-bridge k b u h (omega arith) (omega arith) z))))

  pub within-busy : (m : ℕ) → p + 1 < 2 ^ 64 → k ≤ last → Counts 93 (carbon_size acyl gs (get_or ks k 0) k) m
      → Within first cs xs at (set ys p next) (p + 1) (next + m) (values_from (carbon_of acyl ks gs) (k + 1) (suc last - (k + 1)))
  within-busy m f o n =
      again 1 m (number-busy acyl ks gs rs k last v.numbering next m g o (index_is first v.own next s v.atom (omega arith)) (one_written ys p next f) n)

pub within-literal : {first at : ℕ} {xs ys : List ℕ} {p next : ℕ} (x : Drawn) (t : ChainTokens) (k last : ℕ) → TokensOf x t
    → Within first (literal_of x t) xs at ys p next (values_from (carbon_of x.acyl t.bonds (groups_drawn x)) k (suc last - k))
    → last < k → LiteralNumbers first x t xs at ys (record { at = p; count = p - at; next = next - first })
within-literal {first} {at} {p = p} {next} x t k last w v h =
    let a : p - at ≡ v.count = omega (arith, v.place) in
    let b : next - first ≡ v.own = omega (arith, v.atom) in
    rw (a, b) (numbers-literal x t k last w v.numbering h)
