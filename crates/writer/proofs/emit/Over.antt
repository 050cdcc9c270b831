-- Elements of which the last are written over ones that stand there already: the first part and the last part of a list, of which the one ends
-- behind the start of the other, are the whole list. Assumes nothing.
use Prim.Native.Nat.{ℕ, zero, suc, ◌+◌, ◌-◌, ◌^◌, ◌≤◌, ◌<◌}
use native.Mathlib.Omega.{arith}
use mathlib.Core.Path.{◌≡◌, refl, sym, ap, ◌∙◌}
use mathlib.Core.List.{List, [], ◌∷◌}
use lib.ListN.{length, take, drop, set, take-append-drop, length-drop}
use lib.Seq.{sets, set-set, set_comm, take-add, length-take-le, take_all}
use Rattle.writer.specs.store.Text.{Written}
use Rattle.writer.proofs.store.Laws.{sets-append}

-- a store before a place and stores from it on may change places
pub set_before : (ts zs : List ℕ) (p q d : ℕ) → p < q → set (sets zs q ts) p d ≡ sets (set zs p d) q ts
set_before [] zs p q d h = refl
set_before (t ∷ ts) zs p q d h = set_before ts (set zs q t) p (suc q) d (omega arith) ∙ ap (λ (l : List ℕ). sets l (suc q) ts) (set_comm zs q p t d (λ e. omega (arith, e)))

-- elements stored over the first of them are as if they were stored once
over : (k : ℕ) (ds ys : List ℕ) (p : ℕ) → sets (sets ys p (take k ds)) p ds ≡ sets ys p ds
over zero ds ys p = refl
over (suc k) [] ys p = refl
over (suc k) (d ∷ ds) ys p =
    ap (λ (l : List ℕ). sets l (suc p) ds) (set_before (take k ds) (set ys p d) p (suc p) d (omega arith) ∙ ap (λ (l : List ℕ). sets l (suc p) (take k ds)) (set-set ys p d d))
    ∙ over k ds (set ys p d) (suc p)

over_last : (ns xs : List ℕ) (at l k : ℕ) → length xs < 2 ^ 64 → at + l ≤ length xs → l ≤ length ns
    → sets (sets xs at (take (l + k) ns)) (at + l) (drop l ns) ≡ sets xs at ns
over_last ns xs at l k g h m =
    let a = take l ns in
    let e : length a ≡ l = length-take-le l ns m in
    let b : at + length a ≤ length xs = omega (arith, e) in
    let first : sets (sets xs at a) (at + l) (take k (drop l ns)) ≡ sets xs at (take (l + k) ns) =
    rw (take-add l k ns) (ap (λ (j : ℕ). sets (sets xs at a) (at + j) (take k (drop l ns))) (sym e) ∙ sym (sets-append a (take k (drop l ns)) xs at)) in
    let last : sets (sets xs at a) (at + l) (drop l ns) ≡ sets xs at ns =
    ap (λ (j : ℕ). sets (sets xs at a) (at + j) (drop l ns)) (sym e) ∙ sym (sets-append a (drop l ns) xs at) ∙ ap (λ (ts : List ℕ). sets xs at ts) (take-append-drop l ns) in
    ap (λ (ys : List ℕ). sets ys (at + l) (drop l ns)) (sym first) ∙ over k (drop l ns) (sets xs at a) (at + l) ∙ last

-- the last n of them over what is written
pub written_over : {xs ys zs : List ℕ} {at p q r : ℕ} (n : ℕ) (ns : List ℕ) (i l : ℕ) → length xs < 2 ^ 64 → at + length ns ≤ length xs → l + n ≡ length ns → l ≤ i → q ≡ at + l
    → Written xs at (take i ns) ys p → Written ys q (take n (drop l ns)) zs r → Written xs at ns zs r
written_over {xs} {ys} {zs} {at} {p} {q} {r} n ns i l g h m k e v w =
    let d : length (drop l ns) ≡ n = length-drop l ns ∙ omega (arith, m) in
    let whole : take n (drop l ns) ≡ drop l ns = take_all n (drop l ns) (omega (arith, d)) in
    let t : l + (i - l) ≡ i = omega arith in
    record {
      elements = w.elements ∙ rw (v.elements, e, whole, ← t) (over_last ns xs at l (i - l) g (omega arith) (omega arith));
      next = omega (arith, w.next, ap length whole, d, m, e);
    }
