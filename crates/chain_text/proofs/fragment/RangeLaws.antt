-- Laws of the writers of whole stretches of carbons: what each turn writes, and that a carbon that is not busy carries nothing.
-- Assumes nothing.
use Prim.Native.Nat.{ℕ, zero, suc, ◌+◌, ◌-◌, ◌^◌, ◌≤◌, ◌<◌}
use native.Mathlib.Nat.{add-zero, suc-add}
use native.Mathlib.Numerals.{add-one}
use native.Mathlib.Omega.{arith}
use mathlib.Core.Path.{◌≡◌, refl, sym, ap, ◌∙◌}
use mathlib.Core.Bool.{Bool, true, false, ◌||◌}
use mathlib.Core.List.{List, [], ◌∷◌, ◌++◌, append_assoc}
use lib.Dec.{eqb}
use lib.ListN.{length, get_or}
use borrow.Author.Tests.{eq-eqb, eqb-true}
use Rattle.writer.specs.emit.Text.{Written}
use Rattle.chain_record.specs.declared.plain.Mod.{Mod}
use Rattle.chain_record.specs.declared.plain.Ring.{Ring as Closed}
use Rattle.reading_rules.specs.reading.Piece.{show, show_labels}
use Rattle.reading_rules.specs.reading.Part.{Part}
use Rattle.reading_rules.specs.reading.Chain.{labels_at, part_pieces, bridge_pieces, chain_pieces}
use Rattle.chain_rules.specs.chain.Lists.{only, values_from}
use Rattle.chain_rules.specs.chain.Drawing.{branches, ring_pairs}
use Rattle.chain_pieces.specs.branches.Text.{sitting, groups_text, carbonyl_of, carbonyl_text}
use Rattle.chain_pieces.specs.labels.Text.{labels_text}
use Rattle.chain_pieces.specs.backbone.Text.{carbon_text, bridge_text}
use Rattle.chain_pieces.specs.runs.Links.{link_text, links_text, Run}
use Rattle.chain_text.specs.fragment.Text.{features_text, carbon_of, carbons_text}
use Rattle.carbons.specs.ByCarbon.{group_on, ring_on, carbonyl_on, busy_at, Busy}
use Rattle.chain_rules.proofs.chain.Lists.{or_left, or_right}
use Rattle.carbons.proofs.Loads.{not-busy}
use Rattle.carbons.proofs.Left.{Left, left_less, left-same, left-none, written-three}
use Rattle.chain_pieces.proofs.branches.Laws.{parts-cons}
use Rattle.chain_pieces.proofs.backbone.Laws.{carbon-shown}

-- ---- what stands on a carbon

pub features-written : {xs ys zs ws : List ℕ} {at p q r : ℕ} (acyl : Bool) {gs hs : List Mod} {rs ss : List Closed} (l k : ℕ) → length xs < 2 ^ 64 → gs ≡ hs → rs ≡ ss
    → Written xs at (labels_text k l (ring_pairs rs)) ys p → Written ys p (carbonyl_text acyl k) zs q → Written zs q (groups_text (sitting k gs)) ws r
    → Written xs at (features_text acyl hs ss l k) ws r
unfolding features_text
features-written acyl l k h e f u v w = rw (← e, ← f) (written-three h u v w)

-- ---- a carbon that is not busy

pub no-groups : (k : ℕ) (gs : List Mod) → group_on gs k ≡ false → sitting k gs ≡ []
unfolding group_on sitting only
no-groups k [] e = refl
no-groups k (g ∷ gs) e =
    let a : eqb g.pos k ≡ false = or_left (eqb g.pos k) (group_on gs k) e in
    rw a (no-groups k gs (or_right (eqb g.pos k) (group_on gs k) e))

pub no-labels : (k l : ℕ) (rs : List Closed) → ring_on rs k ≡ false → labels_at k l (ring_pairs rs) ≡ []
unfolding ring_on labels_at ring_pairs
no-labels k l [] e = refl
no-labels k l (x ∷ rs) e =
    let a : (eqb x.start k || eqb x.end k) ≡ false = or_left (eqb x.start k || eqb x.end k) (ring_on rs k) e in
    rw a (no-labels k (suc l) rs (or_right (eqb x.start k || eqb x.end k) (ring_on rs k) e))

eqb_swap : (a b : ℕ) → eqb a b ≡ false → eqb b a ≡ false
eqb_swap a b e = go (eqb b a) refl
  where
    go : (t : Bool) → eqb b a ≡ t → t ≡ false
    go false f = refl
    go true f =
        let z : eqb a b ≡ true = eq-eqb a b (sym (eqb-true b a f)) in
        let y : ◌≡◌ {A = ℕ} 0 1 = cc in absurd (omega arith)

pub no-carbonyl : (acyl : Bool) (k : ℕ) → carbonyl_on acyl k ≡ false → carbonyl_of acyl k ≡ []
unfolding carbonyl_on carbonyl_of
no-carbonyl false k e = refl
no-carbonyl true k e = rw (eqb_swap 1 k e)

empty-features : (acyl : Bool) (gs : List Mod) (rs : List Closed) (l k : ℕ) → busy_at acyl gs rs k ≡ false → features_text acyl gs rs l k ≡ []
unfolding busy_at features_text labels_text carbonyl_text groups_text show_labels part_pieces branches show
empty-features acyl gs rs l k e =
    let a : carbonyl_on acyl k ≡ false = or_left (carbonyl_on acyl k) (group_on gs k || ring_on rs k) e in
    let b : (group_on gs k || ring_on rs k) ≡ false = or_right (carbonyl_on acyl k) (group_on gs k || ring_on rs k) e in
    rw (no-labels k l rs (or_right (group_on gs k) (ring_on rs k) b), no-carbonyl acyl k a, no-groups k gs (or_left (group_on gs k) (ring_on rs k) b))

-- ---- one carbon of the chain

parts-append : (a b : List Part) → show (part_pieces (a ++ b)) ≡ show (part_pieces a) ++ show (part_pieces b)
unfolding part_pieces show
parts-append [] b = refl
parts-append (p ∷ a) b =
    parts-cons p (a ++ b)
    ∙ (ap (λ (t : List ℕ). show (part_pieces (p ∷ [])) ++ t) (parts-append a b)
    ∙ (sym (append_assoc (show (part_pieces (p ∷ []))) (show (part_pieces a)) (show (part_pieces b))) ∙ ap (λ (t : List ℕ). t ++ show (part_pieces b)) (sym (parts-cons p a))))

regroup : (a b c d e f : List ℕ) → (a ++ b) ++ ((c ++ d) ++ (e ++ f)) ≡ a ++ ((b ++ (c ++ d)) ++ (e ++ f))
regroup a b c d e f = simp append_assoc

-- C k, what follows it, its bridge, and the carbons after it
pub carbons-next : (acyl : Bool) (ks : List ℕ) (gs : List Mod) (rs : List Closed) (l k n : ℕ)
    → carbons_text acyl ks gs rs l k (suc n)
    ≡ carbon_text (get_or ks (k - 1) 0) ++ (features_text acyl gs rs l k ++ (bridge_text (get_or ks k 0) ++ carbons_text acyl ks gs rs l (suc k) n))
unfolding carbons_text carbon_of values_from features_text labels_text carbonyl_text groups_text bridge_text
carbons-next acyl ks gs rs l k n =
    carbon-shown (ring_pairs rs) l k (get_or ks (k - 1) 0) (carbonyl_of acyl k ++ branches (sitting k gs)) (eqb (get_or ks k 0) 79)
    (values_from (carbon_of acyl ks gs) (suc k) n)
    ∙ (rw (parts-append (carbonyl_of acyl k) (branches (sitting k gs))) (regroup (carbon_text (get_or ks (k - 1) 0)) (show_labels (labels_at k l (ring_pairs rs))) (show (part_pieces (carbonyl_of acyl k))) (show (part_pieces (branches (sitting k gs)))) (show (bridge_pieces (eqb (get_or ks k 0) 79))) (show (chain_pieces (ring_pairs rs) l (suc k) (values_from (carbon_of acyl ks gs) (suc k) n)))))

pub carbons-none : (acyl : Bool) (ks : List ℕ) (gs : List Mod) (rs : List Closed) (l k : ℕ) → carbons_text acyl ks gs rs l k 0 ≡ []
unfolding carbons_text values_from chain_pieces show
carbons-none acyl ks gs rs l k = refl

-- a run of carbons that carry nothing, and the carbons after it
carbons-run : (acyl : Bool) (ks : List ℕ) (gs : List Mod) (rs : List Closed) (l k m n : ℕ) → ((j : ℕ) → k ≤ j → j ≤ k + m → features_text acyl gs rs l j ≡ [])
    → carbons_text acyl ks gs rs l k (suc (m + n))
    ≡ carbon_text (get_or ks (k - 1) 0) ++ (links_text ks (suc k) m ++ (bridge_text (get_or ks (k + m) 0) ++ carbons_text acyl ks gs rs l (suc (k + m)) n))
unfolding links_text link_text
carbons-run acyl ks gs rs l k zero n f =
    let y : zero + n ≡ n = omega arith in
    rw (y, carbons-next acyl ks gs rs l k n, f k (omega arith) (omega arith), add-zero)
carbons-run acyl ks gs rs l k (suc m) n f =
    let y : k + suc m ≡ suc k + m = omega arith in
    let x : suc k - 1 ≡ k = omega arith in
    rw (
      carbons-next acyl ks gs rs l k (suc m + n),
      f k (omega arith) (omega arith),
      suc-add m n,
      carbons-run acyl ks gs rs l (suc k) m n (λ j a b. f j (omega arith) (omega arith)),
      y,
    )
    (simp (append_assoc, x))

-- a turn of the loop through the carbons, and its end
module _ {xs ys ts : List ℕ} {at p : ℕ} (acyl : Bool) (ks : List ℕ) (gs : List Mod) (rs : List Closed) (l k last : ℕ) (m : length xs < 2 ^ 64)
    (v : Left xs at ts ys p (carbons_text acyl ks gs rs l k (suc last - k))) where
  turned : k ≤ last → Left xs at ts ys p (carbon_text (get_or ks (k - 1) 0) ++ (features_text acyl gs rs l k ++ (bridge_text (get_or ks k 0) ++ carbons_text acyl ks gs rs l (k + 1) (suc last - (k + 1)))))
  turned h =
      let z : suc last - k ≡ suc (suc last - suc k) = omega arith in
      left-same v (rw (z, add-one k) (carbons-next acyl ks gs rs l k (suc last - suc k)))

  pub carbon-busy : {zs : List ℕ} {q : ℕ} → k ≤ last → Written ys p (carbon_text (get_or ks (k - 1) 0) ++ (features_text acyl gs rs l k ++ bridge_text (get_or ks k 0))) zs q
      → Left xs at ts zs q (carbons_text acyl ks gs rs l (k + 1) (suc last - (k + 1)))
  carbon-busy h w = left_less _ m (turned h) (simp append_assoc) w

  pub carbon-run : {zs bs : List ℕ} {q c : ℕ} → Busy acyl gs rs bs → last < length bs → Run ks bs k last ys p zs q c
      → Left xs at ts zs q (carbons_text acyl ks gs rs l c (suc last - c))
  carbon-run {c = c} b f r =
      let z : suc last - k ≡ suc (c - (k + 1) + (suc last - c)) = omega (arith, r.low, r.high) in
      let y : k + (c - (k + 1)) ≡ c - 1 = omega (arith, r.low) in
      let x : suc (c - 1) ≡ c = omega (arith, r.low) in
      let e : (j : ℕ) → k ≤ j → j ≤ k + (c - (k + 1)) → features_text acyl gs rs l j ≡ []
      = λ j a d. empty-features acyl gs rs l j (not-busy j b (omega (arith, r.low, r.high)) (r.free j a (omega (arith, r.low)))) in
      left_less _ m v (rw z (carbons-run acyl ks gs rs l k (c - (k + 1)) (suc last - c) e ∙ (rw (y, x, add-one k) (simp append_assoc)))) r.text

  pub carbons-end : last < k → Written xs at ts ys p
  carbons-end h =
      let z : suc last - k ≡ 0 = omega arith in
      left-none v (rw z (carbons-none acyl ks gs rs l k))
