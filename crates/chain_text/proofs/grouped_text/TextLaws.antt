-- The runs between groups, with the groups, are the text of the carbons.
-- Assumes nothing.
use Prim.Native.Nat.{ℕ, zero, suc, ◌+◌, ◌-◌, ◌≤◌, ◌<◌}
use native.Mathlib.Nat.{add-zero, suc-add}
use native.Mathlib.Numerals.{add-one}
use native.Mathlib.Decide.{ℕ_discrete}
use native.Mathlib.Omega.{arith}
use mathlib.Core.Path.{◌≡◌, refl, sym, ap, ◌∙◌}
use mathlib.Core.Bool.{Bool, true, false}
use mathlib.Core.List.{List, [], ◌∷◌, ◌++◌, append-nil, append_assoc}
use lib.ListN.{get_or}
use borrow.Author.Tests.{ne_eqb}
use Rattle.chain_record.specs.declared.plain.Mod.{Mod}
use Rattle.reading_rules.specs.reading.Piece.{show, show_labels}
use Rattle.reading_rules.specs.reading.Chain.{labels_at, part_pieces, bridge_pieces}
use Rattle.chain_rules.specs.chain.Drawing.{ring_pairs}
use Rattle.carbons.specs.Tokens.{Rising}
use Rattle.chain_pieces.specs.labels.Text.{labels_text}
use Rattle.chain_pieces.specs.branches.Text.{group_text, sitting, groups_text, carbonyl_of, carbonyl_text}
use Rattle.chain_pieces.proofs.branches.Laws.{sitting-here, sitting-past, sitting-before, sitting-none}
use Rattle.chain_pieces.specs.backbone.Text.{carbon_text, bridge_text}
use Rattle.chain_pieces.specs.runs.Links.{link_text, links_text}
use Rattle.chain_text.specs.fragment.Text.{features_text, carbons_text}
use Rattle.chain_text.proofs.fragment.RangeLaws.{carbons-next, carbons-none}
use Rattle.chain_text.specs.grouped_text.Text.{rest_text}

-- ---- what stands on a carbon of a chain without rings

ringless-features : (acyl : Bool) (gs : List Mod) (l k : ℕ) → features_text acyl gs [] l k ≡ carbonyl_text acyl k ++ groups_text (sitting k gs)
unfolding features_text labels_text labels_at ring_pairs show_labels
ringless-features acyl gs l k = refl

later-carbonyl : (acyl : Bool) (k : ℕ) → (k ≡ 1 → ⊥) → carbonyl_text acyl k ≡ []
unfolding carbonyl_text carbonyl_of part_pieces show
later-carbonyl false k h = refl
later-carbonyl true k h = rw (ne_eqb k 1 h)

later-features : (acyl : Bool) (gs : List Mod) (l k : ℕ) → (k ≡ 1 → ⊥) → features_text acyl gs [] l k ≡ groups_text (sitting k gs)
later-features acyl gs l k h = rw (ringless-features acyl gs l k, later-carbonyl acyl k h)

no-bridge-text : (b : ℕ) → (b ≡ 79 → ⊥) → bridge_text b ≡ []
unfolding bridge_text bridge_pieces show
no-bridge-text b h = rw (ne_eqb b 79 h)

nothing-before : (k b c : ℕ) (gs : List Mod) → Rising b c gs → k < b → groups_text (sitting k gs) ≡ []
nothing-before k b c gs r h = ap groups_text (sitting-before k b c gs r h ∙ sym (sitting-before k b c [] tt h)) ∙ sitting-none k

-- ---- a run, and what follows it

module _ (acyl : Bool) (ks : List ℕ) (gs : List Mod) (l : ℕ) where
  -- carbons that carry nothing are links
  run-last : (j n : ℕ) → 1 ≤ j → ((k : ℕ) → j < k → k ≤ j + n → groups_text (sitting k gs) ≡ [])
      → bridge_text (get_or ks j 0) ++ carbons_text acyl ks gs [] l (suc j) n ≡ links_text ks (suc j) n ++ bridge_text (get_or ks (j + n) 0)
  unfolding links_text link_text
  run-last j zero h f = rw (carbons-none acyl ks gs [] l (suc j), add-zero) (append-nil (bridge_text (get_or ks j 0)))
  run-last j (suc n) h f =
      let y : j + suc n ≡ suc j + n = omega arith in
      let x : suc j - 1 ≡ j = omega arith in
      rw (
        carbons-next acyl ks gs [] l (suc j) n,
        later-features acyl gs l (suc j) (λ q. omega arith),
        f (suc j) (omega arith) (omega arith),
        run-last (suc j) n (omega arith) (λ k a b. f k (omega arith) (omega arith)),
        y,
      )
      (simp (append_assoc, x))

  -- and so is the one after them, but for its groups
  run-next : (j n m : ℕ) → 1 ≤ j → ((k : ℕ) → j < k → k ≤ j + n → groups_text (sitting k gs) ≡ [])
      → bridge_text (get_or ks j 0) ++ carbons_text acyl ks gs [] l (suc j) (suc (n + m))
      ≡ links_text ks (suc j) (suc n) ++ (groups_text (sitting (j + suc n) gs) ++ (bridge_text (get_or ks (j + suc n) 0) ++ carbons_text acyl ks gs [] l (suc (j + suc n)) m))
  unfolding links_text link_text
  run-next j zero m h f =
      let y : j + 1 ≡ suc j = omega arith in
      let x : suc j - 1 ≡ j = omega arith in
      let z : zero + m ≡ m = omega arith in
      rw (
        z,
        carbons-next acyl ks gs [] l (suc j) m,
        later-features acyl gs l (suc j) (λ q. omega arith),
        y,
      )
      (simp (append_assoc, append-nil, x))
  run-next j (suc n) m h f =
      let y : j + suc (suc n) ≡ suc j + suc n = omega arith in
      let x : suc j - 1 ≡ j = omega arith in
      rw (
        carbons-next acyl ks gs [] l (suc j) (suc n + m),
        later-features acyl gs l (suc j) (λ q. omega arith),
        f (suc j) (omega arith) (omega arith),
        suc-add n m,
        run-next (suc j) n m (omega arith) (λ k a b. f k (omega arith) (omega arith)),
        y,
      )
      (simp (append_assoc, x))

-- ---- the runs up to each group

module _ (acyl : Bool) (ks : List ℕ) (gs : List Mod) (l c : ℕ) (last : get_or ks c 0 ≡ 79 → ⊥) where
  -- what follows C j and those of its groups that are written; hs are the groups that are left
  abbrev After : ℕ → List Mod → Type 0
  After j hs = groups_text (sitting j hs) ++ (bridge_text (get_or ks j 0) ++ carbons_text acyl ks gs [] l (suc j) (c - j)) ≡ rest_text ks (j + 1) c hs

  -- no group past C j is written
  abbrev Unwritten : ℕ → List Mod → Type 0
  Unwritten j hs = (k : ℕ) → j < k → sitting k gs ≡ sitting k hs

  after_none : (j : ℕ) → 1 ≤ j → j ≤ c → Unwritten j [] → After j []
  unfolding rest_text
  after_none j a b u =
      let z : c + 1 - (j + 1) ≡ c - j = omega arith in
      let y : j + (c - j) ≡ c = omega arith in
      let e = run-last acyl ks gs l j (c - j) a (λ k p q. ap groups_text (u k p) ∙ sitting-none k) in
      rw (sitting-none j, z, e, y, no-bridge-text (get_or ks c 0) last, add-one j) (append-nil (links_text ks (suc j) (c - j)))

  module _ (g : Mod) (hs : List Mod) (ih : (j : ℕ) → 1 ≤ j → j ≤ c → Rising j c hs → Unwritten j hs → After j hs) where
    -- the next group sits on the same carbon
    after-here : (j : ℕ) → 1 ≤ j → j ≤ c → g.pos ≡ j → Rising g.pos c hs → Unwritten j (g ∷ hs) → After j (g ∷ hs)
    unfolding rest_text links_text
    after-here j a b e w u =
        let z : j + 1 - (j + 1) ≡ 0 = omega arith in
        let v : Unwritten j hs = λ k p. u k p ∙ sitting-past k g hs (λ q. omega arith) in
        rw (sitting-here j g hs e, e, z, append_assoc) (ap (λ (t : List ℕ). group_text g.row ++ t) (ih j a b (rw e at w) v))

    -- or further on
    after-later : (j : ℕ) → 1 ≤ j → j < g.pos → g.pos ≤ c → Rising g.pos c hs → Unwritten j (g ∷ hs) → After j (g ∷ hs)
    unfolding rest_text
    after-later j a b d w u =
        let n : ℕ = g.pos - suc j in
        let m : ℕ = c - g.pos in
        let z : c - j ≡ suc (n + m) = omega arith in
        let y : j + suc n ≡ g.pos = omega arith in
        let x : g.pos + 1 - (j + 1) ≡ suc n = omega arith in
        let up : Rising g.pos c (g ∷ hs) = (omega arith, d, w) in
        let free : (k : ℕ) → j < k → k ≤ j + n → groups_text (sitting k gs) ≡ [] = λ k p q. ap groups_text (u k p) ∙ nothing-before k g.pos c (g ∷ hs) up (omega arith) in
        let v : Unwritten g.pos hs = λ k p. u k (omega arith) ∙ sitting-past k g hs (λ q. omega arith) in
        rw (
          nothing-before j g.pos c (g ∷ hs) up b,
          z,
          run-next acyl ks gs l j n m a free,
          y,
          u g.pos b,
          sitting-here g.pos g hs refl,
          x,
          add-one j,
        )
        (ap (λ (t : List ℕ). links_text ks (suc j) (suc n) ++ t)
        (append_assoc (group_text g.row) (groups_text (sitting g.pos hs)) (bridge_text (get_or ks g.pos 0) ++ carbons_text acyl ks gs [] l (suc g.pos) m)
        ∙ ap (λ (t : List ℕ). group_text g.row ++ t) (ih g.pos (omega arith) d w v)))

    after_next : (j : ℕ) → 1 ≤ j → j ≤ c → Rising j c (g ∷ hs) → Unwritten j (g ∷ hs) → Dec (g.pos ≡ j) → After j (g ∷ hs)
    after_next j a b w u (yes e) = after-here j a b e w.2 u
    after_next j a b w u (no n) =
        let low : j ≤ g.pos = w.0 in
        let past : j < g.pos = omega arith in
        after-later j a past w.1 w.2 u

  after_is : (hs : List Mod) (j : ℕ) → 1 ≤ j → j ≤ c → Rising j c hs → Unwritten j hs → After j hs
  after_is [] j a b w u = after_none j a b u
  after_is (g ∷ hs) j a b w u = after_next g hs (after_is hs) j a b w u (ℕ_discrete g.pos j)

  -- the whole chain
  pub carbons-grouped : (f : ℕ) → 1 ≤ f → f ≤ c → Rising f c gs
      → carbons_text acyl ks gs [] l f (suc (c - f)) ≡ carbon_text (get_or ks (f - 1) 0) ++ (carbonyl_text acyl f ++ rest_text ks (f + 1) c gs)
  carbons-grouped f a b w =
      rw (carbons-next acyl ks gs [] l f (c - f), ringless-features acyl gs l f, append_assoc, after_is gs f a b w (λ k p. refl))
