-- Laws of the writers of carbons: bytes written are the pieces shown.
-- Assumes nothing.
use Prim.Native.Nat.{ℕ, zero, suc, ◌+◌, ◌-◌, ◌^◌, ◌≤◌, ◌<◌}
use native.Mathlib.Omega.{arith}
use mathlib.Core.Path.{◌≡◌, refl, sym, ap, ◌∙◌}
use mathlib.Core.Bool.{Bool, false}
use mathlib.Core.List.{List, [], ◌∷◌, ◌++◌, append-nil, append_assoc}
use lib.ListN.{length}
use borrow.Author.Tests.{ne_eqb}
use Rattle.writer.specs.emit.Text.{Written}
use Rattle.writer.proofs.emit.Laws.{written-nil, written-append}
use Rattle.reading_rules.specs.reading.Ascii.{ascii}
use Rattle.reading_rules.specs.reading.Piece.{atom, show, show_labels}
use Rattle.reading_rules.specs.reading.Part.{Part}
use Rattle.reading_rules.specs.reading.Chain.{Ring, labels_at, mark_pieces, part_pieces, bridge_pieces, Carbon, chain_pieces}
use Rattle.reading_rules.proofs.reading.ShowLex.{show-append}
use Rattle.chain_rules.specs.chain.Bonds.{mark_of}
use Rattle.chain_rules.specs.chain.Drawing.{bare, pairs, flexible}
use Rattle.chain_pieces.specs.backbone.Text.{carbon_text, bridge_text, pairs_text, flexible_text}
use Rattle.carbons.proofs.Left.{Left, left_less, left-none, written-three}

-- ---- the carbon and its bridge

module _ {xs ys : List ℕ} {at p : ℕ} (b : ℕ) where
  pub carbon-plain : b ≡ 0 → Written xs at (67 ∷ []) ys p → Written xs at (carbon_text b) ys p
  unfolding carbon_text mark_of mark_pieces show ascii
  carbon-plain e w = rw e w

  pub carbon-bridged : b ≡ 79 → Written xs at (67 ∷ []) ys p → Written xs at (carbon_text b) ys p
  unfolding carbon_text mark_of mark_pieces show ascii
  carbon-bridged e w = rw e w

  pub bridge-there : b ≡ 79 → Written xs at (79 ∷ []) ys p → Written xs at (bridge_text b) ys p
  unfolding bridge_text bridge_pieces show ascii
  bridge-there e w = rw e w

carbon-joined : (b : ℕ) → (b ≡ 0 → ⊥) → (b ≡ 79 → ⊥) → carbon_text b ≡ (b ∷ []) ++ (67 ∷ [])
unfolding carbon_text mark_of mark_pieces show ascii
carbon-joined zero e f = absurd (e refl)
carbon-joined (suc b) e f = rw (ne_eqb (suc b) 79 f)

pub carbon-marked : {xs ys zs : List ℕ} {at p q : ℕ} (b : ℕ) → length xs < 2 ^ 64 → (b ≡ 0 → ⊥) → (b ≡ 79 → ⊥)
    → Written xs at (b ∷ []) ys p → Written ys p (67 ∷ []) zs q → Written xs at (carbon_text b) zs q
carbon-marked b h e f v w = rw (carbon-joined b e f) (written-append h v w)

pub bridge-none : (xs : List ℕ) (at b : ℕ) → at < 2 ^ 64 → (b ≡ 79 → ⊥) → Written xs at (bridge_text b) xs at
unfolding bridge_text bridge_pieces show ascii
bridge-none xs at b h e = rw (ne_eqb b 79 e) (written-nil xs at h)

-- ---- a carbon of a chain

-- the mark, the C and its labels
carbon-labels : (b : ℕ) (ls : List ℕ) → show (mark_pieces (mark_of b) ++ (atom (ascii "C") ls ∷ [])) ≡ carbon_text b ++ show_labels ls
unfolding carbon_text show ascii show_labels
carbon-labels b ls =
    show-append (mark_pieces (mark_of b)) (atom (ascii "C") ls ∷ [])
    ∙ (rw (show-append (mark_pieces (mark_of b)) (atom (ascii "C") [] ∷ []), append-nil (67 ∷ show_labels ls), append_assoc (show (mark_pieces (mark_of b))) (67 ∷ []) (show_labels ls)))

-- a carbon, and the chain after it
pub carbon-shown : (rs : List Ring) (l k b : ℕ) (ps : List Part) (t : Bool) (cs : List Carbon)
    → show (chain_pieces rs l k (record { before = mark_of b; parts = ps; bridge = t } ∷ cs))
    ≡ (carbon_text b ++ show_labels (labels_at k l rs)) ++ (show (part_pieces ps) ++ (show (bridge_pieces t) ++ show (chain_pieces rs l (suc k) cs)))
unfolding chain_pieces
carbon-shown rs l k b ps t cs =
    show-append (mark_pieces (mark_of b) ++ (atom (ascii "C") (labels_at k l rs) ∷ [])) (part_pieces ps ++ (bridge_pieces t ++ chain_pieces rs l (suc k) cs))
    ∙ (rw (carbon-labels b (labels_at k l rs), show-append (part_pieces ps) (bridge_pieces t ++ chain_pieces rs l (suc k) cs), show-append (bridge_pieces t) (chain_pieces rs l (suc k) cs)))

-- ---- the flexible tail

-- without rings the places of the carbons do not matter
pub unlabelled : (l k m j : ℕ) (cs : List Carbon) → chain_pieces [] l k cs ≡ chain_pieces [] m j cs
unfolding chain_pieces labels_at
unlabelled l k m j [] = refl
unlabelled l k m j (c ∷ cs) = rw (unlabelled l (suc k) m (suc j) cs)

open-shown : (b : ℕ) (cs : List Carbon) → show (chain_pieces [] 0 0 (record { before = mark_of b; parts = []; bridge = false } ∷ cs)) ≡ carbon_text b ++ show (chain_pieces [] 0 0 cs)
unfolding part_pieces bridge_pieces labels_at show_labels show
open-shown b cs = carbon-shown [] 0 0 b [] false cs ∙ (rw (append-nil (carbon_text b), unlabelled 0 1 0 0 cs))

one-shown : (k : ℕ) → show (chain_pieces [] 0 k (bare 0 ∷ [])) ≡ 67 ∷ []
unfolding chain_pieces mark_pieces part_pieces bridge_pieces labels_at show_labels show ascii
one-shown k = refl

pairs_next : (n : ℕ) → pairs_text (suc n) ≡ (67 ∷ 61 ∷ 67 ∷ []) ++ pairs_text n
unfolding pairs_text pairs mark_of carbon_text mark_pieces show ascii
pairs_next n = open-shown 0 (bare 61 ∷ pairs n) ∙ ap (λ (t : List ℕ). 67 ∷ t) (open-shown 61 (pairs n))

pairs-none : pairs_text 0 ≡ []
unfolding pairs_text pairs chain_pieces show
pairs-none = refl

module _ {xs ys ts : List ℕ} {at p : ℕ} (n : ℕ) (v : Left xs at ts ys p (pairs_text n)) where
  pub pair-next : {zs : List ℕ} {q : ℕ} → length xs < 2 ^ 64 → 0 < n → Written ys p (67 ∷ 61 ∷ 67 ∷ []) zs q → Left xs at ts zs q (pairs_text (n - 1))
  pair-next m h w =
      let z : suc (n - 1) ≡ n = omega arith in
      left_less _ m v (ap pairs_text (sym z) ∙ pairs_next (n - 1)) w

  pub pairs_end : n ≤ 0 → Written xs at ts ys p
  pairs_end h =
      let z : n ≡ 0 = omega arith in
      left-none v (ap pairs_text z ∙ pairs-none)

pub chain-append : (rs : List Ring) (l k : ℕ) (cs ds : List Carbon) → chain_pieces rs l k (cs ++ ds) ≡ chain_pieces rs l k cs ++ chain_pieces rs l (k + length cs) ds
unfolding chain_pieces
chain-append rs l k [] ds =
    let z : k + 0 ≡ k = omega arith in
    rw z
chain-append rs l k (c ∷ cs) ds =
    let z : suc k + length cs ≡ k + suc (length cs) = omega arith in
    rw (chain-append rs l (suc k) cs ds, z) (simp append_assoc)

flexible-joined : (b n : ℕ) → flexible_text b (suc n) ≡ carbon_text b ++ (pairs_text (suc n) ++ (67 ∷ []))
unfolding flexible_text flexible pairs_text
flexible-joined b n =
    open-shown b (pairs (suc n) ++ (bare 0 ∷ []))
    ∙ ap (λ (t : List ℕ). carbon_text b ++ t)
    (ap show (chain-append [] 0 0 (pairs (suc n)) (bare 0 ∷ []))
    ∙ (show-append (chain_pieces [] 0 0 (pairs (suc n))) (chain_pieces [] 0 (0 + length (pairs (suc n))) (bare 0 ∷ []))
    ∙ ap (λ (t : List ℕ). show (chain_pieces [] 0 0 (pairs (suc n))) ++ t) (one-shown (0 + length (pairs (suc n))))))

pub flexible-written : {xs ys zs ws : List ℕ} {at p q r : ℕ} (b n : ℕ) → length xs < 2 ^ 64 → (n ≡ 0 → ⊥) → Written xs at (carbon_text b) ys p → Written ys p (pairs_text n) zs q
    → Written zs q (67 ∷ []) ws r → Written xs at (flexible_text b n) ws r
flexible-written b zero h e u v w = absurd (e refl)
flexible-written b (suc n) h e u v w = rw (flexible-joined b n) (written-three h u v w)

pub flexible-none : (xs : List ℕ) (at b n : ℕ) → at < 2 ^ 64 → n ≡ 0 → Written xs at (flexible_text b n) xs at
unfolding flexible_text flexible chain_pieces show
flexible-none xs at b n h e = rw e (written-nil xs at h)
