-- Laws of the writers of labels: bytes written are the labels shown.
-- Assumes nothing.
use Prim.Native.Nat.{ℕ, suc, ◌+◌, ◌/◌, ◌%◌, ◌^◌, ◌≤◌, ◌<◌}
use native.Mathlib.Numerals.{add-one}
use mathlib.Core.Path.{◌≡◌, refl, ap, ◌∙◌}
use mathlib.Core.Bool.{Bool, true, false, cond, ◌||◌}
use mathlib.Core.List.{List, [], ◌∷◌, ◌++◌, append-nil}
use lib.Dec.{eqb}
use lib.ListN.{length, drop, get_or}
use borrow.Author.Tests.{lt-ltb, le-ltb, eq-eqb, ne_eqb}
use Rattle.writer.specs.emit.Text.{Written}
use Rattle.writer.proofs.emit.Laws.{written-nil}
use Rattle.chain_record.specs.declared.plain.Ring.{Ring as Closed}
use Rattle.reading_rules.specs.reading.Piece.{show_label, show_labels}
use Rattle.reading_rules.specs.reading.Chain.{labels_at}
use Rattle.chain_rules.specs.chain.Drawing.{ring_pairs}
use Rattle.chain_pieces.specs.labels.Text.{labels_text}
use Rattle.drawn_chain.specs.drawable.Drawn.{no_ring}
use Rattle.drawn_chain.proofs.drawable.Turns.{left_here}
use Rattle.drawn_chain.proofs.drawable.Turns as turns
use Rattle.carbons.proofs.Left.{Left, left_less, left-none, written-three}

module _ {xs ys : List ℕ} {at p : ℕ} (l : ℕ) where
  pub label_small : l < 10 → Written xs at ((48 + l) ∷ []) ys p → Written xs at (show_label l) ys p
  unfolding show_label
  label_small h w = rw (lt-ltb l 10 h) w

  pub label-two : {zs ws : List ℕ} {q r : ℕ} → length xs < 2 ^ 64 → 10 ≤ l → Written xs at (37 ∷ []) ys p → Written ys p ((48 + l / 10) ∷ []) zs q
      → Written zs q ((48 + l % 10) ∷ []) ws r → Written xs at (show_label l) ws r
  unfolding show_label
  label-two g h u v w = rw (le-ltb l 10 h) (written-three g u v w)

labels-cons : (k l : ℕ) (x : Closed) (rs : List Closed)
    → labels_text k l (ring_pairs (x ∷ rs)) ≡ labels_text k l (ring_pairs (x ∷ [])) ++ labels_text k (l + 1) (ring_pairs rs)
unfolding labels_text labels_at ring_pairs show_labels
labels-cons k l x rs = rw (add-one l) (go (eqb x.start k || eqb x.end k))
  where
    go : (b : Bool) → show_labels (cond b (l ∷ labels_at k (suc l) (ring_pairs rs)) (labels_at k (suc l) (ring_pairs rs)))
        ≡ show_labels (cond b (l ∷ []) []) ++ show_labels (labels_at k (suc l) (ring_pairs rs))
    go true = rw (append-nil (show_label l))
    go false = refl

labels-none : (k l : ℕ) → labels_text k l (ring_pairs []) ≡ []
unfolding labels_text labels_at ring_pairs show_labels
labels-none k l = refl

-- one ring
module _ {xs ys : List ℕ} {at p : ℕ} (k l : ℕ) (x : Closed) where
  pub end-start : x.start ≡ k → Written xs at (show_label l) ys p → Written xs at (labels_text k l (ring_pairs (x ∷ []))) ys p
  unfolding labels_text labels_at ring_pairs show_labels
  end-start e w = rw (eq-eqb x.start k e, append-nil (show_label l)) w

  pub end-end : (x.start ≡ k → ⊥) → x.end ≡ k → Written xs at (show_label l) ys p → Written xs at (labels_text k l (ring_pairs (x ∷ []))) ys p
  unfolding labels_text labels_at ring_pairs show_labels
  end-end n e w = rw (ne_eqb x.start k n, eq-eqb x.end k e, append-nil (show_label l)) w

pub end_none : (xs : List ℕ) (at k l : ℕ) (x : Closed) → at < 2 ^ 64 → (x.start ≡ k → ⊥) → (x.end ≡ k → ⊥) → Written xs at (labels_text k l (ring_pairs (x ∷ []))) xs at
unfolding labels_text labels_at ring_pairs show_labels
end_none xs at k l x h n e = rw (ne_eqb x.start k n, ne_eqb x.end k e) (written-nil xs at h)

-- a turn of the loop through the rings, and its end
module _ {xs ys ts : List ℕ} {at p : ℕ} (rs : List Closed) (i k l : ℕ)
    (v : Left xs at ts ys p (labels_text k l (ring_pairs (drop i rs)))) where
  pub label-next : {zs : List ℕ} {q : ℕ} (x : Closed) → length xs < 2 ^ 64 → i < length rs → x ≡ get_or rs i no_ring → Written ys p (labels_text k l (ring_pairs (x ∷ []))) zs q
      → Left xs at ts zs q (labels_text k (l + 1) (ring_pairs (drop (i + 1) rs)))
  label-next x h t e w =
      left_less _ h v (ap (λ (us : List Closed). labels_text k l (ring_pairs us)) (left_here rs i no_ring x t e) ∙ labels-cons k l x (drop (i + 1) rs)) w

  pub labels-end : length rs ≤ i → Written xs at ts ys p
  labels-end t = left-none v (ap (λ (us : List Closed). labels_text k l (ring_pairs us)) (turns.left-none rs i t) ∙ labels-none k l)
