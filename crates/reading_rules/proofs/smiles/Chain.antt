-- The chain law: a chain that is written with ring labels reads as its rows drawn without them.
use mathlib.Core.Path.{◌≡◌, refl, sym, ap, ◌∙◌, subst}
use mathlib.Core.Bool.{Bool, true, false, cond, ◌||◌}
use mathlib.Core.Option.{Option, none, some}
use Prim.Native.Nat.{ℕ, zero, suc, ◌+◌, ◌-◌, ◌≤◌, ◌<◌}
use native.Mathlib.Omega.{arith}
use native.Mathlib.Decide.{dec_le}
use native.Mathlib.Nat.{lt_of_not-le, le_antisymm}
use mathlib.Core.List.{List, [], ◌∷◌, ◌++◌, append_assoc, append-nil}
use lib.ListN.{length}
use lib.Dec.{eqb, ltb, leb}
use borrow.Author.Tests.{eqb-true, eqb-false, eq-eqb, ne_eqb, lt-ltb, le-ltb, le-leb, lt-leb}
use Rattle.scanner.specs.part.Ascii.{ascii}
use Rattle.reading_rules.specs.smiles.Row.{Link, link, row}
use Rattle.reading_rules.specs.smiles.Piece.{atom}
use Rattle.reading_rules.specs.smiles.Machine.{Entry, entry, fresh, after, marked, st, lookup, remove, among, links, labels, joins, plainly}
use Rattle.reading_rules.specs.smiles.Part.{Part, place}
use Rattle.reading_rules.specs.smiles.Chain.{Ring, ring, Carbon, parts_end, bridge_end, bridge_last, carbon_end, carbon_last, chain_end, chain_last, atom_from, atom_of, part_rows, bridge_rows, ring_links, carbon_members, chain_members, float_members, rows_of, labels_at, mark_pieces, part_pieces, bridge_pieces, chain_pieces, float_pieces, float_end, float_last}
use Rattle.reading_rules.proofs.smiles.Members.{carbon-rows, float-rows}
use Rattle.reading_rules.proofs.smiles.Reading.{Reads, reads-nil, reads-cons, reads-append, steps-mark, steps-atom, steps-plain, steps-dot}
use Rattle.reading_rules.proofs.smiles.OpenLabels.{lookup-same, lookup-other, lookup-removed, lookup-remove-other, lookup-append, nothing-open, label-opens, label-closes, labels-cons}
use Rattle.reading_rules.proofs.smiles.Frame.{Hangs, EachOf, EachLabel, each-label-map, Shut, frame-after, frame-branch, labels-over}

-- ---- where a ring's label is open

-- on which atom, before carbon k is read
open_at : (ℕ → ℕ) → ℕ → Ring → Option ℕ
open_at pos k (ring s e) = cond (ltb s k) (cond (leb k e) (some (pos s)) none) none

open-before : (pos : ℕ → ℕ) (k s e : ℕ) → k ≤ s → open_at pos k (ring s e) ≡ none
unfolding open_at
open-before pos k s e h = rw (le-ltb s k h)

open-during : (pos : ℕ → ℕ) (k s e : ℕ) → s < k → k ≤ e → open_at pos k (ring s e) ≡ some (pos s)
unfolding open_at
open-during pos k s e h g = rw (lt-ltb s k h, le-leb k e g)

open_gone : (pos : ℕ → ℕ) (k s e : ℕ) → s < k → e < k → open_at pos k (ring s e) ≡ none
unfolding open_at
open_gone pos k s e h g = rw (lt-ltb s k h, lt-leb k e g)

split : {X : Type 0} (a b : ℕ) → (a ≤ b → X) → (b < a → X) → X
split a b f g = elim (dec_le a b) [ yes h ↦ f h | no h ↦ g (lt_of_not-le h) ]

open-same : (pos : ℕ → ℕ) (k s e : ℕ) → (s ≡ k → ⊥) → (e ≡ k → ⊥) → open_at pos (suc k) (ring s e) ≡ open_at pos k (ring s e)
open-same pos k s e h g =
    split (suc k) s (λ q. open-before pos (suc k) s e q ∙ sym (open-before pos k s e (omega arith)))
    (λ q. split (suc k) e
    (λ w. open-during pos (suc k) s e q w ∙ sym (open-during pos k s e (omega arith) (omega arith)))
    (λ w. open_gone pos (suc k) s e q w ∙ sym (open_gone pos k s e (omega arith) (omega arith))))

-- each ring's label, from l on, is open in t as far as the chain was read up to carbon k
Holds : (ℕ → ℕ) → ℕ → ℕ → List Ring → List Entry → Type 0
Holds pos k l [] t = Unit {0}
Holds pos k l (r ∷ rs) t = (lookup l t ≡ open_at pos k r) × Holds pos k (suc l) rs t

-- a table that finds the same from l on
holds_same : (pos : ℕ → ℕ) (k l : ℕ) (rs : List Ring) (t t' : List Entry) → ((m : ℕ) → l ≤ m → lookup m t' ≡ lookup m t) → Holds pos k l rs t → Holds pos k l rs t'
unfolding Holds
holds_same pos k l [] t t' q h = tt
holds_same pos k l (r ∷ rs) t t' q h = (q l (omega arith) ∙ h.0, holds_same pos k (suc l) rs t t' (λ m g. q m (omega arith)) h.1)

-- no ring that ring_links at k starts at an atom of `ks`
Clear : (ℕ → ℕ) → List Link → ℕ → List Ring → Type 0
Clear pos ks k [] = Unit {0}
Clear pos ks k (ring s e ∷ rs) = (e ≡ k → among (pos s) ks ≡ false) × Clear pos ks k rs

-- each ring ends after it starts, and none is there twice
unfoldable pub Differs : ℕ → ℕ → List Ring → Type 0
Differs s e [] = Unit {0}
Differs s e (ring s' e' ∷ rs) = (s ≡ s' → e ≡ e' → ⊥) × Differs s e rs

unfoldable pub Rings : ℕ → List Ring → Type 0
Rings f [] = Unit {0}
Rings f (ring s e ∷ rs) = (f ≤ s) × ((s < e) × (Differs s e rs × Rings f rs))

-- ---- the labels of one carbon

among-more : (a b m : ℕ) (ks : List Link) → among a ks ≡ false → (a ≡ b → ⊥) → among a (ks ++ link b m ∷ []) ≡ false
unfolding among
among-more a b m [] h g = rw (ne_eqb a b g)
among-more a b m (link c m' ∷ ks) h g = go (eqb a c) (among-more a b m ks) h
  where
    go : (x : Bool) → (among a ks ≡ false → (a ≡ b → ⊥) → among a (ks ++ link b m ∷ []) ≡ false) → (x || among a ks) ≡ false → (x || among a (ks ++ link b m ∷ [])) ≡ false
    go true ih q = q
    go false ih q = ih q g

record Pass (pos : ℕ → ℕ) (k l : ℕ) (rs : List Ring) (ks : List Link) (t : List Entry) : Type 0 where
  left : List Entry
  does : labels (labels_at k l rs) (pos k) ks t ≡ links (ks ++ ring_links pos k rs) left
  holds : Holds pos (suc k) l rs left
  below : (m : ℕ) → m < l → lookup m left ≡ lookup m t
  above : (m : ℕ) → l + length rs ≤ m → lookup m left ≡ lookup m t

module _ (pos : ℕ → ℕ) (f : ℕ) (mono : (i j : ℕ) → f ≤ i → i < j → pos i < pos j) where
  pos-differs : (i j : ℕ) → f ≤ i → f ≤ j → (i ≡ j → ⊥) → pos i ≡ pos j → ⊥
  pos-differs i j h g q e =
      split j i
      (λ w. split i j (λ v. q (omega arith)) (λ v. omega (arith, mono j i g v)))
      (λ w. omega (arith, mono i j h w))

  clear-more : (s k : ℕ) (ks : List Link) (rs : List Ring) → f ≤ s → Rings f rs → Differs s k rs → Clear pos ks k rs → Clear pos (ks ++ link (pos s) 0 ∷ []) k rs
  unfolding Rings Differs Clear
  clear-more s k ks [] h g d c = tt
  clear-more s k ks (ring s' e' ∷ rs) h g d c = (
    (λ q. among-more (pos s') (pos s) 0 ks (c.0 q) (pos-differs s' s g.0 h (λ w. d.0 (sym w) (sym q)))),
    clear-more s k ks rs h g.1.1.1 d.1 c.1,
  )

  module _ (k : ℕ) (fk : f ≤ k) where
    pass-open : (l s e : ℕ) (rs : List Ring) (ks : List Link) (t : List Entry) → s ≡ k → s < e
        → lookup l t ≡ open_at pos k (ring s e) → Pass pos k (suc l) rs ks (entry l (pos k) ∷ t) → Pass pos k l (ring s e ∷ rs) ks t
    unfolding labels_at ring_links Holds
    pass-open l s e rs ks t h g q ih =
        record {
          left = ih.left;
          does = rw (eq-eqb s k h, ne_eqb e k (λ w. omega arith))
              (labels-cons l (labels_at k (suc l) rs) (pos k) ks ks t (entry l (pos k) ∷ t) (label-opens l (pos k) ks t (q ∙ open-before pos k s e (omega arith)))
              ∙ ih.does);
          holds = (
            ih.below l (omega arith) ∙ lookup-same l (pos k) t ∙ ap (λ (z : ℕ). some (pos z)) (sym h) ∙ sym (open-during pos (suc k) s e (omega arith) (omega arith)),
            ih.holds,
          );
          below = λ m w. ih.below m (omega arith) ∙ lookup-other m l (pos k) t (omega arith);
          above = λ m w. ih.above m (omega arith) ∙ lookup-other m l (pos k) t (omega arith);
        }

    pass-close : (l s e : ℕ) (rs : List Ring) (ks : List Link) (t : List Entry) → e ≡ k → f ≤ s → s < e → among (pos s) ks ≡ false
        → lookup l t ≡ open_at pos k (ring s e) → Pass pos k (suc l) rs (ks ++ link (pos s) 0 ∷ []) (remove l t) → Pass pos k l (ring s e ∷ rs) ks t
    unfolding labels_at ring_links Holds
    pass-close l s e rs ks t h fs g c q ih =
        record {
          left = ih.left;
          does = rw (ne_eqb s k (λ w. omega arith), eq-eqb e k h)
              (labels-cons l (labels_at k (suc l) rs) (pos k) ks (ks ++ link (pos s) 0 ∷ []) t (remove l t)
              (label-closes l (pos k) (pos s) ks t (q ∙ open-during pos k s e (omega arith) (omega arith)) (pos-differs s k fs fk (omega arith)) c)
              ∙ (ih.does ∙ ap (λ (z : List Link). links z ih.left) (append_assoc ks (link (pos s) 0 ∷ []) (ring_links pos k rs))));
          holds = (ih.below l (omega arith) ∙ lookup-removed l t ∙ sym (open_gone pos (suc k) s e (omega arith) (omega arith)), ih.holds);
          below = λ m w. ih.below m (omega arith) ∙ lookup-remove-other m l t (omega arith);
          above = λ m w. ih.above m (omega arith) ∙ lookup-remove-other m l t (omega arith);
        }

    pass-skip : (l s e : ℕ) (rs : List Ring) (ks : List Link) (t : List Entry) → (s ≡ k → ⊥) → (e ≡ k → ⊥)
        → lookup l t ≡ open_at pos k (ring s e) → Pass pos k (suc l) rs ks t → Pass pos k l (ring s e ∷ rs) ks t
    unfolding labels_at ring_links Holds
    pass-skip l s e rs ks t h g q ih =
        record {
          left = ih.left;
          does = rw (ne_eqb s k h, ne_eqb e k g) ih.does;
          holds = (ih.below l (omega arith) ∙ q ∙ sym (open-same pos k s e h g), ih.holds);
          below = λ m w. ih.below m (omega arith);
          above = λ m w. ih.above m (omega arith);
        }

    pass : (l : ℕ) (rs : List Ring) (ks : List Link) (t : List Entry) → Rings f rs → Clear pos ks k rs → Holds pos k l rs t → Pass pos k l rs ks t
    unfolding labels_at ring_links labels Holds Clear Rings
    pass l [] ks t g c h =
        record { left = t; does = ap (λ (z : List Link). links z t) (sym (append-nil ks)); holds = tt; below = λ m w. refl; above = λ m w. refl }
    pass l (ring s e ∷ rs) ks t g c h = go (pass (suc l) rs) (eqb s k) refl (eqb e k) refl
      where
        go : ((ks' : List Link) (t' : List Entry) → Rings f rs → Clear pos ks' k rs → Holds pos k (suc l) rs t' → Pass pos k (suc l) rs ks' t')
            → (x : Bool) → eqb s k ≡ x → (y : Bool) → eqb e k ≡ y → Pass pos k l (ring s e ∷ rs) ks t
        go ih true p y p' =
            pass-open l s e rs ks t (eqb-true s k p) g.1.0 h.0
            (ih ks (entry l (pos k) ∷ t) g.1.1.1 c.1
            (holds_same pos k (suc l) rs t (entry l (pos k) ∷ t) (λ m w. lookup-other m l (pos k) t (omega arith)) h.1))
        go ih false p true p' =
            pass-close l s e rs ks t (eqb-true e k p') g.0 g.1.0 (c.0 (eqb-true e k p')) h.0
            (ih (ks ++ link (pos s) 0 ∷ []) (remove l t) g.1.1.1
            (clear-more s k ks rs g.0 g.1.1.1 (subst (λ (z : ℕ). Differs s z rs) (eqb-true e k p') g.1.1.0) c.1)
            (holds_same pos k (suc l) rs t (remove l t) (λ m w. lookup-remove-other m l t (omega arith)) h.1))
        go ih false p false p' = pass-skip l s e rs ks t (eqb-false s k p) (eqb-false e k p') h.0 (ih ks t g.1.1.1 c.1 h.1)

-- ---- what is asked of a chain

-- a part that reads by itself, and whose labels are below the rings' and not open
pub record Fits (l : ℕ) (ext : List Entry) (p : Part) : Type 0 where
  pub hangs : Hangs p
  pub free : EachLabel (λ (m : ℕ). (m < l) × (lookup m ext ≡ none)) p.pieces

unfoldable pub PartsFit : ℕ → List Entry → List Part → Type 0
PartsFit l ext [] = Unit {0}
PartsFit l ext (p ∷ ps) = Fits l ext p × PartsFit l ext ps

unfoldable pub CarbonsFit : ℕ → List Entry → List Carbon → Type 0
CarbonsFit l ext [] = Unit {0}
CarbonsFit l ext (c ∷ cs) = PartsFit l ext c.parts × CarbonsFit l ext cs

-- no ring joins carbon k to the next
unfoldable pub NoShort : ℕ → List Ring → Type 0
NoShort k [] = Unit {0}
NoShort k (ring s e ∷ rs) = (s ≡ k → e ≡ suc k → ⊥) × NoShort k rs

-- a ring of two neighbours has a bridge between them
unfoldable pub Bridged : ℕ → List Ring → List Carbon → Type 0
Bridged k rs [] = Unit {0}
Bridged k rs (c ∷ cs) = (c.bridge ≡ false → NoShort k rs) × Bridged (suc k) rs cs

-- the number after the last carbon's
unfoldable pub past : ℕ → List Carbon → ℕ
past k [] = k
past k (c ∷ cs) = past (suc k) cs

-- every ring ends before carbon k
unfoldable pub EndsBy : ℕ → List Ring → Type 0
EndsBy k [] = Unit {0}
EndsBy k (ring s e ∷ rs) = (e < k) × EndsBy k rs

-- rings that stand on the chain whose first carbon is f
pub record RingsFit (f : ℕ) (rs : List Ring) (cs : List Carbon) : Type 0 where
  pub rings : Rings f rs
  pub ends : EndsBy (past f cs) rs
  pub bridged : Bridged f rs cs

-- ---- one carbon

free-at : (k l : ℕ) (rs : List Ring) (ext : List Entry) → ((m : ℕ) → l ≤ m → m < l + length rs → lookup m ext ≡ none) → EachOf (Shut ext) (labels_at k l rs)
unfolding labels_at
free-at k l [] ext h = tt
free-at k l (ring s e ∷ rs) ext h = go (eqb s k || eqb e k) (free-at k (suc l) rs ext (λ m a b. h m (omega arith) (omega arith)))
  where
    go : (x : Bool) → EachOf (Shut ext) (labels_at k (suc l) rs) → EachOf (Shut ext) (cond x (l ∷ labels_at k (suc l) rs) (labels_at k (suc l) rs))
    go true r = (h l (omega arith) (omega arith), r)
    go false r = r

-- a carbon with the mark before it, up to its branches
reads-carbon : (m : ℕ) (ls : List ℕ) (n prev : ℕ) (stk : List ℕ) (t t' : List Entry) (ks : List Link)
    → labels ls n (link prev (plainly m) ∷ []) t ≡ links ks t'
    → Reads (mark_pieces m ++ (atom (ascii "C") ls ∷ [])) (st n prev stk t after) (row (ascii "C") ks ∷ []) (st (suc n) n stk t' after)
unfolding mark_pieces plainly joins
reads-carbon zero ls n prev stk t t' ks e = reads-cons (steps-atom (ascii "C") ls n prev stk t after ks t' e) (reads-nil _)
reads-carbon (suc m) ls n prev stk t t' ks e =
    reads-cons (steps-mark (suc m) n prev stk t) (reads-cons (steps-atom (ascii "C") ls n prev stk t (marked (plainly (suc m))) ks t' e) (reads-nil _))

-- its branches, over open labels of which none is below the rings'
reads-parts : (ps : List Part) (l n self : ℕ) (stk : List ℕ) (t ext : List Entry) → self < n → ((m : ℕ) → m < l → lookup m t ≡ none) → PartsFit l ext ps
    → Reads (part_pieces ps) (st n self stk (t ++ ext) after) (part_rows self n ps) (st (parts_end n ps) self stk (t ++ ext) after)
unfolding part_pieces part_rows parts_end PartsFit
reads-parts [] l n self stk t ext h q f = reads-nil _
reads-parts (p ∷ ps) l n self stk t ext h q f =
    reads-append (frame-branch f.0.hangs n self stk (t ++ ext) h (each-label-map (λ m w. lookup-append m t ext (q m w.0) ∙ w.1) p.pieces f.0.free))
    (reads-parts ps l (n + p.size) self stk t ext (omega arith) q f.1)

reads-bridge : (b : Bool) (n self : ℕ) (stk : List ℕ) (t : List Entry)
    → Reads (bridge_pieces b) (st n self stk t after) (bridge_rows b self) (st (bridge_end b n) (bridge_last b self n) stk t after)
unfolding bridge_pieces bridge_rows bridge_end bridge_last joins
reads-bridge true n self stk t = reads-cons (steps-plain (ascii "O") n self stk t after) (reads-nil _)
reads-bridge false n self stk t = reads-nil _

-- ---- all carbons

-- `pos` gives each carbon's atom, from carbon k, at atom n, on
Follows : (ℕ → ℕ) → ℕ → ℕ → List Carbon → Type 0
Follows pos k n [] = Unit {0}
Follows pos k n (c ∷ cs) = (pos k ≡ n) × Follows pos (suc k) (carbon_end n c) cs

pub parts_end-le : (n : ℕ) (ps : List Part) → n ≤ parts_end n ps
unfolding parts_end
parts_end-le n [] = omega arith
parts_end-le n (p ∷ ps) = omega (arith, parts_end-le (n + p.size) ps)

-- the carbons from k on read, from open labels t of their rings, over others; `left` are the rings' labels that are open then
record Chained (pos : ℕ → ℕ) (rs : List Ring) (l k n prev : ℕ) (cs : List Carbon) (stk : List ℕ) (t ext : List Entry) : Type 0 where
  left : List Entry
  does : Reads (chain_pieces rs l k cs) (st n prev stk (t ++ ext) after) (rows_of (carbon_members pos rs k n prev cs)) (st (chain_end n cs) (chain_last n prev cs) stk (left ++ ext) after)
  holds : Holds pos (past k cs) l rs left
  below : (m : ℕ) → m < l → lookup m left ≡ lookup m t
  above : (m : ℕ) → l + length rs ≤ m → lookup m left ≡ lookup m t

module _ (pos : ℕ → ℕ) (f : ℕ) (mono : (i j : ℕ) → f ≤ i → i < j → pos i < pos j) where
  -- no ring starts at `a`
  clear_apart : (a m k : ℕ) (rs : List Ring) → Rings f rs → ((s : ℕ) → f ≤ s → s < k → pos s ≡ a → ⊥) → Clear pos (link a m ∷ []) k rs
  unfolding Rings Clear among
  clear_apart a m k [] g h = tt
  clear_apart a m k (ring s e ∷ rs) g h =
      ((λ q. rw (ne_eqb (pos s) a (h s g.0 (omega (arith, g.1.0))))), clear_apart a m k rs g.1.1.1 h)

  clear-near : (m k : ℕ) (rs : List Ring) → f ≤ k → Rings f rs → NoShort k rs → Clear pos (link (pos k) m ∷ []) (suc k) rs
  unfolding Rings Clear NoShort among
  clear-near m k [] fk g h = tt
  clear-near m k (ring s e ∷ rs) fk g h =
      ((λ q. rw (ne_eqb (pos s) (pos k) (pos-differs pos f mono s k g.0 fk (λ w. h.0 w q)))), clear-near m k rs fk g.1.1.1 h.1)

  clear_next : (c : Carbon) (m k n : ℕ) (rs : List Ring) → f ≤ k → pos k ≡ n → Rings f rs → (c.bridge ≡ false → NoShort k rs)
      → Clear pos (link (carbon_last n c) m ∷ []) (suc k) rs
  unfolding carbon_last bridge_last
  clear_next c m k n rs fk e g h = go c.bridge h
    where
      far : (s : ℕ) → f ≤ s → s < suc k → pos s ≡ parts_end (suc n) c.parts → ⊥
      far s fs w q =
          split k s
          (λ v. omega (arith, parts_end-le (suc n) c.parts, ap pos (le_antisymm (omega arith) v)))
          (λ v. omega (arith, parts_end-le (suc n) c.parts, mono s k fs v))

      go : (b : Bool) → (b ≡ false → NoShort k rs) → Clear pos (link (bridge_last b n (parts_end (suc n) c.parts)) m ∷ []) (suc k) rs
      go true h' = clear_apart (parts_end (suc n) c.parts) m (suc k) rs g far
      go false h' = rw (← e) (clear-near m k rs fk g (h' refl))

  module _ (rs : List Ring) (good : Rings f rs) (l : ℕ)
      (stk : List ℕ) (ext : List Entry) (free : (m : ℕ) → l ≤ m → m < l + length rs → lookup m ext ≡ none) where
    chained-cons : (c : Carbon) (cs : List Carbon) (k n prev : ℕ) (t : List Entry) → pos k ≡ n → ((m : ℕ) → m < l → lookup m t ≡ none) → PartsFit l ext c.parts
        → (q : Pass pos k l rs (link prev (plainly c.before) ∷ []) t)
        → Chained pos rs l (suc k) (carbon_end n c) (carbon_last n c) cs stk q.left ext → Chained pos rs l k n prev (c ∷ cs) stk t ext
    unfolding chain_pieces chain_end chain_last past carbon_end carbon_last
    chained-cons c cs k n prev t e lo fit q z =
        record {
          left = z.left;
          does =
              rw (carbon-rows pos rs k n prev c cs)
              (reads-append
              (reads-carbon c.before (labels_at k l rs) n prev stk (t ++ ext) (q.left ++ ext) (link prev (plainly c.before) ∷ ring_links pos k rs)
              (labels-over (labels_at k l rs) n (link prev (plainly c.before) ∷ []) (link prev (plainly c.before) ∷ ring_links pos k rs) t q.left ext
              (free-at k l rs ext free) (rw e at q.does)))
              (reads-append (reads-parts c.parts l (suc n) n stk q.left ext (omega arith) (λ m g. q.below m g ∙ lo m g) fit)
              (reads-append (reads-bridge c.bridge (parts_end (suc n) c.parts) n stk (q.left ++ ext)) z.does)));
          holds = z.holds;
          below = λ m g. z.below m g ∙ q.below m g;
          above = λ m g. z.above m g ∙ q.above m g;
        }

    chained : (cs : List Carbon) (k n prev : ℕ) (t : List Entry) → f ≤ k → ((m : ℕ) → m < l → lookup m t ≡ none) → CarbonsFit l ext cs → Follows pos k n cs → Bridged k rs cs
        → ((m : ℕ) → Clear pos (link prev m ∷ []) k rs) → Holds pos k l rs t → Chained pos rs l k n prev cs stk t ext
    unfolding chain_pieces carbon_members rows_of chain_end chain_last Follows Bridged CarbonsFit past
    chained [] k n prev t fk lo fit w b c h = record { left = t; does = reads-nil _; holds = h; below = λ m q. refl; above = λ m q. refl }
    chained (x ∷ cs) k n prev t fk lo fit w b c h =
        let q : Pass pos k l rs (link prev (plainly x.before) ∷ []) t = pass pos f mono k fk l rs (link prev (plainly x.before) ∷ []) t good (c (plainly x.before)) h in
        chained-cons x cs k n prev t w.0 lo fit.0 q
        (chained cs (suc k) (carbon_end n x) (carbon_last n x) q.left (omega arith) (λ m g. q.below m g ∙ lo m g) fit.1 w.1 b.1
        (λ m. clear_next x m k n rs fk w.0 good b.0) q.holds)

holds-first : (pos : ℕ → ℕ) (f l : ℕ) (rs : List Ring) → Rings f rs → Holds pos f l rs []
unfolding Rings Holds lookup
holds-first pos f l [] g = tt
holds-first pos f l (ring s e ∷ rs) g = (sym (open-before pos f s e g.0), holds-first pos f (suc l) rs g.1.1.1)

holds-last : (pos : ℕ → ℕ) (f k l : ℕ) (rs : List Ring) (t : List Entry) → Rings f rs → EndsBy k rs → Holds pos k l rs t
    → (m : ℕ) → l ≤ m → m < l + length rs → lookup m t ≡ none
unfolding Rings Holds EndsBy
holds-last pos f k l [] t g b h m a c = absurd (omega arith)
holds-last pos f k l (ring s e ∷ rs) t g b h m a c =
    split m l
    (λ q. ap (λ (z : ℕ). lookup z t) (le_antisymm q a) ∙ h.0 ∙ open_gone pos k s e (omega (arith, g.1.0, b.0)) b.0)
    (λ q. holds-last pos f k (suc l) rs t g.1.1.1 b.1 h.1 m q (omega arith))

-- ---- each carbon's atom

pub carbon_end-lt : (n : ℕ) (c : Carbon) → n < carbon_end n c
unfolding carbon_end
carbon_end-lt n c = go c.bridge
  where
    go : (b : Bool) → n < bridge_end b (parts_end (suc n) c.parts)
    go true = omega (arith, parts_end-le (suc n) c.parts)
    go false = omega (arith, parts_end-le (suc n) c.parts)

pub atom_from-le : (cs : List Carbon) (n j : ℕ) → n + j ≤ atom_from n cs j
unfolding atom_from
atom_from-le [] n j = omega arith
atom_from-le (c ∷ cs) n zero = omega arith
atom_from-le (c ∷ cs) n (suc j) = omega (arith, atom_from-le cs (carbon_end n c) j, carbon_end-lt n c)

atom_from-rises : (cs : List Carbon) (n i j : ℕ) → i < j → atom_from n cs i < atom_from n cs j
unfolding atom_from
atom_from-rises [] n i j h = omega arith
atom_from-rises (c ∷ cs) n i zero h = absurd (omega arith)
atom_from-rises (c ∷ cs) n zero (suc j) h = omega (arith, atom_from-le cs (carbon_end n c) j, carbon_end-lt n c)
atom_from-rises (c ∷ cs) n (suc i) (suc j) h = atom_from-rises cs (carbon_end n c) i j (omega arith)

-- a later carbon is a later atom
pub atom_of-rises : (f n : ℕ) (cs : List Carbon) (i j : ℕ) → f ≤ i → i < j → atom_of f n cs i < atom_of f n cs j
unfolding atom_of
atom_of-rises f n cs i j h g = atom_from-rises cs n (i - f) (j - f) (omega arith)

follows : (pos : ℕ → ℕ) (cs : List Carbon) (k n : ℕ) → ((j : ℕ) → pos (k + j) ≡ atom_from n cs j) → Follows pos k n cs
unfolding Follows atom_from
follows pos [] k n h = tt
follows pos (c ∷ cs) k n h =
    (ap pos (omega arith) ∙ h zero, follows pos cs (suc k) (carbon_end n c) (λ j. ap pos (omega arith) ∙ h (suc j)))

atom_of-follows : (f n : ℕ) (cs : List Carbon) → Follows (atom_of f n cs) f n cs
unfolding atom_of
atom_of-follows f n cs = follows (atom_of f n cs) cs f n (λ j. ap (atom_from n cs) (omega arith))

-- ---- THE CHAIN LAW

-- The chain reads after the atom `cur`, in any state in which the labels of its rings, from l on, are not open. Stack and open labels stay.
pub chain : (f : ℕ) (rs : List Ring) (cs : List Carbon) → RingsFit f rs cs
    → (n cur : ℕ) (stk : List ℕ) (ext : List Entry) (l : ℕ) → CarbonsFit l ext cs → ((m : ℕ) → l ≤ m → m < l + length rs → lookup m ext ≡ none)
    → Reads (chain_pieces rs l f cs) (st n cur stk ext after) (rows_of (chain_members f rs cs n cur)) (st (chain_end n cs) (chain_last n cur cs) stk ext after)
unfolding lookup chain_members
chain f rs cs good n cur stk ext l fit free =
    let z : Chained (atom_of f n cs) rs l f n cur cs stk [] ext =
    chained (atom_of f n cs) f (atom_of-rises f n cs) rs good.rings l stk ext free cs f n cur [] (omega arith) (λ m g. refl) fit (atom_of-follows f n cs) good.bridged
    (λ m. clear_apart (atom_of f n cs) f (atom_of-rises f n cs) cur m f rs good.rings (λ s fs v q. omega arith)) (holds-first (atom_of f n cs) f l rs good.rings) in
    finish z
  where
    finish : Chained (atom_of f n cs) rs l f n cur cs stk [] ext
        → Reads (chain_pieces rs l f cs) (st n cur stk ext after) (rows_of (carbon_members (atom_of f n cs) rs f n cur cs)) (st (chain_end n cs) (chain_last n cur cs) stk ext after)
    finish z = rw (nothing-open z.left none_left) at z.does
      where
        none_left : (m : ℕ) → lookup m z.left ≡ none
        none_left m =
            split l m
            (λ q. split (l + length rs) m (λ v. z.above m v) (λ v. holds-last (atom_of f n cs) f (past f cs) l rs z.left good.rings good.ends z.holds m q v))
            (λ q. z.below m q)

-- ---- the parts that float

pub floats : (ps : List Part) (l n cur : ℕ) (stk : List ℕ) (ext : List Entry) → PartsFit l ext ps
    → Reads (float_pieces ps) (st n cur stk ext after) (rows_of (float_members n ps)) (st (float_end n ps) (float_last n cur ps) stk ext after)
unfolding float_pieces float_end float_last joins PartsFit
floats [] l n cur stk ext f = unfold float_members rows_of in reads-nil _
floats (p ∷ ps) l n cur stk ext f =
    rw (float-rows n p ps)
    (reads-append
    (reads-cons (steps-dot n cur stk ext)
    (reads-cons (steps-plain (ascii "*") n cur stk ext fresh)
    (frame-after f.0.hangs (suc n) n stk ext (omega arith) (each-label-map (λ m w. w.1) p.pieces f.0.free))))
    (floats ps l (suc n + p.size) (place n (suc n) p.last) stk ext f.1))
