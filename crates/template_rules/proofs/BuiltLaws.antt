-- Laws of the builder's state: elements one after the other.
-- Assumes nothing.
use Prim.Native.Nat.{ℕ, suc, ◌+◌}
use mathlib.Core.Path.{◌≡◌, refl, sym, ap, ◌∙◌}
use mathlib.Core.Option.{Option, none, some}
use mathlib.Core.List.{List, [], ◌∷◌, ◌++◌, append_assoc, append-nil, map}
use lib.ListN.{length}
use Rattle.chain_record.specs.plain.Chain.{Chain}
use Rattle.reading_rules.specs.reading.Piece.{Piece, show}
use Rattle.reading_rules.specs.reading.Template.{Item, piece, item_pieces, next_label, template_pieces}
use Rattle.reading_rules.proofs.reading.ShowLex.{show-append}
use Rattle.chain_rules.specs.declared.chain.Role.{Role}
use Rattle.chain_rules.specs.chain.Drawing.{chain_drawn, ring_pairs}
use Rattle.template_rules.specs.Template.{Element, fixed, tail, slot, chain}
use Rattle.template_rules.specs.Drawn.{Placed, nonempty, placed_from, chain_item, slot_oxygen, fixed_pieces, items_of, all_items}
use Rattle.template_rules.specs.Built.{chain_in, element_atoms, element_variables, labels_after, element_labels, element_placed, atoms_from, variables_from, labels_from}

-- the chains of elements, the first taken off
pub placed-cons : (t : List ℕ) (ds : List Chain) (n v : ℕ) (e : Element) (es : List Element)
    → placed_from t ds n v (e ∷ es) ≡ element_placed ds n v e ++ placed_from t ds (element_atoms t ds n e) (element_variables ds v e) es
unfolding placed_from element_placed element_atoms element_variables chain_in
placed-cons t ds n v (fixed b) es = refl
placed-cons t ds n v tail es = refl
placed-cons t ds n v (slot sn) es = refl
placed-cons t ds n v (chain sn r) es = refl

-- .. and the last
pub placed_snoc : (t : List ℕ) (ds : List Chain) (es : List Element) (n v : ℕ) (e : Element)
    → placed_from t ds n v (es ++ e ∷ []) ≡ placed_from t ds n v es ++ element_placed ds (atoms_from t ds n es) (variables_from ds v es) e
unfolding atoms_from variables_from placed_from
placed_snoc t ds [] n v e = placed-cons t ds n v e [] ∙ append-nil (element_placed ds n v e)
placed_snoc t ds (f ∷ es) n v e =
    let last : List Placed = element_placed ds (atoms_from t ds (element_atoms t ds n f) es) (variables_from ds (element_variables ds v f) es) e in
    placed-cons t ds n v f (es ++ e ∷ [])
    ∙ (ap (λ (ps : List Placed). element_placed ds n v f ++ ps) (placed_snoc t ds es (element_atoms t ds n f) (element_variables ds v f) e)
    ∙ (sym (append_assoc (element_placed ds n v f) (placed_from t ds (element_atoms t ds n f) (element_variables ds v f) es) last)
    ∙ ap (λ (ps : List Placed). ps ++ last) (sym (placed-cons t ds n v f es))))

pub atoms-snoc : (t : List ℕ) (ds : List Chain) (es : List Element) (n : ℕ) (e : Element) → atoms_from t ds n (es ++ e ∷ []) ≡ element_atoms t ds (atoms_from t ds n es) e
unfolding atoms_from
atoms-snoc t ds [] n e = refl
atoms-snoc t ds (f ∷ es) n e = atoms-snoc t ds es (element_atoms t ds n f) e

pub variables-snoc : (ds : List Chain) (es : List Element) (v : ℕ) (e : Element) → variables_from ds v (es ++ e ∷ []) ≡ element_variables ds (variables_from ds v es) e
unfolding variables_from
variables-snoc ds [] v e = refl
variables-snoc ds (f ∷ es) v e = variables-snoc ds es (element_variables ds v f) e

pub labels-snoc : (ds : List Chain) (es : List Element) (l : ℕ) (e : Element) → labels_from ds l (es ++ e ∷ []) ≡ element_labels ds (labels_from ds l es) e
unfolding labels_from
labels-snoc ds [] l e = refl
labels-snoc ds (f ∷ es) l e = labels-snoc ds es (element_labels ds l f) e

-- ---- the text

-- the next label after several items
next_labels : ℕ → List Item → ℕ
next_labels l [] = l
next_labels l (i ∷ is) = next_labels (next_label l i) is

pieces-append : (a b : List Item) (l : ℕ) → template_pieces l (a ++ b) ≡ template_pieces l a ++ template_pieces (next_labels l a) b
unfolding template_pieces next_labels
pieces-append [] b l = refl
pieces-append (i ∷ a) b l = ap (λ (us : List Piece). item_pieces l i ++ us) (pieces-append a b (next_label l i)) ∙ sym (append_assoc (item_pieces l i) (template_pieces (next_label l i) a) (template_pieces (next_labels (next_label l i) a) b))

labels_append : (a b : List Item) (l : ℕ) → next_labels l (a ++ b) ≡ next_labels (next_labels l a) b
unfolding next_labels
labels_append [] b l = refl
labels_append (i ∷ a) b l = labels_append a b (next_label l i)

-- a text of the template's own takes no label
labels-pieces : (us : List Piece) (l : ℕ) → next_labels l (map piece us) ≡ l
unfolding next_labels next_label
labels-pieces [] l = refl
labels-pieces (u ∷ us) l = labels-pieces us l

rings-pairs : (xs : List _) → length (ring_pairs xs) ≡ length xs
unfolding ring_pairs
rings-pairs [] = refl
rings-pairs (x ∷ xs) = ap suc (rings-pairs xs)

labels-chain : (r : Role) (o : Option Chain) (l : ℕ) → next_labels l (chain_item r o) ≡ labels_after l o
unfolding next_labels next_label chain_drawn
labels-chain r none l = refl
labels-chain r (some d) l = ap (λ (k : ℕ). l + k) (rings-pairs d.rings)

labels-items : (t : List ℕ) (ds : List Chain) (l : ℕ) (e : Element) → next_labels l (items_of t ds e) ≡ element_labels ds l e
unfolding items_of element_labels chain_in next_labels next_label slot_oxygen
labels-items t ds l (fixed b) = labels-pieces (fixed_pieces b) l
labels-items t ds l tail = refl
labels-items t ds l (slot sn) = labels-chain _ (nonempty sn ds) l
labels-items t ds l (chain sn r) = labels-chain r (nonempty sn ds) l

labels-all : (t : List ℕ) (ds : List Chain) (es : List Element) (l : ℕ) → next_labels l (all_items t ds es) ≡ labels_from ds l es
unfolding all_items labels_from next_labels
labels-all t ds [] l = refl
labels-all t ds (e ∷ es) l =
    labels_append (items_of t ds e) (all_items t ds es) l
    ∙ (ap (λ (k : ℕ). next_labels k (all_items t ds es)) (labels-items t ds l e) ∙ labels-all t ds es (element_labels ds l e))

items-snoc : (t : List ℕ) (ds : List Chain) (es : List Element) (e : Element) → all_items t ds (es ++ e ∷ []) ≡ all_items t ds es ++ items_of t ds e
unfolding all_items
items-snoc t ds [] e = append-nil (items_of t ds e)
items-snoc t ds (f ∷ es) e = ap (λ (is : List Item). items_of t ds f ++ is) (items-snoc t ds es e) ∙ sym (append_assoc (items_of t ds f) (all_items t ds es) (items_of t ds e))

-- the text of elements, the last taken off
pub text-snoc : (t : List ℕ) (ds : List Chain) (es : List Element) (e : Element) (l : ℕ)
    → show (template_pieces l (all_items t ds (es ++ e ∷ []))) ≡ show (template_pieces l (all_items t ds es)) ++ show (template_pieces (labels_from ds l es) (items_of t ds e))
text-snoc t ds es e l =
    ap (λ (is : List Item). show (template_pieces l is)) (items-snoc t ds es e)
    ∙ (ap show (pieces-append (all_items t ds es) (items_of t ds e) l)
    ∙ (show-append (template_pieces l (all_items t ds es)) (template_pieces (next_labels l (all_items t ds es)) (items_of t ds e))
    ∙ ap (λ (k : ℕ). show (template_pieces l (all_items t ds es)) ++ show (template_pieces k (items_of t ds e))) (labels-all t ds es l)))
