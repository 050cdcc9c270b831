-- How long the text of a template is with its chains, how many atoms it has, and how long the blocks of its chains are. Assumes nothing.
use Prim.Native.Nat.{ℕ, suc, ◌+◌, ◌*◌, ◌≤◌}
use native.Mathlib.Omega.{arith}
use mathlib.Core.Path.{◌≡◌, refl, sym, ap, ◌∙◌}
use mathlib.Core.Bool.{Bool, true, false, cond, ◌&&◌}
use mathlib.Core.Option.{Option, none, some}
use mathlib.Core.List.{List, [], ◌∷◌, ◌++◌, append_assoc, append-nil, map}
use lib.Dec.{ltb}
use lib.ListN.{length, length-append}
use Rattle.chain_record.specs.plain.Chain.{Chain}
use Rattle.reading_rules.specs.reading.Ascii.{ascii}
use Rattle.reading_rules.specs.reading.Piece.{Piece, show_piece, show_labels, show}
use Rattle.reading_rules.specs.reading.Template.{Item, piece, item_pieces, next_label, template_pieces}
use Rattle.reading_rules.specs.reading.Molecule.{At}
use Rattle.reading_rules.specs.reading.Show.{up_to_last}
use Rattle.reading_rules.proofs.reading.PartingLaws.{All}
use Rattle.reading_rules.proofs.reading.ShowLex.{show-append}
use Rattle.chain_rules.specs.declared.chain.Role.{Role}
use Rattle.chain_rules.specs.declared.chain.Role.TheVariants.{Slot, Acyl, Base}
use Rattle.chain_rules.specs.chain.Drawing.{carbons}
use Rattle.chain_rules.proofs.chain.Lists.{all_append}
use Rattle.chain_rules.proofs.chain.Atoms.{chain_end-le, atoms_end-le}
use Rattle.template_rules.specs.Template.{Element, fixed, tail, slot, chain}
use Rattle.template_rules.specs.Drawn.{Placed, nonempty, fixed_pieces, tail_part, atoms_of_pieces, site_of, place, atoms_after, placed_from, chain_item, slot_oxygen, items_of, all_items, site_note, sn_sites, by_sn, labels}
use Rattle.template_rules.specs.Built.{element_atoms, element_variables, element_placed, atoms_from}
use Rattle.template_rules.proofs.BuiltLaws.{placed-cons}
use Rattle.template_rules.proofs.Sorted.{all-sorted, length-sorted, sites-count}
use Rattle.placement.specs.chain_notes.Fragment.{summed}
use Rattle.class_lines.specs.longest.Longest.{sites_most, numbers_most, chain_most, chain_most_of}
use Rattle.class_lines.proofs.longest.Texts.{text-most, atoms-most}
use Rattle.class_lines.proofs.longest.Chains.{Modest, block_most, Kept}

-- ---- sums

abbrev blocks_of : Placed → ℕ
blocks_of p = block_most p.role p.chain

summed-append : {B : Type 0} (f : B → ℕ) (xs ys : List B) → summed f (xs ++ ys) ≡ summed f xs + summed f ys
unfolding summed
summed-append f [] ys = omega arith
summed-append f (x ∷ xs) ys = omega (arith, summed-append f xs ys)

-- items one after the other, some label coming after the first ones
pieces-apart : (a b : List Item) (l : ℕ) → (m : ℕ) × (template_pieces l (a ++ b) ≡ template_pieces l a ++ template_pieces m b)
unfolding template_pieces
pieces-apart [] b l = (l, refl)
pieces-apart (i ∷ a) b l =
    let r = pieces-apart a b (next_label l i) in
    (r.0, ap (λ (us : List Piece). item_pieces l i ++ us) r.1 ∙ sym (append_assoc (item_pieces l i) (template_pieces (next_label l i) a) (template_pieces r.0 b)))

own-pieces : (us : List Piece) (l : ℕ) → template_pieces l (map piece us) ≡ us
unfolding template_pieces item_pieces next_label
own-pieces [] l = refl
own-pieces (u ∷ us) l = ap (λ (vs : List Piece). u ∷ vs) (own-pieces us l)

-- ---- a chain

-- the text, the atoms and the blocks of a chain that follows n atoms
chain-weighs : (sn : ℕ) (r : Role) (s : Option ℕ) (l n v : ℕ) (o : Option Chain)
    → length (show (template_pieces l (chain_item r o))) + atoms_after r n o + summed blocks_of (place sn r s n v o) ≤ n + chain_most_of r o
unfolding template_pieces show summed chain_most numbers_most sites_most block_most
chain-weighs sn r s l n v none = omega arith
chain-weighs sn r s l n v (some d) = rw append-nil (omega (arith, text-most r d l, atoms-most r d n))

-- ---- an element

module _ (t : List ℕ) (ds : List Chain) where
  unfoldable pub weight : Element → ℕ
  weight (fixed b) = length (show (fixed_pieces b)) + atoms_of_pieces (fixed_pieces b)
  weight tail = length (show (tail_part t).pieces) + (tail_part t).size
  weight (slot sn) = 2 + chain_most_of Slot (nonempty sn ds)
  weight (chain sn r) = chain_most_of r (nonempty sn ds)

  element-weighs : (l n v : ℕ) (e : Element)
      → length (show (template_pieces l (items_of t ds e))) + element_atoms t ds n e + summed blocks_of (element_placed ds n v e) ≤ n + weight e
  unfolding weight items_of element_atoms element_placed summed template_pieces item_pieces next_label slot_oxygen show show_piece show_labels ascii
  element-weighs l n v (fixed b) = rw (own-pieces (fixed_pieces b) l) (omega arith)
  element-weighs l n v tail = rw append-nil (omega arith)
  element-weighs l n v (slot sn) = omega (arith, chain-weighs sn Slot (site_of Slot n) l (suc n) v (nonempty sn ds))
  element-weighs l n v (chain sn r) = chain-weighs sn r (site_of r n) l n v (nonempty sn ds)

  -- ---- a template

  pub template-weighs : (es : List Element) (l n v : ℕ)
      → length (show (template_pieces l (all_items t ds es))) + atoms_from t ds n es + summed blocks_of (placed_from t ds n v es) ≤ n + summed weight es
  unfolding all_items atoms_from placed_from summed template_pieces show
  template-weighs [] l n v = omega arith
  template-weighs (e ∷ es) l n v =
      let r = pieces-apart (items_of t ds e) (all_items t ds es) l in
      let m = element_atoms t ds n e in
      let w = element_variables ds v e in
      rw (r.1, show-append (template_pieces l (items_of t ds e)) (template_pieces r.0 (all_items t ds es)), placed-cons t ds n v e es)
      (omega (
        arith,
        length-append (show (template_pieces l (items_of t ds e))) (show (template_pieces r.0 (all_items t ds es))),
        summed-append blocks_of (element_placed ds n v e) (placed_from t ds m w es),
        element-weighs l n v e,
        template-weighs es r.0 m w,
      ))

  -- ---- the chains that it places

  after-up : (r : Role) (n : ℕ) (o : Option Chain) → n ≤ atoms_after r n o
  after-up r n none = omega arith
  after-up r n (some d) = omega (arith, chain_end-le n (carbons r d), atoms_end-le r d n)

  element-up : (n : ℕ) (e : Element) → n ≤ element_atoms t ds n e
  unfolding element_atoms
  element-up n (fixed b) = omega arith
  element-up n tail = omega arith
  element-up n (slot sn) = omega (arith, after-up Slot (suc n) (nonempty sn ds))
  element-up n (chain sn r) = after-up r n (nonempty sn ds)

  template-up : (es : List Element) (n : ℕ) → n ≤ atoms_from t ds n es
  unfolding atoms_from
  template-up [] n = omega arith
  template-up (e ∷ es) n = omega (arith, element-up n e, template-up es (element_atoms t ds n e))

  -- what is asked of the chain of an element
  abbrev pub KeptAt : Role → ℕ → Type 0
  KeptAt r sn = (d : Chain) → nonempty sn ds ≡ some d → Modest r d

  abbrev pub KeptIn : Element → Type 0
  KeptIn (fixed b) = Unit {0}
  KeptIn tail = Unit {0}
  KeptIn (slot sn) = KeptAt Slot sn
  KeptIn (chain sn r) = KeptAt r sn

  place_kept : (sn : ℕ) (r : Role) (s : Option ℕ) (n v : ℕ) (o : Option Chain) → ((d : Chain) → o ≡ some d → Modest r d) → All Kept (place sn r s n v o)
  place_kept sn r s n v none h = tt
  place_kept sn r s n v (some d) h = (h d refl, tt)

  element-kept : (n v : ℕ) (e : Element) → KeptIn e → All Kept (element_placed ds n v e)
  unfolding element_placed
  element-kept n v (fixed b) h = tt
  element-kept n v tail h = tt
  element-kept n v (slot sn) h = place_kept sn Slot (site_of Slot n) (suc n) v (nonempty sn ds) h
  element-kept n v (chain sn r) h = place_kept sn r (site_of r n) n v (nonempty sn ds) h

  pub template-kept : (es : List Element) (n v : ℕ) → All KeptIn es → All Kept (placed_from t ds n v es)
  unfolding placed_from
  template-kept [] n v h = tt
  template-kept (e ∷ es) n v h =
      let m = element_atoms t ds n e in
      let w = element_variables ds v e in
      rw (placed-cons t ds n v e es) (all_append Kept (element_placed ds n v e) (placed_from t ds m w es) (element-kept n v e h.0) (template-kept es m w h.1))

  -- ---- their sites

  -- a site comes no later than m
  abbrev By : ℕ → Option ℕ → Type 0
  By m none = Unit {0}
  By m (some i) = i ≤ m

  abbrev SitedBy : ℕ → Placed → Type 0
  SitedBy m p = By m p.site

  site-by : (m : ℕ) (r : Role) (n : ℕ) → n ≤ m → By m (site_of r n)
  site-by m Slot n h = h
  site-by m Acyl n h = h
  site-by m Base n h = tt

  place-sited : (m sn : ℕ) (r : Role) (s : Option ℕ) (n v : ℕ) (o : Option Chain) → By m s → All (SitedBy m) (place sn r s n v o)
  place-sited m sn r s n v none h = tt
  place-sited m sn r s n v (some d) h = (h, tt)

  element-sited : (m n v : ℕ) (e : Element) → n ≤ m → All (SitedBy m) (element_placed ds n v e)
  unfolding element_placed
  element-sited m n v (fixed b) h = tt
  element-sited m n v tail h = tt
  element-sited m n v (slot sn) h = place-sited m sn Slot (site_of Slot n) (suc n) v (nonempty sn ds) (site-by m Slot n h)
  element-sited m n v (chain sn r) h = place-sited m sn r (site_of r n) n v (nonempty sn ds) (site-by m r n h)

  template-sited : (es : List Element) (n v m : ℕ) → atoms_from t ds n es ≤ m → All (SitedBy m) (placed_from t ds n v es)
  unfolding atoms_from placed_from
  template-sited [] n v m h = tt
  template-sited (e ∷ es) n v m h =
      let k = element_atoms t ds n e in
      let w = element_variables ds v e in
      rw (placed-cons t ds n v e es)
      (all_append (SitedBy m) (element_placed ds n v e) (placed_from t ds k w es)
      (element-sited m n v e (omega (arith, element-up n e, template-up es k))) (template-sited es k w m h))

  -- ---- the labels of its sites

  last-by : (m : ℕ) (ps : List Placed) → All (SitedBy m) ps → up_to_last (sn_sites ps) ≤ suc m
  unfolding sn_sites up_to_last
  last-by m [] h = omega arith
  last-by m (p ∷ ps) h = go p.site h.0 (last-by m ps h.1)
    where
      go : (s : Option ℕ) → By m s → up_to_last (sn_sites ps) ≤ suc m → up_to_last (site_note s p.sn ++ sn_sites ps) ≤ suc m
      go none a b = b
      go (some i) a b = omega arith

  -- the labels stand at sites, and there are no more than chains
  pub labels-weigh : (swap : Bool) (es : List Element)
      → let ls = labels swap (sn_sites (by_sn (placed_from t ds 0 0 es))) in up_to_last ls + 7 * length ls ≤ 1 + atoms_from t ds 0 es + 7 * length (placed_from t ds 0 0 es)
  unfolding labels up_to_last
  labels-weigh swap es = go (swap && ltb 1 (length all))
    where
      ps : List Placed
      ps = placed_from t ds 0 0 es

      all : List (At ℕ)
      all = sn_sites (by_sn ps)

      go : (b : Bool) → up_to_last (cond b all []) + 7 * length (cond b all []) ≤ 1 + atoms_from t ds 0 es + 7 * length ps
      go true =
          let m = atoms_from t ds 0 es in
          omega (
            arith,
            last-by m (by_sn ps) (all-sorted (SitedBy m) ps (template-sited es 0 0 m (omega arith))),
            sites-count (by_sn ps),
            length-sorted ps,
          )
      go false = omega arith
