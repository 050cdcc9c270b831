-- Laws of a template that is built element by element.
-- Assumes nothing.
use Prim.Native.Nat.{ℕ, suc, ◌≤◌, ◌<◌, ◌^◌}
use native.Mathlib.Omega.{arith}
use mathlib.Core.Path.{◌≡◌, refl, sym, ap, ◌∙◌}
use mathlib.Core.Option.{Option, none, some}
use mathlib.Core.List.{List, [], ◌∷◌, ◌++◌, append-nil, append_assoc, map}
use lib.ListN.{length, length-append}
use Rattle.writer.specs.emit.Text.{Written}
use Rattle.writer.proofs.emit.Laws.{written-nil, written-append, written-length}
use Rattle.chain_record.specs.plain.Chain.{Chain}
use Rattle.reading_rules.specs.reading.Piece.{Piece, show}
use Rattle.reading_rules.specs.reading.Template.{piece, item_pieces, next_label, template_pieces}
use Rattle.chain_rules.specs.declared.chain.Role.{Role}
use Rattle.chain_rules.specs.declared.chain.Role.TheVariants.{Slot}
use Rattle.chain_rules.specs.chain.Drawing.{carbons}
use Rattle.chain_rules.proofs.chain.Atoms.{chain_end-le, atoms_end-le}
use Rattle.template_rules.specs.Template.{Element, fixed, tail, slot, chain}
use Rattle.template_rules.specs.Drawn as request
use Rattle.template_rules.specs.Drawn.{nonempty, fixed_pieces, tail_part, atoms_of_pieces, atoms_after, variables_after, items_of, all_items, placed_from}
use Rattle.template_rules.specs.Built.{chain_in, labels_after, element_atoms, element_variables, element_labels, element_placed, atoms_from, variables_from, labels_from}
use Rattle.template_rules.proofs.BuiltLaws.{placed_snoc, atoms-snoc, variables-snoc, labels-snoc, text-snoc}
use Rattle.line_builder.specs.declared.Variables.{Variables}
use Rattle.line_builder.specs.declared.Labels.{Labels}
use Rattle.placement.specs.declared.chain_notes.Placed.{Placed}
use Rattle.line_builder.specs.declared.Builder.{Builder}
use Rattle.placement.specs.chain_notes.Fragment.{noted, index_list, rows_of, gathered}
use Rattle.placement.proofs.chain_notes.Laws.{gathered-append}
use Rattle.line_builder.proofs.Pushes.{placed-kept}
use Rattle.line_builder.specs.Build.{Rooms, rooms, Sizes, Fresh, placed_in, Fits, Kept, Pushing, FixedPushed, StandsAt, SlotFits, BareFits, SlotPushed, BarePushed}
use Rattle.drawn_chain.specs.drawable.Chains.{Chains}
use Rattle.class_templates.specs.Templates.{FitsAll, Built, TailOf}

-- ---- an element where the builder stands

-- what it leads to can be kept
abbrev FitsElement : List ℕ → List Chain → Element → List Placed → Builder → Type 0
FitsElement t ds e ns b =
    Fits (element_atoms t ds b.atoms.0 e) (element_variables ds b.variables.0 e) (element_labels ds b.labels.0 e) (placed_in b ns ++ map noted (element_placed ds b.atoms.0 b.variables.0 e))

abbrev Pushed : List ℕ → List Chain → Element → Rooms → Builder → Rooms → Builder → Type 0
Pushed t ds e xs b ys q =
    Pushing (items_of t ds e) b.labels.0 (element_placed ds b.atoms.0 b.variables.0 e) xs b ys q (element_atoms t ds b.atoms.0 e) (element_variables ds b.variables.0 e) (element_labels ds b.labels.0 e)
    (placed_in b xs.notes ++ map noted (element_placed ds b.atoms.0 b.variables.0 e))

-- it is pushed, if it can be kept
abbrev Step : List ℕ → List Chain → Element → Rooms → Builder → Rooms → Builder → Type 0
Step t ds e xs b ys q = FitsElement t ds e xs.notes b → Pushed t ds e xs b ys q

-- ---- an element leads to no less

after-le : (r : Role) (n : ℕ) (o : Option Chain) → n ≤ atoms_after r n o
after-le r n none = omega arith
after-le r n (some d) = omega (arith, chain_end-le n (carbons r d), atoms_end-le r d n)

atoms-le : (t : List ℕ) (ds : List Chain) (n : ℕ) (e : Element) → n ≤ element_atoms t ds n e
unfolding element_atoms
atoms-le t ds n (fixed b) = omega arith
atoms-le t ds n tail = omega arith
atoms-le t ds n (slot sn) = omega (arith, after-le Slot (suc n) (nonempty sn ds))
atoms-le t ds n (chain sn r) = after-le r n (nonempty sn ds)

variables-le : (ds : List Chain) (v : ℕ) (e : Element) → v ≤ element_variables ds v e
unfolding element_variables
variables-le ds v e = go (chain_in ds e)
  where
    go : (o : Option Chain) → v ≤ variables_after v o
    go none = omega arith
    go (some d) = omega arith

labels-le : (ds : List Chain) (l : ℕ) (e : Element) → l ≤ element_labels ds l e
unfolding element_labels
labels-le ds l e = go (chain_in ds e)
  where
    go : (o : Option Chain) → l ≤ labels_after l o
    go none = omega arith
    go (some d) = omega arith

map-append : {A B : Type 0} (f : A → B) (a b : List A) → map f (a ++ b) ≡ map f a ++ map f b
map-append f [] b = refl
map-append f (x ∷ a) b = ap (λ l. f x ∷ l) (map-append f a b)

-- the chains with one element more
placed-more : (t : List ℕ) (ds : List Chain) (es : List Element) (e : Element)
    → map noted (placed_from t ds 0 0 (es ++ e ∷ [])) ≡ map noted (placed_from t ds 0 0 es) ++ map noted (element_placed ds (atoms_from t ds 0 es) (variables_from ds 0 es) e)
placed-more t ds es e =
    ap (λ (ps : List request.Placed). map noted ps) (placed_snoc t ds es 0 0 e)
    ∙ map-append noted (placed_from t ds 0 0 es) (element_placed ds (atoms_from t ds 0 es) (variables_from ds 0 es) e)

-- what all elements lead to can be kept: so what the last leads to, and what those before it lead to
fits_last : (t : List ℕ) (ds : List Chain) (es : List Element) (e : Element) → FitsAll t ds (es ++ e ∷ [])
    → Fits (element_atoms t ds (atoms_from t ds 0 es) e) (element_variables ds (variables_from ds 0 es) e) (element_labels ds (labels_from ds 10 es) e) (map noted (placed_from t ds 0 0 es) ++ map noted (element_placed ds (atoms_from t ds 0 es) (variables_from ds 0 es) e))
fits_last t ds es e f = rw (← atoms-snoc t ds es 0 e, ← variables-snoc ds es 0 e, ← labels-snoc ds es 10 e, ← placed-more t ds es e) f

fits-less : (t : List ℕ) (ds : List Chain) (es : List Element) (e : Element) → FitsAll t ds (es ++ e ∷ []) → FitsAll t ds es
fits-less t ds es e f =
    let g = fits_last t ds es e f in
    let a : List Placed = map noted (placed_from t ds 0 0 es) in
    let b : List Placed = map noted (element_placed ds (atoms_from t ds 0 es) (variables_from ds 0 es) e) in
    record {
      atoms = omega (arith, g.atoms, atoms-le t ds (atoms_from t ds 0 es) e);
      variables = omega (arith, g.variables, variables-le ds (variables_from ds 0 es) e);
      labels = omega (arith, g.labels, labels-le ds (labels_from ds 10 es) e);
      places = omega (arith, g.places, length-append (map noted (placed_from t ds 0 0 es)) (map noted (element_placed ds (atoms_from t ds 0 es) (variables_from ds 0 es) e)));
    }

pub fits-front : (t : List ℕ) (ds : List Chain) (es fs : List Element) → FitsAll t ds (es ++ fs) → FitsAll t ds es
fits-front t ds es [] f = rw (append-nil es) at f
fits-front t ds es (e ∷ fs) f =
    let g : FitsAll t ds ((es ++ e ∷ []) ++ fs) = rw (append_assoc es (e ∷ []) fs) f in
    fits-less t ds es e (fits-front t ds (es ++ e ∷ []) fs g)

-- ---- sizes

-- slices as long as slices are
pub record Short (x : Rooms) : Type 0 where
  pub text : length x.text < 2 ^ 64
  pub index : length x.index < 2 ^ 64
  pub rows : length x.rows < 2 ^ 64

pub sizes-then : {x y z : Rooms} → Sizes x y → Sizes y z → Sizes x z
sizes-then a b = record { text = b.text ∙ a.text; index = b.index ∙ a.index; rows = b.rows ∙ a.rows }

pub sizes-fixed : {s : List ℕ} {k : ℕ} {xs ys is rs : List ℕ} {ns : List Placed} {b q : Builder} → FixedPushed s k xs b ys q → Sizes (rooms xs is rs ns) (rooms ys is rs ns)
sizes-fixed w = record { text = written-length w.text; index = refl; rows = refl }

-- ---- one element more

built-none : (t : List ℕ) (ds : List Chain) (xs : Rooms) (b : Builder) → Fresh b → Built t ds [] xs xs b
unfolding atoms_from variables_from labels_from placed_from all_items template_pieces show gathered placed_in
built-none t ds xs b f =
    record {
      text = rw f.at (written-nil xs.text 0 (omega arith));
      index = rw f.used (written-nil xs.index 0 (omega arith));
      rows = rw f.rows (written-nil xs.rows 0 (omega arith));
      counts = record { atoms = f.atoms; variables = f.variables; labels = f.labels; placed = rw f.count };
    }

-- what is gathered from one element more
gathered_snoc : {A : Type 0} (g : request.Placed → List A) (t : List ℕ) (ds : List Chain) (es : List Element) (e : Element)
    → gathered g (placed_from t ds 0 0 (es ++ e ∷ [])) ≡ gathered g (placed_from t ds 0 0 es) ++ gathered g (element_placed ds (atoms_from t ds 0 es) (variables_from ds 0 es) e)
gathered_snoc g t ds es e = rw (placed_snoc t ds es 0 0 e) (gathered-append g (placed_from t ds 0 0 es) (element_placed ds (atoms_from t ds 0 es) (variables_from ds 0 es) e))

-- the next element can be kept, where all can
next_fits : (t : List ℕ) (ds : List Chain) (es : List Element) (e : Element) (rest : List Element) {xs ys : Rooms} {b : Builder} → FitsAll t ds (es ++ e ∷ rest)
    → Built t ds es xs ys b → FitsElement t ds e ys.notes b
next_fits t ds es e rest f u =
    let f₁ : FitsAll t ds ((es ++ e ∷ []) ++ rest) = rw (append_assoc es (e ∷ []) rest) f in
    rw (u.counts.placed, u.counts.atoms, u.counts.variables, u.counts.labels) (fits_last t ds es e (fits-front t ds (es ++ e ∷ []) rest f₁))

built-step : (t : List ℕ) (ds : List Chain) (es : List Element) (e : Element) (rest : List Element) {xs ys zs : Rooms} {b q : Builder} → Short xs
    → FitsAll t ds (es ++ e ∷ rest) → Step t ds e ys b zs q → Built t ds es xs ys b → Built t ds (es ++ e ∷ []) xs zs q
built-step t ds es e rest {xs} {ys} {zs} {b} {q} g f push u =
    let p = push (next_fits t ds es e rest f u) in
    let c = u.counts in
    record {
      text = rw (text-snoc t ds es e 10) (written-append g.text u.text (rw c.labels at p.text));
      index = rw (gathered_snoc index_list t ds es e) (written-append g.index u.index (rw (c.atoms, c.variables) at p.index));
      rows = rw (gathered_snoc rows_of t ds es e) (written-append g.rows u.rows (rw (c.atoms, c.variables) at p.rows));
      counts = rw (atoms-snoc t ds es 0 e, variables-snoc ds es 0 e, labels-snoc ds es 10 e, placed-more t ds es e) (rw (c.placed, c.atoms, c.variables, c.labels) at p.counts);
    }

-- ---- texts of the template's own

pieces-own : (us : List Piece) (l : ℕ) → template_pieces l (map piece us) ≡ us
unfolding template_pieces item_pieces next_label
pieces-own [] l = refl
pieces-own (u ∷ us) l = ap (λ (vs : List Piece). u ∷ vs) (pieces-own us l)

-- a text that is shown as it is, with its number of atoms
pub record Own (s : List ℕ) (k : ℕ) : Type 0 where
  pub shown : show (fixed_pieces s) ≡ s
  pub size : atoms_of_pieces (fixed_pieces s) ≡ k

-- nothing is written at a place that stays
written-kept : (xs : List ℕ) {a b : ℕ} → Kept a b → Written xs a [] xs b
written-kept xs {a} k = rw k.is (written-nil xs a k.small)

fixed-pushed : (t : List ℕ) (ds : List Chain) {s : List ℕ} {k : ℕ} {xs ys is rs : List ℕ} {ns : List Placed} {b q : Builder} → Own s k → FixedPushed s k xs b ys q
    → Step t ds (fixed s) (rooms xs is rs ns) b (rooms ys is rs ns) q
unfolding element_atoms element_variables element_labels element_placed chain_in items_of gathered
fixed-pushed t ds {s = s} {is = is} {rs = rs} {ns = ns} {b = b} {q = q} o w f =
    record {
      text = rw (pieces-own (fixed_pieces s) b.labels.0, o.shown) w.text;
      index = written-kept is w.used;
      rows = written-kept rs w.rows;
      counts =
          record {
            atoms = omega (arith, w.atoms, o.size, f.atoms);
            variables = ap (λ (a : Variables). a.0) w.variables;
            labels = ap (λ (a : Labels). a.0) w.labels;
            placed = placed-kept ns q b w.count ∙ sym (append-nil (placed_in b ns));
          };
    }

tail-pushed : {t : List ℕ} (ds : List Chain) {k : ℕ} {xs ys is rs : List ℕ} {ns : List Placed} {b q : Builder} → TailOf t k → FixedPushed t k xs b ys q
    → Step t ds tail (rooms xs is rs ns) b (rooms ys is rs ns) q
unfolding element_atoms element_variables element_labels element_placed chain_in items_of template_pieces item_pieces gathered
tail-pushed {t} ds {is = is} {rs = rs} {ns = ns} {b = b} {q = q} o w f =
    record {
      text = rw (append-nil (tail_part t).pieces, o.shown) w.text;
      index = written-kept is w.used;
      rows = written-kept rs w.rows;
      counts =
          record {
            atoms = omega (arith, w.atoms, o.size, f.atoms);
            variables = ap (λ (a : Variables). a.0) w.variables;
            labels = ap (λ (a : Labels). a.0) w.labels;
            placed = placed-kept ns q b w.count ∙ sym (append-nil (placed_in b ns));
          };
    }

-- ---- slots and chains

module _ (t : List ℕ) (ds : List Chain) {x : Chains} where
  slot_pushed : {sn : ℕ} {xs ys : Rooms} {b q : Builder} → StandsAt Slot (nonempty sn ds) x sn → SlotPushed x sn xs b ys q → Step t ds (slot sn) xs b ys q
  unfolding element_atoms element_variables element_labels element_placed chain_in items_of
  slot_pushed {sn} s w f = w.pushed (nonempty sn ds) (record { stands = s; fits = f })

  chain-pushed : {sn : ℕ} {r : Role} {xs ys : Rooms} {b q : Builder} → StandsAt r (nonempty sn ds) x sn → BarePushed x sn r xs b ys q → Step t ds (chain sn r) xs b ys q
  unfolding element_atoms element_variables element_labels element_placed chain_in items_of
  chain-pushed {sn} s w f = w.pushed (nonempty sn ds) (record { stands = s; fits = f })

  slot-fits : {sn : ℕ} {ns : List Placed} {b : Builder} → StandsAt Slot (nonempty sn ds) x sn → FitsElement t ds (slot sn) ns b → SlotFits x sn ns b
  unfolding element_atoms element_variables element_labels element_placed chain_in
  slot-fits {sn} s f = record { chain = nonempty sn ds; fitting = record { stands = s; fits = f } }

  chain_fits : {sn : ℕ} {r : Role} {ns : List Placed} {b : Builder} → StandsAt r (nonempty sn ds) x sn → FitsElement t ds (chain sn r) ns b → BareFits x sn r ns b
  unfolding element_atoms element_variables element_labels element_placed chain_in
  chain_fits {sn} s f = record { chain = nonempty sn ds; fitting = record { stands = s; fits = f } }

-- ---- elements pushed one after the other

-- the elements es are pushed, those of rest are still to come, and what all of them lead to can be kept
pub record Along (t : List ℕ) (ds : List Chain) (es rest : List Element) (xs ys : Rooms) (b : Builder) : Type 0 where
  pub short : Short xs
  pub fits : FitsAll t ds (es ++ rest)
  pub built : Built t ds es xs ys b

pub at_first : {t : List ℕ} {ds : List Chain} {es : List Element} {xs : Rooms} {b : Builder} → Short xs → Fresh b → FitsAll t ds es → Along t ds [] es xs xs b
at_first {t} {ds} {xs = xs} {b = b} g z f = record { short = g; fits = f; built = built-none t ds xs b z }

module _ {t : List ℕ} {ds : List Chain} {es rest : List Element} {xs : Rooms} {b q : Builder} where
  one_more : {e : Element} {ys zs : Rooms} → Along t ds es (e ∷ rest) xs ys b → Step t ds e ys b zs q → Along t ds (es ++ e ∷ []) rest xs zs q
  one_more {e} w s =
      record { short = w.short; fits = rw (append_assoc es (e ∷ []) rest) w.fits; built = built-step t ds es e rest w.short w.fits s w.built }

  pub then-fixed : {s : List ℕ} {k : ℕ} {ys zs is rs : List ℕ} {ns : List Placed} → Along t ds es (fixed s ∷ rest) xs (rooms ys is rs ns) b → Own s k → FixedPushed s k ys b zs q
      → Along t ds (es ++ fixed s ∷ []) rest xs (rooms zs is rs ns) q
  then-fixed w o p = one_more w (fixed-pushed t ds o p)

  pub then_tail : {k : ℕ} {ys zs is rs : List ℕ} {ns : List Placed} → Along t ds es (tail ∷ rest) xs (rooms ys is rs ns) b → TailOf t k → FixedPushed t k ys b zs q
      → Along t ds (es ++ tail ∷ []) rest xs (rooms zs is rs ns) q
  then_tail w o p = one_more w (tail-pushed ds o p)

  module _ {x : Chains} {sn : ℕ} {ys zs : Rooms} where
    pub then-slot : Along t ds es (slot sn ∷ rest) xs ys b → StandsAt Slot (nonempty sn ds) x sn → SlotPushed x sn ys b zs q → Along t ds (es ++ slot sn ∷ []) rest xs zs q
    then-slot w s p = one_more w (slot_pushed t ds s p)

    pub then-chain : {r : Role} → Along t ds es (chain sn r ∷ rest) xs ys b → StandsAt r (nonempty sn ds) x sn → BarePushed x sn r ys b zs q → Along t ds (es ++ chain sn r ∷ []) rest xs zs q
    then-chain w s p = one_more w (chain-pushed t ds s p)

-- THE NEXT PUSH MAY BE MADE
module _ {t : List ℕ} {ds : List Chain} {es rest : List Element} {xs ys : Rooms} {b : Builder} {x : Chains} {sn : ℕ} where
  pub next-slot : Along t ds es (slot sn ∷ rest) xs ys b → StandsAt Slot (nonempty sn ds) x sn → SlotFits x sn ys.notes b
  next-slot w s = slot-fits t ds s (next_fits t ds es (slot sn) rest w.fits w.built)

  pub next-chain : {r : Role} → Along t ds es (chain sn r ∷ rest) xs ys b → StandsAt r (nonempty sn ds) x sn → BareFits x sn r ys.notes b
  next-chain {r} w s = chain_fits t ds s (next_fits t ds es (chain sn r) rest w.fits w.built)
