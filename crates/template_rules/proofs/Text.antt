-- The text of a template with its chains reads as its drawing.
-- Assumes nothing.
use Prim.Native.Nat.{ℕ, ◌+◌, ◌*◌, ◌≤◌}
use native.Mathlib.Omega.{arith}
use mathlib.Core.Path.{◌≡◌, refl, sym, ◌∙◌}
use mathlib.Core.Bool.{Bool, true, false≢true}
use mathlib.Core.Option.{Option, none, some}
use mathlib.Core.List.{List, [], ◌∷◌, ◌++◌, map}
use lib.ListN.{length, length-map}
use borrow.Author.Tests.{leb-true}
use Rattle.chain_record.specs.plain.Chain.{Chain}
use Rattle.reading_rules.specs.reading.Ascii.{ascii}
use Rattle.reading_rules.specs.reading.Piece.{Piece, atom, mark, dot, lpar, rpar, show}
use Rattle.reading_rules.specs.reading.Lexer.{memb, organic, between, lex, pieces_of}
use Rattle.reading_rules.specs.reading.Text.{read_text}
use Rattle.reading_rules.specs.reading.Chain.{ring}
use Rattle.reading_rules.specs.reading.Template.{Item, piece, part, next_label, template_pieces}
use Rattle.reading_rules.proofs.reading.WellFormed.{AllWell, letter}
use Rattle.reading_rules.proofs.reading.ShowLex.{show-lex}
use Rattle.reading_rules.proofs.reading.PartingLaws.{and_left, and_right}
use Rattle.reading_rules.proofs.reading.Template.{ItemFits, ItemsFit}
use Rattle.reading_rules.proofs.reading.TemplateText.{ItemWell, ItemsWell, label_end, template-text}
use Rattle.chain_rules.specs.declared.chain.Role.{Role}
use Rattle.chain_rules.specs.declared.chain.Role.TheVariants as role
use Rattle.chain_rules.specs.chain.Lists.{any_of, all_of}
use Rattle.chain_rules.specs.chain.Drawing.{chain_drawn, ring_pairs}
use Rattle.chain_rules.proofs.chain.Accepted.{Drawable}
use Rattle.chain_rules.proofs.chain.Branches.{unlabelled}
use Rattle.chain_rules.proofs.chain.Fits.{chain_fits, chain-well}
use Rattle.template_rules.specs.Template.{Element, fixed, tail, slot, chain}
use Rattle.template_rules.specs.Drawn.{chain_at, nonempty, or_nothing, fixed_pieces, tail_part, chain_item, slot_oxygen, items_of, all_items}
use Rattle.template_rules.proofs.Templates.{is_bare, in_role, is_tailed, same_role, sns_of, Fitting}
use Rattle.template_rules.proofs.Placing.{Accepts, TailFits, drawable-at}
use Rattle.template_rules.proofs.Whole.{Stands}

-- ---- items that are joined

fits-append : (l : ℕ) (xs ys : List Item) → ItemsFit l xs → ((l : ℕ) → ItemsFit l ys) → ItemsFit l (xs ++ ys)
unfolding ItemsFit
fits-append l [] ys h g = g l
fits-append l (x ∷ xs) ys h g = (h.0, fits-append (next_label l x) xs ys h.1 g)

well-append : (xs ys : List Item) → ItemsWell xs → ItemsWell ys → ItemsWell (xs ++ ys)
unfolding ItemsWell
well-append [] ys h g = g
well-append (x ∷ xs) ys h g = (h.0, well-append xs ys h.1 g)

label-append : (l : ℕ) (xs ys : List Item) → label_end l (xs ++ ys) ≡ label_end (label_end l xs) ys
unfolding label_end
label-append l [] ys = refl
label-append l (x ∷ xs) ys = label-append (next_label l x) xs ys

-- ---- a template's own pieces

fixed-fit : (l : ℕ) (us : List Piece) → unlabelled us ≡ true → ItemsFit l (map piece us)
unfolding ItemsFit ItemFits unlabelled next_label
fixed-fit l [] h = tt
fixed-fit l (atom b [] ∷ us) h = (tt, fixed-fit l us h)
fixed-fit l (atom b (x ∷ ls) ∷ us) h = absurd (false≢true h)
fixed-fit l (mark m ∷ us) h = (tt, fixed-fit l us h)
fixed-fit l (dot ∷ us) h = (tt, fixed-fit l us h)
fixed-fit l (lpar ∷ us) h = (tt, fixed-fit l us h)
fixed-fit l (rpar ∷ us) h = (tt, fixed-fit l us h)

pieces-well : (us : List Piece) → AllWell us → ItemsWell (map piece us)
unfolding ItemsWell ItemWell
pieces-well [] h = tt
pieces-well (u ∷ us) h = (h.0, pieces-well us h.1)

fixed-well : (b : List ℕ) → AllWell (fixed_pieces b)
unfolding fixed_pieces pieces_of
fixed-well b = go (lex between b) refl
  where
    go : (o : Option (List Piece)) → lex between b ≡ o → AllWell (or_nothing o)
    go none e = tt
    go (some us) e = (show-lex b us e).1

fixed-label : (l : ℕ) (us : List Piece) → label_end l (map piece us) ≡ l
unfolding label_end next_label
fixed-label l [] = refl
fixed-label l (u ∷ us) = fixed-label l us

-- ---- a chain's

chain-items : (r : Role) (o : Option Chain) → ((d : Chain) → o ≡ some d → Drawable r d)
    → record { fits : (l : ℕ) → ItemsFit l (chain_item r o); well : ItemsWell (chain_item r o); label : (l : ℕ) → label_end l (chain_item r o) ≤ l + 8 }
unfolding ItemsFit ItemFits ItemsWell label_end next_label chain_drawn ring_pairs
chain-items r none h = record { fits = λ l. tt; well = tt; label = λ l. omega arith }
chain-items r (some d) h =
    record {
      fits = λ l. (chain_fits r d (h d refl) l, tt);
      well = (chain-well r d (h d refl), tt);
      label = λ l. omega (arith, length-map d.rings (λ x. ring x.start x.end), (h d refl).sound.within.rings);
    }

-- ---- all elements

record Reads (is : List Item) (n : ℕ) : Type 0 where
  fits : (l : ℕ) → ItemsFit l is
  well : ItemsWell is
  label : (l : ℕ) → label_end l is ≤ l + 8 * n

reads-append : {xs ys : List Item} {n m k : ℕ} → n + m ≡ k → Reads xs n → Reads ys m → Reads (xs ++ ys) k
reads-append {xs} {ys} e x y =
    record {
      fits = λ l. fits-append l xs ys (x.fits l) y.fits;
      well = well-append xs ys x.well y.well;
      label = λ l. omega (arith, label-append l xs ys, x.label l, y.label (label_end l xs));
    }

oxygen-reads : Reads (slot_oxygen ∷ []) 0
unfolding ItemsFit ItemFits ItemsWell ItemWell label_end next_label slot_oxygen ascii memb organic
oxygen-reads = record { fits = λ l. (tt, tt); well = ((letter _ tt, tt), tt); label = λ l. omega arith }

chain-reads : (r : Role) (o : Option Chain) → ((d : Chain) → o ≡ some d → Drawable r d) → Reads (chain_item r o) 1
chain-reads r o h = let c = chain-items r o h in record { fits = c.fits; well = c.well; label = λ l. omega (arith, c.label l) }

tail-reads : (t : List ℕ) → TailFits t → Reads (part (tail_part t) ∷ []) 0
unfolding ItemsFit ItemFits ItemsWell ItemWell label_end next_label
tail-reads t f = record { fits = λ l. (f.hangs, tt); well = (f.well, tt); label = λ l. omega arith }

fixed_reads : (b : List ℕ) → unlabelled (fixed_pieces b) ≡ true → Reads (map piece (fixed_pieces b)) 0
fixed_reads b h =
    record { fits = λ l. fixed-fit l (fixed_pieces b) h; well = pieces-well (fixed_pieces b) (fixed-well b); label = λ l. omega (arith, fixed-label l (fixed_pieces b)) }

module _ (t : List ℕ) (ds : List Chain) (ρ : ℕ → Role) (accepts : (sn : ℕ) (d : Chain) → chain_at sn ds ≡ some d → Accepts (ρ sn) d) where
  all_read : (es : List Element) → all_of is_bare es ≡ true → all_of (in_role ρ) es ≡ true → (any_of is_tailed es ≡ true → TailFits t) → Reads (all_items t ds es) (length (sns_of es))
  unfolding all_of any_of is_bare in_role is_tailed all_items items_of sns_of
  all_read [] b e h = unfold ItemsFit ItemsWell label_end in record { fits = λ l. tt; well = tt; label = λ l. omega arith }
  all_read (fixed x ∷ es) b e h =
      reads-append (omega arith) (fixed_reads x (and_left (unlabelled (fixed_pieces x)) (all_of is_bare es) b))
      (all_read es (and_right (unlabelled (fixed_pieces x)) (all_of is_bare es) b) e h)
  all_read (tail ∷ es) b e h = reads-append (omega arith) (tail-reads t (h refl)) (all_read es b e (λ q. h refl))
  all_read (slot sn ∷ es) b e h =
      reads-append {xs = slot_oxygen ∷ chain_item role.Slot (nonempty sn ds)} {n = 1} (omega arith)
      (reads-append {xs = slot_oxygen ∷ []} {n = 0} {m = 1} (omega arith) oxygen-reads
      (chain-reads role.Slot (nonempty sn ds) (drawable-at t ds ρ accepts sn role.Slot (and_left (same_role (ρ sn) role.Slot) (all_of (in_role ρ) es) e))))
      (all_read es b (and_right (same_role (ρ sn) role.Slot) (all_of (in_role ρ) es) e) h)
  all_read (chain sn r ∷ es) b e h =
      reads-append {n = 1} (omega arith)
      (chain-reads r (nonempty sn ds) (drawable-at t ds ρ accepts sn r (and_left (same_role (ρ sn) r) (all_of (in_role ρ) es) e)))
      (all_read es b (and_right (same_role (ρ sn) r) (all_of (in_role ρ) es) e) h)

  -- THE TEXT: with labels from 10 on it reads as the rows of the drawing
  pub text-reads : (most : ℕ) (tailed : Bool) (es : List Element) → Fitting most ρ tailed es → (tailed ≡ true → TailFits t) → {π : Role → List ℕ} (s : Stands π t ds es)
      → read_text (show (template_pieces 10 (all_items t ds es))) ≡ some s.rows
  text-reads most tailed es f h s =
      let q : Reads (all_items t ds es) (length (sns_of es)) = all_read es f.bare f.roles (λ e. h (sym f.tails ∙ e)) in
      template-text 10 (all_items t ds es) s.rows (omega arith) (omega (arith, q.label 10, leb-true (length (sns_of es)) 4 f.few)) q.well (q.fits 10) s.is
