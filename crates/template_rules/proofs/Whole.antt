-- The drawing of a whole template: its rows, and where its chains stand among them.
-- Assumes nothing.
use Prim.Native.Nat.{ℕ, zero, suc, ◌≤◌}
use native.Mathlib.Omega.{arith}
use mathlib.Core.Path.{◌≡◌, refl, sym, ap, ◌∙◌}
use mathlib.Core.Bool.{Bool, true, false≢true}
use mathlib.Core.Option.{none, some}
use mathlib.Core.List.{List, [], ◌∷◌, ◌++◌, map}
use lib.ListN.{length}
use borrow.Author.Tests.{leb-true}
use Rattle.chain_record.specs.plain.Chain.{Chain}
use Rattle.reading_rules.specs.reading.Ascii.{ascii}
use Rattle.reading_rules.specs.reading.Row.{link, Row, row}
use Rattle.reading_rules.specs.reading.Piece.{Piece}
use Rattle.reading_rules.specs.reading.Machine.{fresh, opened, after, marked, State, st, Out, fail, ok, labels, joins, placed, step, prepend, and_then, whole}
use Rattle.reading_rules.specs.reading.Template.{Item, piece, draw, draw_all, drawn}
use Rattle.reading_rules.proofs.reading.Reading.{fail≢ok}
use Rattle.reading_rules.proofs.reading.PartingLaws.{All}
use Rattle.chain_rules.specs.declared.chain.Role.{Role}
use Rattle.chain_rules.specs.declared.chain.Role.TheVariants.{Slot}
use Rattle.template_rules.specs.Template.{Element, fixed, tail, slot, chain}
use Rattle.template_rules.specs.Drawn.{chain_at, fixed_pieces, items_of, all_items, placed_from}
use Rattle.template_rules.proofs.Templates.{Turn, no, to, turn_all, ends, Begins, begins, headed, most_atoms, Fitting}
use Rattle.template_rules.specs.Atoms.{row_at}
use Rattle.template_rules.proofs.Rows.{row_bytes, Carbonic}
use Rattle.template_rules.proofs.Strands.{first_link}
use Rattle.template_rules.proofs.Placing.{Accepts, TailFits, Placing, Strand, Anchors, Made, MadeTo, made_all, atoms_to, variables_to, atom_to, stack_to, last_to}

-- ---- the first two atoms

-- rows that begin with two carbons
record TwoCarbons (rs : List Row) : Type 0 where
  zeroth : row_bytes 0 rs ≡ some (ascii "C")
  first : row_bytes 1 rs ≡ some (ascii "C")
  joined : first_link (row_at 1 rs) ≡ some (link 0 0)

two-rows : (r : List Row) → TwoCarbons (row (ascii "C") [] ∷ row (ascii "C") (link 0 0 ∷ []) ∷ r)
unfolding row_bytes row_at
two-rows r = record { zeroth = refl; first = refl; joined = refl }

two-carbons : (is : List Item) (us : List Piece) (rs : List Row) (s : State) → Begins us → draw_all (map piece us ++ is) (st 0 0 [] [] fresh) ≡ ok rs s → TwoCarbons rs
unfolding draw_all draw step placed labels joins and_then prepend
two-carbons is us rs s h e =
    go (draw_all (map piece h.rest ++ is) (st 2 1 (0 ∷ []) [] after)) (ap (λ (z : List Piece). draw_all (map piece z ++ is) (st 0 0 [] [] fresh)) (sym h.is) ∙ e)
  where
    go : (o : Out) → prepend (row (ascii "C") [] ∷ []) (prepend [] (prepend (row (ascii "C") (link 0 0 ∷ []) ∷ []) o)) ≡ ok rs s → TwoCarbons rs
    go fail q = absurd (fail≢ok q)
    go (ok r s') q =
        let z : row (ascii "C") [] ∷ row (ascii "C") (link 0 0 ∷ []) ∷ r ≡ rs = cc in
        rw z at (two-rows r)

headed-carbons : (t : List ℕ) (ds : List Chain) (es : List Element) (rs : List Row) (s : State) → headed es ≡ true → draw_all (all_items t ds es) (st 0 0 [] [] fresh) ≡ ok rs s → TwoCarbons rs
unfolding headed all_items items_of
headed-carbons t ds [] rs s h e = absurd (false≢true h)
headed-carbons t ds (fixed b ∷ es) rs s h e = two-carbons (all_items t ds es) (fixed_pieces b) rs s (begins (fixed_pieces b) h) e
headed-carbons t ds (tail ∷ es) rs s h e = absurd (false≢true h)
headed-carbons t ds (slot sn ∷ es) rs s h e = absurd (false≢true h)
headed-carbons t ds (chain sn r ∷ es) rs s h e = absurd (false≢true h)

-- ---- the whole

-- the rows of a template; its chains stand among them from atom 0 and variable 0 on
pub record Stands (π : Role → List ℕ) (t : List ℕ) (ds : List Chain) (es : List Element) : Type 0 where
  pub rows : List Row
  pub is : drawn (all_items t ds es) ≡ some rows
  pub placing : Placing 0 (length rows) 0 (variables_to ds 0 es) (placed_from t ds 0 0 es)
  pub strands : All (Strand π none 0 rows) (placed_from t ds 0 0 es)
  pub few : length rows ≤ 4000
  pub heads : headed es ≡ true → Carbonic 0 rows 0 × Carbonic 0 rows 1
  pub neck : headed es ≡ true → first_link (row_at 1 rows) ≡ some (link 0 0)

whole_is : (rs : List Row) (n cur : ℕ) (stk : List ℕ) → length stk ≡ 0 → whole (ok rs (st n cur stk [] after)) ≡ some rs
unfolding whole
whole_is rs n cur [] h = refl
whole_is rs n cur (p ∷ stk) h = absurd (omega arith)

pub stands : (π : Role → List ℕ) → π Slot ≡ ascii "O" → (t : List ℕ) (ds : List Chain) (most : ℕ) (ρ : ℕ → Role) (tailed : Bool) (es : List Element) → Fitting most ρ tailed es
    → ((sn : ℕ) (d : Chain) → chain_at sn ds ≡ some d → Accepts (ρ sn) d) → (tailed ≡ true → TailFits t) → Anchors π t ds 0 0 [] none es → Stands π t ds es
unfolding ends drawn
stands π slots t ds most ρ tailed es f accepts h g =
    go (turn_all es 0 fresh) f.runs (made_all t ds ρ accepts π slots es f.roles (λ q. h (sym f.tails ∙ q)) 0 0 0 [] none fresh g)
  where
    made : Made π (all_items t ds es) (placed_from t ds 0 0 es) 0 0 0 [] none fresh (atoms_to t ds 0 es) (variables_to ds 0 es) (atom_to t ds 0 0 [] es) (stack_to t ds 0 0 [] es) (last_to t ds 0 0 [] none es) (most_atoms es) 0 after → Stands π t ds es
    made m =
        let n : length m.drawn.rows ≡ atoms_to t ds 0 es = omega (arith, m.drawn.many) in
        record {
          rows = m.drawn.rows;
          is = ap whole m.drawn.does ∙ whole_is m.drawn.rows (atoms_to t ds 0 es) (atom_to t ds 0 0 [] es) (stack_to t ds 0 0 [] es) m.drawn.deep;
          placing = rw n m.placing;
          strands = m.strands;
          few = omega (arith, m.few, leb-true (most_atoms es) 4000 f.small);
          heads = λ q. carbonic (headed-carbons t ds es m.drawn.rows _ q m.drawn.does);
          neck = λ q. (headed-carbons t ds es m.drawn.rows _ q m.drawn.does).joined;
        }
      where
        carbonic : {rs : List Row} → TwoCarbons rs → Carbonic 0 rs 0 × Carbonic 0 rs 1
        carbonic c = (record { from = omega arith; is = c.zeroth }, record { from = omega arith; is = c.first })

    go : (T : Turn) → ends T ≡ true → MadeTo π (all_items t ds es) (placed_from t ds 0 0 es) 0 0 0 [] none fresh (atoms_to t ds 0 es) (variables_to ds 0 es) (atom_to t ds 0 0 [] es) (stack_to t ds 0 0 [] es) (last_to t ds 0 0 [] none es) (most_atoms es) T → Stands π t ds es
    go no e m = absurd (false≢true e)
    go (to zero fresh) e m = absurd (false≢true e)
    go (to zero opened) e m = absurd (false≢true e)
    go (to zero after) e m = made m
    go (to zero (marked x)) e m = absurd (false≢true e)
    go (to (suc k) ph) e m = absurd (false≢true e)
