-- The template law on bytes: a template's text, written with labels from 1 to 99, is read as it is drawn.
use mathlib.Core.Path.{◌≡◌, ◌∙◌}
use mathlib.Core.Bool.{Bool, true, false, cond, ◌||◌}
use mathlib.Core.Option.{some}
use Prim.Native.Nat.{ℕ, zero, suc, ◌+◌, ◌≤◌}
use native.Mathlib.Omega.{arith}
use mathlib.Core.List.{List, [], ◌∷◌, ◌++◌}
use lib.ListN.{length}
use lib.Dec.{T, eqb}
use Rattle.scanner.specs.part.Ascii.{ascii}
use Rattle.reading_rules.specs.smiles.Row.{Row}
use Rattle.reading_rules.specs.smiles.Piece.{atom, rpar, show}
use Rattle.reading_rules.specs.smiles.Lexer.{memb, organic, marks}
use Rattle.reading_rules.specs.smiles.Text.{read_text}
use Rattle.reading_rules.specs.smiles.Part.{Part}
use Rattle.reading_rules.specs.smiles.Chain.{Ring, ring, Carbon, labels_at, mark_pieces, part_pieces, bridge_pieces, chain_pieces, float_pieces}
use Rattle.reading_rules.specs.smiles.Template.{Item, piece, part, chain, item_pieces, next_label, template_pieces, drawn}
use Rattle.reading_rules.proofs.smiles.WellFormed.{AllWell, WellFormed, Labels, letter, well-append}
use Rattle.reading_rules.proofs.smiles.LexShow.{read-show}
use Rattle.reading_rules.proofs.smiles.Template.{ItemsFit, template-pieces}

-- ---- a chain of well-formed parts is well formed

-- no mark, or one of 01's
unfoldable pub MarkWell : ℕ → Type 0
MarkWell zero = Unit {0}
MarkWell (suc m) = T (memb (suc m) marks)

unfoldable pub PartsWell : List Part → Type 0
PartsWell [] = Unit {0}
PartsWell (p ∷ ps) = AllWell p.pieces × PartsWell ps

unfoldable pub CarbonsWell : List Carbon → Type 0
CarbonsWell [] = Unit {0}
CarbonsWell (c ∷ cs) = MarkWell c.before × (PartsWell c.parts × CarbonsWell cs)

well-labels : (k l : ℕ) (rs : List Ring) → 1 ≤ l → l + length rs ≤ 100 → Labels (labels_at k l rs)
unfolding labels_at
well-labels k l [] h g = tt
well-labels k l (ring s e ∷ rs) h g = go (eqb s k || eqb e k) (well-labels k (suc l) rs (omega arith) (omega arith))
  where
    go : (x : Bool) → Labels (labels_at k (suc l) rs) → Labels (cond x (l ∷ labels_at k (suc l) rs) (labels_at k (suc l) rs))
    go true r = (h, (omega arith, r))
    go false r = r

well-mark : (m : ℕ) → MarkWell m → AllWell (mark_pieces m)
unfolding mark_pieces MarkWell
well-mark zero h = tt
well-mark (suc m) h = (h, tt)

well-parts : (ps : List Part) → PartsWell ps → AllWell (part_pieces ps)
unfolding part_pieces PartsWell
well-parts [] h = tt
well-parts (p ∷ ps) h = (tt, well-append (p.pieces ++ rpar ∷ []) (part_pieces ps) (well-append p.pieces (rpar ∷ []) h.0 (tt, tt)) (well-parts ps h.1))

well-bridge : (b : Bool) → AllWell (bridge_pieces b)
unfolding bridge_pieces ascii memb organic
well-bridge true = ((letter _ tt, tt), tt)
well-bridge false = tt

pub well-chain : (rs : List Ring) (l k : ℕ) (cs : List Carbon) → 1 ≤ l → l + length rs ≤ 100 → CarbonsWell cs → AllWell (chain_pieces rs l k cs)
unfolding chain_pieces CarbonsWell ascii memb organic
well-chain rs l k [] h g w = tt
well-chain rs l k (c ∷ cs) h g w =
    well-append (mark_pieces c.before ++ (atom (ascii "C") (labels_at k l rs) ∷ [])) _
    (well-append (mark_pieces c.before) _ (well-mark c.before w.0) ((letter _ tt, well-labels k l rs h g), tt))
    (well-append (part_pieces c.parts) _ (well-parts c.parts w.1.0)
    (well-append (bridge_pieces c.bridge) _ (well-bridge c.bridge) (well-chain rs l (suc k) cs h g w.1.1)))

pub well-floats : (ps : List Part) → PartsWell ps → AllWell (float_pieces ps)
unfolding float_pieces PartsWell ascii memb organic
well-floats [] h = tt
well-floats (p ∷ ps) h = (tt, ((letter _ tt, tt), well-append p.pieces (float_pieces ps) h.0 (well-floats ps h.1)))

-- ---- a template

unfoldable pub ItemWell : Item → Type 0
ItemWell (piece u) = WellFormed u
ItemWell (part p) = AllWell p.pieces
ItemWell (chain c) = CarbonsWell c.carbons × PartsWell c.floats

unfoldable pub ItemsWell : List Item → Type 0
ItemsWell [] = Unit {0}
ItemsWell (i ∷ is) = ItemWell i × ItemsWell is

-- the label after the last
unfoldable pub label_end : ℕ → List Item → ℕ
unfolding next_label
label_end l [] = l
label_end l (i ∷ is) = label_end (next_label l i) is

next_label-le : (l : ℕ) (i : Item) → l ≤ next_label l i
unfolding next_label
next_label-le l (piece u) = omega arith
next_label-le l (part p) = omega arith
next_label-le l (chain c) = omega arith

label_end-le : (l : ℕ) (is : List Item) → l ≤ label_end l is
unfolding label_end
label_end-le l [] = omega arith
label_end-le l (i ∷ is) = omega (arith, next_label-le l i, label_end-le (next_label l i) is)

well-item : (l : ℕ) (i : Item) → 1 ≤ l → next_label l i ≤ 100 → ItemWell i → AllWell (item_pieces l i)
unfolding item_pieces ItemWell next_label
well-item l (piece u) h g w = (w, tt)
well-item l (part p) h g w = w
well-item l (chain c) h g w =
    well-append (chain_pieces c.rings l c.first c.carbons) _ (well-chain c.rings l c.first c.carbons h g w.0) (well-floats c.floats w.1)

pub well-template : (l : ℕ) (is : List Item) → 1 ≤ l → label_end l is ≤ 100 → ItemsWell is → AllWell (template_pieces l is)
unfolding template_pieces ItemsWell label_end
well-template l [] h g w = tt
well-template l (i ∷ is) h g w =
    well-append (item_pieces l i) _ (well-item l i h (omega (arith, label_end-le (next_label l i) is)) w.0)
    (well-template (next_label l i) is (omega (arith, next_label-le l i)) g w.1)

-- THE TEMPLATE LAW, on bytes
pub template-text : (l : ℕ) (is : List Item) (rs : List Row) → 1 ≤ l → label_end l is ≤ 100 → ItemsWell is → ItemsFit l is → drawn is ≡ some rs
    → read_text (show (template_pieces l is)) ≡ some rs
template-text l is rs h g w f e = read-show (template_pieces l is) (well-template l is h g w) ∙ template-pieces l is rs f e
