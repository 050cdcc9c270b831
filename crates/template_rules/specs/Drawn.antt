-- What is drawn of a request: a class, a swap flag, a tail and the chains of the tokens make a molecule, without any text. 01, Templates and the
-- builder; Drawing a chain: "Atoms of the drawn molecule (the molecule of the names) are numbered from 0 as the template stands". Assumes nothing.
use Rattle.std.specs.Prelude.{ℕ, zero, suc, ◌+◌, Bool, cond, ◌&&◌, List, [], ◌∷◌, ◌++◌, map, length, eqb, ltb, leb}
use Rattle.std.proofs.Math.Option.{Option, none, some}
use Rattle.chain_record.specs.plain.Chain.{Chain}
use Rattle.reading_rules.specs.reading.Ascii.{ascii}
use Rattle.reading_rules.specs.reading.Row.{Row}
use Rattle.reading_rules.specs.reading.Piece.{Piece, atom, mark, dot, lpar, rpar}
use Rattle.reading_rules.specs.reading.Lexer.{pieces_of}
use Rattle.reading_rules.specs.reading.Part.{Part, part_of}
use Rattle.reading_rules.specs.reading.Template.{Item, piece, part, chain as drawn_chain, drawn}
use Rattle.reading_rules.specs.reading.Molecule.{At, at, Sum, Molecule, molecule_of}
use Rattle.chain_rules.specs.declared.chain.Role.{Role}
use Rattle.chain_rules.specs.declared.chain.Role.TheVariants as role
use Rattle.chain_rules.specs.chain.Drawing as draw
use Rattle.template_rules.specs.declared.Class.{Class}
use Rattle.template_rules.specs.Template.{Element, fixed, tail, slot, chain, elements}

-- the chain of the token with this sn, if there is such a token
unfoldable pub chain_at : ℕ → List Chain → Option Chain
chain_at sn [] = none
chain_at zero (d ∷ ds) = none
chain_at (suc zero) (d ∷ ds) = some d
chain_at (suc (suc sn)) (d ∷ ds) = chain_at (suc sn) ds

-- the chain that is drawn there: "`O` alone if absent or c = 0"
abbrev pub unless_empty : Option Chain → Option Chain
unless_empty none = none
unless_empty (some d) = cond (eqb d.carbon 0) none (some d)

unfoldable pub nonempty : ℕ → List Chain → Option Chain
unfolding chain_at
nonempty sn ds = unless_empty (chain_at sn ds)

-- ---- the template's items. Where bytes are no part or no run there would be nothing to draw: that this never happens is promised (Promise.antt).

abbrev pub or_nothing : Option (List Piece) → List Piece
or_nothing none = []
or_nothing (some us) = us

unfoldable pub fixed_pieces : List ℕ → List Piece
unfolding pieces_of
fixed_pieces t = or_nothing (pieces_of t)

-- the tail, as the reading rules read it; that they read it whole is promised (Chains.antt, `Whole`)
unfoldable pub tail_part : List ℕ → Part
unfolding part_of
tail_part t = draw.or_none (part_of t)

abbrev pub chain_item : Role → Option Chain → List Item
chain_item r none = []
chain_item r (some d) = drawn_chain (draw.chain_drawn r d) ∷ []

-- the O of a slot
unfoldable pub slot_oxygen : Item
unfolding ascii
slot_oxygen = piece (atom (ascii "O") [])

unfoldable pub items_of : List ℕ → List Chain → Element → List Item
unfolding fixed_pieces tail_part slot_oxygen nonempty
items_of t ds (fixed b) = map piece (fixed_pieces b)
items_of t ds tail = part (tail_part t) ∷ []
items_of t ds (slot sn) = slot_oxygen ∷ chain_item role.Slot (nonempty sn ds)
items_of t ds (chain sn r) = chain_item r (nonempty sn ds)

unfoldable pub all_items : List ℕ → List Chain → List Element → List Item
unfolding items_of
all_items t ds [] = []
all_items t ds (e ∷ es) = items_of t ds e ++ all_items t ds es

-- ---- the chains in their places

-- a chain that is drawn: its sn and role, the atom of its first drawn carbon, its site and its first variable
pub record Placed : Type 0 where
  pub sn : ℕ
  pub role : Role
  pub chain : Chain
  pub first : ℕ
  pub site : Option ℕ
  pub variable : ℕ

unfoldable pub atoms_of_piece : Piece → ℕ
atoms_of_piece (atom b ls) = 1
atoms_of_piece (mark m) = 0
atoms_of_piece dot = 0
atoms_of_piece lpar = 0
atoms_of_piece rpar = 0

unfoldable pub atoms_of_pieces : List Piece → ℕ
unfolding atoms_of_piece
atoms_of_pieces [] = 0
atoms_of_pieces (u ∷ us) = atoms_of_piece u + atoms_of_pieces us

-- "A site is the first atom pushed for a nonempty chain"; the base of SB and SA, sn 1, "has no site"
abbrev pub site_of : Role → ℕ → Option ℕ
site_of role.Slot n = some n
site_of role.Acyl n = some n
site_of role.Base n = none

-- a chain at its place, with n atoms and v variables before it: those before its first carbon
abbrev pub place : ℕ → Role → Option ℕ → ℕ → ℕ → Option Chain → List Placed
place sn r s n v none = []
place sn r s n v (some d) = record { sn = sn; role = r; chain = d; first = n; site = s; variable = v } ∷ []

abbrev pub atoms_after : Role → ℕ → Option Chain → ℕ
atoms_after r n none = n
atoms_after r n (some d) = draw.atoms_end r d n

abbrev pub variables_after : ℕ → Option Chain → ℕ
variables_after v none = v
variables_after v (some d) = v + draw.variables d

-- the chains of some elements, with n atoms and v variables before them
unfoldable pub placed_from : List ℕ → List Chain → ℕ → ℕ → List Element → List Placed
unfolding atoms_of_pieces fixed_pieces tail_part nonempty
placed_from t ds n v [] = []
placed_from t ds n v (fixed b ∷ es) = placed_from t ds (n + atoms_of_pieces (fixed_pieces b)) v es
placed_from t ds n v (tail ∷ es) = placed_from t ds (n + (tail_part t).size) v es
placed_from t ds n v (slot sn ∷ es) =
    place sn role.Slot (site_of role.Slot n) (suc n) v (nonempty sn ds)
    ++ placed_from t ds (atoms_after role.Slot (suc n) (nonempty sn ds)) (variables_after v (nonempty sn ds)) es
placed_from t ds n v (chain sn r ∷ es) =
    place sn r (site_of r n) n v (nonempty sn ds)
    ++ placed_from t ds (atoms_after r n (nonempty sn ds)) (variables_after v (nonempty sn ds)) es

unfoldable pub placed : Class → List ℕ → List Chain → List Placed
unfolding placed_from elements
placed c t ds = placed_from t ds 0 0 (elements c)

-- ---- what is said of the atoms, in the order of the text

unfoldable pub all_marks : List Placed → List (At ℕ)
all_marks [] = []
all_marks (p ∷ ps) = draw.marks p.role p.chain p.first p.variable ++ all_marks ps

unfoldable pub all_sites : List Placed → List (At (List ℕ))
all_sites [] = []
all_sites (p ∷ ps) = draw.sites p.role p.chain p.first ++ all_sites ps

unfoldable pub all_sums : List Placed → List Sum
all_sums [] = []
all_sums (p ∷ ps) = draw.sums p.role p.chain p.variable ++ all_sums ps

-- ---- by rising sn

unfoldable pub insert_by_sn : Placed → List Placed → List Placed
insert_by_sn p [] = p ∷ []
insert_by_sn p (q ∷ qs) = cond (leb p.sn q.sn) (p ∷ q ∷ qs) (q ∷ insert_by_sn p qs)

unfoldable pub by_sn : List Placed → List Placed
unfolding insert_by_sn
by_sn [] = []
by_sn (p ∷ ps) = insert_by_sn p (by_sn ps)

-- the sn sites, each with its sn: at an atom, an sn
abbrev pub site_note : Option ℕ → ℕ → List (At ℕ)
site_note none sn = []
site_note (some i) sn = at i sn ∷ []

unfoldable pub sn_sites : List Placed → List (At ℕ)
sn_sites [] = []
sn_sites (p ∷ ps) = site_note p.site p.sn ++ sn_sites ps

-- "If swap is set and there are two sites or more, the molecule has at each site the label `sn` with its chain's sn; else it has no label."
unfoldable pub labels : Bool → List (At ℕ) → List (At ℕ)
labels swap ls = cond (swap && ltb 1 (length ls)) ls []

-- ---- the molecule

abbrev pub or_no_rows : Option (List Row) → List Row
or_no_rows none = []
or_no_rows (some rs) = rs

-- the atoms and bonds of the drawing
unfoldable pub rows_drawn : Class → List ℕ → List Chain → List Row
unfolding drawn all_items elements
rows_drawn c t ds = or_no_rows (drawn (all_items t ds (elements c)))

-- the molecule of the names
unfoldable pub molecule_drawn : Class → Bool → List ℕ → List Chain → Molecule
unfolding rows_drawn molecule_of labels sn_sites by_sn placed all_marks all_sites all_sums
molecule_drawn c swap t ds =
    molecule_of (rows_drawn c t ds) (labels swap (sn_sites (by_sn (placed c t ds)))) (all_marks (placed c t ds)) (all_sites (placed c t ds)) (all_sums (placed c t ds))
