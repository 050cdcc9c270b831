-- A chain of carbons with rings, branches and bridges, over plain lists: its rows, drawn without labels, and its pieces, written with them.
-- 01, Drawing a chain: "C k for k = f..c; on acyl C1 a doubly bonded O; then located groups at k in token order ..; an epoxide's O between
-- k and k+1. Bond k joins k and k+1 ..; each ring adds a plain bond between its ends"; "a slot's O, then each carbon along the chain with
-- its carbonyl O, its groups' atoms and its bridge after it, then the chain's floating parts".
use Rattle.std.specs.Prelude.{ℕ, zero, suc, ◌+◌, ◌-◌, Bool, true, false, cond, ◌||◌, List, [], ◌∷◌, ◌++◌, map, eqb}
use Rattle.scanner.specs.part.Ascii.{ascii}
use Rattle.reading_rules.specs.smiles.Row.{Link, link, Row, row}
use Rattle.reading_rules.specs.smiles.Piece.{Piece, atom, mark, dot, lpar, rpar}
use Rattle.reading_rules.specs.smiles.Machine.{plainly}
use Rattle.reading_rules.specs.smiles.Part.{Part, place, hung}

-- the carbons that a ring joins: its start and its end
pub data Ring : Type 0 where
  ring : ℕ → ℕ → Ring

-- a carbon: the mark before it, 0 for none; what branches off it; whether an O stands between it and the next carbon
pub record Carbon : Type 0 where
  pub before : ℕ
  pub parts : List Part
  pub bridge : Bool

-- ---- atoms are numbered along the chain: after n atoms, the number after ..

unfoldable pub parts_end : ℕ → List Part → ℕ
parts_end n [] = n
parts_end n (p ∷ ps) = parts_end (n + p.size) ps

unfoldable pub bridge_end : Bool → ℕ → ℕ
bridge_end true n = suc n
bridge_end false n = n

unfoldable pub carbon_end : ℕ → Carbon → ℕ
unfolding parts_end bridge_end
carbon_end n c = bridge_end c.bridge (parts_end (suc n) c.parts)

unfoldable pub chain_end : ℕ → List Carbon → ℕ
unfolding carbon_end
chain_end n [] = n
chain_end n (c ∷ cs) = chain_end (carbon_end n c) cs

-- .. and the atom that the next one joins: the carbon or its bridge

unfoldable pub bridge_last : Bool → ℕ → ℕ → ℕ
bridge_last true self n = n
bridge_last false self n = self

unfoldable pub carbon_last : ℕ → Carbon → ℕ
unfolding parts_end bridge_last
carbon_last n c = bridge_last c.bridge n (parts_end (suc n) c.parts)

unfoldable pub chain_last : ℕ → ℕ → List Carbon → ℕ
unfolding carbon_end carbon_last
chain_last n prev [] = prev
chain_last n prev (c ∷ cs) = chain_last (carbon_end n c) (carbon_last n c) cs

-- the atom of the j-th carbon, from 0, where the first is atom n
unfoldable pub atom_from : ℕ → List Carbon → ℕ → ℕ
unfolding carbon_end
atom_from n [] j = n + j
atom_from n (c ∷ cs) zero = n
atom_from n (c ∷ cs) (suc j) = atom_from (carbon_end n c) cs j

-- the atom of carbon k, where the first, carbon f, is atom n
unfoldable pub atom_of : ℕ → ℕ → List Carbon → ℕ → ℕ
unfolding atom_from
atom_of f n cs k = atom_from n cs (k - f)

-- ---- what is drawn

unfoldable pub part_rows : ℕ → ℕ → List Part → List Row
unfolding hung
part_rows self n [] = []
part_rows self n (p ∷ ps) = hung self n p ++ part_rows self (n + p.size) ps

unfoldable pub bridge_rows : Bool → ℕ → List Row
unfolding ascii
bridge_rows true self = row (ascii "O") (link self 0 ∷ []) ∷ []
bridge_rows false self = []

-- the plain bonds of the rings that end at carbon k, in the rings' order; `pos` gives a carbon's atom
unfoldable pub ring_links : (ℕ → ℕ) → ℕ → List Ring → List Link
ring_links pos k [] = []
ring_links pos k (ring s e ∷ rs) = cond (eqb e k) (link (pos s) 0 ∷ ring_links pos k rs) (ring_links pos k rs)

-- What an atom of a chain is: one of its carbons; the `*` of a part that floats; any other, which hangs on one of these or stands between two carbons.
pub data Kind : Type 0 where
  own star other : Kind

-- an atom of a chain: what it is, and its row
pub record Member : Type 0 where
  pub kind : Kind
  pub row : Row

abbrev pub member : Kind → Row → Member
member k r = record { kind = k; row = r }

unfoldable pub others : List Row → List Member
others rs = map (member other) rs

-- the carbons from k on, the first of them atom n, which joins the atom `prev`: each carbon, what branches off it, and its bridge
unfoldable pub carbon_members : (ℕ → ℕ) → List Ring → ℕ → ℕ → ℕ → List Carbon → List Member
unfolding others ring_links part_rows bridge_rows carbon_end carbon_last plainly ascii
carbon_members pos rs k n prev [] = []
carbon_members pos rs k n prev (c ∷ cs) =
    (member own (row (ascii "C") (link prev (plainly c.before) ∷ ring_links pos k rs)) ∷ [])
    ++ (others (part_rows n (suc n) c.parts) ++ (others (bridge_rows c.bridge n) ++ carbon_members pos rs (suc k) (carbon_end n c) (carbon_last n c) cs))

-- 01, "Unlocated groups append `.*branch`": the parts that float, the first of them from atom n on
unfoldable pub float_members : ℕ → List Part → List Member
unfolding others hung ascii
float_members n [] = []
float_members n (p ∷ ps) = (member star (row (ascii "*") []) ∷ others (hung n (suc n) p)) ++ float_members (suc n + p.size) ps

-- the carbons of a chain whose first carbon is carbon f and atom n, hung on the atom `on`
unfoldable pub chain_members : ℕ → List Ring → List Carbon → ℕ → ℕ → List Member
unfolding carbon_members atom_of
chain_members f rs cs n on = carbon_members (atom_of f n cs) rs f n on cs

-- the rows of members, and the numbers of those of some kind, of which the first is atom n
unfoldable pub rows_of : List Member → List Row
rows_of [] = []
rows_of (m ∷ ms) = m.row ∷ rows_of ms

unfoldable pub places : (Kind → Bool) → ℕ → List Member → List ℕ
places is n [] = []
places is n (m ∷ ms) = let r = places is (suc n) ms in cond (is m.kind) (n ∷ r) r

-- ---- what is written

-- the labels of carbon k: one for each ring that starts or ends there, the first ring having the label l, the next the one after
unfoldable pub labels_at : ℕ → ℕ → List Ring → List ℕ
labels_at k l [] = []
labels_at k l (ring s e ∷ rs) = cond (eqb s k || eqb e k) (l ∷ labels_at k (suc l) rs) (labels_at k (suc l) rs)

unfoldable pub mark_pieces : ℕ → List Piece
mark_pieces zero = []
mark_pieces (suc m) = mark (suc m) ∷ []

unfoldable pub part_pieces : List Part → List Piece
part_pieces [] = []
part_pieces (p ∷ ps) = (lpar ∷ p.pieces ++ rpar ∷ []) ++ part_pieces ps

unfoldable pub bridge_pieces : Bool → List Piece
unfolding ascii
bridge_pieces true = atom (ascii "O") [] ∷ []
bridge_pieces false = []

-- 01, Drawing a chain: "Text: C, labels `%10` on, `(branch)`"
unfoldable pub chain_pieces : List Ring → ℕ → ℕ → List Carbon → List Piece
unfolding labels_at mark_pieces part_pieces bridge_pieces ascii
chain_pieces rs l k [] = []
chain_pieces rs l k (c ∷ cs) =
    (mark_pieces c.before ++ (atom (ascii "C") (labels_at k l rs) ∷ []))
    ++ (part_pieces c.parts ++ (bridge_pieces c.bridge ++ chain_pieces rs l (suc k) cs))

-- ---- the parts that float, written, and where they end

unfoldable pub float_pieces : List Part → List Piece
unfolding ascii
float_pieces [] = []
float_pieces (p ∷ ps) = (dot ∷ atom (ascii "*") [] ∷ p.pieces) ++ float_pieces ps

unfoldable pub float_end : ℕ → List Part → ℕ
float_end n [] = n
float_end n (p ∷ ps) = float_end (suc n + p.size) ps

unfoldable pub float_last : ℕ → ℕ → List Part → ℕ
float_last n cur [] = cur
float_last n cur (p ∷ ps) = float_last (suc n + p.size) (place n (suc n) p.last) ps
