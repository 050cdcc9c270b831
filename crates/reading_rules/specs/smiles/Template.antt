-- A template: pieces of its own, in which a caller's part or a chain may stand where an atom may.
-- 01, Templates and the builder: "Slot S is `O` and chain; `O` alone if absent or c = 0", `C(C`tail`)(`S2`)C`S1; Drawing a chain: "Atoms of
-- the drawn molecule .. are numbered from 0 as the template stands: a slot's O, then each carbon along the chain .., then the chain's
-- floating parts".
use Rattle.std.specs.Prelude.{ℕ, ◌+◌, List, [], ◌∷◌, ◌++◌, length}
use Rattle.std.proofs.Math.Option.{Option}
use Rattle.reading_rules.specs.smiles.Row.{Row}
use Rattle.reading_rules.specs.smiles.Piece.{Piece}
use Rattle.reading_rules.specs.smiles.Machine.{fresh, opened, after, marked, State, st, Out, fail, ok, step, and_then, whole}
use Rattle.reading_rules.specs.smiles.Part.{Part, place, hung}
use Rattle.reading_rules.specs.smiles.Chain.{Ring, Carbon, chain_end, chain_last, Member, chain_members, float_members, rows_of, chain_pieces, float_pieces, float_end, float_last}

-- a chain: its first carbon's number, its rings, its carbons, the parts that float
pub record Chain : Type 0 where
  pub first : ℕ
  pub rings : List Ring
  pub carbons : List Carbon
  pub floats : List Part

pub data Item : Type 0 where
  piece : Piece → Item
  part : Part → Item
  chain : Chain → Item

-- ---- what is written: each chain takes the labels after those of the chain before it

unfoldable pub item_pieces : ℕ → Item → List Piece
unfolding chain_pieces float_pieces
item_pieces l (piece u) = u ∷ []
item_pieces l (part p) = p.pieces
item_pieces l (chain c) = chain_pieces c.rings l c.first c.carbons ++ float_pieces c.floats

-- the next label
unfoldable pub next_label : ℕ → Item → ℕ
next_label l (piece u) = l
next_label l (part p) = l
next_label l (chain c) = l + length c.rings

unfoldable pub template_pieces : ℕ → List Item → List Piece
unfolding item_pieces next_label
template_pieces l [] = []
template_pieces l (i ∷ is) = item_pieces l i ++ template_pieces (next_label l i) is

-- ---- what is drawn: what the machine gives where a part and a chain stand for the rows that are drawn for them

unfoldable pub draw_part : Part → State → Out
unfolding hung
draw_part p (st n cur stk t fresh) = fail
draw_part p (st n cur stk t opened) = ok (hung cur n p) (st (n + p.size) (place cur n p.last) stk t after)
draw_part p (st n cur stk t after) = ok (hung cur n p) (st (n + p.size) (place cur n p.last) stk t after)
draw_part p (st n cur stk t (marked m)) = fail

-- the atoms of a chain, of which the first is atom n, hung on the atom `on`: its carbons with what they carry, then the parts that float
unfoldable pub members : Chain → ℕ → ℕ → List Member
unfolding chain_members float_members chain_end
members c n on = chain_members c.first c.rings c.carbons n on ++ float_members (chain_end n c.carbons) c.floats

-- a chain hangs on the atom before it, which is carbon f − 1 or what stands for it
unfoldable pub draw_chain : Chain → State → Out
unfolding rows_of members chain_end chain_last float_end float_last
draw_chain c (st n cur stk t fresh) = fail
draw_chain c (st n cur stk t opened) = fail
draw_chain c (st n cur stk t after) =
    ok (rows_of (members c n cur))
    (st (float_end (chain_end n c.carbons) c.floats) (float_last (chain_end n c.carbons) (chain_last n cur c.carbons) c.floats) stk t after)
draw_chain c (st n cur stk t (marked m)) = fail

unfoldable pub draw : Item → State → Out
unfolding draw_part draw_chain step
draw (piece u) s = step u s
draw (part p) s = draw_part p s
draw (chain c) s = draw_chain c s

unfoldable pub draw_all : List Item → State → Out
unfolding draw and_then
draw_all [] s = ok [] s
draw_all (i ∷ is) s = and_then (draw i s) (λ s'. draw_all is s')

-- the rows of a template, if its own pieces are a run
unfoldable pub drawn : List Item → Option (List Row)
unfolding draw_all whole
drawn is = whole (draw_all is (st 0 0 [] [] fresh))
