-- A template with its chains is drawn without failing: each chain stands where it is said to, with its carbons at its indices.
-- Assumes nothing.
use Prim.Native.Nat.{ℕ, zero, suc, ◌+◌, ◌-◌, ◌≤◌, ◌<◌}
use native.Mathlib.Omega.{arith}
use mathlib.Core.Path.{◌≡◌, refl, sym, ap, ◌∙◌, subst}
use mathlib.Core.Bool.{Bool, true, false, cond, false≢true}
use mathlib.Core.Option.{Option, none, some}
use mathlib.Core.List.{List, [], ◌∷◌, ◌++◌, map}
use mathlib.Core.List.{append-nil, append_assoc}
use mathlib.Core.Path.{fun_ext}
use mathlib.Core.Logic.{◌≢◌}
use lib.ListN.{length, length-append}
use lib.Dec.{eqb}
use borrow.Author.Tests.{eqb-false}
use Rattle.chain_record.specs.plain.Chain.{Chain}
use Rattle.chain_record.proofs.plain.Sound.{Sound}
use Rattle.reading_rules.specs.reading.Ascii.{ascii}
use Rattle.reading_rules.specs.reading.Row.{Link, Row, row}
use Rattle.reading_rules.specs.reading.Piece.{Piece, atom, mark, dot, lpar, rpar}
use Rattle.reading_rules.specs.reading.Machine.{Phase, fresh, opened, after, marked, State, st, ok, labels, joins, placed as put, step, prepend, and_then}
use Rattle.reading_rules.specs.reading.Part.{Part, move_row, hung, place as at}
use Rattle.reading_rules.specs.reading.Chain.{rows_of, chain_end, chain_last, float_last}
use Rattle.reading_rules.specs.reading.Template as template
use Rattle.reading_rules.specs.reading.Template.{Item, piece, part, draw_part, draw_chain, draw, draw_all}
use Rattle.reading_rules.proofs.reading.Reading.{and_then-assoc, prepend-nil, then_ok}
use Rattle.reading_rules.proofs.reading.Frame.{Hangs}
use Rattle.reading_rules.proofs.reading.WellFormed.{AllWell}
use Rattle.reading_rules.proofs.reading.Part.{none≢some}
use Rattle.reading_rules.proofs.reading.PartingLaws.{All, all_map, and_left, and_right}
use Rattle.chain_rules.specs.declared.chain.Role.{Role}
use Rattle.chain_rules.specs.declared.chain.Role.TheVariants as role
use Rattle.chain_rules.specs.chain.Lists.{any_of, all_of}
use Rattle.chain_rules.specs.chain.Refusals.{wrong_kind, place_refusal, draw_refusal}
use Rattle.chain_rules.specs.chain.Drawing.{chain_drawn, carbons, floats, atoms_end, variables}
use Rattle.chain_rules.proofs.chain.Lists.{all_append}
use Rattle.chain_rules.proofs.chain.Accepted.{Drawable}
use Rattle.chain_rules.proofs.chain.Few.{atoms-most}
use Rattle.template_rules.specs.declared.Class.{Class}
use Rattle.template_rules.specs.declared.Class.TheVariants.{Fa, Gl1, Gl2, Gl3, Gp, Cl, Sb, Sa}
use Rattle.template_rules.specs.Template.{Element, fixed, tail, slot, chain, glycerol, elements}
use Rattle.template_rules.specs.Drawn.{chain_at, unless_empty, nonempty, fixed_pieces, tail_part, chain_item, slot_oxygen, items_of, all_items, Placed, atoms_of_piece, atoms_of_pieces, site_of, place, atoms_after, variables_after, placed_from}
use Rattle.template_rules.proofs.Templates.{Turn, no, to, turn_piece, and_turn, turn_pieces, turn_tail, turn_chain, turn_element, turn_all, most_atoms, same_role, in_role, is_tailed}
use Rattle.template_rules.specs.Chains.{hangs_on, parent_of, site_by, own_members}
use Rattle.template_rules.proofs.Rows.{drawn_rows, length-hung, length-drawn}

-- ---- items, drawn

-- items that are drawn from a state with n atoms, the current atom `cur` and no label open, up to m atoms and the current atom `cur'`
pub record Drawn (is : List Item) (n cur : ℕ) (stk : List ℕ) (ph : Phase) (m cur' : ℕ) (stk' : List ℕ) (k : ℕ) (ph' : Phase) : Type 0 where
  pub rows : List Row
  pub does : draw_all is (st n cur stk [] ph) ≡ ok rows (st m cur' stk' [] ph')
  pub deep : length stk' ≡ k
  pub many : n + length rows ≡ m

-- drawing items that are joined is drawing the first, and the others from where they end
draw_all-append : (xs ys : List Item) (s : State) → draw_all (xs ++ ys) s ≡ and_then (draw_all xs s) (draw_all ys)
unfolding draw_all and_then
draw_all-append [] ys s = sym (prepend-nil (draw_all ys s))
draw_all-append (i ∷ xs) ys s = ap (and_then (draw i s)) (fun_ext (draw_all-append xs ys)) ∙ sym (and_then-assoc (draw i s) (draw_all xs) (draw_all ys))

drawn-append : {xs ys : List Item} {n cur m c m' c' k k' : ℕ} {stk z z' : List ℕ} {ph ph' ph'' : Phase} → Drawn xs n cur stk ph m c z k ph' → Drawn ys m c z ph' m' c' z' k' ph''
    → Drawn (xs ++ ys) n cur stk ph m' c' z' k' ph''
drawn-append {xs} {ys} {n} {cur} {stk = stk} {ph = ph} a b =
    record {
      rows = a.rows ++ b.rows;
      does = draw_all-append xs ys (st n cur stk [] ph) ∙ then_ok (draw_all xs (st n cur stk [] ph)) (draw_all ys) a.does b.does;
      deep = b.deep;
      many = omega (arith, length-append a.rows b.rows, a.many, b.many);
    }

-- ---- the last atom before a chain

-- the bytes of the last of some rows, or b where there are none
unfoldable pub last_bytes : Option (List ℕ) → List Row → Option (List ℕ)
last_bytes b [] = b
last_bytes b (row x ks ∷ rs) = last_bytes (some x) rs

last-append : (b : Option (List ℕ)) (xs ys : List Row) → last_bytes b (xs ++ ys) ≡ last_bytes (last_bytes b xs) ys
unfolding last_bytes
last-append b [] ys = refl
last-append b (row x ks ∷ xs) ys = last-append (some x) xs ys

last-hung : (b : Option (List ℕ)) (on n : ℕ) (rs : List Row) → last_bytes b (map (move_row (at on n)) rs) ≡ last_bytes b rs
unfolding last_bytes
last-hung b on n [] = refl
last-hung b on n (row x ks ∷ rs) = last-hung (some x) on n rs

-- the last atom of some pieces, or b
unfoldable pub last_atom : Option (List ℕ) → List Piece → Option (List ℕ)
last_atom b [] = b
last_atom b (atom x ls ∷ us) = last_atom (some x) us
last_atom b (mark m ∷ us) = last_atom b us
last_atom b (dot ∷ us) = last_atom b us
last_atom b (lpar ∷ us) = last_atom b us
last_atom b (rpar ∷ us) = last_atom b us

-- ---- one piece

abbrev DrawnTo : List Item → ℕ → ℕ → List ℕ → Option (List ℕ) → Phase → ℕ → ℕ → List ℕ → Option (List ℕ) → Turn → Type 0
DrawnTo is n cur stk b ph m c z b' no = Unit {0}
DrawnTo is n cur stk b ph m c z b' (to k ph') = (x : Drawn is n cur stk ph m c z k ph') × (last_bytes b x.rows ≡ b')

-- the current atom after a piece, and the atoms at which branches are open
unfoldable pub piece_atom : Piece → ℕ → ℕ → List ℕ → ℕ
piece_atom (atom b ls) n cur stk = n
piece_atom (mark m) n cur stk = cur
piece_atom dot n cur stk = cur
piece_atom lpar n cur stk = cur
piece_atom rpar n cur [] = cur
piece_atom rpar n cur (p ∷ stk) = p

unfoldable pub piece_stack : Piece → ℕ → List ℕ → List ℕ
piece_stack (atom b ls) cur stk = stk
piece_stack (mark m) cur stk = stk
piece_stack dot cur stk = stk
piece_stack lpar cur stk = cur ∷ stk
piece_stack rpar cur [] = []
piece_stack rpar cur (p ∷ stk) = stk

silent : (u : Piece) (n cur cur' : ℕ) (stk stk' : List ℕ) (b : Option (List ℕ)) (ph ph' : Phase) → step u (st n cur stk [] ph) ≡ ok [] (st n cur' stk' [] ph')
    → (x : Drawn (piece u ∷ []) n cur stk ph (n + 0) cur' stk' (length stk') ph') × (last_bytes b x.rows ≡ b)
unfolding draw_all draw and_then prepend last_bytes
silent u n cur cur' stk stk' b ph ph' e =
    let z : n + 0 ≡ n = omega arith in
    (record { rows = []; does = rw (e, z); deep = refl; many = refl }, refl)

one-row : (u : Piece) (n cur : ℕ) (stk : List ℕ) (b : Option (List ℕ)) (ph : Phase) (bs : List ℕ) (ks : List Link) → step u (st n cur stk [] ph) ≡ ok (row bs ks ∷ []) (st (suc n) n stk [] after)
    → (x : Drawn (piece u ∷ []) n cur stk ph (n + 1) n stk (length stk) after) × (last_bytes b x.rows ≡ some bs)
unfolding draw_all draw and_then prepend last_bytes
one-row u n cur stk b ph bs ks e =
    let z : n + 1 ≡ suc n = omega arith in
    (record { rows = row bs ks ∷ []; does = rw (e, z); deep = refl; many = refl }, refl)

piece-drawn : (u : Piece) (n cur : ℕ) (stk : List ℕ) (b : Option (List ℕ)) (ph : Phase)
    → DrawnTo (piece u ∷ []) n cur stk b ph (n + atoms_of_piece u) (piece_atom u n cur stk) (piece_stack u cur stk) (last_atom b (u ∷ [])) (turn_piece u (length stk) ph)
unfolding turn_piece atoms_of_piece piece_atom piece_stack last_atom step put labels
piece-drawn (atom a []) n cur stk b ph = one-row (atom a []) n cur stk b ph a (joins ph cur) refl
piece-drawn (atom a (l ∷ ls)) n cur stk b ph = tt
piece-drawn (mark m) n cur stk b fresh = tt
piece-drawn (mark m) n cur stk b opened = silent (mark m) n cur _ stk _ b opened _ refl
piece-drawn (mark m) n cur stk b after = silent (mark m) n cur _ stk _ b after _ refl
piece-drawn (mark m) n cur stk b (marked m') = tt
piece-drawn dot n cur stk b fresh = tt
piece-drawn dot n cur stk b opened = tt
piece-drawn dot n cur stk b after = silent dot n cur _ stk _ b after _ refl
piece-drawn dot n cur stk b (marked m) = tt
piece-drawn lpar n cur stk b fresh = tt
piece-drawn lpar n cur stk b opened = tt
piece-drawn lpar n cur stk b after = silent lpar n cur _ stk _ b after _ refl
piece-drawn lpar n cur stk b (marked m) = tt
piece-drawn rpar n cur [] b ph = tt
piece-drawn rpar n cur (p ∷ stk) b fresh = tt
piece-drawn rpar n cur (p ∷ stk) b opened = tt
piece-drawn rpar n cur (p ∷ stk) b after = silent rpar n cur _ (p ∷ stk) _ b after _ refl
piece-drawn rpar n cur (p ∷ stk) b (marked m) = tt

-- ---- the chains in their places

abbrev pub SiteFrom : ℕ → ℕ → Option ℕ → Type 0
SiteFrom lo first none = Unit {0}
SiteFrom lo first (some i) = (lo ≤ i) × (i ≤ first)

-- a chain without refusals whose first carbon, and site, are at lo or later, and whose first variable is v
pub record Standing (lo v : ℕ) (p : Placed) : Type 0 where
  pub drawable : Drawable p.role p.chain
  pub from : lo ≤ p.first
  pub site : SiteFrom lo p.first p.site
  pub variable : p.variable ≡ v

-- chains that stand one after the other, from atom lo and variable v on, up to atom hi and variable w
abbrev pub Placing : ℕ → ℕ → ℕ → ℕ → List Placed → Type 0
Placing lo hi v w [] = (lo ≤ hi) × (v ≡ w)
Placing lo hi v w (p ∷ ps) = Standing lo v p × Placing (atoms_end p.role p.chain p.first) hi (v + variables p.chain) w ps

standing-from : (lo lo' v v' : ℕ) (p : Placed) → lo ≤ lo' → v ≡ v' → Standing lo' v' p → Standing lo v p
standing-from lo lo' v v' p h e s =
    record { drawable = s.drawable; from = omega (arith, s.from); site = site p.site s.site; variable = s.variable ∙ sym e }
  where
    site : (o : Option ℕ) → SiteFrom lo' p.first o → SiteFrom lo p.first o
    site none q = tt
    site (some i) q = (omega (arith, q.0), q.1)

placing-append : (lo mid hi v u w : ℕ) (ps qs : List Placed) → Placing lo mid v u ps → Placing mid hi u w qs → Placing lo hi v w (ps ++ qs)
placing-append lo mid hi v u w [] [] h g = (omega (arith, h.0, g.0), h.1 ∙ g.1)
placing-append lo mid hi v u w [] (q ∷ qs) h g =
    rw h.1 (standing-from lo mid u u q h.0 refl g.0, g.1)
placing-append lo mid hi v u w (p ∷ ps) qs h g =
    (h.0, placing-append (atoms_end p.role p.chain p.first) mid hi (v + variables p.chain) u w ps qs h.1 g)

-- ---- items and their chains

-- a chain in a slot, or an acyl chain outside of one, comes right after the atom that its class says: π by role
abbrev pub Led : (Role → List ℕ) → Role → Option (List ℕ) → Type 0
Led π role.Slot b = b ≡ some (π role.Slot)
Led π role.Acyl b = b ≡ some (π role.Acyl)
Led π role.Base b = Unit {0}

-- a chain's rows stand among these, which are numbered from n; b is the last atom before them
pub record Strand (π : Role → List ℕ) (b : Option (List ℕ)) (n : ℕ) (rs : List Row) (p : Placed) : Type 0 where
  pub before : List Row
  pub behind : List Row
  pub is : rs ≡ before ++ (rows_of (own_members p) ++ behind)
  pub from : n + length before ≡ p.first
  pub led : Led π p.role (last_bytes b before)
  pub site : p.site ≡ site_by p.role p.first

-- items that are drawn, with their chains, from the last atom b on to the last atom b'
pub record Made (π : Role → List ℕ) (is : List Item) (ps : List Placed) (n v cur : ℕ) (stk : List ℕ) (b : Option (List ℕ)) (ph : Phase) (m w c : ℕ) (z : List ℕ) (b' : Option (List ℕ)) (most k : ℕ) (ph' : Phase) : Type 0 where
  pub drawn : Drawn is n cur stk ph m c z k ph'
  pub placing : Placing n m v w ps
  pub strands : All (Strand π b n drawn.rows) ps
  pub last : last_bytes b drawn.rows ≡ b'
  pub few : m ≤ n + most

abbrev pub MadeTo : (Role → List ℕ) → List Item → List Placed → ℕ → ℕ → ℕ → List ℕ → Option (List ℕ) → Phase → ℕ → ℕ → ℕ → List ℕ → Option (List ℕ) → ℕ → Turn → Type 0
MadeTo π is ps n v cur stk b ph m w c z b' most no = Unit {0}
MadeTo π is ps n v cur stk b ph m w c z b' most (to k ph') = Made π is ps n v cur stk b ph m w c z b' most k ph'

strand-after : (π : Role → List ℕ) (b : Option (List ℕ)) (n : ℕ) (xs ys : List Row) (p : Placed) → Strand π b n xs p → Strand π b n (xs ++ ys) p
strand-after π b n xs ys p s =
    let own : List Row = rows_of (own_members p) in
    record {
      before = s.before;
      behind = s.behind ++ ys;
      is = ap (λ (z : List Row). z ++ ys) s.is ∙ append_assoc s.before (own ++ s.behind) ys ∙ ap (λ (z : List Row). s.before ++ z) (append_assoc own s.behind ys);
      from = s.from;
      led = s.led;
      site = s.site;
    }

strand-before : (π : Role → List ℕ) (b b' : Option (List ℕ)) (n m : ℕ) (xs ys : List Row) (p : Placed) → last_bytes b xs ≡ b' → n + length xs ≡ m → Strand π b' m ys p → Strand π b n (xs ++ ys) p
strand-before π b b' n m xs ys p q e s =
    record {
      before = xs ++ s.before;
      behind = s.behind;
      is = ap (λ (z : List Row). xs ++ z) s.is ∙ sym (append_assoc xs s.before (rows_of (own_members p) ++ s.behind));
      from = omega (arith, length-append xs s.before, s.from);
      led = rw (last-append b xs s.before, q) s.led;
      site = s.site;
    }

made-append : {π : Role → List ℕ} {xs ys : List Item} {ps qs : List Placed} {n v cur m w c a m' w' c' d k k' : ℕ} {stk z z' : List ℕ} {b b' b'' : Option (List ℕ)} {ph ph' ph'' : Phase}
    → Made π xs ps n v cur stk b ph m w c z b' a k ph' → Made π ys qs m w c z b' ph' m' w' c' z' b'' d k' ph'' → Made π (xs ++ ys) (ps ++ qs) n v cur stk b ph m' w' c' z' b'' (a + d) k' ph''
unfolding drawn-append
made-append {π} {xs} {ys} {ps} {qs} {n} {v} {m = m} {w} {m' = m'} {w'} {b = b} {b'} {b''} x y =
    let us : List Row = x.drawn.rows in
    let vs : List Row = y.drawn.rows in
    record {
      drawn = drawn-append x.drawn y.drawn;
      placing = placing-append n m m' v w w' ps qs x.placing y.placing;
      strands = all_append (Strand π b n (us ++ vs)) ps qs (all_map {P = Strand π b n us} {Q = Strand π b n (us ++ vs)} (λ p h. strand-after π b n us vs p h) ps x.strands)
          (all_map {P = Strand π b' m vs} {Q = Strand π b n (us ++ vs)} (λ p h. strand-before π b b' n m us vs p x.last x.drawn.many h) qs y.strands);
      last = last-append b us vs ∙ ap (λ (o : Option (List ℕ)). last_bytes o vs) x.last ∙ y.last;
      few = omega (arith, x.few, y.few);
    }

-- what follows is made from where the first ends
made_then : (π : Role → List ℕ) (xs ys : List Item) (ps qs : List Placed) (n v cur : ℕ) (stk : List ℕ) (b : Option (List ℕ)) (ph : Phase) (m w c : ℕ) (z : List ℕ) (b' : Option (List ℕ)) (a m' w' c' : ℕ) (z' : List ℕ) (b'' : Option (List ℕ)) (d : ℕ) (T : Turn) (f : ℕ → Phase → Turn)
    → MadeTo π xs ps n v cur stk b ph m w c z b' a T
    → ((ph' : Phase) → MadeTo π ys qs m w c z b' ph' m' w' c' z' b'' d (f (length z) ph'))
    → MadeTo π (xs ++ ys) (ps ++ qs) n v cur stk b ph m' w' c' z' b'' (a + d) (and_turn T f)
unfolding and_turn
made_then π xs ys ps qs n v cur stk b ph m w c z b' a m' w' c' z' b'' d no f x y = tt
made_then π xs ys ps qs n v cur stk b ph m w c z b' a m' w' c' z' b'' d (to k ph') f x y = go (f k ph') (rw x.drawn.deep at (y ph'))
  where
    go : (T : Turn) → MadeTo π ys qs m w c z b' ph' m' w' c' z' b'' d T → MadeTo π (xs ++ ys) (ps ++ qs) n v cur stk b ph m' w' c' z' b'' (a + d) T
    go no q = tt
    go (to k' ph'') q = made-append x q

-- ---- pieces

-- items with no chain
made_plain : {π : Role → List ℕ} {is : List Item} {n cur m c k : ℕ} {stk z : List ℕ} {b b' : Option (List ℕ)} {ph ph' : Phase} (v most : ℕ) → m ≤ n + most → (x : Drawn is n cur stk ph m c z k ph') → last_bytes b x.rows ≡ b'
    → Made π is [] n v cur stk b ph m v c z b' most k ph'
made_plain v most h d e = record { drawn = d; placing = (omega (arith, d.many), refl); strands = tt; last = e; few = h }

made-piece : (π : Role → List ℕ) (u : Piece) (n v cur : ℕ) (stk : List ℕ) (b : Option (List ℕ)) (ph : Phase)
    → MadeTo π (piece u ∷ []) [] n v cur stk b ph (n + atoms_of_piece u) v (piece_atom u n cur stk) (piece_stack u cur stk) (last_atom b (u ∷ [])) (atoms_of_piece u) (turn_piece u (length stk) ph)
made-piece π u n v cur stk b ph = go (turn_piece u (length stk) ph) (piece-drawn u n cur stk b ph)
  where
    go : (T : Turn) → DrawnTo (piece u ∷ []) n cur stk b ph (n + atoms_of_piece u) (piece_atom u n cur stk) (piece_stack u cur stk) (last_atom b (u ∷ [])) T
        → MadeTo π (piece u ∷ []) [] n v cur stk b ph (n + atoms_of_piece u) v (piece_atom u n cur stk) (piece_stack u cur stk) (last_atom b (u ∷ [])) (atoms_of_piece u) T
    go no x = tt
    go (to k ph') x = made_plain v (atoms_of_piece u) (omega arith) x.0 x.1

made_nothing : (π : Role → List ℕ) (n v cur : ℕ) (stk : List ℕ) (b : Option (List ℕ)) (ph : Phase) → Made π [] [] n v cur stk b ph n v cur stk b 0 (length stk) ph
unfolding draw_all last_bytes
made_nothing π n v cur stk b ph =
    made_plain v 0 (omega arith) (record { rows = []; does = refl; deep = refl; many = omega arith }) refl

-- the current atom and the open branches after pieces
unfoldable pub pieces_atom : List Piece → ℕ → ℕ → List ℕ → ℕ
unfolding piece_atom piece_stack atoms_of_piece
pieces_atom [] n cur stk = cur
pieces_atom (u ∷ us) n cur stk = pieces_atom us (n + atoms_of_piece u) (piece_atom u n cur stk) (piece_stack u cur stk)

unfoldable pub pieces_stack : List Piece → ℕ → ℕ → List ℕ → List ℕ
unfolding piece_atom piece_stack atoms_of_piece
pieces_stack [] n cur stk = stk
pieces_stack (u ∷ us) n cur stk = pieces_stack us (n + atoms_of_piece u) (piece_atom u n cur stk) (piece_stack u cur stk)

last-pieces : (b : Option (List ℕ)) (u : Piece) (us : List Piece) → last_atom (last_atom b (u ∷ [])) us ≡ last_atom b (u ∷ us)
unfolding last_atom
last-pieces b (atom x ls) us = refl
last-pieces b (mark m) us = refl
last-pieces b dot us = refl
last-pieces b lpar us = refl
last-pieces b rpar us = refl

made-pieces : (π : Role → List ℕ) (us : List Piece) (n v cur : ℕ) (stk : List ℕ) (b : Option (List ℕ)) (ph : Phase)
    → MadeTo π (map piece us) [] n v cur stk b ph (n + atoms_of_pieces us) v (pieces_atom us n cur stk) (pieces_stack us n cur stk) (last_atom b us) (atoms_of_pieces us) (turn_pieces us (length stk) ph)
unfolding turn_pieces atoms_of_pieces pieces_atom pieces_stack
made-pieces π [] n v cur stk b ph = let z : n + 0 ≡ n = omega arith in rw z (unfold last_atom in made_nothing π n v cur stk b ph)
made-pieces π (u ∷ us) n v cur stk b ph =
    let z : n + (atoms_of_piece u + atoms_of_pieces us) ≡ n + atoms_of_piece u + atoms_of_pieces us = omega arith in
    let c : ℕ = piece_atom u n cur stk in
    let k : List ℕ = piece_stack u cur stk in
    let m : ℕ = n + atoms_of_piece u in
    let b' : Option (List ℕ) = last_atom b (u ∷ []) in
    rw (z, ← last-pieces b u us)
    (made_then π (piece u ∷ []) (map piece us) [] [] n v cur stk b ph m v c k b' (atoms_of_piece u) (m + atoms_of_pieces us) v (pieces_atom us m c k) (pieces_stack us m c k) (last_atom b' us) (atoms_of_pieces us)
    (turn_piece u (length stk) ph) (λ k' ph'. turn_pieces us k' ph') (made-piece π u n v cur stk b ph) (λ ph'. made-pieces π us m v c k b' ph'))

-- ---- a chain

-- a chain with none of 22, 32, 33 and 12 to 15 in its place
pub record Accepts (r : Role) (d : Chain) : Type 0 where
  pub sound : Sound d
  pub kind : wrong_kind r d ≡ false
  pub placed : place_refusal r d ≡ 0
  pub draws : draw_refusal r d ≡ 0

drawable : (r : Role) (d : Chain) → Accepts r d → 0 < d.carbon → Drawable r d
drawable r d a h = record { sound = a.sound; kind = a.kind; placed = a.placed; draws = a.draws; carbons = h }

-- the current atom after a chain
abbrev chain_atom : Role → Chain → ℕ → ℕ → ℕ
chain_atom r d n cur = float_last (chain_end n (carbons r d)) (chain_last n cur (carbons r d)) (floats d)

chain-drawn : (r : Role) (d : Chain) → Drawable r d → (n cur : ℕ) (stk : List ℕ)
    → Drawn (template.chain (chain_drawn r d) ∷ []) n cur stk after (atoms_end r d n) (chain_atom r d n cur) stk (length stk) after
unfolding draw_all draw draw_chain chain_drawn and_then prepend atoms_end
chain-drawn r d a n cur stk =
    record {
      rows = drawn_rows r d n cur;
      does = ap (λ (z : List Row). ok z (st (atoms_end r d n) (chain_atom r d n cur) stk [] after)) (append-nil (drawn_rows r d n cur));
      deep = refl;
      many = length-drawn r d a n cur;
    }

-- a chain that is drawn, with its role, its site and its first variable
abbrev placed_at : ℕ → Role → Option ℕ → ℕ → ℕ → Chain → Placed
placed_at sn r s n v d = record { sn = sn; role = r; chain = d; first = n; site = s; variable = v }

-- the rows of a chain, after others
strand-here : (π : Role → List ℕ) (sn : ℕ) (r : Role) (s : Option ℕ) (n v cur k : ℕ) (d : Chain) (b : Option (List ℕ)) (xs : List Row) → cur ≡ hangs_on r n → k + length xs ≡ n → Led π r (last_bytes b xs) → s ≡ site_by r n
    → Strand π b k (xs ++ drawn_rows r d n cur) (placed_at sn r s n v d)
strand-here π sn r s n v cur k d b xs e q l h =
    record {
      before = xs;
      behind = [];
      is = ap (λ (z : List Row). xs ++ z) (ap (λ (c : ℕ). drawn_rows r d n c) e ∙ sym (append-nil (drawn_rows r d n (hangs_on r n))));
      from = q;
      led = l;
      site = h;
    }

-- a chain without an O of a slot hangs where its role says, after the atom that its class says, and its site is no earlier atom
pub record Anchored (π : Role → List ℕ) (r : Role) (n cur : ℕ) (b : Option (List ℕ)) : Type 0 where
  pub hangs : cur ≡ hangs_on r n
  pub led : Led π r b
  pub site : site_of r n ≡ site_by r n
  pub from : SiteFrom n n (site_of r n)

-- the last atom after a chain
abbrev chain_bytes : Role → Chain → ℕ → ℕ → Option (List ℕ) → Option (List ℕ)
chain_bytes r d n cur b = last_bytes b (drawn_rows r d n cur)

made-chain : (π : Role → List ℕ) (sn : ℕ) (r : Role) (d : Chain) → Drawable r d → (n v cur : ℕ) (stk : List ℕ) (b : Option (List ℕ)) → Anchored π r n cur b
    → Made π (template.chain (chain_drawn r d) ∷ []) (placed_at sn r (site_of r n) n v d ∷ []) n v cur stk b after (atoms_end r d n) (v + variables d) (chain_atom r d n cur) stk (chain_bytes r d n cur b) 701 (length stk) after
unfolding chain-drawn last_bytes
made-chain π sn r d a n v cur stk b x =
    record {
      drawn = chain-drawn r d a n cur stk;
      placing = (record { drawable = a; from = omega arith; site = x.from; variable = refl }, (omega arith, refl));
      strands = (strand-here π sn r (site_of r n) n v cur n d b [] x.hangs (omega arith) x.led x.site, tt);
      last = refl;
      few = atoms-most r d n a;
    }

oxygen-drawn : (n cur : ℕ) (stk : List ℕ) (ph : Phase) → Drawn (slot_oxygen ∷ []) n cur stk ph (suc n) n stk (length stk) after
unfolding slot_oxygen draw_all draw and_then prepend step put labels
oxygen-drawn n cur stk ph = record { rows = row (ascii "O") (joins ph cur) ∷ []; does = refl; deep = refl; many = omega arith }

-- the site of a slot's chain is the O before it
slot-site : (n : ℕ) → site_of role.Slot n ≡ site_by role.Slot (suc n)
slot-site n = ap (λ (i : ℕ). some i) (omega arith)

slot-from : (n : ℕ) → SiteFrom n (suc n) (site_by role.Slot (suc n))
slot-from n = (omega arith, omega arith)

made-slot : (π : Role → List ℕ) → π role.Slot ≡ ascii "O" → (sn : ℕ) (d : Chain) → Drawable role.Slot d → (n v cur : ℕ) (stk : List ℕ) (b : Option (List ℕ)) (ph : Phase)
    → Made π (slot_oxygen ∷ template.chain (chain_drawn role.Slot d) ∷ []) (placed_at sn role.Slot (site_of role.Slot n) (suc n) v d ∷ []) n v cur stk b ph (atoms_end role.Slot d (suc n))
    (v + variables d) (chain_atom role.Slot d (suc n) n) stk (chain_bytes role.Slot d (suc n) n (some (ascii "O"))) 702 (length stk) after
unfolding drawn-append oxygen-drawn chain-drawn last_bytes
made-slot π o sn d a n v cur stk b ph =
    let z : n ≡ suc n - 1 = omega arith in
    record {
      drawn = drawn-append (oxygen-drawn n cur stk ph) (chain-drawn role.Slot d a (suc n) n stk);
      placing = (record { drawable = a; from = omega arith; site = subst (SiteFrom n (suc n)) (sym (slot-site n)) (slot-from n); variable = refl }, (omega arith, refl));
      strands = (
        strand-here π sn role.Slot (site_of role.Slot n) (suc n) v n n d b (row (ascii "O") (joins ph cur) ∷ []) z (omega arith) (ap (λ (x : List ℕ). some x) (sym o)) (slot-site n),
        tt,
      );
      last = refl;
      few = omega (arith, atoms-most role.Slot d (suc n) a);
    }

-- ---- a part

part-drawn : (p : Part) → Hangs p → (n cur : ℕ) (stk : List ℕ) (ph : Phase)
    → draw_part p (st n cur stk [] ph) ≡ ok (hung cur n p) (st (n + p.size) (at cur n p.last) stk [] after)
    → Drawn (part p ∷ []) n cur stk ph (n + p.size) (at cur n p.last) stk (length stk) after
unfolding draw_all draw and_then prepend
part-drawn p h n cur stk ph e =
    record {
      rows = hung cur n p;
      does = rw e (ap (λ (z : List Row). ok z (st (n + p.size) (at cur n p.last) stk [] after)) (append-nil (hung cur n p)));
      deep = refl;
      many = ap (λ (z : ℕ). n + z) (length-hung cur n p h);
    }

-- ---- the elements of a template

-- a tail that reads by itself, with at most 255 atoms
pub record TailFits (t : List ℕ) : Type 0 where
  pub hangs : Hangs (tail_part t)
  pub well : AllWell (tail_part t).pieces
  pub few : (tail_part t).size ≤ 255

-- the atoms and the variables after some elements
unfoldable pub atoms_to : List ℕ → List Chain → ℕ → List Element → ℕ
unfolding atoms_of_pieces fixed_pieces tail_part nonempty
atoms_to t ds n [] = n
atoms_to t ds n (fixed b ∷ es) = atoms_to t ds (n + atoms_of_pieces (fixed_pieces b)) es
atoms_to t ds n (tail ∷ es) = atoms_to t ds (n + (tail_part t).size) es
atoms_to t ds n (slot sn ∷ es) = atoms_to t ds (atoms_after role.Slot (suc n) (nonempty sn ds)) es
atoms_to t ds n (chain sn r ∷ es) = atoms_to t ds (atoms_after r n (nonempty sn ds)) es

unfoldable pub variables_to : List Chain → ℕ → List Element → ℕ
unfolding nonempty
variables_to ds v [] = v
variables_to ds v (fixed b ∷ es) = variables_to ds v es
variables_to ds v (tail ∷ es) = variables_to ds v es
variables_to ds v (slot sn ∷ es) = variables_to ds (variables_after v (nonempty sn ds)) es
variables_to ds v (chain sn r ∷ es) = variables_to ds (variables_after v (nonempty sn ds)) es

-- the current atom after a slot or a chain, which hangs on `cur`
abbrev pub atom_after : Role → ℕ → ℕ → Option Chain → ℕ
atom_after r n cur none = cur
atom_after r n cur (some d) = chain_atom r d n cur

-- the current atom and the open branches after some elements
unfoldable pub atom_to : List ℕ → List Chain → ℕ → ℕ → List ℕ → List Element → ℕ
unfolding atoms_of_pieces fixed_pieces tail_part nonempty pieces_atom pieces_stack
atom_to t ds n cur stk [] = cur
atom_to t ds n cur stk (fixed b ∷ es) = atom_to t ds (n + atoms_of_pieces (fixed_pieces b)) (pieces_atom (fixed_pieces b) n cur stk) (pieces_stack (fixed_pieces b) n cur stk) es
atom_to t ds n cur stk (tail ∷ es) = atom_to t ds (n + (tail_part t).size) (at cur n (tail_part t).last) stk es
atom_to t ds n cur stk (slot sn ∷ es) = atom_to t ds (atoms_after role.Slot (suc n) (nonempty sn ds)) (atom_after role.Slot (suc n) n (nonempty sn ds)) stk es
atom_to t ds n cur stk (chain sn r ∷ es) = atom_to t ds (atoms_after r n (nonempty sn ds)) (atom_after r n cur (nonempty sn ds)) stk es

unfoldable pub stack_to : List ℕ → List Chain → ℕ → ℕ → List ℕ → List Element → List ℕ
unfolding atoms_of_pieces fixed_pieces tail_part nonempty pieces_atom pieces_stack
stack_to t ds n cur stk [] = stk
stack_to t ds n cur stk (fixed b ∷ es) = stack_to t ds (n + atoms_of_pieces (fixed_pieces b)) (pieces_atom (fixed_pieces b) n cur stk) (pieces_stack (fixed_pieces b) n cur stk) es
stack_to t ds n cur stk (tail ∷ es) = stack_to t ds (n + (tail_part t).size) (at cur n (tail_part t).last) stk es
stack_to t ds n cur stk (slot sn ∷ es) = stack_to t ds (atoms_after role.Slot (suc n) (nonempty sn ds)) (atom_after role.Slot (suc n) n (nonempty sn ds)) stk es
stack_to t ds n cur stk (chain sn r ∷ es) = stack_to t ds (atoms_after r n (nonempty sn ds)) (atom_after r n cur (nonempty sn ds)) stk es

-- the last atom after some elements
abbrev pub bytes_after : Role → ℕ → ℕ → Option (List ℕ) → Option Chain → Option (List ℕ)
bytes_after r n cur b none = b
bytes_after r n cur b (some d) = chain_bytes r d n cur b

unfoldable pub last_to : List ℕ → List Chain → ℕ → ℕ → List ℕ → Option (List ℕ) → List Element → Option (List ℕ)
unfolding atoms_of_pieces fixed_pieces tail_part nonempty pieces_atom pieces_stack last_atom last_bytes
last_to t ds n cur stk b [] = b
last_to t ds n cur stk b (fixed x ∷ es) = last_to t ds (n + atoms_of_pieces (fixed_pieces x)) (pieces_atom (fixed_pieces x) n cur stk) (pieces_stack (fixed_pieces x) n cur stk) (last_atom b (fixed_pieces x)) es
last_to t ds n cur stk b (tail ∷ es) = last_to t ds (n + (tail_part t).size) (at cur n (tail_part t).last) stk (last_bytes b (tail_part t).rows) es
last_to t ds n cur stk b (slot sn ∷ es) =
    last_to t ds (atoms_after role.Slot (suc n) (nonempty sn ds)) (atom_after role.Slot (suc n) n (nonempty sn ds)) stk (bytes_after role.Slot (suc n) n (some (ascii "O")) (nonempty sn ds)) es
last_to t ds n cur stk b (chain sn r ∷ es) = last_to t ds (atoms_after r n (nonempty sn ds)) (atom_after r n cur (nonempty sn ds)) stk (bytes_after r n cur b (nonempty sn ds)) es

unfoldable pub Anchors : (Role → List ℕ) → List ℕ → List Chain → ℕ → ℕ → List ℕ → Option (List ℕ) → List Element → Type 0
unfolding atoms_of_pieces fixed_pieces tail_part nonempty pieces_atom pieces_stack last_atom last_bytes
Anchors π t ds n cur stk b [] = Unit {0}
Anchors π t ds n cur stk b (fixed x ∷ es) = Anchors π t ds (n + atoms_of_pieces (fixed_pieces x)) (pieces_atom (fixed_pieces x) n cur stk) (pieces_stack (fixed_pieces x) n cur stk) (last_atom b (fixed_pieces x)) es
Anchors π t ds n cur stk b (tail ∷ es) = Anchors π t ds (n + (tail_part t).size) (at cur n (tail_part t).last) stk (last_bytes b (tail_part t).rows) es
Anchors π t ds n cur stk b (slot sn ∷ es) =
    Anchors π t ds (atoms_after role.Slot (suc n) (nonempty sn ds)) (atom_after role.Slot (suc n) n (nonempty sn ds)) stk (bytes_after role.Slot (suc n) n (some (ascii "O")) (nonempty sn ds)) es
Anchors π t ds n cur stk b (chain sn r ∷ es) =
    Anchored π r n cur b × Anchors π t ds (atoms_after r n (nonempty sn ds)) (atom_after r n cur (nonempty sn ds)) stk (bytes_after r n cur b (nonempty sn ds)) es

-- in the eight templates each does
pub anchors : (c : Class) (t : List ℕ) (ds : List Chain) → Anchors (parent_of c) t ds 0 0 [] none (elements c)
unfolding Anchors elements glycerol
anchors Fa t ds = (record { hangs = refl; led = refl; site = refl; from = (omega arith, omega arith) }, tt)
anchors Gl1 t ds = tt
anchors Gl2 t ds = tt
anchors Gl3 t ds = tt
anchors Gp t ds = tt
anchors Cl t ds = tt
anchors Sb t ds = (record { hangs = refl; led = tt; site = refl; from = tt }, tt)
anchors Sa t ds = (
  record { hangs = omega arith; led = refl; site = refl; from = (omega arith, omega arith) },
  (record { hangs = refl; led = tt; site = refl; from = tt }, tt),
)

made_more : {π : Role → List ℕ} {is : List Item} {ps : List Placed} {n v cur m w c a k : ℕ} {stk z : List ℕ} {b b' : Option (List ℕ)} {ph ph' : Phase} (d : ℕ) → a ≤ d → Made π is ps n v cur stk b ph m w c z b' a k ph'
    → Made π is ps n v cur stk b ph m w c z b' d k ph'
made_more d h x = record { drawn = x.drawn; placing = x.placing; strands = x.strands; last = x.last; few = omega (arith, x.few) }

made-tail : (π : Role → List ℕ) (t : List ℕ) → TailFits t → (n v cur : ℕ) (stk : List ℕ) (b : Option (List ℕ)) (ph : Phase)
    → MadeTo π (part (tail_part t) ∷ []) [] n v cur stk b ph (n + (tail_part t).size) v (at cur n (tail_part t).last) stk (last_bytes b (tail_part t).rows) 255 (turn_tail (length stk) ph)
unfolding turn_tail draw_part hung part-drawn
made-tail π t f n v cur stk b fresh = tt
made-tail π t f n v cur stk b opened = made_plain v 255 (omega (arith, f.few)) (part-drawn (tail_part t) f.hangs n cur stk opened refl) (last-hung b cur n (tail_part t).rows)
made-tail π t f n v cur stk b after = made_plain v 255 (omega (arith, f.few)) (part-drawn (tail_part t) f.hangs n cur stk after refl) (last-hung b cur n (tail_part t).rows)
made-tail π t f n v cur stk b (marked m) = tt

made-slot-or : (π : Role → List ℕ) → π role.Slot ≡ ascii "O" → (sn : ℕ) (o : Option Chain) → ((d : Chain) → o ≡ some d → Drawable role.Slot d) → (n v cur : ℕ) (stk : List ℕ) (b : Option (List ℕ)) (ph : Phase)
    → Made π (slot_oxygen ∷ chain_item role.Slot o) (place sn role.Slot (site_of role.Slot n) (suc n) v o) n v cur stk b ph (atoms_after role.Slot (suc n) o) (variables_after v o) (atom_after role.Slot (suc n) n o) stk
    (bytes_after role.Slot (suc n) n (some (ascii "O")) o) 702 (length stk) after
made-slot-or π e sn none h n v cur stk b ph = made_plain v 702 (omega arith) (oxygen-drawn n cur stk ph) (unfold oxygen-drawn last_bytes in refl)
made-slot-or π e sn (some d) h n v cur stk b ph = made-slot π e sn d (h d refl) n v cur stk b ph

made-chain-or : (π : Role → List ℕ) (sn : ℕ) (r : Role) (o : Option Chain) → ((d : Chain) → o ≡ some d → Drawable r d) → (n v cur : ℕ) (b : Option (List ℕ)) → Anchored π r n cur b → (stk : List ℕ) (ph : Phase)
    → MadeTo π (chain_item r o) (place sn r (site_of r n) n v o) n v cur stk b ph (atoms_after r n o) (variables_after v o) (atom_after r n cur o) stk (bytes_after r n cur b o) 701 (turn_chain (length stk) ph)
unfolding turn_chain
made-chain-or π sn r o h n v cur b x stk fresh = tt
made-chain-or π sn r o h n v cur b x stk opened = tt
made-chain-or π sn r none h n v cur b x stk after = made_more 701 (omega arith) (made_nothing π n v cur stk b after)
made-chain-or π sn r (some d) h n v cur b x stk after = made-chain π sn r d (h d refl) n v cur stk b x
made-chain-or π sn r o h n v cur b x stk (marked m) = tt

nonempty-is : (sn : ℕ) (ds : List Chain) (d : Chain) → nonempty sn ds ≡ some d → (chain_at sn ds ≡ some d) × (0 < d.carbon)
unfolding nonempty
nonempty-is sn ds d e = go (chain_at sn ds) e
  where
    some_is : (d' : Chain) (b : Bool) → eqb d'.carbon 0 ≡ b → cond b none (some d') ≡ some d → (some d' ≡ some d) × (0 < d.carbon)
    some_is d' true q e = absurd (none≢some e)
    some_is d' false q e =
        let z : d' ≡ d = cc in
        let w : d'.carbon ≢ 0 = eqb-false d'.carbon 0 q in
        (e, omega (arith, ap (λ (x : Chain). x.carbon) z))

    go : (o : Option Chain) → unless_empty o ≡ some d → (o ≡ some d) × (0 < d.carbon)
    go none e = absurd (none≢some e)
    go (some d') e = some_is d' (eqb d'.carbon 0) refl e

pub same-role : (a b : Role) → same_role a b ≡ true → a ≡ b
unfolding same_role
same-role role.Slot role.Slot e = refl
same-role role.Slot role.Acyl e = absurd (false≢true e)
same-role role.Slot role.Base e = absurd (false≢true e)
same-role role.Acyl role.Slot e = absurd (false≢true e)
same-role role.Acyl role.Acyl e = refl
same-role role.Acyl role.Base e = absurd (false≢true e)
same-role role.Base role.Slot e = absurd (false≢true e)
same-role role.Base role.Acyl e = absurd (false≢true e)
same-role role.Base role.Base e = refl

module _ (t : List ℕ) (ds : List Chain) (ρ : ℕ → Role) (accepts : (sn : ℕ) (d : Chain) → chain_at sn ds ≡ some d → Accepts (ρ sn) d) where
  pub drawable-at : (sn : ℕ) (r : Role) → same_role (ρ sn) r ≡ true → (d : Chain) → nonempty sn ds ≡ some d → Drawable r d
  drawable-at sn r e d q =
      let z : (chain_at sn ds ≡ some d) × (0 < d.carbon) = nonempty-is sn ds d q in
      drawable r d (subst (λ (x : Role). Accepts x d) (same-role (ρ sn) r e) (accepts sn d z.0)) z.1

  module _ (π : Role → List ℕ) (slots : π role.Slot ≡ ascii "O") where
    pub made_all : (es : List Element) → all_of (in_role ρ) es ≡ true → (any_of is_tailed es ≡ true → TailFits t) → (n v cur : ℕ) (stk : List ℕ) (b : Option (List ℕ)) (ph : Phase) → Anchors π t ds n cur stk b es
        → MadeTo π (all_items t ds es) (placed_from t ds n v es) n v cur stk b ph (atoms_to t ds n es) (variables_to ds v es) (atom_to t ds n cur stk es) (stack_to t ds n cur stk es) (last_to t ds n cur stk b es) (most_atoms es)
        (turn_all es (length stk) ph)
    unfolding all_of any_of in_role is_tailed all_items items_of placed_from atoms_to variables_to atom_to stack_to last_to Anchors most_atoms turn_all turn_element
    made_all [] e h n v cur stk b ph g = made_nothing π n v cur stk b ph
    made_all (fixed x ∷ es) e h n v cur stk b ph g =
        let us : List Piece = fixed_pieces x in
        let m : ℕ = n + atoms_of_pieces us in
        let c : ℕ = pieces_atom us n cur stk in
        let z : List ℕ = pieces_stack us n cur stk in
        let b' : Option (List ℕ) = last_atom b us in
        made_then π (map piece us) (all_items t ds es) [] (placed_from t ds m v es) n v cur stk b ph m v c z b' (atoms_of_pieces us) (atoms_to t ds m es) (variables_to ds v es) (atom_to t ds m c z es)
        (stack_to t ds m c z es) (last_to t ds m c z b' es) (most_atoms es) (turn_pieces us (length stk) ph) (λ k' ph'. turn_all es k' ph') (made-pieces π us n v cur stk b ph) (λ ph'. made_all es e h m v c z b' ph' g)
    made_all (tail ∷ es) e h n v cur stk b ph g =
        let m : ℕ = n + (tail_part t).size in
        let c : ℕ = at cur n (tail_part t).last in
        let b' : Option (List ℕ) = last_bytes b (tail_part t).rows in
        made_then π (part (tail_part t) ∷ []) (all_items t ds es) [] (placed_from t ds m v es) n v cur stk b ph m v c stk b' 255 (atoms_to t ds m es) (variables_to ds v es) (atom_to t ds m c stk es)
        (stack_to t ds m c stk es) (last_to t ds m c stk b' es) (most_atoms es) (turn_tail (length stk) ph) (λ k' ph'. turn_all es k' ph') (made-tail π t (h refl) n v cur stk b ph)
        (λ ph'. made_all es e (λ q. h refl) m v c stk b' ph' g)
    made_all (slot sn ∷ es) e h n v cur stk b ph g =
        let o : Option Chain = nonempty sn ds in
        let m : ℕ = atoms_after role.Slot (suc n) o in
        let w : ℕ = variables_after v o in
        let c : ℕ = atom_after role.Slot (suc n) n o in
        let b' : Option (List ℕ) = bytes_after role.Slot (suc n) n (some (ascii "O")) o in
        made_then π (slot_oxygen ∷ chain_item role.Slot o) (all_items t ds es) (place sn role.Slot (site_of role.Slot n) (suc n) v o) (placed_from t ds m w es) n v cur stk b ph m w c stk b' 702
        (atoms_to t ds m es) (variables_to ds w es) (atom_to t ds m c stk es) (stack_to t ds m c stk es) (last_to t ds m c stk b' es) (most_atoms es) (to (length stk) after) (λ k' ph'. turn_all es k' ph')
        (made-slot-or π slots sn o (drawable-at sn role.Slot (and_left (same_role (ρ sn) role.Slot) (all_of (in_role ρ) es) e)) n v cur stk b ph)
        (λ ph'. made_all es (and_right (same_role (ρ sn) role.Slot) (all_of (in_role ρ) es) e) h m w c stk b' ph' g)
    made_all (chain sn r ∷ es) e h n v cur stk b ph g =
        let o : Option Chain = nonempty sn ds in
        let m : ℕ = atoms_after r n o in
        let w : ℕ = variables_after v o in
        let c : ℕ = atom_after r n cur o in
        let b' : Option (List ℕ) = bytes_after r n cur b o in
        made_then π (chain_item r o) (all_items t ds es) (place sn r (site_of r n) n v o) (placed_from t ds m w es) n v cur stk b ph m w c stk b' 701
        (atoms_to t ds m es) (variables_to ds w es) (atom_to t ds m c stk es) (stack_to t ds m c stk es) (last_to t ds m c stk b' es) (most_atoms es) (turn_chain (length stk) ph) (λ k' ph'. turn_all es k' ph')
        (made-chain-or π sn r o (drawable-at sn r (and_left (same_role (ρ sn) r) (all_of (in_role ρ) es) e)) n v cur b g.0 stk ph)
        (λ ph'. made_all es (and_right (same_role (ρ sn) r) (all_of (in_role ρ) es) e) h m w c stk b' ph' g.1)

-- ---- chains one by one

-- every chain from some sn on is accepted in its place
abbrev pub AcceptsFrom : (ℕ → Role) → ℕ → List Chain → Type 0
AcceptsFrom ρ sn [] = Unit {0}
AcceptsFrom ρ sn (d ∷ ds) = Accepts (ρ sn) d × AcceptsFrom ρ (suc sn) ds

accepts-from : (ρ : ℕ → Role) (m : ℕ) (ds : List Chain) → AcceptsFrom ρ m ds → (k : ℕ) (d : Chain) → chain_at (suc k) ds ≡ some d → Accepts (ρ (m + k)) d
unfolding chain_at
accepts-from ρ m [] h k d e = absurd (none≢some e)
accepts-from ρ m (x ∷ ds) h zero d e =
    let q : x ≡ d = cc in
    let z : m + 0 ≡ m = omega arith in
    rw (z, ← q) h.0
accepts-from ρ m (x ∷ ds) h (suc k) d e = let z : m + suc k ≡ suc m + k = omega arith in rw z (accepts-from ρ (suc m) ds h.1 k d e)

nowhere : (ds : List Chain) → chain_at 0 ds ≡ none
unfolding chain_at
nowhere [] = refl
nowhere (d ∷ ds) = refl

pub accepts-at : (ρ : ℕ → Role) (ds : List Chain) → AcceptsFrom ρ 1 ds → (sn : ℕ) (d : Chain) → chain_at sn ds ≡ some d → Accepts (ρ sn) d
accepts-at ρ ds h zero d e = absurd (none≢some (sym (nowhere ds) ∙ e))
accepts-at ρ ds h (suc k) d e = let z : 1 + k ≡ suc k = omega arith in rw z at (accepts-from ρ 1 ds h k d e)
