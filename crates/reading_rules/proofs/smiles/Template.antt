-- The template law: a template that is written out with its parts and its chains reads as it is drawn.
use mathlib.Core.Path.{◌≡◌, refl, ap, ◌∙◌}
use mathlib.Core.Option.{some}
use Prim.Native.Nat.{ℕ}
use mathlib.Core.List.{List, [], ◌∷◌, ◌++◌}
use Rattle.reading_rules.specs.smiles.Row.{Row}
use Rattle.reading_rules.specs.smiles.Piece.{Piece, atom, mark, dot, lpar, rpar}
use Rattle.reading_rules.specs.smiles.Machine.{Phase, fresh, opened, after, marked, State, st, Out, fail, ok, lookup, labels, step, and_then, prepend, run, whole, read_pieces}
use Rattle.reading_rules.specs.smiles.Part.{Part}
use Rattle.reading_rules.specs.smiles.Chain.{chain_end, chain_members, float_members}
use Rattle.reading_rules.specs.smiles.Template.{Chain, Item, piece, part, chain, item_pieces, next_label, template_pieces, draw_part, members, draw_chain, draw, draw_all, drawn}
use Rattle.reading_rules.proofs.smiles.Members.{rows_append}
use Rattle.reading_rules.proofs.smiles.Reading.{Reads, reads-nil, reads-cons, reads-append, Stands, reads-stands}
use Rattle.reading_rules.proofs.smiles.Frame.{Hangs, free-nil, frame, frame-after}
use Rattle.reading_rules.proofs.smiles.Part.{none≢some}
use Rattle.reading_rules.proofs.smiles.Chain as law

-- ---- what is asked of a template

-- an atom of the template's own has no label
abbrev pub Bare : Piece → Type 0
Bare (atom b []) = Unit {0}
Bare (atom b (l ∷ ls)) = ⊥
Bare (mark m) = Unit {0}
Bare dot = Unit {0}
Bare lpar = Unit {0}
Bare rpar = Unit {0}

-- a chain that fits where its labels start at l
pub record ChainFits (l : ℕ) (c : Chain) : Type 0 where
  pub rings : law.RingsFit c.first c.rings c.carbons
  pub carbons : law.CarbonsFit l [] c.carbons
  pub floats : law.PartsFit l [] c.floats

unfoldable pub ItemFits : ℕ → Item → Type 0
ItemFits l (piece u) = Bare u
ItemFits l (part p) = Hangs p
ItemFits l (chain c) = ChainFits l c

unfoldable pub ItemsFit : ℕ → List Item → Type 0
ItemsFit l [] = Unit {0}
ItemsFit l (i ∷ is) = ItemFits l i × ItemsFit (next_label l i) is

-- ---- the template law

-- nothing is open, and the current atom is there
abbrev Ready : State → Type 0
Ready (st n cur stk [] ph) = Stands (st n cur stk [] ph)
Ready (st n cur stk (e ∷ t) ph) = ⊥

-- what is drawn is read
abbrev Agrees : List Piece → State → Out → Type 0
Agrees us s fail = Unit {0}
Agrees us s (ok r s') = Ready s' × Reads us s r s'

-- a piece that is read with nothing open after it
agrees-reads : (us : List Piece) {n n' cur cur' : ℕ} {stk stk' : List ℕ} {ph ph' : Phase} {r : List Row} → Stands (st n cur stk [] ph)
    → Reads us (st n cur stk [] ph) r (st n' cur' stk' [] ph') → Agrees us (st n cur stk [] ph) (ok r (st n' cur' stk' [] ph'))
agrees-reads us h d = (reads-stands us d h, d)

agrees-step : (u : Piece) (n cur : ℕ) (stk : List ℕ) (ph : Phase) → Bare u → Stands (st n cur stk [] ph) → Agrees (u ∷ []) (st n cur stk [] ph) (step u (st n cur stk [] ph))
unfolding step labels
agrees-step (atom b []) n cur stk ph w h = agrees-reads _ h (reads-cons (record { by = refl }) (reads-nil _))
agrees-step (atom b (l ∷ ls)) n cur stk ph w h = absurd w
agrees-step (mark m) n cur stk fresh w h = tt
agrees-step (mark m) n cur stk opened w h = agrees-reads _ h (reads-cons (record { by = refl }) (reads-nil _))
agrees-step (mark m) n cur stk after w h = agrees-reads _ h (reads-cons (record { by = refl }) (reads-nil _))
agrees-step (mark m) n cur stk (marked m') w h = tt
agrees-step dot n cur stk fresh w h = tt
agrees-step dot n cur stk opened w h = tt
agrees-step dot n cur stk after w h = agrees-reads _ h (reads-cons (record { by = refl }) (reads-nil _))
agrees-step dot n cur stk (marked m) w h = tt
agrees-step lpar n cur stk fresh w h = tt
agrees-step lpar n cur stk opened w h = tt
agrees-step lpar n cur stk after w h = agrees-reads _ h (reads-cons (record { by = refl }) (reads-nil _))
agrees-step lpar n cur stk (marked m) w h = tt
agrees-step rpar n cur [] ph w h = tt
agrees-step rpar n cur (p ∷ stk) fresh w h = tt
agrees-step rpar n cur (p ∷ stk) opened w h = tt
agrees-step rpar n cur (p ∷ stk) after w h = agrees-reads _ h (reads-cons (record { by = refl }) (reads-nil _))
agrees-step rpar n cur (p ∷ stk) (marked m) w h = tt

agrees-part : (p : Part) (n cur : ℕ) (stk : List ℕ) (ph : Phase) → Hangs p → Stands (st n cur stk [] ph) → Agrees p.pieces (st n cur stk [] ph) (draw_part p (st n cur stk [] ph))
unfolding draw_part
agrees-part p n cur stk fresh w h = tt
agrees-part p n cur stk opened w h = agrees-reads p.pieces h (frame w n cur stk [] h.1 (free-nil p.pieces))
agrees-part p n cur stk after w h = agrees-reads p.pieces h (frame-after w n cur stk [] h.1 (free-nil p.pieces))
agrees-part p n cur stk (marked m) w h = tt

agrees-chain : (l : ℕ) (c : Chain) (n cur : ℕ) (stk : List ℕ) (ph : Phase) → ChainFits l c → Stands (st n cur stk [] ph)
    → Agrees (item_pieces l (chain c)) (st n cur stk [] ph) (draw_chain c (st n cur stk [] ph))
unfolding draw_chain members item_pieces lookup
agrees-chain l c n cur stk fresh w h = tt
agrees-chain l c n cur stk opened w h = tt
agrees-chain l c n cur stk after w h =
    agrees-reads _ h
    (rw (rows_append (chain_members c.first c.rings c.carbons n cur) (float_members (chain_end n c.carbons) c.floats))
    (reads-append (law.chain c.first c.rings c.carbons w.rings n cur stk [] l w.carbons (λ m a b. refl)) (law.floats c.floats l _ _ stk [] w.floats)))
agrees-chain l c n cur stk (marked m) w h = tt

agrees-item : (l : ℕ) (i : Item) (s : State) → ItemFits l i → Ready s → Agrees (item_pieces l i) s (draw i s)
unfolding draw item_pieces ItemFits
agrees-item l i (st n cur stk (e ∷ t) ph) w h = absurd h
agrees-item l (piece u) (st n cur stk [] ph) w h = agrees-step u n cur stk ph w h
agrees-item l (part p) (st n cur stk [] ph) w h = agrees-part p n cur stk ph w h
agrees-item l (chain c) (st n cur stk [] ph) w h = agrees-chain l c n cur stk ph w h

agrees-then : (a b : List Piece) (s : State) (o : Out) (k : State → Out) → Agrees a s o → ((s' : State) → Ready s' → Agrees b s' (k s')) → Agrees (a ++ b) s (and_then o k)
unfolding and_then prepend
agrees-then a b s fail k h f = tt
agrees-then a b s (ok r s₁) k h f = go (k s₁) (f s₁ h.0)
  where
    go : (o : Out) → Agrees b s₁ o → Agrees (a ++ b) s (prepend r o)
    go fail q = tt
    go (ok r₂ s₂) q = (q.0, reads-append h.1 q.1)

agrees-all : (l : ℕ) (is : List Item) (s : State) → ItemsFit l is → Ready s → Agrees (template_pieces l is) s (draw_all is s)
unfolding draw_all template_pieces ItemsFit
agrees-all l [] (st n cur stk (e ∷ t) ph) w h = absurd h
agrees-all l [] (st n cur stk [] ph) w h = (h, reads-nil _)
agrees-all l (i ∷ is) s w h =
    agrees-then (item_pieces l i) (template_pieces (next_label l i) is) s (draw i s) (λ s'. draw_all is s') (agrees-item l i s w.0 h)
    (λ s' g. agrees-all (next_label l i) is s' w.1 g)

whole-some : (us : List Piece) (s : State) (o : Out) (rs : List Row) → Agrees us s o → whole o ≡ some rs → whole (run us s) ≡ some rs
unfolding whole
whole-some us s fail rs h e = absurd (none≢some e)
whole-some us s (ok r s') rs h e = ap whole h.1.by ∙ e

-- THE TEMPLATE LAW, on pieces
pub template-pieces : (l : ℕ) (is : List Item) (rs : List Row) → ItemsFit l is → drawn is ≡ some rs → read_pieces (template_pieces l is) ≡ some rs
unfolding drawn read_pieces
template-pieces l is rs w e =
    whole-some (template_pieces l is) (st 0 0 [] [] fresh) (draw_all is (st 0 0 [] [] fresh)) rs (agrees-all l is (st 0 0 [] [] fresh) w (tt, tt)) e
