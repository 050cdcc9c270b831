-- Laws of the writers of groups: bytes written are the pieces shown.
-- Assumes nothing.
use Prim.Native.Nat.{ℕ, suc, ◌+◌, ◌-◌, ◌^◌, ◌≤◌, ◌<◌}
use native.Mathlib.Nat.{sub-zero}
use native.Mathlib.Omega.{arith}
use mathlib.Core.Path.{◌≡◌, refl, sym, ap, ◌∙◌}
use mathlib.Core.Bool.{Bool, true, false, cond}
use mathlib.Core.List.{List, [], ◌∷◌, ◌++◌, append-nil, map}
use lib.ListN.{length, take, drop, get_or, set, length-append, get_or-map}
use lib.Dec.{eqb, leb}
use borrow.Author.Tests.{eq-eqb, ne_eqb, leb-true, leb-false}
use Rattle.writer.specs.emit.Text.{Written}
use Rattle.writer.proofs.emit.Laws.{written-nil, written-length}
use Rattle.group_table.specs.declared.groups.Row.{Row}
use Rattle.group_table.specs.groups.Groups.{Entry, entries, blank, entry_at, entry_of, RowIs}
use Rattle.group_table.proofs.groups.Laws.{every, every-at}
use Rattle.chain_record.specs.declared.plain.Mod.{Mod}
use Rattle.reading_rules.specs.reading.Ascii.{ascii}
use Rattle.reading_rules.specs.reading.Piece.{Piece, atom, dot, lpar, rpar, show}
use Rattle.reading_rules.specs.reading.Part.{Part, part_of}
use Rattle.reading_rules.specs.reading.Chain.{part_pieces, float_pieces}
use Rattle.reading_rules.proofs.reading.ShowLex.{show-append}
use Rattle.chain_rules.specs.chain.Lists.{only}
use Rattle.chain_rules.specs.chain.Drawing.{or_none, branch_part, branches}
use Rattle.chain_pieces.specs.branches.Text.{branch_text, group_text, sitting, groups_text, float_text, floats_text, carbonyl_of, carbonyl_text, rows_in, RowsPut}
use Rattle.drawn_chain.specs.declared.drawable.Shape.{Shape}
use Rattle.drawn_chain.specs.declared.rooms.Lists.{Lists}
use Rattle.drawn_chain.specs.drawable.Drawn.{no_group, floats_drawn, drawn_of}
use Rattle.carbons.specs.Tokens.{Rising}
use Rattle.drawn_chain.proofs.drawable.Turns.{left_here}
use Rattle.drawn_chain.proofs.drawable.Turns as turns
use Rattle.carbons.proofs.Loads.{past}
use Rattle.carbons.proofs.Left.{Left, left_less, left-same, left-none, written-three}

-- ---- the branches of the table, by one computed test over all of it

abbrev shown : Entry → List ℕ
shown e = show (or_none (part_of e.branch)).pieces

abbrev sized : Entry → ℕ
sized e = (or_none (part_of e.branch)).size

table-shown : map shown entries ≡ map (λ (e : Entry). e.branch) entries
unfolding entries show part_of
table-shown = refl

table-sized : map sized entries ≡ map (λ (e : Entry). e.atoms) entries
unfolding entries part_of
table-sized = refl

blank-shown : shown blank ≡ []
unfolding show part_of
blank-shown = refl

blank-sized : sized blank ≡ 0
unfolding part_of
blank-sized = refl

-- a branch is written as the table has it
pub branch-text : (row : ℕ) → branch_text row ≡ (entry_at row).branch
unfolding branch_text branch_part entry_at
branch-text row =
    sym (get_or-map shown entries row blank) ∙ (rw (blank-shown, table-shown) (get_or-map (λ (e : Entry). e.branch) entries row blank))

-- its atoms are as many as the table says
pub branch-size : (row : ℕ) → (branch_part row).size ≡ (entry_at row).atoms
unfolding branch_part entry_at
branch-size row =
    sym (get_or-map sized entries row blank) ∙ (rw (blank-sized, table-sized) (get_or-map (λ (e : Entry). e.atoms) entries row blank))

module _ {row : ℕ} {g : Row} (w : RowIs row g) where
  pub branch-within : (l : List ℕ) → length l ≡ 12 → g.branch_len ≤ length l
  branch-within l e = omega (arith, w.branch_fits)

  pub branch-written : {xs ys : List ℕ} {at p : ℕ} → Written xs at (take (g.branch_len - 0) g.branch) ys p → Written xs at (branch_text row) ys p
  unfolding entry_of
  branch-written v = rw (branch-text row, ← ap (λ (e : Entry). e.branch) w.entry-is, ← sub-zero g.branch_len) v

-- the branch of a row that the code knows
pub branch-known : {xs ys : List ℕ} {at p : ℕ} (row n : ℕ) (ts : List ℕ) → row ≡ n → (entry_at n).branch ≡ ts → Written xs at ts ys p → Written xs at (branch_text row) ys p
branch-known row n ts e f w = rw (e, branch-text n, f) w

-- ---- groups

pub parts-cons : (p : Part) (ps : List Part) → show (part_pieces (p ∷ ps)) ≡ show (part_pieces (p ∷ [])) ++ show (part_pieces ps)
unfolding part_pieces
parts-cons p ps =
    show-append (lpar ∷ p.pieces ++ rpar ∷ []) (part_pieces ps)
    ∙ ap (λ (us : List Piece). show us ++ show (part_pieces ps)) (sym (append-nil (lpar ∷ p.pieces ++ rpar ∷ [])))

pub floats-cons : (p : Part) (ps : List Part) → show (float_pieces (p ∷ ps)) ≡ show (float_pieces (p ∷ [])) ++ show (float_pieces ps)
unfolding float_pieces ascii
floats-cons p ps =
    show-append (dot ∷ atom (ascii "*") [] ∷ p.pieces) (float_pieces ps)
    ∙ ap (λ (us : List Piece). show us ++ show (float_pieces ps)) (sym (append-nil (dot ∷ atom (ascii "*") [] ∷ p.pieces)))

group-joined : (row : ℕ) → group_text row ≡ (40 ∷ []) ++ (branch_text row ++ (41 ∷ []))
unfolding group_text branch_text part_pieces show
group-joined row =
    ap show (append-nil (lpar ∷ (branch_part row).pieces ++ rpar ∷ [])) ∙ ap (λ (t : List ℕ). 40 ∷ t) (show-append (branch_part row).pieces (rpar ∷ []))

float-joined : (row : ℕ) → float_text row ≡ (46 ∷ []) ++ ((42 ∷ []) ++ branch_text row)
unfolding float_text branch_text float_pieces show ascii
float-joined row = ap show (append-nil (dot ∷ atom (ascii "*") [] ∷ (branch_part row).pieces))

module _ {xs ys zs ws : List ℕ} {at p q r : ℕ} (row : ℕ) (h : length xs < 2 ^ 64) where
  pub group-written : Written xs at (40 ∷ []) ys p → Written ys p (branch_text row) zs q → Written zs q (41 ∷ []) ws r → Written xs at (group_text row) ws r
  group-written u v w = rw (group-joined row) (written-three h u v w)

  pub float-written : Written xs at (46 ∷ []) ys p → Written ys p (42 ∷ []) zs q → Written zs q (branch_text row) ws r → Written xs at (float_text row) ws r
  float-written u v w = rw (float-joined row) (written-three h u v w)

pub sitting-here : (k : ℕ) (g : Mod) (gs : List Mod) → g.pos ≡ k → groups_text (sitting k (g ∷ gs)) ≡ group_text g.row ++ groups_text (sitting k gs)
unfolding groups_text group_text sitting only branches
sitting-here k g gs e = rw (eq-eqb g.pos k e) (parts-cons (branch_part g.row) (branches (sitting k gs)))

pub sitting-past : (k : ℕ) (g : Mod) (gs : List Mod) → (g.pos ≡ k → ⊥) → sitting k (g ∷ gs) ≡ sitting k gs
unfolding sitting only
sitting-past k g gs e = rw (ne_eqb g.pos k e)

pub sitting-first : (k : ℕ) (g : Mod) (gs : List Mod) → g.pos ≡ k → sitting k (g ∷ gs) ≡ g ∷ sitting k gs
unfolding sitting only
sitting-first k g gs e = rw (eq-eqb g.pos k e)

-- nothing sits before the first of groups that rise
pub sitting-before : (k b c : ℕ) (gs : List Mod) → Rising b c gs → k < b → sitting k gs ≡ []
unfolding sitting only
sitting-before k b c [] r h = refl
sitting-before k b c (g ∷ gs) r h =
    sitting-past k g gs (λ e. omega (arith, r.0)) ∙ sitting-before k g.pos c gs r.2 (omega (arith, r.0))

pub sitting-none : (k : ℕ) → groups_text (sitting k []) ≡ []
unfolding groups_text sitting only branches part_pieces show
sitting-none k = refl

-- a turn of the loop through the groups, and its end
module _ {xs ys ts : List ℕ} {at p : ℕ} (gs : List Mod) (i k : ℕ) (v : Left xs at ts ys p (groups_text (sitting k (drop i gs)))) where
  pub group-here : {zs : List ℕ} {q : ℕ} (g : Mod) → length xs < 2 ^ 64 → i < length gs → g ≡ get_or gs i no_group → g.pos ≡ k → Written ys p (group_text g.row) zs q
      → Left xs at ts zs q (groups_text (sitting k (drop (i + 1) gs)))
  group-here g h t e f w =
      left_less _ h v (ap (λ (us : List Mod). groups_text (sitting k us)) (left_here gs i no_group g t e) ∙ sitting-here k g (drop (i + 1) gs) f) w

  pub group-past : (g : Mod) → i < length gs → g ≡ get_or gs i no_group → (g.pos ≡ k → ⊥) → Left xs at ts ys p (groups_text (sitting k (drop (i + 1) gs)))
  group-past g t e f =
      left-same v (ap (λ (us : List Mod). groups_text (sitting k us)) (left_here gs i no_group g t e) ∙ ap groups_text (sitting-past k g (drop (i + 1) gs) f))

  pub groups-end : length gs ≤ i → Written xs at ts ys p
  groups-end t = left-none v (ap (λ (us : List Mod). groups_text (sitting k us)) (turns.left-none gs i t) ∙ sitting-none k)

-- ---- the groups without a position

floats-none : floats_text [] ≡ []
unfolding floats_text branches float_pieces show
floats-none = refl

floats-next : (g : Mod) (gs : List Mod) → floats_text (g ∷ gs) ≡ float_text g.row ++ floats_text gs
unfolding floats_text float_text branches
floats-next g gs = floats-cons (branch_part g.row) (branches gs)

module _ {xs ys ts : List ℕ} {at p : ℕ} (gs : List Mod) (i : ℕ) (v : Left xs at ts ys p (floats_text (drop i gs))) where
  pub float-next : {zs : List ℕ} {q : ℕ} (g : Mod) → length xs < 2 ^ 64 → i < length gs → g ≡ get_or gs i no_group → Written ys p (float_text g.row) zs q
      → Left xs at ts zs q (floats_text (drop (i + 1) gs))
  float-next g h t e w = left_less _ h v (ap floats_text (left_here gs i no_group g t e) ∙ floats-next g (drop (i + 1) gs)) w

  pub floats-end : length gs ≤ i → Written xs at ts ys p
  floats-end t = left-none v (ap floats_text (turns.left-none gs i t) ∙ floats-none)

-- ---- their rows

module _ {xs ys ts : List ℕ} {at p : ℕ} (gs : List Mod) (i : ℕ) (v : Left xs at ts ys p (rows_in (drop i gs))) where
  pub row_next : {zs : List ℕ} {q : ℕ} (g : Mod) → length xs < 2 ^ 64 → i < length gs → g ≡ get_or gs i no_group → Written ys p (g.row ∷ []) zs q
      → Left xs at ts zs q (rows_in (drop (i + 1) gs))
  unfolding rows_in
  row_next g h t e w = left_less _ h v (ap rows_in (left_here gs i no_group g t e)) w

  pub rows_end : length gs ≤ i → Written xs at ts ys p
  unfolding rows_in
  rows_end t = left-none v (ap rows_in (turns.left-none gs i t))

-- those of the floating groups
pub rows-put : {xs ys : List ℕ} {at p : ℕ} (x : Shape) (l : Lists) {fs : List Mod} → fs ≡ floats_drawn (drawn_of x l) → Written xs at (rows_in fs) ys p → RowsPut (drawn_of x l) xs at ys p
rows-put x l e w = record { rows = λ ρ d k. rw (ap rows_in (e ∙ k.floats)) at w; size = written-length w }

-- ---- the carbonyl

-- `(=O)`
abbrev keto_text : List ℕ
keto_text = 40 ∷ 61 ∷ 79 ∷ 41 ∷ []

pub oxo-stored : (xs : List ℕ) (at : ℕ) → length xs < 2 ^ 64 → at + 4 ≤ length xs
    → Written xs at keto_text (set (set (set (set xs at 40) (at + 1) 61) (at + 2) 79) (at + 3) 41) (at + 4)
oxo-stored xs at g h =
    let a : at + 1 ≡ suc at = omega arith in
    let b : at + 2 ≡ suc (suc at) = omega arith in
    let d : at + 3 ≡ suc (suc (suc at)) = omega arith in
    record { elements = rw (a, b, d); next = omega arith }

keto-text : group_text 12 ≡ keto_text
unfolding group_text part_pieces show branch_part part_of entry_at entries
keto-text = refl

module _ {xs ys : List ℕ} {at p : ℕ} (acyl : Bool) (k : ℕ) where
  pub carbonyl-there : acyl ≡ true → k ≡ 1 → Written xs at keto_text ys p → Written xs at (carbonyl_text acyl k) ys p
  unfolding carbonyl_text carbonyl_of group_text
  carbonyl-there e f w = rw (e, eq-eqb k 1 f) (rw (← keto-text) at w)

module _ (xs : List ℕ) (at : ℕ) (acyl : Bool) (k : ℕ) (h : at < 2 ^ 64) where
  pub carbonyl-later : acyl ≡ true → (k ≡ 1 → ⊥) → Written xs at (carbonyl_text acyl k) xs at
  unfolding carbonyl_text carbonyl_of part_pieces show
  carbonyl-later e f = rw (e, ne_eqb k 1 f) (written-nil xs at h)

  pub carbonyl-no : acyl ≡ false → Written xs at (carbonyl_text acyl k) xs at
  unfolding carbonyl_text carbonyl_of part_pieces show
  carbonyl-no e = rw e (written-nil xs at h)

keto-length : length (group_text 12) ≤ 4
keto-length = rw keto-text (omega arith)

pub carbonyl-length : (acyl : Bool) (k : ℕ) → length (carbonyl_text acyl k) ≤ 4
unfolding carbonyl_text carbonyl_of group_text part_pieces show
carbonyl-length false k = omega arith
carbonyl-length true k = go (eqb k 1)
  where
    go : (b : Bool) → length (show (part_pieces (cond b (branch_part 12 ∷ []) []))) ≤ 4
    go false = omega arith
    go true = keto-length

-- ---- a branch has at most twelve bytes, by one computed test over the table

abbrev short : Entry → Bool
short e = leb (length e.branch) 12

table-short : every short entries ≡ true
unfolding entries
table-short = refl

branch-short : (row : ℕ) → length (branch_text row) ≤ 12
unfolding entry_at
branch-short row = rw (branch-text row) (go (leb (suc row) (length entries)) refl)
  where
    go : (b : Bool) → leb (suc row) (length entries) ≡ b → length (get_or entries row blank).branch ≤ 12
    go true e = leb-true (length (get_or entries row blank).branch) 12 (every-at short entries row blank table-short (leb-true (suc row) (length entries) e))
    go false e = rw (past blank entries row (omega (arith, leb-false (suc row) (length entries) e))) (omega arith)

pub group-length : (row : ℕ) → length (group_text row) ≤ 14
group-length row = rw (group-joined row) (omega (arith, branch-short row, length-append (branch_text row) (41 ∷ [])))
