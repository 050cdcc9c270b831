-- How long the text of a chain is, and how many atoms it has. Assumes nothing.
use Prim.Native.Nat.{ℕ, zero, suc, ◌+◌, ◌-◌, ◌*◌, ◌/◌, ◌%◌, ◌≤◌}
use Prim.Native.Char.{code}
use native.Mathlib.Omega.{arith}
use mathlib.Core.Path.{◌≡◌, refl, ap, ◌∙◌}
use mathlib.Core.Bool.{Bool, true, false, cond, ◌||◌, ◌&&◌}
use mathlib.Core.List.{List, [], ◌∷◌, ◌++◌}
use lib.Dec.{eqb, ltb, leb}
use lib.ListN.{length, get_or, length-append, length-map}
use borrow.Author.Tests.{leb-true}
use Rattle.chain_record.specs.declared.plain.Mod.{Mod}
use Rattle.chain_record.specs.plain.Chain.{Chain}
use Rattle.group_table.specs.groups.Groups.{Entry, entries, blank, entry_at, keto}
use Rattle.reading_rules.specs.reading.Ascii.{ascii}
use Rattle.reading_rules.specs.reading.Piece.{Piece, atom, dot, lpar, rpar, show_label, show_labels, show_piece, show}
use Rattle.reading_rules.specs.reading.Part.{Part, part_of}
use Rattle.reading_rules.specs.reading.Chain as reading
use Rattle.reading_rules.specs.reading.Chain.{ring, parts_end, bridge_end, carbon_end, chain_end, float_end, labels_at, mark_pieces, part_pieces, bridge_pieces, chain_pieces, float_pieces}
use Rattle.reading_rules.specs.reading.Template.{item_pieces, chain}
use Rattle.reading_rules.proofs.reading.PartingLaws.{All, and_left, and_right, all_any}
use Rattle.reading_rules.proofs.reading.ShowLex.{show-append}
use Rattle.chain_rules.specs.declared.chain.Role.{Role}
use Rattle.chain_rules.specs.chain.Lists.{all_of, only, values_from}
use Rattle.chain_rules.specs.chain.Features.{first_drawn, is_acyl, groups_on, floating, prefix_end, literal_end, flexible_count, drawn_count}
use Rattle.chain_rules.specs.chain.Bonds.{bond_at, mark_of}
use Rattle.chain_rules.specs.chain.Drawing.{or_none, branch_part, carbonyl, groups_at, branches, carbon_at, literal, bare, pairs, flexible, carbons, ring_pairs, floats, chain_drawn, atoms_end}
use Rattle.chain_rules.proofs.chain.Lists.{all_append, all-mapped, all-values, length-only}
use Rattle.chain_rules.proofs.chain.Fits.{length-carbons}
use Rattle.chain_rules.proofs.chain.Accepted.{first_one}
use Rattle.class_lines.specs.longest.Longest.{text_most, drawn_most}
use Rattle.class_lines.proofs.longest.Once.{one, one-most, once, once-here}

-- ---- branches

-- a part of at most twelve bytes and atoms
pub record Short (p : Part) : Type 0 where
  pub text : length (show p.pieces) ≤ 12
  pub atoms : p.size ≤ 12

unfoldable is_short : Part → Bool
is_short p = leb (length (show p.pieces)) 12 && leb p.size 12

unfoldable row_short : Entry → Bool
unfolding is_short part_of
row_short e = is_short (or_none (part_of e.branch))

table-short : all_of row_short entries ≡ true
unfolding all_of row_short entries show
table-short = refl

blank-short : row_short blank ≡ true
unfolding row_short show
blank-short = refl

row-short : (es : List Entry) (row : ℕ) → all_of row_short es ≡ true → row_short (get_or es row blank) ≡ true
unfolding all_of
row-short [] row h = blank-short
row-short (e ∷ es) zero h = and_left (row_short e) (all_of row_short es) h
row-short (e ∷ es) (suc row) h = row-short es row (and_right (row_short e) (all_of row_short es) h)

branch-short : (row : ℕ) → Short (branch_part row)
unfolding branch_part entry_at row_short is_short
branch-short row =
    let p = branch_part row in
    let h : (leb (length (show p.pieces)) 12 && leb p.size 12) ≡ true = row-short entries row table-short in
    record {
      text = leb-true (length (show p.pieces)) 12 (and_left (leb (length (show p.pieces)) 12) (leb p.size 12) h);
      atoms = leb-true p.size 12 (and_right (leb (length (show p.pieces)) 12) (leb p.size 12) h);
    }

branches-short : (gs : List Mod) → All Short (branches gs)
unfolding branches
branches-short gs = all-mapped Short (λ g. branch_part g.row) gs (all_any {P = λ (g : Mod). Short (branch_part g.row)} (λ g. branch-short g.row) gs)

length-branches : (gs : List Mod) → length (branches gs) ≡ length gs
unfolding branches
length-branches gs = length-map gs (λ g. branch_part g.row)

-- ---- texts

shown : (a b : List Piece) → length (show (a ++ b)) ≡ length (show a) + length (show b)
shown a b = ap length (show-append a b) ∙ length-append (show a) (show b)

label-most : (l : ℕ) → length (show_label l) ≤ 3
unfolding show_label
label-most l = go (ltb l 10)
  where
    go : (b : Bool) → length (cond b ((code "0" + l) ∷ []) (code "%" ∷ (code "0" + l / 10) ∷ (code "0" + l % 10) ∷ [])) ≤ 3
    go true = omega arith
    go false = omega arith

-- the labels that carbons from k on can have: one at the start of a ring, and one at its end
unfoldable labels_left : ℕ → List reading.Ring → ℕ
labels_left k [] = 0
labels_left k (ring s e ∷ rs) = one (leb k s) + one (leb k e) + labels_left k rs

labels-two : (k : ℕ) (rs : List reading.Ring) → labels_left k rs ≤ 2 * length rs
unfolding labels_left
labels-two k [] = omega arith
labels-two k (ring s e ∷ rs) = omega (arith, one-most (leb k s), one-most (leb k e), labels-two k rs)

labels-past : (k l : ℕ) (rs : List reading.Ring) → length (show_labels (labels_at k l rs)) + 3 * labels_left (suc k) rs ≤ 3 * labels_left k rs
unfolding show_labels labels_at labels_left
labels-past k l [] = omega arith
labels-past k l (ring s e ∷ rs) = omega (arith, here (eqb s k) (eqb e k), labels-past k (suc l) rs, once s k, once e k)
  where
    more : List ℕ
    more = labels_at k (suc l) rs

    here : (a b : Bool) → length (show_labels (cond (a || b) (l ∷ more) more)) ≤ 3 * one a + 3 * one b + length (show_labels more)
    here true b = omega (arith, length-append (show_label l) (show_labels more), label-most l)
    here false true = omega (arith, length-append (show_label l) (show_labels more), label-most l)
    here false false = omega arith

mark-most : (m : ℕ) → length (show (mark_pieces m)) ≤ 1
unfolding mark_pieces show show_piece
mark-most zero = omega arith
mark-most (suc m) = omega arith

bridge-most : (b : Bool) → length (show (bridge_pieces b)) ≤ 1
unfolding bridge_pieces show show_piece show_labels ascii
bridge-most true = omega arith
bridge-most false = omega arith

parts-most : (ps : List Part) → All Short ps → length (show (part_pieces ps)) ≤ 14 * length ps
unfolding part_pieces show show_piece
parts-most [] h = omega arith
parts-most (p ∷ ps) h =
    omega (
      arith,
      shown (lpar ∷ p.pieces ++ rpar ∷ []) (part_pieces ps),
      shown p.pieces (rpar ∷ []),
      h.0.text,
      parts-most ps h.1,
    )

floats-most : (ps : List Part) → All Short ps → length (show (float_pieces ps)) ≤ 14 * length ps
unfolding float_pieces show show_piece show_labels ascii
floats-most [] h = omega arith
floats-most (p ∷ ps) h =
    omega (
      arith,
      shown (dot ∷ atom (ascii "*") [] ∷ p.pieces) (float_pieces ps),
      h.0.text,
      floats-most ps h.1,
    )

-- a carbon with short branches
pub record Light (c : reading.Carbon) : Type 0 where
  pub parts : All Short c.parts

-- the branches of some carbons
unfoldable pub parts_in : List reading.Carbon → ℕ
parts_in [] = 0
parts_in (c ∷ cs) = length c.parts + parts_in cs

pub parts-append : (cs ds : List reading.Carbon) → parts_in (cs ++ ds) ≡ parts_in cs + parts_in ds
unfolding parts_in
parts-append [] ds = omega arith
parts-append (c ∷ cs) ds = omega (arith, parts-append cs ds)

chain-most : (rs : List reading.Ring) (l k : ℕ) (cs : List reading.Carbon) → All Light cs
    → length (show (chain_pieces rs l k cs)) ≤ 3 * length cs + 14 * parts_in cs + 3 * labels_left k rs
unfolding chain_pieces show show_piece parts_in ascii
chain-most rs l k [] h = omega arith
chain-most rs l k (c ∷ cs) h =
    let rest = chain_pieces rs l (suc k) cs in
    omega (
      arith,
      shown (mark_pieces c.before ++ self) (part_pieces c.parts ++ (bridge_pieces c.bridge ++ rest)),
      shown (mark_pieces c.before) self,
      shown (part_pieces c.parts) (bridge_pieces c.bridge ++ rest),
      shown (bridge_pieces c.bridge) rest,
      mark-most c.before,
      self-most,
      labels-past k l rs,
      parts-most c.parts h.0.parts,
      bridge-most c.bridge,
      chain-most rs l (suc k) cs h.1,
    )
  where
    self : List Piece
    self = atom (ascii "C") (labels_at k l rs) ∷ []

    self-most : length (show self) ≤ 1 + length (show_labels (labels_at k l rs))
    self-most = omega (arith, length-append (ascii "C" ++ show_labels (labels_at k l rs)) [])

-- ---- atoms

parts-end : (n : ℕ) (ps : List Part) → All Short ps → parts_end n ps ≤ n + 12 * length ps
unfolding parts_end
parts-end n [] h = omega arith
parts-end n (p ∷ ps) h = omega (arith, h.0.atoms, parts-end (n + p.size) ps h.1)

bridge-end : (b : Bool) (n : ℕ) → bridge_end b n ≤ suc n
unfolding bridge_end
bridge-end true n = omega arith
bridge-end false n = omega arith

pub chain-end : (n : ℕ) (cs : List reading.Carbon) → All Light cs → chain_end n cs ≤ n + 3 * length cs + 14 * parts_in cs
unfolding chain_end carbon_end parts_in
chain-end n [] h = omega arith
chain-end n (c ∷ cs) h =
    omega (
      arith,
      parts-end (suc n) c.parts h.0.parts,
      bridge-end c.bridge (parts_end (suc n) c.parts),
      chain-end (bridge_end c.bridge (parts_end (suc n) c.parts)) cs h.1,
    )

float-end : (n : ℕ) (ps : List Part) → All Short ps → float_end n ps ≤ n + 14 * length ps
unfolding float_end
float-end n [] h = omega arith
float-end n (p ∷ ps) h = omega (arith, h.0.atoms, float-end (suc n + p.size) ps h.1)

-- ---- the branches of a chain

-- the groups at k are no longer among those past it
groups-past : (k : ℕ) (gs : List Mod)
    → length (only (λ g. eqb g.pos k) gs) + length (only (λ g. leb (suc k) g.pos) gs) ≤ length (only (λ g. leb k g.pos) gs)
unfolding only
groups-past k [] = omega arith
groups-past k (m ∷ gs) =
    omega (
      arith,
      with_first (eqb m.pos k) (only (λ g. eqb g.pos k) gs),
      with_first (leb (suc k) m.pos) (only (λ g. leb (suc k) g.pos) gs),
      with_first (leb k m.pos) (only (λ g. leb k g.pos) gs),
      once m.pos k,
      groups-past k gs,
    )
  where
    with_first : (b : Bool) (xs : List Mod) → length (cond b (m ∷ xs) xs) ≡ one b + length xs
    with_first true xs = omega arith
    with_first false xs = omega arith

module _ (r : Role) (d : Chain) where
  keto-one : (k : ℕ) → length (carbonyl r d.prefix k) ≤ one (eqb k 1)
  unfolding carbonyl
  keto-one k = go (is_acyl r d.prefix) (eqb k 1)
    where
      go : (a b : Bool) → length {A = Part} (cond a (cond b (branch_part keto ∷ []) []) []) ≤ one b
      go true true = omega arith
      go true false = omega arith
      go false b = omega arith

  -- the branches that carbons from k on can have: each group once, and the carbonyl O
  left : ℕ → ℕ
  left k = length (only (λ g. leb k g.pos) (groups_on r d)) + one (leb k 1)

  parts-past : (k : ℕ) → length (carbon_at r d k).parts + left (suc k) ≤ left k
  unfolding left carbon_at groups_at
  parts-past k =
      omega (
        arith,
        length-append (carbonyl r d.prefix k) (branches (groups_at r d k)),
        length-branches (groups_at r d k),
        groups-past k (groups_on r d),
        keto-one k,
        once-here 1 k,
      )

  parts-left : (k n : ℕ) → parts_in (values_from (carbon_at r d) k n) ≤ left k
  unfolding parts_in values_from
  parts-left k zero = omega arith
  parts-left k (suc n) = omega (arith, parts-past k, parts-left (suc k) n)

  parts-pairs : (n : ℕ) → parts_in (pairs n) ≡ 0
  unfolding parts_in pairs
  parts-pairs zero = refl
  parts-pairs (suc n) = omega (arith, parts-pairs n)

  parts-flexible : (m n : ℕ) → parts_in (flexible m n) ≡ 0
  unfolding parts_in flexible
  parts-flexible m zero = refl
  parts-flexible m (suc n) = omega (arith, parts-append (pairs (suc n)) (bare 0 ∷ []), parts-pairs (suc n))

  pub parts-few : parts_in (carbons r d) ≤ length (groups_on r d) + 1
  unfolding carbons literal left
  parts-few =
      omega (
        arith,
        parts-append (literal r d) (flexible (mark_of (bond_at r d (literal_end r d))) d.unlocated),
        parts-flexible (mark_of (bond_at r d (literal_end r d))) d.unlocated,
        parts-left (first_drawn r) (suc (literal_end r d) - first_drawn r),
        length-only (λ g. leb (first_drawn r) g.pos) (groups_on r d),
        one-most (leb (first_drawn r) 1),
      )

-- ---- the carbons of a chain

module _ (r : Role) (d : Chain) where
  carbon-light : (k : ℕ) → Light (carbon_at r d k)
  unfolding carbon_at groups_at carbonyl
  carbon-light k =
      record {
        parts = all_append Short (carbonyl r d.prefix k) (branches (groups_at r d k)) (keto-short (is_acyl r d.prefix) (eqb k 1)) (branches-short (groups_at r d k));
      }
    where
      keto-short : (a b : Bool) → All Short (cond a (cond b (branch_part keto ∷ []) []) [])
      keto-short true true = (branch-short keto, tt)
      keto-short true false = tt
      keto-short false b = tt

  bare-light : (m : ℕ) → Light (bare m)
  bare-light m = record { parts = tt }

  pairs-light : (n : ℕ) → All Light (pairs n)
  unfolding pairs
  pairs-light zero = tt
  pairs-light (suc n) = (bare-light 0, (bare-light 61, pairs-light n))

  flexible-light : (m n : ℕ) → All Light (flexible m n)
  unfolding flexible
  flexible-light m zero = tt
  flexible-light m (suc n) = (bare-light m, all_append Light (pairs (suc n)) (bare 0 ∷ []) (pairs-light (suc n)) (bare-light 0, tt))

  pub literal-light : All Light (literal r d)
  unfolding literal
  literal-light = all-values Light (carbon_at r d) (first_drawn r) (suc (literal_end r d) - first_drawn r) (λ i a b. carbon-light i)

  pub carbons-light : All Light (carbons r d)
  unfolding carbons
  carbons-light =
      all_append Light (literal r d) (flexible (mark_of (bond_at r d (literal_end r d))) d.unlocated) literal-light
      (flexible-light (mark_of (bond_at r d (literal_end r d))) d.unlocated)

  pub floats-short : All Short (floats d)
  unfolding floats
  floats-short = branches-short (floating d)

  pub length-floats : length (floats d) ≡ length (floating d)
  unfolding floats
  length-floats = length-branches (floating d)

  -- the written carbons and the flexible tail
  pub drawn-few : length (carbons r d) ≤ drawn_most d.carbon d.unlocated
  unfolding drawn_count literal_end flexible_count drawn_most prefix_end
  drawn-few = omega (arith, length-carbons r d, first_one r, go (eqb d.unlocated 0))
    where
      go : (b : Bool) → suc (cond b d.carbon (prefix_end r d)) - first_drawn r + cond b 0 (2 * d.unlocated + 2) ≤ d.carbon + 2 * d.unlocated + 2
      go true = omega (arith, first_one r)
      go false = omega (arith, first_one r)

  -- its bytes, and its atoms, at most
  abbrev pub most : ℕ
  most = text_most (drawn_most d.carbon d.unlocated) (length (groups_on r d)) (length (floating d)) (length d.rings)

  length-rings : length (ring_pairs d.rings) ≡ length d.rings
  unfolding ring_pairs
  length-rings = length-map d.rings (λ x. ring x.start x.end)

  pub text-most : (l : ℕ) → length (show (item_pieces l (chain (chain_drawn r d)))) ≤ most
  unfolding item_pieces chain_drawn text_most
  text-most l =
      let rs = ring_pairs d.rings in
      omega (
        arith,
        shown (chain_pieces rs l (first_drawn r) (carbons r d)) (float_pieces (floats d)),
        chain-most rs l (first_drawn r) (carbons r d) carbons-light,
        labels-two (first_drawn r) rs,
        length-rings,
        floats-most (floats d) floats-short,
        length-floats,
        drawn-few,
        parts-few r d,
      )

  pub atoms-most : (n : ℕ) → atoms_end r d n ≤ n + most
  unfolding atoms_end text_most
  atoms-most n =
      omega (
        arith,
        float-end (chain_end n (carbons r d)) (floats d) floats-short,
        length-floats,
        chain-end n (carbons r d) carbons-light,
        drawn-few,
        parts-few r d,
      )
