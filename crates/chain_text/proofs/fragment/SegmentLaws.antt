-- The text that is written is that of the drawing.
-- Assumes nothing.
use Prim.Native.Nat.{ℕ, zero, suc, ◌+◌, ◌-◌, ◌^◌, ◌≤◌, ◌<◌, min, max}
use native.Mathlib.Omega.{arith}
use mathlib.Core.Path.{◌≡◌, refl, sym, ap, ◌∙◌}
use mathlib.Core.Bool.{Bool, true, false, cond}
use mathlib.Core.List.{List, [], ◌∷◌, ◌++◌, append_assoc, map}
use lib.Dec.{eqb}
use lib.ListN.{length, take, get_or}
use lib.Seq.{get_or-take}
use borrow.Author.Tests.{ne_eqb}
use Rattle.writer.specs.emit.Text.{Written}
use Rattle.writer.proofs.emit.Laws.{written-length}
use Rattle.chain_record.specs.declared.plain.DbPos.{DbPos}
use Rattle.chain_record.specs.declared.plain.Mod.{Mod}
use Rattle.chain_record.specs.declared.plain.Ring.{Ring as Closed}
use Rattle.chain_record.specs.plain.Chain as read
use Rattle.reading_rules.specs.reading.Piece.{show}
use Rattle.reading_rules.specs.reading.Chain.{Carbon, labels_at, chain_pieces, float_pieces}
use Rattle.reading_rules.specs.reading.Template.{item_pieces, chain}
use Rattle.reading_rules.proofs.reading.ShowLex.{show-append}
use Rattle.chain_rules.specs.declared.chain.Role.{Role}
use Rattle.chain_rules.specs.declared.chain.Role.TheVariants.{Slot, Acyl, Base}
use Rattle.chain_rules.specs.chain.Lists.{largest, values_from}
use Rattle.chain_rules.specs.chain.Features.{first_drawn, doubles, groups_on, prefix_end, literal_end}
use Rattle.chain_rules.specs.chain.Bonds.{bonds_of, bond_at, mark_of, mark_from, plain_bonds}
use Rattle.chain_rules.specs.chain.Drawing.{branches, carbonyl, groups_at, carbon_at, literal, flexible, carbons, ring_pairs, floats, chain_drawn}
use Rattle.drawn_chain.specs.declared.drawable.Shape.{Shape}
use Rattle.drawn_chain.specs.declared.rooms.Lists.{Lists}
use Rattle.drawn_chain.specs.drawable.Drawn.{Drawn, drawn_of, groups_drawn, floats_drawn, rings_drawn, Draws}
use Rattle.chain_pieces.specs.branches.Text.{sitting, floats_text, carbonyl_of}
use Rattle.chain_pieces.specs.backbone.Text.{flexible_text}
use Rattle.chain_text.specs.fragment.Text.{carbon_of, carbons_text}
use Rattle.carbons.specs.Tokens.{ChainTokens, tokens, TokensOf}
use Rattle.carbons.specs.ByCarbon.{Busy}
use Rattle.chain_text.specs.fragment.Segment.{segment_text, RingsOn, Readable, Segment}
use Rattle.carbons.proofs.Left.{written-three}
use Rattle.carbons.proofs.TokenLaws.{length-values, values_same}
use Rattle.chain_pieces.proofs.backbone.Laws.{chain-append, unlabelled}

-- the bonds of a drawing, from numbers and lists that are those of the chain
bonds-from : (r : Role) (d : read.Chain) (c : ℕ) (bs : List DbPos) (rs : List Closed) → c ≡ d.carbon → bs ≡ doubles r d → rs ≡ d.rings → mark_from c bs 1 c (plain_bonds bs rs c) ≡ bonds_of r d
unfolding bonds_of plain_bonds
bonds-from r d c bs rs p q s =
    ap (λ (n : ℕ). mark_from n bs 1 n (plain_bonds bs rs n)) p ∙ ap (λ (b : List DbPos). mark_from d.carbon b 1 d.carbon (plain_bonds b rs d.carbon)) q
    ∙ ap (λ (z : List Closed). mark_from d.carbon (doubles r d) 1 d.carbon (plain_bonds (doubles r d) z d.carbon)) s

-- ---- what holds of every chain that x draws

module _ (r : Role) (d : read.Chain) (x : Drawn) (t : ChainTokens) (w : Draws r d x) (k : TokensOf x t) (s : Readable d) where
  first_one : (r : Role) → max (first_drawn r) 1 ≡ first_drawn r
  first_one Slot = refl
  first_one Acyl = refl
  first_one Base = refl

  pub first-is : t.first ≡ first_drawn r
  first-is = k.first ∙ (rw w.first (first_one r))

  small : x.carbon ≤ 255
  small = rw w.carbon s.carbons

  pub last-is : t.last ≡ literal_end r d
  last-is = (k.last small).is r d w

  -- the bonds by carbon are those of the drawing
  pub bonds-are : take (suc d.carbon) t.bonds ≡ bonds_of r d
  bonds-are = ap (λ (n : ℕ). take (suc n) t.bonds) (sym w.carbon) ∙ k.bonds.are small ∙ bonds-from r d _ _ _ w.carbon w.bonds w.rings

  pub bond-is : (i : ℕ) → i ≤ d.carbon → bond_at r d i ≡ get_or t.bonds i 0
  unfolding bond_at
  bond-is i h = ap (λ (ks : List ℕ). get_or ks i 0) (sym bonds-are) ∙ get_or-take (suc d.carbon) t.bonds i 0 (omega arith)

  -- C k is the carbon drawn
  pub carbon-is : (i : ℕ) → i ≤ d.carbon → carbon_of x.acyl t.bonds (groups_drawn x) i ≡ carbon_at r d i
  unfolding carbon_of carbon_at carbonyl_of carbonyl sitting groups_at
  carbon-is i h = rw (bond-is (i - 1) (omega arith), bond-is i h, w.acyl, w.groups)

-- ---- no ring ends past the literal part

-- every ring starts and ends no later than e
abbrev pub RingsBy : ℕ → List Closed → Type 0
RingsBy e [] = Unit {0}
RingsBy e (x ∷ rs) = (x.start ≤ e) × (x.end ≤ e) × RingsBy e rs

unlabelled-past : (e k l : ℕ) (rs : List Closed) → RingsBy e rs → e < k → labels_at k l (ring_pairs rs) ≡ []
unfolding labels_at ring_pairs
unlabelled-past e k l [] b h = refl
unlabelled-past e k l (x ∷ rs) b h =
    let y : x.start ≤ e = b.0 in
    let z : x.end ≤ e = b.1 in
    let p : x.start ≡ k → ⊥ = λ q. omega arith in
    let o : x.end ≡ k → ⊥ = λ q. omega arith in
    rw (ne_eqb x.start k p, ne_eqb x.end k o) (unlabelled-past e k (suc l) rs b.2 h)

pieces-past : (e k l : ℕ) (rs : List Closed) (cs : List Carbon) → RingsBy e rs → e < k → chain_pieces (ring_pairs rs) l k cs ≡ chain_pieces [] l k cs
unfolding chain_pieces labels_at
pieces-past e k l rs [] b h = refl
pieces-past e k l rs (c ∷ cs) b h = rw (unlabelled-past e k l rs b h, pieces-past e (suc k) l rs cs b (omega arith))

largest-over : (m : ℕ) (xs : List ℕ) → m ≤ largest m xs
unfolding largest
largest-over m [] = omega arith
largest-over m (y ∷ xs) = omega (arith, largest-over (max m y) xs)

largest-append : (m : ℕ) (xs ys : List ℕ) → largest m (xs ++ ys) ≡ largest (largest m xs) ys
unfolding largest
largest-append m [] ys = refl
largest-append m (y ∷ xs) ys = largest-append (max m y) xs ys

rings-by : (m c : ℕ) (rs : List Closed) → RingsOn c rs → RingsBy (min (largest m (map (λ x. x.end) rs)) c) rs
unfolding largest
rings-by m c [] b = tt
rings-by m c (x ∷ rs) b =
    let o = largest-over (max m x.end) (map (λ (y : Closed). y.end) rs) in
    let y : x.start ≤ x.end = b.0 in
    let z : x.end ≤ c = b.1 in
    (omega arith, omega arith, rings-by (max m x.end) c rs b.2)

pub rings-literal : (r : Role) (d : read.Chain) → RingsOn d.carbon d.rings → (d.unlocated ≡ 0 → ⊥) → RingsBy (literal_end r d) d.rings
unfolding literal_end prefix_end
rings-literal r d b n =
    rw (ne_eqb d.unlocated 0 n, largest-append, largest-append)
    (rings-by (largest (largest (first_drawn r) (map (λ (b : DbPos). b.pos + 1) (doubles r d))) (map (λ (g : Mod). g.pos) (groups_on r d))) d.carbon d.rings b)

pub literal-on : (r : Role) (d : read.Chain) → literal_end r d ≤ d.carbon
unfolding literal_end prefix_end
literal-on r d = go (eqb d.unlocated 0)
  where
    go : (b : Bool) → cond b d.carbon (min (largest (first_drawn r) (map (λ b. b.pos + 1) (doubles r d) ++ (map (λ g. g.pos) (groups_on r d) ++ map (λ x. x.end) d.rings))) d.carbon) ≤ d.carbon
    go true = omega arith
    go false = omega arith

flexible-shown : (n m e k l : ℕ) (rs : List Closed) → ((n ≡ 0 → ⊥) → RingsBy e rs) → e < k
    → show (chain_pieces (ring_pairs rs) l k (flexible m n)) ≡ show (chain_pieces [] 0 0 (flexible m n))
unfolding flexible chain_pieces
flexible-shown zero m e k l rs b h = refl
flexible-shown (suc n) m e k l rs b h =
    ap show (pieces-past e k l rs (flexible m (suc n)) (b (λ q. omega arith)) h ∙ unlabelled l k 0 0 (flexible m (suc n)))

-- ---- the whole segment

module _ (r : Role) (d : read.Chain) (x : Drawn) (t : ChainTokens) (w : Draws r d x) (k : TokensOf x t) (s : Readable d) where
  on : literal_end r d ≤ d.carbon
  on = literal-on r d

  pub literal-is : values_from (carbon_of x.acyl t.bonds (groups_drawn x)) t.first (suc t.last - t.first) ≡ literal r d
  unfolding literal
  literal-is =
      rw (first-is r d x t w k s, last-is r d x t w k s)
      (values_same (carbon_of x.acyl t.bonds (groups_drawn x)) (carbon_at r d) (first_drawn r) (suc (literal_end r d) - first_drawn r)
      (λ i g h. carbon-is r d x t w k s i (omega (arith, on))))

  literal-shown : (l : ℕ) → show (chain_pieces (ring_pairs d.rings) l (first_drawn r) (literal r d))
      ≡ carbons_text x.acyl t.bonds (groups_drawn x) (rings_drawn x) l t.first (suc t.last - t.first)
  unfolding carbons_text
  literal-shown l = rw (literal-is, w.rings, first-is r d x t w k s)

  pub literal-length : length (literal r d) ≡ suc (literal_end r d) - first_drawn r
  unfolding literal
  literal-length = length-values (carbon_at r d) (first_drawn r) (suc (literal_end r d) - first_drawn r)

  tail-shown : (l : ℕ) → show (chain_pieces (ring_pairs d.rings) l (first_drawn r + length (literal r d)) (flexible (mark_of (bond_at r d (literal_end r d))) d.unlocated))
      ≡ flexible_text (get_or t.bonds t.last 0) x.unlocated
  unfolding flexible_text
  tail-shown l =
      flexible-shown d.unlocated (mark_of (bond_at r d (literal_end r d))) (literal_end r d) (first_drawn r + length (literal r d)) l d.rings
      (λ n. rings-literal r d s.rings n) (omega (arith, literal-length))
      ∙ (rw (bond-is r d x t w k s (literal_end r d) on, last-is r d x t w k s, w.unlocated))

  floats-shown : show (float_pieces (floats d)) ≡ floats_text (floats_drawn x)
  unfolding floats floats_text
  floats-shown = rw w.floats

  pub segment-is : (l : ℕ) → show (item_pieces l (chain (chain_drawn r d))) ≡ segment_text x t l
  unfolding item_pieces chain_drawn carbons segment_text
  segment-is l =
      show-append (chain_pieces (ring_pairs d.rings) l (first_drawn r) (literal r d ++ flexible (mark_of (bond_at r d (literal_end r d))) d.unlocated)) (float_pieces (floats d))
      ∙ (rw (chain-append (ring_pairs d.rings) l (first_drawn r) (literal r d) (flexible (mark_of (bond_at r d (literal_end r d))) d.unlocated), show-append (chain_pieces (ring_pairs d.rings) l (first_drawn r) (literal r d)) (chain_pieces (ring_pairs d.rings) l (first_drawn r + length (literal r d)) (flexible (mark_of (bond_at r d (literal_end r d))) d.unlocated)), literal-shown l, tail-shown l, floats-shown)
      (append_assoc (carbons_text x.acyl t.bonds (groups_drawn x) (rings_drawn x) l t.first (suc t.last - t.first)) (flexible_text (get_or t.bonds t.last 0) x.unlocated) (floats_text (floats_drawn x))))

-- ---- what the functions need

segment-written : {xs ys zs ws : List ℕ} {at p q o : ℕ} (x : Drawn) (t : ChainTokens) (l : ℕ) → length xs < 2 ^ 64
    → Written xs at (carbons_text x.acyl t.bonds (groups_drawn x) (rings_drawn x) l t.first (suc t.last - t.first)) ys p
    → Written ys p (flexible_text (get_or t.bonds t.last 0) x.unlocated) zs q → Written zs q (floats_text (floats_drawn x)) ws o
    → Written xs at (segment_text x t l) ws o
unfolding segment_text
segment-written x t l h u v w = written-three h u v w

pub segment-drawn : {xs ys : List ℕ} {at q : ℕ} (x : Drawn) (t : ChainTokens) (l : ℕ) → TokensOf x t → Written xs at (segment_text x t l) ys q → Segment x l xs at ys q
segment-drawn x t l k w = record { size = written-length w; text = λ r d g s. rw (segment-is r d x t g k s l) w }

-- what the writer of the literal carbons relies on
pub range-ready : (x : Drawn) (first last : ℕ) (bs us : List ℕ) (l : ℕ) → TokensOf x (tokens first last bs us) → l ≤ 247
    → (1 ≤ first) × (last ≤ 255) × (last < length bs) × (last < length us) × Busy x.acyl (groups_drawn x) (rings_drawn x) us × (l ≤ 247)
range-ready x first last bs us l k e = (omega (arith, k.first), k.room, k.bonded, k.laden, k.busy, e)

-- where what each carbon has is lent
pub segment-done : {xs ys zs ws : List ℕ} {at p q o : ℕ} (x : Shape) (part : Lists) (first last : ℕ) (bs us : List ℕ) (l : ℕ) {fs : List Mod} → length xs < 2 ^ 64
    → TokensOf (drawn_of x part) (tokens first last bs us) → fs ≡ floats_drawn (drawn_of x part)
    → Written xs at (carbons_text x.acyl bs (groups_drawn (drawn_of x part)) (rings_drawn (drawn_of x part)) l first (suc last - first)) ys p
    → Written ys p (flexible_text (get_or bs last 0) x.unlocated) zs q → Written zs q (floats_text fs) ws o → Segment (drawn_of x part) l xs at ws o
segment-done x part first last bs us l h k e u v w =
    segment-drawn (drawn_of x part) (tokens first last bs us) l k (segment-written (drawn_of x part) (tokens first last bs us) l h u v (rw e at w))

-- ---- a chain without a tail

-- nor groups without a position
pub no-tail : (b : ℕ) → flexible_text b 0 ++ floats_text [] ≡ []
unfolding flexible_text flexible floats_text branches float_pieces chain_pieces show
no-tail b = refl
