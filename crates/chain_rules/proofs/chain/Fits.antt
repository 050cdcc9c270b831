-- A chain without refusals is drawn by carbons and rings that the laws of reading ask for: its text reads as it is drawn.
-- Assumes nothing.
use Prim.Native.Nat.{ℕ, zero, suc, ◌+◌, ◌-◌, ◌*◌, ◌≤◌, ◌<◌}
use native.Mathlib.Omega.{arith}
use mathlib.Core.Path.{◌≡◌, refl, sym, ap, ◌∙◌}
use mathlib.Core.Bool.{Bool, true, false, cond, not, ◌&&◌, false≢true}
use mathlib.Core.List.{List, [], ◌∷◌, ◌++◌}
use lib.ListN.{length, length-append, length-map}
use lib.Dec.{eqb}
use borrow.Author.Tests.{eqb-false, eq-eqb, ne_eqb}
use Rattle.chain_record.specs.declared.plain.ChainPrefix.{ChainPrefix}
use Rattle.chain_record.specs.declared.plain.ChainPrefix.TheVariants as prefix
use Rattle.chain_record.specs.declared.plain.Mod.{Mod}
use Rattle.chain_record.specs.declared.plain.Ring.{Ring}
use Rattle.chain_record.specs.plain.Chain.{Chain}
use Rattle.chain_record.proofs.plain.Sound.{Sound, Every}
use Rattle.group_table.specs.groups.Groups.{keto, hydroxy}
use Rattle.reading_rules.specs.reading.Ascii.{ascii}
use Rattle.reading_rules.specs.reading.Lexer.{memb, marks}
use Rattle.reading_rules.specs.reading.Part.{Part}
use Rattle.reading_rules.specs.reading.Chain as reading
use Rattle.reading_rules.specs.reading.Template as template
use Rattle.reading_rules.proofs.reading.PartingLaws.{All, all_map}
use Rattle.reading_rules.proofs.reading.Chain.{Differs, Rings, PartsFit, CarbonsFit, NoShort, Bridged, past, EndsBy, RingsFit}
use Rattle.reading_rules.proofs.reading.Template.{ChainFits}
use Rattle.reading_rules.proofs.reading.TemplateText.{MarkWell, PartsWell, CarbonsWell, ItemWell}
use Rattle.chain_rules.specs.declared.chain.Role.{Role}
use Rattle.chain_rules.specs.declared.chain.Role.TheVariants.{Slot, Acyl, Base}
use Rattle.chain_rules.specs.chain.Lists.{any_of, any_two, values_from}
use Rattle.chain_rules.specs.chain.Features.{first_drawn, is_acyl, located, unlocated, oxygen_at, triol_oxygen, base_oxygens, groups_on, floating, literal_end, flexible_count, drawn_count}
use Rattle.chain_rules.specs.chain.Refusals.{is_epoxide, same_ring}
use Rattle.chain_rules.specs.chain.Bonds.{bridged, bond_at, mark_of}
use Rattle.chain_rules.specs.chain.Drawing.{branch_part, carbonyl, groups_at, branches, carbon_at, literal, bare, pairs, flexible, carbons, ring_pairs, floats, chain_drawn}
use Rattle.chain_rules.proofs.chain.Lists.{or_left, or_right, all_append, all-mapped, all-only, length-only, length-values, all-values}
use Rattle.chain_rules.proofs.chain.Accepted.{Drawable, RingStands, rings-on, rings-apart, rings-literal, literal-on}
use Rattle.chain_rules.proofs.chain.Bonds.{mark-well, starts_epoxide, bridge-stands}
use Rattle.chain_rules.proofs.chain.Branches.{Branch, each-unlabelled, branch-reads}

-- ---- the groups

every-all : {A : Type 0} (P : A → Type 0) (l : List A) → Every P l → All P l
every-all P [] h = tt
every-all P (x ∷ l) h = (h.0, every-all P l h.1)

abbrev pub InTable : Mod → Type 0
InTable g = g.row < 17

oxygen-table : (p : ℕ) (gs : List Mod) → All InTable (oxygen_at p gs) × (length (oxygen_at p gs) ≤ 1)
unfolding oxygen_at
oxygen-table p gs = go (any_of (λ g. eqb g.pos p) gs)
  where
    go : (b : Bool) → All InTable (cond b [] (record { pos = p; row = hydroxy } ∷ [])) × (length {A = Mod} (cond b [] (record { pos = p; row = hydroxy } ∷ [])) ≤ 1)
    go true = (tt, omega arith)
    go false = ((omega arith, tt), omega arith)

triol-table : (p : ChainPrefix) (gs : List Mod) → All InTable (triol_oxygen p gs) × (length (triol_oxygen p gs) ≤ 1)
unfolding triol_oxygen
triol-table prefix.SphingoidT gs = oxygen-table 4 gs
triol-table prefix.Acyl gs = (tt, omega arith)
triol-table prefix.EtherAlkyl gs = (tt, omega arith)
triol-table prefix.EtherAlkenyl gs = (tt, omega arith)
triol-table prefix.SphingoidD gs = (tt, omega arith)

oxygens-table : (r : Role) (p : ChainPrefix) (gs : List Mod) → All InTable (base_oxygens r p gs) × (length (base_oxygens r p gs) ≤ 2)
unfolding base_oxygens
oxygens-table Slot p gs = (tt, omega arith)
oxygens-table Acyl p gs = (tt, omega arith)
oxygens-table Base p gs = (
  all_append InTable (oxygen_at 3 gs) (triol_oxygen p gs) (oxygen-table 3 gs).0 (triol-table p gs).0,
  omega (arith, length-append (oxygen_at 3 gs) (triol_oxygen p gs), (oxygen-table 3 gs).1, (triol-table p gs).1),
)

-- each group of a chain is of the table, and there are at most 18: 16 and a base's own O's
pub groups-table : (r : Role) (d : Chain) → Sound d → All InTable (groups_on r d) × (length (groups_on r d) ≤ 18)
unfolding groups_on located
groups-table r d s =
    let gs : List Mod = located d.groups in
    let o : All InTable (base_oxygens r d.prefix gs) × (length (base_oxygens r d.prefix gs) ≤ 2) = oxygens-table r d.prefix gs in (
      all_append InTable gs (base_oxygens r d.prefix gs) (all-only InTable (λ g. not (eqb g.pos 0)) d.groups (every-all InTable d.groups s.rows)) o.0,
      omega (arith, length-append gs (base_oxygens r d.prefix gs), o.1, length-only (λ g. not (eqb g.pos 0)) d.groups, s.within.groups),
    )

pub branches-read : (gs : List Mod) → All InTable gs → All Branch (branches gs)
unfolding branches
branches-read gs h = all-mapped Branch (λ g. branch_part g.row) gs (all_map {P = InTable} (λ g q. branch-reads g.row q) gs h)

pub floating-table : (d : Chain) → Sound d → All InTable (floating d)
unfolding floating unlocated
floating-table d s = all-only InTable (λ g. eqb g.pos 0) d.groups (every-all InTable d.groups s.rows)

pub floats-read : (d : Chain) → Sound d → All Branch (floats d) × (length (floats d) ≤ 16)
unfolding floats floating unlocated branches
floats-read d s = (
  branches-read (floating d) (floating-table d s),
  omega (arith, length-map (floating d) (λ g. branch_part g.row), length-only (λ g. eqb g.pos 0) d.groups, s.within.groups),
)

-- ---- the carbons

-- a carbon with a mark of 01 or none before it, and with branches of which each reads by itself
pub record CarbonFine (c : reading.Carbon) : Type 0 where
  pub mark : MarkWell c.before
  pub parts : All Branch c.parts

carbonyl-reads : (r : Role) (p : ChainPrefix) (k : ℕ) → All Branch (carbonyl r p k)
unfolding carbonyl
carbonyl-reads r p k = go (is_acyl r p) (eqb k 1)
  where
    go : (a b : Bool) → All Branch (cond a (cond b (branch_part keto ∷ []) []) [])
    go true true = (branch-reads keto (omega arith), tt)
    go true false = tt
    go false b = tt

carbon-fine : (r : Role) (d : Chain) → Sound d → (k : ℕ) → CarbonFine (carbon_at r d k)
unfolding carbon_at groups_at branches
carbon-fine r d s k =
    let gs : List Mod = groups_at r d k in
    record {
      mark = mark-well r d (k - 1);
      parts = all_append Branch (carbonyl r d.prefix k) (branches gs) (carbonyl-reads r d.prefix k)
          (branches-read gs (all-only InTable (λ g. eqb g.pos k) (groups_on r d) (groups-table r d s).0));
    }

bare-fine : (m : ℕ) → MarkWell m → CarbonFine (bare m)
bare-fine m w = record { mark = w; parts = tt }

pairs-fine : (n : ℕ) → All CarbonFine (pairs n)
unfolding pairs MarkWell memb marks ascii
pairs-fine zero = tt
pairs-fine (suc n) = (bare-fine 0 tt, (bare-fine 61 tt, pairs-fine n))

flexible-fine : (m n : ℕ) → MarkWell m → All CarbonFine (flexible m n)
unfolding flexible MarkWell
flexible-fine m zero w = tt
flexible-fine m (suc n) w = (bare-fine m w, all_append CarbonFine (pairs (suc n)) (bare 0 ∷ []) (pairs-fine (suc n)) (bare-fine 0 tt, tt))

pub carbons-fine : (r : Role) (d : Chain) → Sound d → All CarbonFine (carbons r d)
unfolding carbons literal
carbons-fine r d s =
    all_append CarbonFine (literal r d) (flexible (mark_of (bond_at r d (literal_end r d))) d.unlocated)
    (all-values CarbonFine (carbon_at r d) (first_drawn r) (suc (literal_end r d) - first_drawn r) (λ i a b. carbon-fine r d s i))
    (flexible-fine (mark_of (bond_at r d (literal_end r d))) d.unlocated (mark-well r d (literal_end r d)))

-- how many there are
length_pairs : (n : ℕ) → length (pairs n) ≡ 2 * n
unfolding pairs
length_pairs zero = refl
length_pairs (suc n) = omega (arith, length_pairs n)

length-flexible : (m n : ℕ) → length (flexible m n) ≡ cond (eqb n 0) 0 (2 * n + 2)
unfolding flexible
length-flexible m zero = refl
length-flexible m (suc n) =
    rw (ne_eqb (suc n) 0 (λ e. omega arith)) (omega (arith, length-append (pairs (suc n)) (bare 0 ∷ []), length_pairs (suc n)))

pub length-literal : (r : Role) (d : Chain) → length (literal r d) ≡ suc (literal_end r d) - first_drawn r
unfolding literal
length-literal r d = length-values (carbon_at r d) (first_drawn r) (suc (literal_end r d) - first_drawn r)

pub length-carbons : (r : Role) (d : Chain) → length (carbons r d) ≡ drawn_count r d
unfolding carbons drawn_count flexible_count
length-carbons r d =
    omega (
      arith,
      length-append (literal r d) (flexible (mark_of (bond_at r d (literal_end r d))) d.unlocated),
      length-literal r d,
      length-flexible (mark_of (bond_at r d (literal_end r d))) d.unlocated,
    )

-- ---- the parts

parts-fit : (l : ℕ) (ps : List Part) → All Branch ps → PartsFit l [] ps
unfolding PartsFit
parts-fit l [] h = tt
parts-fit l (p ∷ ps) h = (record { hangs = h.0.hangs; free = each-unlabelled _ p.pieces h.0.bare }, parts-fit l ps h.1)

carbons-fit : (l : ℕ) (cs : List reading.Carbon) → All CarbonFine cs → CarbonsFit l [] cs
unfolding CarbonsFit
carbons-fit l [] h = tt
carbons-fit l (c ∷ cs) h = (parts-fit l c.parts h.0.parts, carbons-fit l cs h.1)

parts-well : (ps : List Part) → All Branch ps → PartsWell ps
unfolding PartsWell
parts-well [] h = tt
parts-well (p ∷ ps) h = (h.0.well, parts-well ps h.1)

carbons-well : (cs : List reading.Carbon) → All CarbonFine cs → CarbonsWell cs
unfolding CarbonsWell
carbons-well [] h = tt
carbons-well (c ∷ cs) h = (h.0.mark, (parts-well c.parts h.0.parts, carbons-well cs h.1))

-- ---- the rings

rings-differ : (x : Ring) (xs : List Ring) → any_of (same_ring x) xs ≡ false → Differs x.start x.end (ring_pairs xs)
unfolding any_of same_ring ring_pairs Differs
rings-differ x [] h = tt
rings-differ x (y ∷ xs) h = (
  (λ p q. false≢true (sym (or_left (same_ring x y) (any_of (same_ring x) xs) h) ∙ rw (eq-eqb x.start y.start p, eq-eqb x.end y.end q))),
  rings-differ x xs (or_right (same_ring x y) (any_of (same_ring x) xs) h),
)

rings-good : (f c : ℕ) (xs : List Ring) → All (RingStands f c) xs → any_two same_ring xs ≡ false → Rings f (ring_pairs xs)
unfolding any_two ring_pairs Rings
rings-good f c [] h g = tt
rings-good f c (x ∷ xs) h g = (
  h.0.starts,
  (
    h.0.spans,
    (rings-differ x xs (or_left (any_of (same_ring x) xs) (any_two same_ring xs) g), rings-good f c xs h.1 (or_right (any_of (same_ring x) xs) (any_two same_ring xs) g)),
  ),
)

rings-end : (k : ℕ) (xs : List Ring) → All (λ x. x.end < k) xs → EndsBy k (ring_pairs xs)
unfolding ring_pairs EndsBy
rings-end k [] h = tt
rings-end k (x ∷ xs) h = (h.0, rings-end k xs h.1)

-- where no epoxide starts, no ring joins two neighbours
rings-long : (f c k : ℕ) (xs : List Ring) → All (RingStands f c) xs → starts_epoxide k xs ≡ false → NoShort k (ring_pairs xs)
unfolding any_of ring_pairs NoShort
rings-long f c k [] h g = tt
rings-long f c k (x ∷ xs) h g =
    let first : (is_epoxide x.bridge && eqb x.start k) ≡ false = or_left (is_epoxide x.bridge && eqb x.start k) (starts_epoxide k xs) g in (
      (λ p q. false≢true (sym first ∙ rw (h.0.short (q ∙ ap suc (sym p)), eq-eqb x.start k p))),
      rings-long f c k xs h.1 (or_right (is_epoxide x.bridge && eqb x.start k) (starts_epoxide k xs) g),
    )

-- after its end no ring starts
rings-late : (k : ℕ) (xs : List Ring) → All (λ x. x.end ≤ k) xs → NoShort k (ring_pairs xs)
unfolding ring_pairs NoShort
rings-late k [] h = tt
rings-late k (x ∷ xs) h = ((λ p q. omega (arith, h.0)), rings-late k xs h.1)

past-length : (k : ℕ) (cs : List reading.Carbon) → past k cs ≡ k + length cs
unfolding past
past-length k [] = omega arith
past-length k (c ∷ cs) = omega (arith, past-length (suc k) cs)

bridged-values : (rs : List reading.Ring) (g : ℕ → reading.Carbon) (k n : ℕ) → ((i : ℕ) → k ≤ i → i < k + n → (g i).bridge ≡ false → NoShort i rs)
    → (cs : List reading.Carbon) → Bridged (k + n) rs cs → Bridged k rs (values_from g k n ++ cs)
unfolding values_from Bridged
bridged-values rs g k zero h cs b = let e : k + 0 ≡ k = omega arith in rw e at b
bridged-values rs g k (suc n) h cs b =
    let e : k + suc n ≡ suc k + n = omega arith in
    (h k (omega arith) (omega arith), bridged-values rs g (suc k) n (λ i p q. h i (omega arith) (omega arith)) cs (rw e at b))

bridged-late : (rs : List reading.Ring) (k : ℕ) (cs : List reading.Carbon) → ((i : ℕ) → k ≤ i → NoShort i rs) → Bridged k rs cs
unfolding Bridged
bridged-late rs k [] h = tt
bridged-late rs k (c ∷ cs) h = ((λ e. h k (omega arith)), bridged-late rs (suc k) cs (λ i p. h i (omega arith)))

module _ (r : Role) (d : Chain) (a : Drawable r d) where
  -- a carbon with no bridge after it starts no epoxide
  no-bridge : (k : ℕ) → k ≤ d.carbon → (carbon_at r d k).bridge ≡ false → starts_epoxide k d.rings ≡ false
  unfolding carbon_at
  no-bridge k h e = go (starts_epoxide k d.rings) refl
    where
      go : (b : Bool) → starts_epoxide k d.rings ≡ b → b ≡ false
      go false q = refl
      go true q = absurd (eqb-false (bond_at r d k) bridged e (bridge-stands r d a k h q))

  rings-bridged : Bridged (first_drawn r) (ring_pairs d.rings) (carbons r d)
  unfolding carbons literal
  rings-bridged =
      let n : ℕ = suc (literal_end r d) - first_drawn r in
      let flex : List reading.Carbon = flexible (mark_of (bond_at r d (literal_end r d))) d.unlocated in
      bridged-values (ring_pairs d.rings) (carbon_at r d) (first_drawn r) n
      (λ i p q e.
      rings-long (first_drawn r) d.carbon i d.rings (rings-on r d a) (no-bridge i (omega (arith, literal-on r d a)) e)) flex
      (bridged-late (ring_pairs d.rings) (first_drawn r + n) flex
      (λ i p. rings-late i d.rings (all_map {P = λ (x : Ring). x.end ≤ literal_end r d} (λ x h. omega (arith, h, literal-on r d a)) d.rings (rings-literal r d a))))

  rings-fit : RingsFit (first_drawn r) (ring_pairs d.rings) (carbons r d)
  unfolding drawn_count
  rings-fit =
      record {
        rings = rings-good (first_drawn r) d.carbon d.rings (rings-on r d a) (rings-apart r d a);
        ends =
            rings-end (past (first_drawn r) (carbons r d)) d.rings
            (all_map {P = λ (x : Ring). x.end ≤ literal_end r d}
            (λ x h. omega (arith, h, past-length (first_drawn r) (carbons r d), length-carbons r d, literal-on r d a)) d.rings (rings-literal r d a));
        bridged = rings-bridged;
      }

  -- THE CHAIN FITS: whatever its first label, as no branch has one
  pub chain_fits : (l : ℕ) → ChainFits l (chain_drawn r d)
  unfolding chain_drawn
  chain_fits l =
      record {
        rings = rings-fit;
        carbons = carbons-fit l (carbons r d) (carbons-fine r d a.sound);
        floats = parts-fit l (floats d) (floats-read d a.sound).0;
      }

  pub chain-well : ItemWell (template.chain (chain_drawn r d))
  unfolding ItemWell chain_drawn
  chain-well = (carbons-well (carbons r d) (carbons-fine r d a.sound), parts-well (floats d) (floats-read d a.sound).0)
