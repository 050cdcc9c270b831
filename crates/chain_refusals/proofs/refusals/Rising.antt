-- Laws of the one look at each list: one for each way out and each turn, and what a list that rises says of 32 and 33.
-- Assumes nothing.
use Prim.Native.Nat.{ℕ, ◌+◌, ◌-◌, ◌<◌, ◌≤◌}
use native.Mathlib.Omega.{arith}
use mathlib.Core.Path.{◌≡◌, refl, sym, ◌∙◌}
use mathlib.Core.Bool.{Bool, true, false, cond, not, ◌&&◌, ◌||◌, false≢true, or-true, and-false}
use mathlib.Core.List.{List, [], ◌∷◌}
use lib.Dec.{eqb, ltb, leb}
use lib.ListN.{length, drop, get_or}
use borrow.Author.Tests.{ltb-true, leb-true, lt-ltb, le-ltb, le-leb, lt-leb, ne_eqb, not-false}
use Rattle.chain_record.specs.declared.plain.ChainPrefix.{ChainPrefix}
use Rattle.chain_record.specs.declared.plain.Bridge.TheVariants.{Epoxide, Carbocycle}
use Rattle.chain_record.specs.declared.plain.DbPos.{DbPos}
use Rattle.chain_record.specs.declared.plain.Mod.{Mod}
use Rattle.chain_record.specs.declared.plain.Ring.{Ring}
use Rattle.chain_record.specs.plain.Chain.{Chain}
use Rattle.chain_rules.specs.declared.chain.Role.{Role}
use Rattle.chain_rules.specs.declared.chain.Role.TheVariants.{Slot, Acyl, Base}
use Rattle.chain_rules.specs.chain.Lists.{any_of, any_two, is_empty}
use Rattle.chain_rules.specs.chain.Features.{first_drawn, is_acyl}
use Rattle.chain_rules.specs.chain.Refusals.{is_epoxide, double_off, group_off, ring_off, off_chain, same_bond, epoxide_on, small_ring, same_ring, clashes, place_refusal}
use Rattle.drawn_chain.specs.drawable.Drawn.{Drawn, no_bond, no_ring, bonds_drawn, groups_drawn, rings_drawn, Draws, Says}
use Rattle.drawn_chain.proofs.drawable.Turns.{left_here, left-none}
use Rattle.chain_refusals.proofs.offchain.Off.{off-as}
use Rattle.chain_refusals.proofs.clash.Clashes.{clashes-as}
use Rattle.chain_refusals.specs.refusals.Rising.{Only, bonds_rise, ring_past, rings_rise}

pub only-false : (u : Bool) → Only false u
only-false u = record { told = λ e. absurd (false≢true e) }

-- ---- the double bonds; what was asked is v

pub rise-first : (c m k : ℕ) (l : List DbPos) → k ≡ m → bonds_rise c m l ≡ bonds_rise c k (drop 0 l)
rise-first c m k l e = rw e

module _ (v : Bool) (l : List DbPos) (i c m : ℕ) (same : v ≡ bonds_rise c m (drop i l)) where
  pub rise-next : (b : DbPos) → i < length l → b ≡ get_or l i no_bond → m < b.pos → v ≡ bonds_rise c b.pos (drop (i + 1) l)
  unfolding bonds_rise
  rise-next b h e g = same ∙ rw (left_here l i no_bond b h e, lt-ltb m b.pos g)

  pub rise-end : length l ≤ i → Only (ltb m c) v
  unfolding bonds_rise
  rise-end h = record { told = λ e. same ∙ rw (left-none l i h) e }

-- ---- the rings; what was asked is v

module _ (x : Ring) (m : ℕ) where
  pub past-epoxide : x.bridge ≡ Epoxide → false ≡ ring_past m x
  unfolding ring_past
  past-epoxide e = rw (e, and-false (leb m x.start))

  pub past-carbocycle : m ≤ x.start → x.bridge ≡ Carbocycle → leb (x.start + 2) x.end ≡ ring_past m x
  unfolding ring_past
  past-carbocycle h e = rw (le-leb m x.start h, e)

  pub past-early : x.start < m → leb m x.start ≡ ring_past m x
  unfolding ring_past
  past-early h = rw (lt-leb m x.start h)

module _ (v : Bool) (l : List Ring) (i m : ℕ) (same : v ≡ rings_rise m (drop i l)) where
  pub rings-next : (x : Ring) (t : Bool) → i < length l → x ≡ get_or l i no_ring → t ≡ ring_past m x → not t ≡ false → v ≡ rings_rise (x.start + 1) (drop (i + 1) l)
  unfolding rings_rise
  rings-next x t h e p q = same ∙ rw (left_here l i no_ring x h e, ← p, not-false t q)

  pub rings-end : length l ≤ i → Only true v
  unfolding rings_rise
  rings-end h = record { told = λ e. same ∙ rw (left-none l i h) }

-- ---- double bonds that rise: none is off the chain, and no two stand at one carbon

-- the first of some that rise past m and end before c, and the others
record Risen (c m : ℕ) (b : DbPos) (l : List DbPos) : Type 0 where
  past : m < b.pos
  rest : bonds_rise c b.pos l ≡ true

risen : (c m : ℕ) (b : DbPos) (l : List DbPos) → bonds_rise c m (b ∷ l) ≡ true → Risen c m b l
unfolding bonds_rise
risen c m b l e = go (ltb m b.pos) refl e
  where
    go : (t : Bool) → ltb m b.pos ≡ t → cond t (bonds_rise c b.pos l) false ≡ true → Risen c m b l
    go true g f = record { past = ltb-true m b.pos g; rest = f }
    go false g f = absurd (false≢true f)

rise-before : (c m : ℕ) (l : List DbPos) → bonds_rise c m l ≡ true → m < c
unfolding bonds_rise
rise-before c m [] e = ltb-true m c e
rise-before c m (b ∷ l) e =
    let r : Risen c m b l = risen c m b l e in
    let h : b.pos < c = rise-before c b.pos l r.rest in
    omega (arith, r.past)

rise-on : (f c m : ℕ) (l : List DbPos) → f ≤ m + 1 → bonds_rise c m l ≡ true → any_of (double_off f c) l ≡ false
unfolding any_of double_off
rise-on f c m [] h e = refl
rise-on f c m (b ∷ l) h e =
    let r : Risen c m b l = risen c m b l e in
    let p : f ≤ b.pos = omega (arith, r.past) in
    rw (le-leb f b.pos p, lt-ltb b.pos c (rise-before c b.pos l r.rest), rise-on f c b.pos l (omega arith) r.rest)

rise-none : (a : DbPos) (c m : ℕ) (l : List DbPos) → a.pos ≤ m → bonds_rise c m l ≡ true → any_of (same_bond a) l ≡ false
unfolding any_of same_bond
rise-none a c m [] h e = refl
rise-none a c m (b ∷ l) h e =
    let r : Risen c m b l = risen c m b l e in
    let p : a.pos < b.pos = omega (arith, r.past) in
    rw (ne_eqb a.pos b.pos (λ z. omega (arith, z, p)), rise-none a c b.pos l (omega arith) r.rest)

rise-apart : (c m : ℕ) (l : List DbPos) → bonds_rise c m l ≡ true → any_two same_bond l ≡ false
unfolding any_two
rise-apart c m [] e = refl
rise-apart c m (b ∷ l) e =
    let r : Risen c m b l = risen c m b l e in
    rw (rise-none b c b.pos l (omega arith) r.rest, rise-apart c b.pos l r.rest)

-- ---- rings that rise

record Past (m : ℕ) (x : Ring) (l : List Ring) : Type 0 where
  starts : m ≤ x.start
  carbocycle : is_epoxide x.bridge ≡ false
  long : x.start + 2 ≤ x.end
  rest : rings_rise (x.start + 1) l ≡ true

past : (m : ℕ) (x : Ring) (l : List Ring) → rings_rise m (x ∷ l) ≡ true → Past m x l
unfolding rings_rise ring_past
past m x l e = go (leb m x.start) (is_epoxide x.bridge) (leb (x.start + 2) x.end) refl refl refl e
  where
    go : (p q s : Bool) → leb m x.start ≡ p → is_epoxide x.bridge ≡ q → leb (x.start + 2) x.end ≡ s → cond (p && not q && s) (rings_rise (x.start + 1) l) false ≡ true → Past m x l
    go true false true g h k f = record { starts = leb-true m x.start g; carbocycle = h; long = leb-true (x.start + 2) x.end k; rest = f }
    go true false false g h k f = absurd (false≢true f)
    go true true s g h k f = absurd (false≢true f)
    go false q s g h k f = absurd (false≢true f)

rings-on : (f m : ℕ) (acyl : Bool) (l : List Ring) → f ≤ m → (acyl ≡ true → 2 ≤ m) → rings_rise m l ≡ true → any_of (ring_off f acyl) l ≡ false
unfolding any_of ring_off
rings-on f m acyl [] h k e = refl
rings-on f m acyl (x ∷ l) h k e =
    let r : Past m x l = past m x l e in
    let p : m ≤ x.start = r.starts in
    rw (le-ltb x.start f (omega arith), carbonyl acyl p k, rings-on f (x.start + 1) acyl l (omega arith) (λ z. le-more (k z) p) r.rest)
  where
    le-more : 2 ≤ m → m ≤ x.start → 2 ≤ x.start + 1
    le-more a b = omega arith

    carbonyl : (t : Bool) → m ≤ x.start → (t ≡ true → 2 ≤ m) → t && eqb x.start 1 ≡ false
    carbonyl false p k = refl
    carbonyl true p k = let a : 2 ≤ m = k refl in ne_eqb x.start 1 (λ z. omega (arith, z, a, p))

rings-plain : (bs : List DbPos) (m : ℕ) (l : List Ring) → rings_rise m l ≡ true → any_of (epoxide_on bs) l ≡ false
unfolding any_of epoxide_on
rings-plain bs m [] e = refl
rings-plain bs m (x ∷ l) e =
    let r : Past m x l = past m x l e in
    rw (r.carbocycle, rings-plain bs (x.start + 1) l r.rest)

rings-large : (m : ℕ) (l : List Ring) → rings_rise m l ≡ true → any_of small_ring l ≡ false
unfolding any_of small_ring
rings-large m [] e = refl
rings-large m (x ∷ l) e =
    let r : Past m x l = past m x l e in
    rw (r.carbocycle, le-ltb x.end (x.start + 2) r.long, rings-large (x.start + 1) l r.rest)

rings-none : (a : Ring) (m : ℕ) (l : List Ring) → a.start < m → rings_rise m l ≡ true → any_of (same_ring a) l ≡ false
unfolding any_of same_ring
rings-none a m [] h e = refl
rings-none a m (x ∷ l) h e =
    let r : Past m x l = past m x l e in
    let p : a.start < x.start = omega (arith, r.starts) in
    rw (ne_eqb a.start x.start (λ z. omega (arith, z, p)), rings-none a (x.start + 1) l (omega arith) r.rest)

rings-apart : (m : ℕ) (l : List Ring) → rings_rise m l ≡ true → any_two same_ring l ≡ false
unfolding any_two
rings-apart m [] e = refl
rings-apart m (x ∷ l) e =
    let r : Past m x l = past m x l e in
    rw (rings-none x (x.start + 1) l (omega arith) r.rest, rings-apart (x.start + 1) l r.rest)

-- ---- the whole chain

module _ (x : Drawn) where
  pub place-ether : x.ether_base ≡ true → Says x 32 place_refusal
  unfolding place_refusal
  place-ether h =
      record {
        is = λ r d w.
            let off : off_chain r d ≡ true =
            off-as x r d w
            ∙ rw h (or-true (any_of (double_off x.first x.carbon) (bonds_drawn x) || any_of (group_off x.first x.carbon) (groups_drawn x) || any_of (ring_off x.first x.acyl) (rings_drawn x) || (eqb x.carbon 0 && not (is_empty d.groups)))) in
            rw off;
      }

  first-there : (r : Role) (p : ChainPrefix) → is_acyl r p ≡ true → first_drawn r ≡ 1
  unfolding is_acyl
  first-there Slot p e = refl
  first-there Acyl p e = refl
  first-there Base p e = absurd (false≢true e)

  -- no ring starts before the first drawn carbon, or at the carbonyl
  bound-fits : (r : Role) (d : Chain) → Draws r d x → (t : Bool) → x.acyl ≡ t → x.first ≤ cond t 2 x.first
  bound-fits r d w true e = omega (arith, w.first, first-there r d.prefix (sym w.acyl ∙ e))
  bound-fits r d w false e = omega arith

  past-carbonyl : (t : Bool) → t ≡ true → 2 ≤ cond t 2 x.first
  past-carbonyl t e = rw e (omega arith)

  pub place-rises : (t₁ t₂ t₃ : Bool) (m : ℕ) {bs : List DbPos} {gs : List Mod} {rs : List Ring} → bs ≡ bonds_drawn x → gs ≡ groups_drawn x → rs ≡ rings_drawn x → x.ether_base ≡ false
      → Only t₁ (bonds_rise x.carbon (x.first - 1) bs) → not t₁ ≡ false → t₂ ≡ any_of (group_off x.first x.carbon) gs → t₂ ≡ false → m ≡ cond x.acyl 2 x.first
      → Only t₃ (rings_rise m rs) → t₃ ≡ true
      → Says x 0 place_refusal
  unfolding place_refusal
  place-rises t₁ t₂ t₃ m p q s h o₁ f₁ o₂ f₂ z o₃ f₃ =
      let bonds : bonds_rise x.carbon (x.first - 1) (bonds_drawn x) ≡ true = (rw p at o₁).told (not-false t₁ f₁) in
      let groups : any_of (group_off x.first x.carbon) (groups_drawn x) ≡ false = sym (rw q at o₂) ∙ f₂ in
      let rings : rings_rise m (rings_drawn x) ≡ true = (rw s at o₃).told f₃ in
      let some : 0 < x.carbon = omega (arith, rise-before x.carbon (x.first - 1) (bonds_drawn x) bonds) in
      record {
        is = λ r d w.
            let on : any_of (ring_off x.first x.acyl) (rings_drawn x) ≡ false =
            rings-on x.first m x.acyl (rings_drawn x) (rw z (bound-fits r d w x.acyl refl)) (λ e. rw z (past-carbonyl x.acyl e)) rings in
            let off : off_chain r d ≡ false =
            off-as x r d w
            ∙ rw (rise-on x.first x.carbon (x.first - 1) (bonds_drawn x) (omega arith) bonds, groups, on, ne_eqb x.carbon 0 (omega arith), h) in
            let clash : clashes r d ≡ false =
            clashes-as x r d w
            ∙ rw (rise-apart x.carbon (x.first - 1) (bonds_drawn x) bonds, rings-plain (bonds_drawn x) m (rings_drawn x) rings, rings-large m (rings_drawn x) rings, rings-apart m (rings_drawn x) rings) in
            rw (off, clash);
      }
