-- A chain with no refusal for its place, and what that says of its features.
-- Assumes nothing.
use Prim.Native.Nat.{ℕ, suc, ◌+◌, ◌-◌, ◌*◌, ◌≤◌, ◌<◌, min}
use native.Mathlib.Omega.{arith}
use mathlib.Core.Path.{◌≡◌, refl, sym, ap}
use mathlib.Core.Logic.{◌≢◌}
use mathlib.Core.Bool.{Bool, true, false, cond, not, ◌||◌, ◌&&◌, false≢true}
use mathlib.Core.List.{List, [], ◌∷◌, ◌++◌, map}
use lib.Dec.{eqb, ltb, leb}
use borrow.Author.Tests.{eqb-true, eqb-false, ne_eqb, ltb-true, ltb-false, leb-true, leb-false, not-false}
use Rattle.chain_record.specs.declared.plain.Bridge.{Bridge}
use Rattle.chain_record.specs.declared.plain.Bridge.TheVariants.{Epoxide, Carbocycle}
use Rattle.chain_record.specs.declared.plain.DbPos.{DbPos}
use Rattle.chain_record.specs.declared.plain.Mod.{Mod}
use Rattle.chain_record.specs.declared.plain.Ring.{Ring}
use Rattle.chain_record.specs.plain.Chain.{Chain}
use Rattle.chain_record.proofs.plain.Sound.{Sound, RingSound, Spans, Every, Reduced}
use Rattle.reading_rules.proofs.reading.PartingLaws.{All, all_map, and_left, and_right, NonEmpty}
use Rattle.chain_rules.specs.declared.chain.Role.{Role}
use Rattle.chain_rules.specs.declared.chain.Role.TheVariants.{Slot, Acyl, Base}
use Rattle.chain_rules.specs.chain.Lists.{any_of, is_empty, any_two, largest}
use Rattle.chain_rules.specs.chain.Features.{first_drawn, is_acyl, doubles, groups_on, floating, prefix_end, literal_end, remaining, flexible_count, drawn_count, site_skip}
use Rattle.chain_rules.specs.chain.Refusals.{wrong_kind, double_off, group_off, ring_off, group_on_carbonyl, pin_too_far, off_chain, is_epoxide, epoxide_on, small_ring, same_ring, same_bond, is_ether_base, clashes, tail_too_short, no_site, place_refusal, draw_refusal}
use Rattle.chain_rules.proofs.chain.Lists.{or_left, none_of, all_both, all_right, all-of-mapped, largest-from, largest-all}

-- a chain that is drawn in its place: it has carbons, and none of 22, 32, 33 and 12 to 15 is met
pub record Drawable (r : Role) (d : Chain) : Type 0 where
  pub sound : Sound d
  pub kind : wrong_kind r d ≡ false
  pub placed : place_refusal r d ≡ 0
  pub draws : draw_refusal r d ≡ 0
  pub carbons : 0 < d.carbon

-- ---- the tests behind a refusal

-- a refusal that is not met
not-met : (b : Bool) (n m : ℕ) → 0 < n → cond b n m ≡ 0 → b ≡ false
not-met true n m h e = absurd (omega arith)
not-met false n m h e = refl

next-met : (b : Bool) (n m : ℕ) → 0 < n → cond b n m ≡ 0 → m ≡ 0
next-met true n m h e = absurd (omega arith)
next-met false n m h e = e

and_second : (a b : Bool) → (a && b) ≡ false → a ≡ true → b ≡ false
and_second true b h e = h
and_second false b h e = absurd (false≢true e)

-- of tests joined by "or" none is met
record NoneOff (u v w : Bool) : Type 0 where
  doubles : u ≡ false
  groups : v ≡ false
  rings : w ≡ false

off-parts : (u v w x y : Bool) → (u || v || w || x || y) ≡ false → NoneOff u v w
off-parts false false false x y e = record { doubles = refl; groups = refl; rings = refl }
off-parts true v w x y e = record { doubles = e; groups = absurd (false≢true (sym e)); rings = absurd (false≢true (sym e)) }
off-parts false true w x y e = record { doubles = refl; groups = e; rings = absurd (false≢true (sym e)) }
off-parts false false true x y e = record { doubles = refl; groups = refl; rings = e }

record NoneClash (v w x : Bool) : Type 0 where
  epoxides : v ≡ false
  small : w ≡ false
  same : x ≡ false

clash-parts : (u v w x : Bool) → (u || v || w || x) ≡ false → NoneClash v w x
clash-parts false false false x e = record { epoxides = refl; small = refl; same = e }
clash-parts true v w x e = record { epoxides = absurd (false≢true (sym e)); small = absurd (false≢true (sym e)); same = absurd (false≢true (sym e)) }
clash-parts false true w x e = record { epoxides = e; small = absurd (false≢true (sym e)); same = absurd (false≢true (sym e)) }
clash-parts false false true x e = record { epoxides = refl; small = e; same = absurd (false≢true (sym e)) }

record NoneDraws (w x : Bool) : Type 0 where
  short : w ≡ false
  sites : x ≡ false

draw-parts : (u v w x : Bool) → ◌≡◌ {A = ℕ} (cond u 12 (cond v 13 (cond w 14 (cond x 15 0)))) 0 → NoneDraws w x
draw-parts true v w x e = absurd (omega arith)
draw-parts false true w x e = absurd (omega arith)
draw-parts false false true x e = absurd (omega arith)
draw-parts false false false true e = absurd (omega arith)
draw-parts false false false false e = record { short = refl; sites = refl }

-- ---- rings

-- a ring of a chain that starts at f, in words: it starts on the drawn chain, ends after its start and on the chain, and where it
-- joins two neighbours it is an epoxide
pub record RingStands (f c : ℕ) (x : Ring) : Type 0 where
  pub starts : f ≤ x.start
  pub spans : x.start < x.end
  pub ends : x.end ≤ c
  pub short : x.end ≡ suc x.start → is_epoxide x.bridge ≡ true

ring-stands : (f c : ℕ) (acyl : Bool) (x : Ring) → ring_off f acyl x ≡ false → small_ring x ≡ false → RingSound c x → RingStands f c x
unfolding ring_off small_ring
ring-stands f c acyl x off small s = go x.bridge refl small s.spans
  where
    starts : f ≤ x.start
    starts = ltb-false x.start f (or_left (ltb x.start f) (acyl && eqb x.start 1) off)

    go : (b : Bridge) → x.bridge ≡ b → (not (is_epoxide b) && ltb x.end (x.start + 2)) ≡ false → Spans b x.start x.end → RingStands f c x
    go Epoxide p q e = record { starts = starts; spans = omega arith; ends = s.ends; short = λ w. ap is_epoxide p }
    go Carbocycle p q e =
        let g : x.start + 2 ≤ x.end = ltb-false x.end (x.start + 2) q in
        record { starts = starts; spans = omega arith; ends = s.ends; short = λ w. absurd (omega arith) }

rings-stand : (f c : ℕ) (acyl : Bool) (xs : List Ring) → All (λ x. ring_off f acyl x ≡ false) xs → All (λ x. small_ring x ≡ false) xs → Every (RingSound c) xs
    → All (RingStands f c) xs
rings-stand f c acyl [] off small s = tt
rings-stand f c acyl (x ∷ xs) off small s = (ring-stands f c acyl x off.0 small.0 s.0, rings-stand f c acyl xs off.1 small.1 s.1)

-- carbons are counted from 1
pub first_one : (r : Role) → 1 ≤ first_drawn r
first_one Slot = omega arith
first_one Acyl = omega arith
first_one Base = omega arith

-- ---- what holds of a chain that is drawn

module _ (r : Role) (d : Chain) (a : Drawable r d) where
  none-off : NoneOff (any_of (double_off (first_drawn r) d.carbon) (doubles r d)) (any_of (group_off (first_drawn r) d.carbon) (groups_on r d)) (any_of (ring_off (first_drawn r) (is_acyl r d.prefix)) d.rings)
  unfolding place_refusal off_chain
  none-off =
      off-parts (any_of (double_off (first_drawn r) d.carbon) (doubles r d)) (any_of (group_off (first_drawn r) d.carbon) (groups_on r d))
      (any_of (ring_off (first_drawn r) (is_acyl r d.prefix)) d.rings) (eqb d.carbon 0 && not (is_empty d.groups)) (is_ether_base r d.prefix)
      (not-met (off_chain r d) 32 (cond (clashes r d) 33 0) (omega arith) a.placed)

  none-clash : NoneClash (any_of (epoxide_on (doubles r d)) d.rings) (any_of small_ring d.rings) (any_two same_ring d.rings)
  unfolding place_refusal clashes
  none-clash =
      clash-parts (any_two same_bond (doubles r d)) (any_of (epoxide_on (doubles r d)) d.rings) (any_of small_ring d.rings) (any_two same_ring d.rings)
      (not-met (clashes r d) 33 0 (omega arith) (next-met (off_chain r d) 32 (cond (clashes r d) 33 0) (omega arith) a.placed))

  -- f is on the chain
  pub first_on : first_drawn r ≤ d.carbon
  unfolding wrong_kind
  first_on = go r a.kind
    where
      go : (r : Role) → wrong_kind r d ≡ false → first_drawn r ≤ d.carbon
      go Slot h = omega (arith, a.carbons)
      go Acyl h = omega (arith, a.carbons)
      go Base h = omega (arith, ltb-false d.carbon 4 h)

  -- "double bond p unless f ≤ p < c"
  pub doubles-on : All (λ b. (first_drawn r ≤ b.pos) × (b.pos < d.carbon)) (doubles r d)
  unfolding double_off
  doubles-on =
      all_map {P = λ (b : DbPos). double_off (first_drawn r) d.carbon b ≡ false} (λ b h. on b (not-false _ h)) (doubles r d)
      (none_of (double_off (first_drawn r) d.carbon) (doubles r d) none-off.doubles)
    where
      on : (b : DbPos) → (leb (first_drawn r) b.pos && ltb b.pos d.carbon) ≡ true → (first_drawn r ≤ b.pos) × (b.pos < d.carbon)
      on b e = (leb-true (first_drawn r) b.pos (and_left _ _ e), ltb-true b.pos d.carbon (and_right (leb (first_drawn r) b.pos) _ e))

  -- "located group outside f..c"
  pub groups-on : All (λ g. (first_drawn r ≤ g.pos) × (g.pos ≤ d.carbon)) (groups_on r d)
  unfolding group_off
  groups-on =
      all_map {P = λ (g : Mod). group_off (first_drawn r) d.carbon g ≡ false} (λ g h. on g (not-false _ h)) (groups_on r d)
      (none_of (group_off (first_drawn r) d.carbon) (groups_on r d) none-off.groups)
    where
      on : (g : Mod) → (leb (first_drawn r) g.pos && leb g.pos d.carbon) ≡ true → (first_drawn r ≤ g.pos) × (g.pos ≤ d.carbon)
      on g e = (leb-true (first_drawn r) g.pos (and_left _ _ e), leb-true g.pos d.carbon (and_right (leb (first_drawn r) g.pos) _ e))

  pub rings-on : All (RingStands (first_drawn r) d.carbon) d.rings
  rings-on =
      rings-stand (first_drawn r) d.carbon (is_acyl r d.prefix) d.rings
      (none_of (ring_off (first_drawn r) (is_acyl r d.prefix)) d.rings none-off.rings)
      (none_of small_ring d.rings none-clash.small) a.sound.rings

  -- "two rings with the same start and the same end"
  pub rings-apart : any_two same_ring d.rings ≡ false
  rings-apart = none-clash.same

  -- "a double bond where an epoxide starts"
  pub epoxides-free : All (λ x. epoxide_on (doubles r d) x ≡ false) d.rings
  epoxides-free = none_of (epoxide_on (doubles r d)) d.rings none-clash.epoxides

  -- ---- the literal part

  pub prefix-on : (first_drawn r ≤ prefix_end r d) × (prefix_end r d ≤ d.carbon)
  unfolding prefix_end
  prefix-on =
      let xs : List ℕ = map (λ b. b.pos + 1) (doubles r d) ++ (map (λ g. g.pos) (groups_on r d) ++ map (λ x. x.end) d.rings) in
      (omega (arith, largest-from (first_drawn r) xs, first_on), omega arith)

  pub literal-on : (first_drawn r ≤ literal_end r d) × (literal_end r d ≤ d.carbon)
  unfolding literal_end
  literal-on = go (eqb d.unlocated 0)
    where
      go : (b : Bool) → (first_drawn r ≤ cond b d.carbon (prefix_end r d)) × (cond b d.carbon (prefix_end r d) ≤ d.carbon)
      go true = (first_on, omega arith)
      go false = prefix-on

  -- every ring ends on it
  pub rings-literal : All (λ x. x.end ≤ literal_end r d) d.rings
  unfolding literal_end prefix_end
  rings-literal = go (eqb d.unlocated 0)
    where
      ends : All (λ x. x.end ≤ d.carbon) d.rings
      ends = all_map {P = RingStands (first_drawn r) d.carbon} (λ x h. h.ends) d.rings rings-on

      bs : List ℕ
      bs = map (λ b. b.pos + 1) (doubles r d)

      gs : List ℕ
      gs = map (λ g. g.pos) (groups_on r d)

      es : List ℕ
      es = map (λ x. x.end) d.rings

      top : ℕ
      top = largest (first_drawn r) (bs ++ (gs ++ es))

      below : All (λ x. x.end ≤ top) d.rings
      below = all-of-mapped (λ z. z ≤ top) (λ x. x.end) d.rings (all_right (λ z. z ≤ top) gs es (all_right (λ z. z ≤ top) bs (gs ++ es) (largest-all (first_drawn r) (bs ++ (gs ++ es)))))

      go : (b : Bool) → All (λ x. x.end ≤ cond b d.carbon (min top d.carbon)) d.rings
      go true = ends
      go false =
          all_map {P = λ (x : Ring). (x.end ≤ top) × (x.end ≤ d.carbon)} (λ x h. omega (arith, h.0, h.1)) d.rings
          (all_both (λ x. x.end ≤ top) (λ x. x.end ≤ d.carbon) d.rings below ends)

  -- ---- the flexible part

  none-draws : NoneDraws (tail_too_short r d) (no_site r d)
  unfolding draw_refusal
  none-draws = draw-parts (group_on_carbonyl r d) (pin_too_far r d) (tail_too_short r d) (no_site r d) a.draws

  -- "R < 2n+2 gives 14"
  pub tail-long : d.unlocated ≢ 0 → 2 * d.unlocated + 2 ≤ remaining r d
  unfolding tail_too_short
  tail-long h =
      ltb-false (remaining r d) (2 * d.unlocated + 2)
      (and_second (not (eqb d.unlocated 0)) (ltb (remaining r d) (2 * d.unlocated + 2)) none-draws.short (ap not (ne_eqb d.unlocated 0 h)))

  not-empty : (gs : List Mod) → NonEmpty gs → is_empty gs ≡ false
  unfolding is_empty
  not-empty [] n = absurd n
  not-empty (g ∷ gs) n = refl

  -- "unlocated group with no site"
  pub site_left : NonEmpty (floating d) → site_skip r d < drawn_count r d
  unfolding no_site
  site_left h =
      leb-false (drawn_count r d) (site_skip r d)
      (and_second (not (is_empty (floating d))) (leb (drawn_count r d) (site_skip r d)) none-draws.sites (ap not (not-empty (floating d) h)))

  -- ---- how many carbons are drawn

  -- never more than the chain has from f on
  pub drawn-most : drawn_count r d + first_drawn r ≤ d.carbon + 1
  unfolding drawn_count flexible_count literal_end remaining
  drawn-most = go (eqb d.unlocated 0) refl
    where
      go : (b : Bool) → eqb d.unlocated 0 ≡ b
          → suc (cond b d.carbon (prefix_end r d)) - first_drawn r + cond b 0 (2 * d.unlocated + 2) + first_drawn r ≤ d.carbon + 1
      go true e = omega (arith, first_on)
      go false e = omega (arith, prefix-on, tail-long (eqb-false d.unlocated 0 e))

  -- and never none
  pub drawn-some : 1 ≤ drawn_count r d
  unfolding drawn_count
  drawn-some = omega (arith, literal-on)

  pub carbon-most : d.carbon ≤ 255
  carbon-most = go d.branched a.sound.reduced
    where
      go : (b : Bool) → Reduced b d.written d.carbon → d.carbon ≤ 255
      go true e = omega (arith, a.sound.within.carbons)
      go false e = omega (arith, a.sound.within.carbons)

  pub unlocated-most : d.unlocated ≤ 126
  unfolding remaining
  unlocated-most = go (eqb d.unlocated 0) refl
    where
      go : (b : Bool) → eqb d.unlocated 0 ≡ b → d.unlocated ≤ 126
      go true e = omega (arith, eqb-true d.unlocated 0 e)
      go false e = omega (arith, tail-long (eqb-false d.unlocated 0 e), carbon-most)
