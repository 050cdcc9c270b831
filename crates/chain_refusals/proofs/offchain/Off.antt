-- Laws of the test for 32: one for each way out.
-- Assumes nothing.
use Prim.Native.Nat.{ℕ, ◌<◌, ◌≤◌}
use native.Mathlib.Omega.{arith}
use mathlib.Core.Path.{◌≡◌, refl, sym, ap, ◌∙◌}
use mathlib.Core.Bool.{Bool, true, false, not, ◌&&◌, ◌||◌, or-true, or-false, and-false}
use mathlib.Core.List.{List, [], ◌∷◌, ◌++◌}
use lib.Dec.{eqb, ltb, leb}
use lib.ListN.{length}
use borrow.Author.Tests.{lt-ltb, le-ltb, le-leb, lt-leb, eq-eqb, ne_eqb, eqb-true, eqb-false, ltb-true, ltb-false, leb-true, leb-false}
use Rattle.chain_record.specs.declared.plain.DbPos.{DbPos}
use Rattle.chain_record.specs.declared.plain.Mod.{Mod}
use Rattle.chain_record.specs.declared.plain.Ring.{Ring}
use Rattle.chain_record.specs.plain.Chain.{Chain}
use Rattle.chain_rules.specs.declared.chain.Role.{Role}
use Rattle.chain_rules.specs.chain.Lists.{any_of, only, is_empty}
use Rattle.chain_rules.specs.chain.Features.{located, unlocated, base_oxygens, groups_on, floating}
use Rattle.chain_rules.specs.chain.Refusals.{double_off, group_off, ring_off, off_chain}
use Rattle.drawn_chain.specs.drawable.Drawn.{Drawn, bonds_drawn, groups_drawn, floats_drawn, rings_drawn, Draws, Says}

-- ---- one feature

below : (c p : ℕ) → leb c p ≡ not (ltb p c)
below c p = go (ltb p c) refl
  where
    go : (t : Bool) → ltb p c ≡ t → leb c p ≡ not t
    go true e = lt-leb c p (ltb-true p c e)
    go false e = le-leb c p (ltb-false p c e)

past : (c p : ℕ) → ltb c p ≡ not (leb p c)
past c p = go (leb p c) refl
  where
    go : (t : Bool) → leb p c ≡ t → ltb c p ≡ not t
    go true e = le-ltb c p (leb-true p c e)
    go false e = lt-ltb c p (leb-false p c e)

module _ (b : DbPos) (f c : ℕ) where
  pub bond-before : b.pos < f → ltb b.pos f ≡ double_off f c b
  unfolding double_off
  bond-before h = rw (lt-ltb b.pos f h, lt-leb f b.pos h)

  pub bond-after : f ≤ b.pos → leb c b.pos ≡ double_off f c b
  unfolding double_off
  bond-after h = rw (le-leb f b.pos h) (below c b.pos)

module _ (g : Mod) (f c : ℕ) where
  pub group-before : g.pos < f → ltb g.pos f ≡ group_off f c g
  unfolding group_off
  group-before h = rw (lt-ltb g.pos f h, lt-leb f g.pos h)

  pub group-after : f ≤ g.pos → ltb c g.pos ≡ group_off f c g
  unfolding group_off
  group-after h = rw (le-leb f g.pos h) (past c g.pos)

module _ (x : Ring) (f : ℕ) (a : Bool) where
  pub ring-before : x.start < f → ltb x.start f ≡ ring_off f a x
  unfolding ring_off
  ring-before h = rw (lt-ltb x.start f h)

  pub ring-carbonyl : f ≤ x.start → a ≡ true → eqb x.start 1 ≡ ring_off f a x
  unfolding ring_off
  ring-carbonyl h k = rw (le-ltb x.start f h, k)

  pub ring-on : f ≤ x.start → a ≡ false → a ≡ ring_off f a x
  unfolding ring_off
  ring-on h k = rw (le-ltb x.start f h, k)

-- ---- the whole chain

none : {n : ℕ} → n ≤ 0 → n ≡ 0
none h = omega arith

-- a located group is off a chain without carbons
off-nothing : (f : ℕ) (g : Mod) → eqb g.pos 0 ≡ false → group_off f 0 g ≡ true
unfolding group_off
off-nothing f g e = rw (lt-leb g.pos 0 (pos g.pos (eqb-false g.pos 0 e)), and-false (leb f g.pos))
  where
    pos : (n : ℕ) → (n ≡ 0 → ⊥) → 0 < n
    pos n h = omega arith

none-float : (f : ℕ) (gs bs : List Mod) → length (unlocated gs) ≡ 0 → any_of (group_off f 0) (located gs ++ bs) ≡ false → is_empty gs ≡ true
unfolding is_empty unlocated located only any_of
none-float f [] bs h e = refl
none-float f (g ∷ gs) bs h e = go (eqb g.pos 0) refl
  where
    go : (b : Bool) → eqb g.pos 0 ≡ b → false ≡ true
    go true z = absurd (omega (arith, rw z at h))
    go false z = sym (rw (off-nothing f g z) at (rw z at e))

some-float : (gs : List Mod) → (length (unlocated gs) ≡ 0 → ⊥) → is_empty gs ≡ false
unfolding is_empty unlocated
some-float [] h = absurd (h refl)
some-float (g ∷ gs) h = refl

-- its lists are lent as bs, gs, rs and fs
module _ (x : Drawn) where
  pub off-as : (r : Role) (d : Chain) → Draws r d x
      → off_chain r d
      ≡ any_of (double_off x.first x.carbon) (bonds_drawn x) || any_of (group_off x.first x.carbon) (groups_drawn x)
      || any_of (ring_off x.first x.acyl) (rings_drawn x)
      || (eqb x.carbon 0 && not (is_empty d.groups)) || x.ether_base
  unfolding off_chain
  off-as r d w = rw (w.first, w.carbon, w.acyl, w.ether, w.bonds, w.groups, w.rings)

  module _ {bs : List DbPos} (s₁ : bs ≡ bonds_drawn x) (t₁ : Bool) (e₁ : t₁ ≡ any_of (double_off x.first x.carbon) bs) where
    as₁ : any_of (double_off x.first x.carbon) (bonds_drawn x) ≡ t₁
    as₁ = sym (rw s₁ at e₁)

    pub off-bond : t₁ ≡ true → Says x true off_chain
    off-bond f₁ = record { is = λ r d w. sym (off-as r d w ∙ rw (as₁ ∙ f₁)) }

    module _ (f₁ : t₁ ≡ false) {gs : List Mod} (s₂ : gs ≡ groups_drawn x) (t₂ : Bool) (e₂ : t₂ ≡ any_of (group_off x.first x.carbon) gs) where
      as₂ : any_of (group_off x.first x.carbon) (groups_drawn x) ≡ t₂
      as₂ = sym (rw s₂ at e₂)

      pub off-group : t₂ ≡ true → Says x true off_chain
      off-group f₂ = record { is = λ r d w. sym (off-as r d w ∙ rw (as₁ ∙ f₁, as₂ ∙ f₂)) }

      module _ (f₂ : t₂ ≡ false) {rs : List Ring} (s₃ : rs ≡ rings_drawn x) (t₃ : Bool) (e₃ : t₃ ≡ any_of (ring_off x.first x.acyl) rs) where
        as₃ : any_of (ring_off x.first x.acyl) (rings_drawn x) ≡ t₃
        as₃ = sym (rw s₃ at e₃)

        pub off-ring : t₃ ≡ true → Says x true off_chain
        off-ring f₃ = record { is = λ r d w. sym (off-as r d w ∙ rw (as₁ ∙ f₁, as₂ ∙ f₂, as₃ ∙ f₃)) }

        module _ (f₃ : t₃ ≡ false) where
          pub off-ether : x.ether_base ≡ true → Says x true off_chain
          off-ether f₄ =
              record { is = λ r d w. sym (off-as r d w ∙ rw (as₁ ∙ f₁, as₂ ∙ f₂, as₃ ∙ f₃, f₄, or-true (eqb x.carbon 0 && not (is_empty d.groups)))) }

          module _ (f₄ : x.ether_base ≡ false) where
            pub on-carbons : 0 < x.carbon → Says x false off_chain
            on-carbons h = record { is = λ r d w. sym (off-as r d w ∙ rw (as₁ ∙ f₁, as₂ ∙ f₂, as₃ ∙ f₃, f₄, ne_eqb x.carbon 0 (omega arith))) }

            off-last : x.carbon ≤ 0 → (r : Role) (d : Chain) → Draws r d x → off_chain r d ≡ not (is_empty d.groups)
            off-last h r d w =
                off-as r d w
                ∙ rw (as₁ ∙ f₁, as₂ ∙ f₂, as₃ ∙ f₃, f₄, eq-eqb x.carbon 0 (omega arith)) (or-false (not (is_empty d.groups)))

            on-nothing : x.carbon ≤ 0 → length (floats_drawn x) ≡ 0 → Says x false off_chain
            unfolding groups_on floating
            on-nothing h z =
                record { is = λ r d w. sym (off-last h r d w ∙ rw (none-float x.first d.groups (base_oxygens r d.prefix (located d.groups)) (sym (ap length w.floats) ∙ z) (rw (w.groups, none h) at (as₂ ∙ f₂)))) }

            off-float : x.carbon ≤ 0 → (length (floats_drawn x) ≡ 0 → ⊥) → Says x true off_chain
            unfolding floating
            off-float h z = record { is = λ r d w. sym (off-last h r d w ∙ rw (some-float d.groups (λ e. z (ap length w.floats ∙ e)))) }

            pub off-rest : x.carbon ≤ 0 → {fs : List Mod} → fs ≡ floats_drawn x → (t₄ : Bool) → t₄ ≡ eqb (length fs) 0 → Says x (not t₄) off_chain
            off-rest h s₄ t₄ e₄ = go t₄ (sym (rw s₄ at e₄))
              where
                go : (t : Bool) → eqb (length (floats_drawn x)) 0 ≡ t → Says x (not t) off_chain
                go true z = on-nothing h (eqb-true (length (floats_drawn x)) 0 z)
                go false z = off-float h (eqb-false (length (floats_drawn x)) 0 z)
