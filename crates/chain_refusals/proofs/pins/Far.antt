-- Laws of the test for 13: one for each way out.
-- Assumes nothing.
use Prim.Native.Nat.{ℕ, ◌+◌}
use mathlib.Core.Path.{◌≡◌, sym, ◌∙◌}
use mathlib.Core.Bool.{Bool, true, false, cond, not, ◌&&◌}
use mathlib.Core.List.{List, map}
use lib.Dec.{eqb, ltb}
use lib.ListN.{length}
use borrow.Author.Tests.{eq-eqb, ne_eqb}
use Rattle.chain_record.specs.declared.plain.Mod.{Mod}
use Rattle.chain_record.specs.declared.plain.Ring.{Ring}
use Rattle.chain_record.specs.plain.Chain.{Chain}
use Rattle.chain_rules.specs.declared.chain.Role.{Role}
use Rattle.chain_rules.specs.chain.Lists.{all_of, is_empty}
use Rattle.chain_rules.specs.chain.Features.{pins}
use Rattle.chain_rules.specs.chain.Refusals.{pin_too_far}
use Rattle.drawn_chain.specs.drawable.Drawn.{Drawn, groups_drawn, rings_drawn, group_pin, Draws, Says}
use Rattle.chain_refusals.specs.pins.Pins.{ring_pin, pins_in}
use Rattle.drawn_chain.proofs.drawable.Lists.{all_append, empty-append, empty-map, empty-length}

module _ (gs : List Mod) (rs : List Ring) where
  empty-as : is_empty (pins_in gs rs) ≡ is_empty gs && is_empty rs
  empty-as = empty-append (map group_pin gs) (map ring_pin rs) ∙ rw (empty-map group_pin gs, empty-map ring_pin rs)

  module _ (t : Bool) (e : t ≡ eqb (length gs) 0) where
    none : {u : Bool} → t ≡ u → is_empty gs ≡ u
    none f = sym (empty-length gs) ∙ sym e ∙ f

    pub pins-rings : (u : Bool) → t ≡ true → u ≡ eqb (length rs) 0 → u ≡ is_empty (pins_in gs rs)
    pins-rings u f g = g ∙ (empty-length rs ∙ sym (empty-as ∙ rw (none f)))

    pub pins-groups : t ≡ false → t ≡ is_empty (pins_in gs rs)
    pins-groups f = f ∙ sym (empty-as ∙ rw (none f))

module _ (x : Drawn) where
  pins-as : (r : Role) (d : Chain) → Draws r d x → pins r d ≡ pins_in (groups_drawn x) (rings_drawn x)
  unfolding pins
  pins-as r d w = rw (w.groups, w.rings)

  far-as : (r : Role) (d : Chain) → Draws r d x
      → pin_too_far r d
      ≡ not (eqb x.unlocated 0) && not (is_empty (pins_in (groups_drawn x) (rings_drawn x)))
      && all_of (ltb (cond x.acyl 3 (x.first + 1))) (pins_in (groups_drawn x) (rings_drawn x))
  unfolding pin_too_far
  far-as r d w = rw (← w.unlocated, pins-as r d w, ← w.acyl, ← w.first)

  pub far-located : x.unlocated ≡ 0 → Says x false pin_too_far
  far-located h = record { is = λ r d w. sym (far-as r d w ∙ rw (eq-eqb x.unlocated 0 h)) }

  module _ (h : x.unlocated ≡ 0 → ⊥) {gs : List Mod} {rs : List Ring} (p : gs ≡ groups_drawn x) (q : rs ≡ rings_drawn x) (t : Bool) (e : t ≡ is_empty (pins_in gs rs)) where
    as₁ : is_empty (pins_in (groups_drawn x) (rings_drawn x)) ≡ t
    as₁ = sym (rw (p, q) at e)

    pub far_none : t ≡ true → Says x false pin_too_far
    far_none f = record { is = λ r d w. sym (far-as r d w ∙ rw (ne_eqb x.unlocated 0 h, as₁ ∙ f)) }

    module _ (f : t ≡ false) (b : ℕ) (k : b ≡ cond x.acyl 3 (x.first + 1)) (u : Bool) (g : u ≡ all_of (ltb b) (map group_pin gs)) where
      as₂ : u ≡ all_of (ltb b) (map group_pin (groups_drawn x))
      as₂ = rw p at g

      far-last : (r : Role) (d : Chain) → Draws r d x → pin_too_far r d ≡ u && all_of (ltb b) (map ring_pin (rings_drawn x))
      far-last r d w =
          far-as r d w
          ∙ rw (ne_eqb x.unlocated 0 h, as₁ ∙ f, ← k, as₂) (all_append (ltb b) (map group_pin (groups_drawn x)) (map ring_pin (rings_drawn x)))

      pub far-rings : (v : Bool) → u ≡ true → v ≡ all_of (ltb b) (map ring_pin rs) → Says x v pin_too_far
      far-rings v z i = record { is = λ r d w. sym (far-last r d w ∙ rw z (sym (rw q at i))) }

      pub far-not : u ≡ false → Says x false pin_too_far
      far-not z = record { is = λ r d w. sym (far-last r d w ∙ rw z) }
