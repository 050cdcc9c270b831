-- Laws of the test for 33: one for each way out.
-- Assumes nothing.
use Prim.Native.Nat.{◌+◌}
use mathlib.Core.Path.{◌≡◌, sym, ◌∙◌}
use mathlib.Core.Bool.{Bool, true, false, ◌||◌}
use mathlib.Core.List.{List}
use lib.Dec.{eqb, ltb}
use borrow.Author.Tests.{eq-eqb, ne_eqb}
use Rattle.chain_record.specs.declared.plain.Bridge.TheVariants.{Epoxide, Carbocycle}
use Rattle.chain_record.specs.declared.plain.DbPos.{DbPos}
use Rattle.chain_record.specs.declared.plain.Ring.{Ring}
use Rattle.chain_record.specs.plain.Chain.{Chain}
use Rattle.chain_rules.specs.declared.chain.Role.{Role}
use Rattle.chain_rules.specs.chain.Lists.{any_of, any_two}
use Rattle.chain_rules.specs.chain.Refusals.{same_bond, epoxide_on, small_ring, same_ring, clashes}
use Rattle.drawn_chain.specs.drawable.Drawn.{Drawn, bonds_drawn, rings_drawn, Draws, Says}
use Rattle.chain_refusals.specs.clash.Places.{bond_at}
use Rattle.drawn_chain.proofs.drawable.Lists.{any_same, eqb_swap}

-- ---- one feature

pub small-epoxide : (x : Ring) → x.bridge ≡ Epoxide → false ≡ small_ring x
unfolding small_ring
small-epoxide x e = rw e

pub small-carbocycle : (x : Ring) → x.bridge ≡ Carbocycle → ltb x.end (x.start + 2) ≡ small_ring x
unfolding small_ring
small-carbocycle x e = rw e

module _ (x y : Ring) where
  pub ring-ends : x.start ≡ y.start → eqb x.end y.end ≡ same_ring x y
  unfolding same_ring
  ring-ends e = rw (eq-eqb x.start y.start e)

  pub ring-apart : (x.start ≡ y.start → ⊥) → eqb x.start y.start ≡ same_ring x y
  unfolding same_ring
  ring-apart h = rw (ne_eqb x.start y.start h)

-- a double bond's own place
pub same-bond-at : (a : DbPos) (l : List DbPos) (t : Bool) → t ≡ any_of (bond_at a.pos) l → t ≡ any_of (same_bond a) l
unfolding same_bond
same-bond-at a l t e = e ∙ any_same (bond_at a.pos) (same_bond a) l (λ b. eqb_swap b.pos a.pos)

pub on-epoxide : (x : Ring) (l : List DbPos) (t : Bool) → x.bridge ≡ Epoxide → t ≡ any_of (bond_at x.start) l → t ≡ epoxide_on l x
unfolding epoxide_on
on-epoxide x l t e f = rw e f

pub on-carbocycle : (x : Ring) (l : List DbPos) → x.bridge ≡ Carbocycle → false ≡ epoxide_on l x
unfolding epoxide_on
on-carbocycle x l e = rw e

-- ---- the whole chain

module _ (x : Drawn) where
  pub clashes-as : (r : Role) (d : Chain) → Draws r d x
      → clashes r d
      ≡ any_two same_bond (bonds_drawn x) || any_of (epoxide_on (bonds_drawn x)) (rings_drawn x) || any_of small_ring (rings_drawn x)
      || any_two same_ring (rings_drawn x)
  unfolding clashes
  clashes-as r d w = rw (w.bonds, w.rings)

  module _ {bs : List DbPos} (p : bs ≡ bonds_drawn x) (t₁ : Bool) (e₁ : t₁ ≡ any_two same_bond bs) where
    as₁ : any_two same_bond (bonds_drawn x) ≡ t₁
    as₁ = sym (rw p at e₁)

    pub clash-bonds : t₁ ≡ true → Says x true clashes
    clash-bonds f₁ = record { is = λ r d w. sym (clashes-as r d w ∙ rw (as₁ ∙ f₁)) }

    module _ (f₁ : t₁ ≡ false) {rs : List Ring} (q : rs ≡ rings_drawn x) (t₂ : Bool) (e₂ : t₂ ≡ any_of (epoxide_on bs) rs) where
      as₂ : any_of (epoxide_on (bonds_drawn x)) (rings_drawn x) ≡ t₂
      as₂ = sym (rw (p, q) at e₂)

      pub clash-epoxide : t₂ ≡ true → Says x true clashes
      clash-epoxide f₂ = record { is = λ r d w. sym (clashes-as r d w ∙ rw (as₁ ∙ f₁, as₂ ∙ f₂)) }

      module _ (f₂ : t₂ ≡ false) (t₃ : Bool) (e₃ : t₃ ≡ any_of small_ring rs) where
        as₃ : any_of small_ring (rings_drawn x) ≡ t₃
        as₃ = sym (rw q at e₃)

        pub clash-small : t₃ ≡ true → Says x true clashes
        clash-small f₃ = record { is = λ r d w. sym (clashes-as r d w ∙ rw (as₁ ∙ f₁, as₂ ∙ f₂, as₃ ∙ f₃)) }

        pub clash-rings : (t₄ : Bool) → t₃ ≡ false → t₄ ≡ any_two same_ring rs → Says x t₄ clashes
        clash-rings t₄ f₃ e₄ = record { is = λ r d w. sym (clashes-as r d w ∙ rw (as₁ ∙ f₁, as₂ ∙ f₂, as₃ ∙ f₃) (sym (rw q at e₄))) }
