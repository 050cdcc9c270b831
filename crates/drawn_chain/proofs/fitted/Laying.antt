-- Laws of a chain whose lists are laid out: what is drawn of it where it stands.
-- Assumes nothing.
use Prim.Native.Nat.{ℕ, ◌+◌, ◌≤◌, min}
use native.Mathlib.Omega.{arith}
use mathlib.Core.Path.{◌≡◌, refl, ap, ◌∙◌}
use mathlib.Core.Bool.{Bool, false}
use mathlib.Core.List.{List, [], ◌∷◌, ◌++◌}
use lib.ListN.{length, take, length-take}
use Rattle.chain_record.specs.declared.plain.ChainPrefix.{ChainPrefix}
use Rattle.chain_record.specs.declared.plain.ChainPrefix.TheVariants as prefix
use Rattle.chain_record.specs.declared.plain.DbPos.{DbPos}
use Rattle.chain_record.specs.declared.plain.Mod.{Mod}
use Rattle.chain_record.specs.declared.plain.Ring.{Ring}
use Rattle.chain_record.specs.plain.Chain.{Chain}
use Rattle.chain_rules.specs.declared.chain.Role.{Role}
use Rattle.chain_rules.specs.declared.chain.Role.TheVariants.{Slot, Acyl, Base}
use Rattle.chain_rules.specs.chain.Features.{first_drawn, is_acyl, alkenyl_bond, doubles, located, unlocated, base_oxygens, groups_on}
use Rattle.chain_rules.specs.chain.Refusals.{is_ether_base}
use Rattle.drawn_chain.specs.drawable.Drawn.{Drawn, bonds_in, groups_in, drawn_of, Draws}
use Rattle.drawn_chain.specs.fitted.Fitted.{alkenyl, Parts, Pieces, pieces, pieces_as, Fits}
use Rattle.drawn_chain.proofs.drawable.Held.{held_cut}
use Rattle.drawn_chain.proofs.fitted.Drawing.{bonds-drawn, located-short, floating-short, plain-groups, groups-drawn, floats-drawn, rings-drawn}

-- ---- the chain with lists that are laid out, its rings those that stood there

module _ (p : ChainPrefix) (carbon unlocated' nb ng nr : ℕ) (ws : List DbPos) (vs : List Mod) (rs : List Ring) (bs : List DbPos) (gs fs : List Mod) (n m k g f first : ℕ)
    (h₁ : n ≡ min nb 32) (h₂ : m ≡ min ng 16) (h₃ : k ≡ min nr 8) (h₇ : groups_in f fs ≡ unlocated (groups_in m vs)) where
  fits : (r : Role) (added : ℕ) (acyl ether : Bool) → added ≡ length (alkenyl_bond r p) → bonds_in (added + n) bs ≡ take added (alkenyl ∷ []) ++ bonds_in n ws
      → groups_in g gs ≡ take 18 (located (groups_in m vs) ++ base_oxygens r p (located (groups_in m vs))) → first ≡ first_drawn r → acyl ≡ is_acyl r p → ether ≡ is_ether_base r p
      → Fits r (pieces p carbon unlocated' nb ws ng vs nr rs) (drawn_of (record { first = first; carbon = carbon; acyl = acyl; ether_base = ether; unlocated = unlocated'; bond_count = added + n; group_count = g; float_count = f; ring_count = k }) (record { bonds = bs; groups = gs; floats = fs; rings = rs }))
  fits r added acyl ether h₄ h₅ h₆ h₈ h₉ h₀ =
      let q = pieces p carbon unlocated' nb ws ng vs nr rs in
      record {
        draws = λ d.
            record {
              first = h₈;
              carbon = refl;
              acyl = h₉;
              ether = h₀;
              unlocated = refl;
              bonds = bonds-drawn r d q added n bs h₄ h₁ h₅;
              groups = held_cut g 18 gs (omega (arith, ap length h₆, length-take 18 (located (groups_in m vs) ++ base_oxygens r p (located (groups_in m vs))))) ∙ groups-drawn r d q m (located (groups_in m vs)) (groups_in g gs) h₂ refl h₆;
              floats = held_cut f 18 fs (omega (arith, ap length h₇, floating-short vs m ng h₂)) ∙ floats-drawn d q m (groups_in f fs) h₂ h₇;
              rings = rings-drawn d q k h₃;
            };
      }

  -- one that is no base, and a base
  pub chain_fits : (added : ℕ) (acyl : Bool) → added ≡ length (alkenyl_bond Slot p) → bonds_in (added + n) bs ≡ take added (alkenyl ∷ []) ++ bonds_in n ws
      → Parts (located (groups_in m vs)) g gs → first ≡ first_drawn Slot → acyl ≡ is_acyl Slot p
      → Fits Slot (pieces p carbon unlocated' nb ws ng vs nr rs) (drawn_of (record { first = first; carbon = carbon; acyl = acyl; ether_base = false; unlocated = unlocated'; bond_count = added + n; group_count = g; float_count = f; ring_count = k }) (record { bonds = bs; groups = gs; floats = fs; rings = rs }))
  chain_fits added acyl h₄ h₅ h₆ h₈ h₉ =
      let s : length (located (groups_in m vs)) ≤ 16 = located-short vs m ng h₂ in
      fits Slot added acyl false h₄ h₅ (plain-groups p g gs (located (groups_in m vs)) (omega arith) h₆.groups) h₈ h₉ refl

  pub base-fits : (ether : Bool) → bonds_in (0 + n) bs ≡ take 0 (alkenyl ∷ []) ++ bonds_in n ws
      → groups_in g gs ≡ take 18 (located (groups_in m vs) ++ base_oxygens Base p (located (groups_in m vs))) → first ≡ first_drawn Base → ether ≡ is_ether_base Base p
      → Fits Base (pieces p carbon unlocated' nb ws ng vs nr rs) (drawn_of (record { first = first; carbon = carbon; acyl = false; ether_base = ether; unlocated = unlocated'; bond_count = n; group_count = g; float_count = f; ring_count = k }) (record { bonds = bs; groups = gs; floats = fs; rings = rs }))
  unfolding is_acyl alkenyl_bond
  base-fits ether h₅ h₆ h₈ h₀ =
      let z : 0 + n ≡ n = omega arith in
      rw z at (fits Base 0 false ether refl h₅ h₆ h₈ refl h₀)

-- ---- in each place

-- an acyl place is as a slot
alkenyl-as-slot : (p : ChainPrefix) → alkenyl_bond Slot p ≡ alkenyl_bond Acyl p
unfolding alkenyl_bond
alkenyl-as-slot prefix.Acyl = refl
alkenyl-as-slot prefix.EtherAlkyl = refl
alkenyl-as-slot prefix.EtherAlkenyl = refl
alkenyl-as-slot prefix.SphingoidD = refl
alkenyl-as-slot prefix.SphingoidT = refl

acyl-as-slot : (p : ChainPrefix) → is_acyl Slot p ≡ is_acyl Acyl p
unfolding is_acyl
acyl-as-slot prefix.Acyl = refl
acyl-as-slot prefix.EtherAlkyl = refl
acyl-as-slot prefix.EtherAlkenyl = refl
acyl-as-slot prefix.SphingoidD = refl
acyl-as-slot prefix.SphingoidT = refl

draws-acyl : (d : Chain) (x : Drawn) → Draws Slot d x → Draws Acyl d x
unfolding doubles groups_on base_oxygens
draws-acyl d x w =
    record {
      first = w.first;
      carbon = w.carbon;
      acyl = w.acyl ∙ acyl-as-slot d.prefix;
      ether = w.ether;
      unlocated = w.unlocated;
      bonds = w.bonds ∙ ap (λ (l : List DbPos). l ++ d.bonds) (alkenyl-as-slot d.prefix);
      groups = w.groups;
      floats = w.floats;
      rings = w.rings;
    }

module _ (r : Role) (p : Pieces) (x : Drawn) where
  pub fits-slot : r ≡ Slot → Fits Slot p x → Fits r p x
  fits-slot h e = rw h e

  pub fits-acyl : r ≡ Acyl → Fits Slot p x → Fits r p x
  fits-acyl h e = rw h (record { draws = λ d. draws-acyl (pieces_as d p) x (e.draws d) })

  pub fits-base : r ≡ Base → Fits Base p x → Fits r p x
  fits-base h e = rw h e
