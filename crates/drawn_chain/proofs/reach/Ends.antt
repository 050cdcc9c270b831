-- Laws of how far a chain is drawn as it is written: one for each way out.
-- Assumes nothing.
use Prim.Native.Nat.{ℕ, suc, ◌+◌, ◌-◌, ◌*◌, ◌<◌, ◌≤◌, min}
use native.Mathlib.Omega.{arith}
use mathlib.Core.Path.{◌≡◌, refl, sym, ◌∙◌}
use mathlib.Core.List.{List, ◌++◌, map}
use borrow.Author.Tests.{eq-eqb, ne_eqb}
use Rattle.chain_record.specs.declared.plain.DbPos.{DbPos}
use Rattle.chain_record.specs.declared.plain.Mod.{Mod}
use Rattle.chain_record.specs.declared.plain.Ring.{Ring}
use Rattle.chain_record.specs.plain.Chain.{Chain}
use Rattle.chain_rules.specs.declared.chain.Role.{Role}
use Rattle.chain_rules.specs.chain.Lists.{largest}
use Rattle.chain_rules.specs.chain.Features.{first_drawn, prefix_end, literal_end, remaining, flexible_count, drawn_count}
use Rattle.drawn_chain.specs.drawable.Drawn.{Drawn, bonds_drawn, groups_drawn, rings_drawn, group_pin, Draws, Says, SaysUpTo}
use Rattle.drawn_chain.specs.reach.Reach.{bond_reach, ring_reach, Flexible}
use Rattle.drawn_chain.proofs.drawable.Lists.{largest-append}

-- ---- the literal prefix

module _ (x : Drawn) (b g e : ℕ) {bs : List DbPos} {gs : List Mod} {rs : List Ring} (s₁ : bs ≡ bonds_drawn x) (s₂ : gs ≡ groups_drawn x) (s₃ : rs ≡ rings_drawn x)
    (e₁ : b ≡ largest x.first (map bond_reach bs)) (e₂ : g ≡ largest b (map group_pin gs)) (e₃ : e ≡ largest g (map ring_reach rs)) where
  end-as : (r : Role) (d : Chain) → Draws r d x → prefix_end r d ≡ min e x.carbon
  unfolding prefix_end
  end-as r d w =
      rw (← w.first, ← w.carbon, ← w.bonds, ← w.groups, ← w.rings, largest-append x.first (map bond_reach (bonds_drawn x)) (map group_pin (groups_drawn x) ++ map ring_reach (rings_drawn x)), largest-append (largest x.first (map bond_reach (bonds_drawn x))) (map group_pin (groups_drawn x)) (map ring_reach (rings_drawn x)), ← s₁, ← s₂, ← s₃, ← e₁, ← e₂, ← e₃)

  pub prefix-inside : e < x.carbon → SaysUpTo x e prefix_end
  prefix-inside h = record { says = record { is = λ r d w. omega (arith, end-as r d w) }; fits = omega arith }

  pub prefix-whole : x.carbon ≤ e → SaysUpTo x x.carbon prefix_end
  prefix-whole h = record { says = record { is = λ r d w. omega (arith, end-as r d w) }; fits = omega arith }

pub rest-is : (x : Drawn) (e : ℕ) → SaysUpTo x e prefix_end → Says x (x.carbon - e) remaining
unfolding remaining
rest-is x e s = record { is = λ r d w. rw (w.carbon, s.says.is r d w) }

pub literal-whole : (x : Drawn) → x.unlocated ≡ 0 → SaysUpTo x x.carbon literal_end
unfolding literal_end
literal-whole x h = record { says = record { is = λ r d w. rw (← w.unlocated, eq-eqb x.unlocated 0 h) w.carbon }; fits = omega arith }

pub literal-prefix : (x : Drawn) (e : ℕ) → (x.unlocated ≡ 0 → ⊥) → SaysUpTo x e prefix_end → SaysUpTo x e literal_end
unfolding literal_end
literal-prefix x e h s = record { says = record { is = λ r d w. rw (← w.unlocated, ne_eqb x.unlocated 0 h) (s.says.is r d w) }; fits = s.fits }

-- ---- the drawn carbons

pub flexible-none : (n : ℕ) → n ≡ 0 → Flexible n 0
flexible-none n h = record { is = rw (eq-eqb n 0 h); fits = omega arith }

pub flexible-some : (n : ℕ) → (n ≡ 0 → ⊥) → n < 65536 → Flexible n (2 * n + 2)
flexible-some n h g = record { is = rw (ne_eqb n 0 h); fits = omega arith }

module _ (x : Drawn) (m e : ℕ) (f : Flexible x.unlocated m) (s : SaysUpTo x e literal_end) where
  tail-as : (r : Role) (d : Chain) → Draws r d x → flexible_count d ≡ m
  unfolding flexible_count
  tail-as r d w = rw (← w.unlocated) (sym f.is)

  parts : (r : Role) (d : Chain) → drawn_count r d ≡ suc (literal_end r d) - first_drawn r + flexible_count d
  unfolding drawn_count
  parts r d = refl

  count-as : (r : Role) (d : Chain) → Draws r d x → drawn_count r d ≡ suc e - x.first + m
  count-as r d w = parts r d ∙ rw (tail-as r d w, ← w.first, ← s.says.is r d w)

  pub count-flexible : e + 1 < x.first → Says x m drawn_count
  count-flexible h = record { is = λ r d w. omega (arith, count-as r d w) }

  pub count-both : x.first ≤ e + 1 → Says x (e + 1 - x.first + m) drawn_count
  count-both h = record { is = λ r d w. omega (arith, count-as r d w) }
