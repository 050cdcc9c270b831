-- Laws of what is kept of a chain beside its atoms. Assumes nothing.
use Prim.Native.Nat.{ℕ, ◌-◌, ◌≤◌, ◌<◌}
use native.Mathlib.Omega.{arith}
use mathlib.Core.Path.{◌≡◌, refl, ap, ◌∙◌}
use mathlib.Core.List.{List, [], ◌∷◌}
use lib.ListN.{length}
use borrow.Author.Tests.{eq-eqb, ne_eqb}
use Rattle.chain_record.specs.declared.plain.Mod.{Mod}
use Rattle.chain_record.specs.declared.plain.Ring.{Ring}
use Rattle.chain_rules.specs.chain.Features.{remaining}
use Rattle.drawn_chain.specs.declared.drawable.Shape.{Shape}
use Rattle.drawn_chain.specs.declared.rooms.Lists.{Lists}
use Rattle.drawn_chain.specs.drawable.Drawn.{Drawn, drawn_of, floats_drawn, rings_drawn, Says}
use Rattle.chain_indices.specs.totals.Sum.{sum_of}
use Rattle.chain_indices.specs.totals.Totals.{FiguresOf}

-- ---- the sum of its variables

pub sum-none : (x : Drawn) → x.unlocated ≡ 0 → Says x 0 sum_of
sum-none x h = record { is = λ r d w. rw (← w.unlocated, eq-eqb x.unlocated 0 h) }

-- a tail too short for its double bonds, as no drawn chain has (14)
pub sum-short : (x : Drawn) (m : ℕ) → (x.unlocated ≡ 0 → ⊥) → Says x m remaining → m ≤ x.unlocated → Says x 0 sum_of
sum-short x m h s k = record { is = λ r d w. rw (← s.is r d w, ← w.unlocated, ne_eqb x.unlocated 0 h) (omega arith) }

pub sum-some : (x : Drawn) (m : ℕ) → (x.unlocated ≡ 0 → ⊥) → Says x m remaining → Says x (m - x.unlocated - 1) sum_of
sum-some x m h s = record { is = λ r d w. rw (← s.is r d w, ← w.unlocated, ne_eqb x.unlocated 0 h) }

-- ---- its floating groups and rings

pub figures-are : {x : Shape} (l : Lists) {t f r : ℕ} {fs : List Mod} {rs : List Ring} → Says (drawn_of x l) t sum_of → fs ≡ floats_drawn (drawn_of x l) → f ≡ length fs → rs ≡ rings_drawn (drawn_of x l) → r ≡ length rs
    → FiguresOf (drawn_of x l) (record { acyl = x.acyl; unlocated = x.unlocated; total = t; float_count = f; rings = r })
figures-are l s e u g v =
    record {
      are =
          λ ρ d w.
          record {
            acyl = w.acyl;
            unlocated = w.unlocated;
            total = s.is ρ d w;
            floats = u ∙ ap length (e ∙ w.floats);
            rings = v ∙ ap length (g ∙ w.rings);
          };
    }
