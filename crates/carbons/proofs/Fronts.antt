-- Going through a list from its end: so much of it is left in front, and something holds of what was passed.
-- Assumes nothing.
use native.Mathlib.Omega.{arith}
use mathlib.Core.Path.{◌≡◌, refl, sym, ◌∙◌}
use mathlib.Core.List.{List, [], ◌∷◌, ◌++◌, append-nil, append_assoc}
use lib.ListN.{length}

-- front is left of the list l, and P holds of the elements that were passed, in their order
pub record Behind {A : Type 0} (P : List A → Type 0) (l front : List A) : Type 0 where
  pub passed : List A
  pub joined : l ≡ front ++ passed
  pub holds : P passed

module _ {A : Type 0} {P : List A → Type 0} (l front : List A) where
  -- nothing is passed
  pub behind-start : front ≡ l → P [] → Behind P l front
  behind-start e p = record { passed = []; joined = sym (append-nil front ∙ e); holds = p }

  -- one element more
  pub behind-turn : {Q : List A → Type 0} (rest : List A) (x : A) → front ≡ rest ++ (x ∷ []) → ((m : List A) → P m → Q (x ∷ m)) → Behind P l front → Behind Q l rest
  behind-turn rest x e step w = record { passed = x ∷ w.passed; joined = w.joined ∙ rw (e, append_assoc); holds = step w.passed w.holds }

  -- all of them are passed
  pub behind-end : length front ≡ 0 → Behind P l front → P l
  behind-end h w =
      let z : l ≡ w.passed = w.joined ∙ rw (none front h) in
      rw z w.holds
    where
      none : (m : List A) → length m ≡ 0 → m ≡ []
      none [] e = refl
      none (x ∷ m) e = absurd (omega arith)
