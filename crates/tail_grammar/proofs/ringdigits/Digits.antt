-- Laws of the digits: each way through the code as a case of the definition.
use Prim.Native.Nat.{ℕ}
use mathlib.Core.Path.{◌≡◌, refl}
use mathlib.Core.Bool.{Bool, true, false, cond, ◌||◌, ◌&&◌}
use mathlib.Core.List.{List, [], ◌∷◌}
use lib.ListN.{get_or, set}
use lib.Dec.{eqb}
use borrow.Author.Tests.{eq-eqb, ne_eqb}
use Rattle.std.specs.List.{list_all}
use Rattle.tail_grammar.specs.declared.ringdigits.Atoms.{Atoms}
use Rattle.tail_grammar.specs.ringdigits.Digits.{rings_of}
use Rattle.tail_grammar.specs.ringdigits.Grammar.{bonded, clashes, with_digit, none_open}

-- ---- a digit on the current atom

module _ (d : ℕ) (a : Atoms) (opened joined : List ℕ) where
  pub clash-unopened : get_or opened d 0 ≡ 0 → false ≡ clashes d (rings_of a opened joined)
  unfolding clashes
  clash-unopened e = rw (eq-eqb (get_or opened d 0) 0 e)

  pub digit-opens : get_or opened d 0 ≡ 0 → rings_of a (set opened d a.current) joined ≡ with_digit d (rings_of a opened joined)
  unfolding with_digit
  digit-opens e = rw (eq-eqb (get_or opened d 0) 0 e)

  module _ (o : get_or opened d 0 ≡ 0 → ⊥) where
    pub digit-closes : (i : ℕ) → i ≡ get_or opened d 0 → rings_of a (set opened d 0) (set joined i a.current) ≡ with_digit d (rings_of a opened joined)
    unfolding with_digit
    digit-closes i e = rw (e, ne_eqb (get_or opened d 0) 0 o)

    pub clash-open : clashes d (rings_of a opened joined)
        ≡ (eqb (get_or opened d 0) a.current || (eqb (get_or opened d 0) a.parent || eqb (get_or joined (get_or opened d 0) 0) a.current))
    unfolding clashes bonded
    clash-open = rw (ne_eqb (get_or opened d 0) 0 o)

-- ---- no digit is open

pub all-shut : (bs : List ℕ) → list_all (λ b. eqb b 0) bs ≡ none_open bs
unfolding none_open
all-shut [] = refl
all-shut (b ∷ bs) = go (eqb b 0) (all-shut bs)
  where
    go : (z : Bool) → list_all (λ b. eqb b 0) bs ≡ none_open bs → (z && list_all (λ b. eqb b 0) bs) ≡ cond z (none_open bs) false
    go true e = e
    go false e = refl
