-- Laws of the chain of an sn.
-- Assumes nothing.
use Prim.Native.Nat.{ℕ, zero, suc, ◌+◌, ◌-◌, ◌≤◌, ◌<◌}
use native.Mathlib.Omega.{arith}
use mathlib.Core.Path.{◌≡◌, refl, sym, ◌∙◌}
use mathlib.Core.Bool.{Bool, true, false}
use mathlib.Core.Option.{none, some}
use mathlib.Core.List.{List, [], ◌∷◌}
use lib.Dec.{ltb}
use lib.ListN.{length, take, drop, get_or, length-take}
use lib.Seq.{get_or-take, get_or-drop}
use Rattle.std.proofs.lemmas.List.{get_or_past}
use borrow.Author.Tests.{ltb-true, ltb-false}
use Rattle.drawn_chain.specs.declared.drawable.Shape.{Shape}
use Rattle.drawn_chain.specs.declared.rooms.Lists.{Lists}
use Rattle.drawn_chain.specs.declared.rooms.TheConstants.{NO_LISTS}
use Rattle.drawn_chain.specs.drawable.Drawn.{Drawn, drawn_of}
use Rattle.drawn_chain.specs.drawable.Chains.{drawn_in, part_of, items_of}
use Rattle.drawn_chain.proofs.drawable.Parts.{items-length}
use Rattle.request_chains.specs.chain_shapes.Shapes.{no_shape, chains_kept}
use Rattle.request_chains.specs.chain_shapes.Sn.{drawn_at, IsDrawn, ChainAt, ShapeAt}

drawn-at : (l : List Drawn) (k : ℕ) (z : Drawn) → k < length l → drawn_at (suc k) l ≡ some (get_or l k z)
unfolding drawn_at
drawn-at [] k z h = absurd (omega arith)
drawn-at (x ∷ l) zero z h = refl
drawn-at (x ∷ l) (suc k) z h = drawn-at l k z (omega arith)

drawn-past : (l : List Drawn) (sn : ℕ) → length l < sn → drawn_at sn l ≡ none
unfolding drawn_at
drawn-past [] sn h = refl
drawn-past (x ∷ l) zero h = absurd (omega arith)
drawn-past (x ∷ l) (suc zero) h = absurd (omega arith)
drawn-past (x ∷ l) (suc (suc sn)) h = drawn-past l (suc sn) (omega arith)

drawn-none : (l : List Drawn) → drawn_at zero l ≡ none
unfolding drawn_at
drawn-none [] = refl
drawn-none (x ∷ l) = refl

-- the chain at a place, with the lists of its place
item-at : (xs : List Shape) (l : List Lists) (k : ℕ) (z : Shape) (y : Drawn) → k < length xs → get_or (items_of xs l) k y ≡ drawn_of (get_or xs k z) (get_or l k NO_LISTS)
unfolding items_of
item-at [] l k z y h = absurd (omega arith)
item-at (x ∷ xs) l zero z y h = refl
item-at (x ∷ xs) l (suc k) z y h =
    let n : 1 + k ≡ suc k = omega arith in
    item-at xs (drop 1 l) k z y (omega arith) ∙ rw (get_or-drop 1 l k NO_LISTS, n)

module _ (n : ℕ) (xs : List Shape) where
  pub shape-none : (sn : ℕ) (x : Shape) → sn ≡ 0 → x ≡ no_shape → ShapeAt n xs sn x
  shape-none sn x e z = record { is = λ l. record { is = rw (e, z, drawn-none (drawn_in (chains_kept n xs l))) refl } }

  past : (sn : ℕ) (x : Shape) → ((l : List Lists) → length (drawn_in (chains_kept n xs l)) < sn) → x ≡ no_shape → ShapeAt n xs sn x
  past sn x h z = record { is = λ l. record { is = rw (z, drawn-past (drawn_in (chains_kept n xs l)) sn (h l)) refl } }

  pub shape-past : (sn : ℕ) (x : Shape) → n < sn → x ≡ no_shape → ShapeAt n xs sn x
  unfolding drawn_in
  shape-past sn x h = past sn x (λ l. omega (arith, length-take n (items_of xs l)))

  there : (k : ℕ) (x : Shape) → k < n → k < length xs → x ≡ get_or xs k no_shape → ShapeAt n xs (suc k) x
  unfolding drawn_in
  there k x h g e = record { is = λ l. record { is = go l } }
    where
      go : (l : List Lists) → IsDrawn (drawn_at (suc k) (take n (items_of xs l))) (drawn_of x (get_or l (suc k - 1) NO_LISTS))
      go l =
          let z : suc k - 1 ≡ k = omega arith in
          let y : Drawn = drawn_of x NO_LISTS in
          rw (z, e, drawn-at (take n (items_of xs l)) k y (omega (arith, length-take n (items_of xs l), items-length xs l)), get_or-take n (items_of xs l) k y h)
          (sym (item-at xs l k no_shape y g))

  pub shape-there : (sn : ℕ) (x : Shape) → (sn ≡ 0 → ⊥) → sn ≤ n → x ≡ get_or xs (sn - 1) no_shape → ShapeAt n xs sn x
  unfolding drawn_in
  shape-there zero x h g e = absurd (h refl)
  shape-there (suc k) x h g e = go (ltb k (length xs)) refl
    where
      same : x ≡ get_or xs k no_shape
      same = let z : suc k - 1 ≡ k = omega arith in rw z at e

      go : (b : Bool) → ltb k (length xs) ≡ b → ShapeAt n xs (suc k) x
      go true t = there k x (omega arith) (ltb-true k (length xs) t) same
      go false t =
          past (suc k) x (λ l. omega (arith, length-take n (items_of xs l), items-length xs l, ltb-false k (length xs) t))
          (same ∙ get_or_past xs k no_shape (ltb-false k (length xs) t))

-- a chain, and its lists
pub chain-there : (n : ℕ) (xs : List Shape) (sn : ℕ) (x : Shape) (l : List Lists) {p : Lists} → ShapeAt n xs sn x → p ≡ part_of sn l → ChainAt (chains_kept n xs l) sn (drawn_of x p)
chain-there n xs sn x l a e = rw e (a.is l)
