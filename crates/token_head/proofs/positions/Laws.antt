-- Laws of positions and of lists of double bonds: one for each way out.
-- Assumes nothing.
use Prim.Native.Nat.{ℕ, ◌+◌, ◌-◌, ◌≤◌, ◌<◌}
use native.Mathlib.Nat.{sub-zero}
use native.Mathlib.Omega.{arith}
use mathlib.Core.Path.{◌≡◌, refl, sym, ap, ◌∙◌}
use mathlib.Core.Bool.{Bool, true, false, cond}
use mathlib.Core.List.{List}
use lib.ListN.{length, take, drop, get_or}
use lib.Dec.{eqb, ltb}
use borrow.Author.Tests.{lt-ltb, le-ltb, eq-eqb, ne_eqb}
use mir.Syntax.{w32}
use mir.Val.{Fits}
use Rattle.scanner.specs.scan.Part.{trimmed, Place, index_of}
use Rattle.scanner.specs.scan.Number.{number_up_to, number_limit}
use Rattle.std.specs.Prelude.{Option, Some, None, Result}
use Rattle.scanner.proofs.scan.Laws.{number_bound}
use Rattle.token_syntax.specs.form.Parts.{parts_at, list_parts}
use Rattle.chain_record.specs.declared.plain.DbPos.{DbPos}
use Rattle.chain_record.specs.declared.plain.Geometry.{Geometry}
use Rattle.chain_record.specs.declared.plain.Geometry.TheVariants.{Unstated, Cis, Trans}
use Rattle.chain_record.specs.plain.Chain.{Chain, Outcome, Refused, unreadable, with_bond}
use Rattle.chain_record.specs.declared.refusal.Refusal.{Refusal}
use Rattle.chain_record.specs.parsed.Parsed.{Has, Refuses, Counting, bonds_as, Grows, Fills, Pushes}
use Rattle.chain_record.proofs.parsed.Laws.{fills-refused, fills-read, fills_same}
use Rattle.token_head.specs.positions.Positions.{geometry_of, positioned, numbered, lettered, position_of, with_position, bond_at, bond_list, inside, within, ring_position, ring_bond_at, ring_bond_list}
use Rattle.token_head.specs.positions.Each.{each}
use Rattle.token_head.proofs.positions.Each.{Onward, each_start, each-stop, each_last, each_more, each_same}

-- ---- one position

module _ (s : List ℕ) (g : Geometry) (r : Option ℕ) (e : r ≡ number_up_to number_limit s) where
  pub numbered-unreadable : r ≡ None → None ≡ numbered g s
  unfolding numbered
  numbered-unreadable f = sym (rw (sym e ∙ f))

  pub numbered_is : (n : ℕ) → r ≡ Some n → Some (record { pos = n; geom = g }) ≡ numbered g s
  unfolding numbered
  numbered_is n f = sym (rw (sym e ∙ f))

-- a number that was read fits a position
pub numbered-fits : (s : List ℕ) (r : Option ℕ) (n : ℕ) → r ≡ number_up_to number_limit s → r ≡ Some n → Fits w32 n
numbered-fits s r n e f = record { fits = omega (arith, number_bound number_limit s r n e f) }

module _ (s t : List ℕ) (e : t ≡ trimmed s) where
  pub position-blank : length t ≡ 0 → None ≡ position_of s
  unfolding position_of
  position-blank h = rw (← e, eq-eqb (length t) 0 h)

  module _ (n : length t ≡ 0 → ⊥) (g : Geometry) (f : g ≡ geometry_of (get_or t (length t - 1) 0)) (r : Option DbPos) where
    pub position-plain : g ≡ Unstated → r ≡ numbered g t → r ≡ position_of s
    unfolding position_of
    position-plain h k = k ∙ rw (← e, ne_eqb (length t) 0 n, ← f, h)

    pub position-cis : g ≡ Cis → r ≡ numbered g (take (length t - 1 - 0) t) → r ≡ position_of s
    unfolding position_of
    position-cis h k = k ∙ rw (← e, ne_eqb (length t) 0 n, ← f, h, sub-zero (length t - 1))

    pub position-trans : g ≡ Trans → r ≡ numbered g (take (length t - 1 - 0) t) → r ≡ position_of s
    unfolding position_of
    position-trans h k = k ∙ rw (← e, ne_eqb (length t) 0 n, ← f, h, sub-zero (length t - 1))

-- ---- a position of a ring

module _ (s : List ℕ) (start end : ℕ) (p : Option DbPos) (e : p ≡ position_of s) where
  pub ring-unreadable : (r : Option DbPos) → p ≡ None → r ≡ None → r ≡ ring_position start end s
  unfolding ring_position
  ring-unreadable r f g = g ∙ sym (rw (sym e ∙ f))

  module _ (b : DbPos) (f : p ≡ Some b) where
    pub ring-below : b.pos < start → None ≡ ring_position start end s
    unfolding ring_position
    ring-below h = sym (rw (sym e ∙ f, lt-ltb b.pos start h))

    pub ring-above : start ≤ b.pos → end ≤ b.pos → None ≡ ring_position start end s
    unfolding ring_position
    ring-above h l = sym (rw (sym e ∙ f, le-ltb b.pos start h, le-ltb b.pos end l))

    pub ring-inside : start ≤ b.pos → b.pos < end → Some b ≡ ring_position start end s
    unfolding ring_position
    ring-inside h l = sym (rw (sym e ∙ f, le-ltb b.pos start h, lt-ltb b.pos end l))

-- ---- one double bond

cond-apart : {A B : Type 0} (f : A → B) (b : Bool) (x y : A) → f (cond b x y) ≡ cond b (f x) (f y)
cond-apart f true x y = refl
cond-apart f false x y = refl

-- to add a bond within a ring is to add its position, if that is within the ring
ring-bond : (start end : ℕ) (s : List ℕ) (d : Chain) → ring_bond_at start end s d ≡ with_position (ring_position start end s) d
unfolding ring_bond_at ring_position
ring-bond start end s d = go (position_of s)
  where
    add : Option DbPos → Outcome
    add p = with_position p d

    go : (p : Option DbPos) → inside start end p d ≡ with_position (within start end p) d
    go (Some b) =
        sym (cond-apart add (ltb b.pos start) None (cond (ltb b.pos end) (Some b) None)
        ∙ ap (λ (o : Outcome). cond (ltb b.pos start) (Refused unreadable) o) (cond-apart add (ltb b.pos end) (Some b) None))
    go None = refl

-- the loop: what is left to do gives what was to be done

pub bonding-start : (start end : ℕ) (s : List ℕ) (c : Counting DbPos) → (length s ≡ 0 → ⊥) → Onward bonds_as c c (ring_bond_list start end s) (each (ring_bond_at start end) (parts_at 44 s))
unfolding ring_bond_list
bonding-start start end s c h = each_start (ring_bond_at start end) s c h

module _ (start end : ℕ) (e c : Counting DbPos) (whole : Chain → Outcome) (t : List ℕ) (n : ℕ) (p : Option DbPos)
    (k : Onward bonds_as e c whole (each (ring_bond_at start end) (parts_at 44 t))) (f : Place t (index_of 44 t) n) (g : p ≡ ring_position start end (take (n - 0) t)) where
  -- a part that cannot be read ends the loop
  pub bond-unreadable : p ≡ None → Fills bonds_as e (Refuses 11) whole
  bond-unreadable h =
      each-stop (ring_bond_at start end) 44 e c whole t n k f 11
      (fills-refused 11 c (ring_bond_at start end (take (n - 0) t)) (λ x d w. ring-bond start end (take (n - 0) t) d ∙ rw (sym g ∙ h)))

  module _ (b : DbPos) (h : p ≡ Some b) (q : Counting DbPos) (w : Grows bonds_as c q (with_bond b)) where
    added : Fills bonds_as c (Has q) (ring_bond_at start end (take (n - 0) t))
    added = fills_same (fills-read w) (λ x d k. sym (ring-bond start end (take (n - 0) t) d ∙ rw (sym g ∙ h)))

    -- so does the last part
    pub bond-last : n ≡ length t → Fills bonds_as e (Has q) whole
    bond-last l = each_last (ring_bond_at start end) 44 e c whole t n k f (Has q) added l

    -- a double bond more, and more to come
    pub bond-more : (n ≡ length t → ⊥) → Onward bonds_as e q whole (each (ring_bond_at start end) (parts_at 44 (take (length t - (n + 1)) (drop (n + 1) t))))
    bond-more l = each_more (ring_bond_at start end) 44 e c whole t n k f q added l

-- ---- the list

positioned-below : (g : Geometry) (s : List ℕ) (r : Option ℕ) (b : DbPos) → r ≡ number_up_to number_limit s → positioned g r ≡ Some b → b.pos < 4294967296
positioned-below g s (Some n) b e f = let z : n ≡ b.pos = ap pos_of f in omega (arith, number_bound number_limit s (Some n) n e refl)
  where
    pos_of : Option DbPos → ℕ
    pos_of (Some b) = b.pos
    pos_of None = 0
positioned-below g s None b e f = let z : ◌≡◌ {A = ℕ} 0 1 = cc in absurd (omega arith)

numbered_below : (g : Geometry) (s : List ℕ) (b : DbPos) → numbered g s ≡ Some b → b.pos < 4294967296
unfolding numbered
numbered_below g s b f = positioned-below g s (number_up_to number_limit s) b refl f

lettered-below : (g : Geometry) (t : List ℕ) (b : DbPos) → lettered g t ≡ Some b → b.pos < 4294967296
lettered-below Unstated t b f = numbered_below Unstated t b f
lettered-below Cis t b f = numbered_below Cis (take (length t - 1) t) b f
lettered-below Trans t b f = numbered_below Trans (take (length t - 1) t) b f

position-below : (s : List ℕ) (p : Option DbPos) (b : DbPos) → position_of s ≡ p → p ≡ Some b → b.pos < 4294967296
unfolding position_of
position-below s p b e f = go (eqb (length (trimmed s)) 0) (e ∙ f)
  where
    go : (a : Bool) → cond a None (lettered (geometry_of (get_or (trimmed s) (length (trimmed s) - 1) 0)) (trimmed s)) ≡ Some b → b.pos < 4294967296
    go true h = let z : ◌≡◌ {A = ℕ} 0 1 = cc in absurd (omega arith)
    go false h = lettered-below (geometry_of (get_or (trimmed s) (length (trimmed s) - 1) 0)) (trimmed s) b h

-- the `(..)` list is a list with every number in range
any-bond : (s : List ℕ) (d : Chain) → ring_bond_at 0 4294967296 s d ≡ bond_at s d
unfolding ring_bond_at bond_at
any-bond s d = go (position_of s) refl
  where
    go : (p : Option DbPos) → position_of s ≡ p → inside 0 4294967296 p d ≡ with_position p d
    go (Some b) e = rw (le-ltb b.pos 0 (omega arith), lt-ltb b.pos 4294967296 (position-below s (Some b) b e refl))
    go None e = refl

pub any-list : (s : List ℕ) (xs ys : List DbPos) (n : ℕ) (r : Result ℕ Refusal) → Pushes bonds_as n xs r ys (ring_bond_list 0 4294967296 s) → Pushes bonds_as n xs r ys (bond_list s)
unfolding ring_bond_list bond_list
any-list s xs ys n r w = fills_same w (λ x d k. each_same (ring_bond_at 0 4294967296) bond_at any-bond (list_parts s) d)
