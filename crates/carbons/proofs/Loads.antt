-- Laws of what the carbons carry: the atoms of a row of the group table, those of the groups added to an array by carbon, and the carbons that
-- carry nothing. Assumes nothing.
use Prim.Native.Nat.{ℕ, zero, suc, ◌+◌, ◌*◌, ◌≤◌, ◌<◌, max}
use native.Mathlib.Nat.{zero-add}
use native.Mathlib.Omega.{arith}
use mathlib.Core.Path.{◌≡◌, refl, sym, ap, ◌∙◌}
use mathlib.Core.Bool.{Bool, true, false, cond, ◌||◌}
use mathlib.Core.List.{List, [], ◌∷◌, ◌++◌, map}
use lib.Dec.{eqb, leb}
use lib.ListN.{length, get_or, set, length-set, length-append, get_or-map}
use borrow.Author.Tests.{leb-true, leb-false, eqb-true}
use Rattle.chain_rules.specs.chain.Lists.{any_of}
use Rattle.group_table.specs.groups.Groups.{Entry, entries, blank, entry_at}
use Rattle.group_table.proofs.groups.Laws.{every, every-at}
use Rattle.chain_record.specs.declared.plain.Mod.{Mod}
use Rattle.chain_record.specs.declared.plain.Ring.{Ring}
use Rattle.drawn_chain.specs.drawable.Drawn.{Length, groups_in, no_group}
use Rattle.carbons.specs.ByCarbon.{group_on, ring_on, carbonyl_on, busy_at, RowAtoms, group_atoms, load_at, Added, Busy}
use Rattle.carbons.proofs.Fronts.{Behind}
use Rattle.carbons.proofs.BondLaws.{stored}

-- ---- a branch has at most five atoms, by one computed test over the table

abbrev small : Entry → Bool
small e = leb e.atoms 5

table-small : every small entries ≡ true
unfolding entries
table-small = refl

pub past : {A : Type 0} (d : A) (l : List A) (i : ℕ) → length l ≤ i → get_or l i d ≡ d
past d [] i h = refl
past d (e ∷ l) zero h = absurd (omega arith)
past d (e ∷ l) (suc i) h = past d l i (omega arith)

row_small : (row : ℕ) → (entry_at row).atoms ≤ 5
unfolding entry_at
row_small row = go (leb (suc row) (length entries)) refl
  where
    go : (b : Bool) → leb (suc row) (length entries) ≡ b → (get_or entries row blank).atoms ≤ 5
    go true e = leb-true (get_or entries row blank).atoms 5 (every-at small entries row blank table-small (leb-true (suc row) (length entries) e))
    go false e = rw (past blank entries row (omega (arith, leb-false (suc row) (length entries) e))) (omega arith)

abbrev atoms_in : Entry → ℕ
atoms_in e = e.atoms

-- the atoms of each row, as the table has them
pub row_told : (l : List ℕ) (row n : ℕ) → map atoms_in entries ≡ l → n ≡ get_or l row 0 → RowAtoms row n
unfolding entry_at
row_told l row n t e =
    let same : n ≡ (entry_at row).atoms = e ∙ (rw (← t) (get_or-map atoms_in entries row blank)) in
    record { is = same; few = omega (arith, same, row_small row) }

pub row-past : (row : ℕ) → 17 ≤ row → RowAtoms row 0
unfolding entry_at entries
row-past row h =
    let none : (entry_at row).atoms ≡ 0 = rw (past blank entries row h) in
    record { is = sym none; few = omega arith }

-- ---- the atoms of groups

atoms-none : (gs : List Mod) (k : ℕ) → group_on gs k ≡ false → group_atoms gs k ≡ 0
unfolding group_on group_atoms
atoms-none [] k e = refl
atoms-none (g ∷ gs) k e = go (eqb g.pos k) e (atoms-none gs k)
  where
    go : (b : Bool) → (b || group_on gs k) ≡ false → (group_on gs k ≡ false → group_atoms gs k ≡ 0) → cond b (entry_at g.row).atoms 0 + group_atoms gs k ≡ 0
    go true f u = let z : ◌≡◌ {A = ℕ} 0 1 = cc in absurd (omega arith)
    go false f u = zero-add (group_atoms gs k) ∙ u f

atoms-few : (gs : List Mod) (k : ℕ) → group_atoms gs k ≤ 5 * length gs
unfolding group_atoms
atoms-few [] k = omega arith
atoms-few (g ∷ gs) k = go (eqb g.pos k) (atoms-few gs k)
  where
    go : (b : Bool) → group_atoms gs k ≤ 5 * length gs → cond b (entry_at g.row).atoms 0 + group_atoms gs k ≤ 5 * suc (length gs)
    go true h = omega (arith, row_small g.row)
    go false h = omega arith

-- ---- groups added, from the end of the list on

pub added_none : (ks : List ℕ) → Added [] ks ks
unfolding group_on any_of
added_none ks = record { size = refl; at = λ k h. refl }

added-one : {gs : List Mod} {ks js : List ℕ} (g : Mod) (a : ℕ) → a ≡ (entry_at g.row).atoms → Added gs ks js
    → Added (g ∷ gs) ks (set js g.pos (max (get_or js g.pos 0) 1 + a))
unfolding group_on group_atoms
added-one {gs} {ks} {js} g a e s =
    record {
      size = length-set js g.pos (max (get_or js g.pos 0) 1 + a) ∙ s.size;
      at = λ k h. stored js g.pos (max (get_or js g.pos 0) 1 + a) k (omega (arith, s.size)) ∙ go k (eqb g.pos k) refl (s.at k h);
    }
  where
    there : (k : ℕ) (o : Bool) → group_on gs k ≡ o → get_or js k 0 ≡ cond o (max (get_or ks k 0) 1 + group_atoms gs k) (get_or ks k 0)
        → max (get_or js k 0) 1 + a ≡ max (get_or ks k 0) 1 + ((entry_at g.row).atoms + group_atoms gs k)
    there k true f w = omega arith
    there k false f w = omega (arith, atoms-none gs k f)

    go : (k : ℕ) (b : Bool) → eqb g.pos k ≡ b → get_or js k 0 ≡ cond (group_on gs k) (max (get_or ks k 0) 1 + group_atoms gs k) (get_or ks k 0)
        → cond b (max (get_or js g.pos 0) 1 + a) (get_or js k 0)
        ≡ cond (b || group_on gs k) (max (get_or ks k 0) 1 + (cond b (entry_at g.row).atoms 0 + group_atoms gs k)) (get_or ks k 0)
    go k true f w = rw (eqb-true g.pos k f) (there k (group_on gs k) refl w)
    go k false f w = rw (zero-add (group_atoms gs k)) w

pub group-added : {ks js is : List ℕ} (a : ℕ) (g : Mod) → RowAtoms g.row a → is ≡ set js g.pos (max (get_or js g.pos 0) 1 + a) → (gs : List Mod) → Added gs ks js
    → Added (g ∷ gs) ks is
group-added a g r f gs w = rw f (added-one g a r.is w)

pub added-length : {gs : List Mod} {ks js : List ℕ} → Added gs ks js → length js ≡ length ks
added-length s = s.size

-- room for one group more
pub added-room : {gs front : List Mod} {ks js : List ℕ} (p a row : ℕ) (rest : List Mod) (g : Mod) → ((k : ℕ) → get_or ks k 0 ≤ 2) → length gs ≤ 18 → front ≡ rest ++ (g ∷ []) → Behind (λ l. Added l ks js) gs front
    → RowAtoms row a → get_or js p 0 + a ≤ 254
added-room {gs} {front} {ks} {js} p a row rest g t h f w r = go (leb (suc p) (length ks)) refl
  where
    few : group_atoms w.passed p ≤ 85
    few = omega (arith, atoms-few w.passed p, ap length w.joined, length-append front w.passed, ap length f, length-append rest (g ∷ []))

    own : (o : Bool) → get_or js p 0 ≡ cond o (max (get_or ks p 0) 1 + group_atoms w.passed p) (get_or ks p 0) → get_or js p 0 + a ≤ 254
    own true e = omega (arith, few, t p, r.few)
    own false e = omega (arith, t p, r.few)

    go : (b : Bool) → leb (suc p) (length ks) ≡ b → get_or js p 0 + a ≤ 254
    go true e = own (group_on w.passed p) (w.holds.at p (leb-true (suc p) (length ks) e))
    go false e = rw (past 0 js p (omega (arith, w.holds.size, leb-false (suc p) (length ks) e))) (omega (arith, r.few))

-- ---- what all of it comes to

-- a carbon with a ring's end, then with the O of a carbonyl, then with its groups
pub load_is : (acyl : Bool) (gs : List Mod) (rs : List Ring) (k : ℕ)
    → cond (group_on gs k) (max (cond (carbonyl_on acyl k) 2 (cond (ring_on rs k) 1 0)) 1 + group_atoms gs k) (cond (carbonyl_on acyl k) 2 (cond (ring_on rs k) 1 0))
    ≡ load_at acyl gs rs k
unfolding load_at busy_at
load_is acyl gs rs k = go (carbonyl_on acyl k) (group_on gs k) (ring_on rs k) refl
  where
    go : (a b c : Bool) → group_on gs k ≡ b → cond b (max (cond a 2 (cond c 1 0)) 1 + group_atoms gs k) (cond a 2 (cond c 1 0)) ≡ cond (a || (b || c)) (suc (cond a 1 0 + group_atoms gs k)) 0
    go true true c e = omega arith
    go false true true e = omega arith
    go false true false e = omega arith
    go true false c e = omega (arith, atoms-none gs k e)
    go false false true e = omega (arith, atoms-none gs k e)
    go false false false e = refl

pub load-few : (acyl : Bool) (gs : List Mod) (rs : List Ring) (k : ℕ) → length gs ≤ 18 → load_at acyl gs rs k ≤ 92
unfolding load_at
load-few acyl gs rs k h = go (busy_at acyl gs rs k) (carbonyl_on acyl k)
  where
    go : (b a : Bool) → cond b (suc (cond a 1 0 + group_atoms gs k)) 0 ≤ 92
    go true true = omega (arith, atoms-few gs k)
    go true false = omega (arith, atoms-few gs k)
    go false a = omega arith

pub not-busy : {acyl : Bool} {gs : List Mod} {rs : List Ring} {us : List ℕ} (k : ℕ) → Busy acyl gs rs us → k < length us → get_or us k 0 ≡ 0 → busy_at acyl gs rs k ≡ false
unfolding load_at
not-busy {acyl} {gs} {rs} k u h z = go (busy_at acyl gs rs k) (sym (u.at k h) ∙ z)
  where
    go : (b : Bool) → cond b (suc (cond (carbonyl_on acyl k) 1 0 + group_atoms gs k)) 0 ≡ 0 → b ≡ false
    go false e = refl
    go true e = absurd (omega arith)
