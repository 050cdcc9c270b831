-- What is pushed stands in its place as it was given: a double bond, a group, a ring behind those that an array keeps is found there again.
-- Assumes nothing.
use Prim.Native.Nat.{ℕ, ◌<◌, min}
use native.Mathlib.Omega.{arith}
use mathlib.Core.Path.{◌≡◌, ◌∙◌}
use mathlib.Core.List.{List, [], ◌∷◌, ◌++◌}
use lib.ListN.{length, take, length-append}
use lib.Seq.{take_all}
use Rattle.chain_record.specs.declared.plain.DbPos.{DbPos}
use Rattle.chain_record.specs.declared.plain.Mod.{Mod}
use Rattle.chain_record.specs.declared.plain.Ring.{Ring}
use Rattle.chain_record.specs.plain.Chain.{max_bonds, max_groups, max_rings}
use Rattle.chain_record.specs.parsed.Parsed.{Keeps, Counting, Adds}

back : {A : Type 0} (limit : ℕ) (c e : Counting A) (x : A) (l : List A) → Adds limit c e x → Keeps limit c.items c.count l → length l < limit
    → take (min e.count limit) e.items ≡ l ++ (x ∷ [])
back limit c e x l a k h = (a.keeps l k).kept ∙ take_all limit (l ++ (x ∷ [])) (omega (arith, length-append l (x ∷ [])))

pub bond-back : (c e : Counting DbPos) (b : DbPos) (l : List DbPos) → Adds max_bonds c e b → Keeps max_bonds c.items c.count l → length l < max_bonds
    → take (min e.count max_bonds) e.items ≡ l ++ (b ∷ [])
bond-back c e b l a k h = back max_bonds c e b l a k h

pub group-back : (c e : Counting Mod) (g : Mod) (l : List Mod) → Adds max_groups c e g → Keeps max_groups c.items c.count l → length l < max_groups
    → take (min e.count max_groups) e.items ≡ l ++ (g ∷ [])
group-back c e g l a k h = back max_groups c e g l a k h

pub ring-back : (c e : Counting Ring) (r : Ring) (l : List Ring) → Adds max_rings c e r → Keeps max_rings c.items c.count l → length l < max_rings
    → take (min e.count max_rings) e.items ≡ l ++ (r ∷ [])
ring-back c e r l a k h = back max_rings c e r l a k h
