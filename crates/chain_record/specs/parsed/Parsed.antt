-- Which chain a record of the code holds, and what a reader answers that adds to arrays which are lent to it: what the contracts of `parsed`
-- and of the token reader above it cite. Assumes nothing.
use Rattle.std.specs.Prelude.{ℕ, ◌+◌, min, ◌≡◌, cond, List, [], ◌∷◌, ◌++◌, length, take, ltb, Result, Ok, Err}
use Rattle.chain_record.specs.plain.Chain.{Chain, Outcome, Read, Refused, max_bonds, max_groups, max_rings}
use Rattle.chain_record.specs.declared.plain.DbPos.{DbPos}
use Rattle.chain_record.specs.declared.plain.Mod.{Mod}
use Rattle.chain_record.specs.declared.plain.Ring.{Ring}
use Rattle.chain_record.specs.declared.parsed.ParsedChain.{ParsedChain}
use Rattle.chain_record.specs.declared.parsed.Counts.{Counts}
use Rattle.chain_record.specs.declared.refusal.Refusal.{Refusal}
use Rattle.chain_record.specs.declared.refusal.Refusal.TheVariants.{OverLimit}
use Rattle.chain_record.specs.refusal.Refusal.{number_of}

-- an array keeps a list up to a limit: its count is the list's length, which it stops following one past the limit, and what it counts within
-- the limit is what the list starts with
pub record Keeps {A : Type 0} (limit : ℕ) (array : List A) (count : ℕ) (l : List A) : Type 0 where
  pub counted : count ≡ min (length l) (limit + 1)
  pub kept : take (min count limit) array ≡ take limit l

-- the record c holds the chain d
pub record Holds (c : ParsedChain) (d : Chain) : Type 0 where
  pub prefix : c.prefix ≡ d.prefix
  pub written : c.written ≡ d.written
  pub carbon : c.carbon ≡ d.carbon
  pub branched : c.branched ≡ d.branched
  pub unlocated : c.unlocated ≡ d.unlocated
  pub oxygens : c.oxygens ≡ d.oxygens
  pub bonds : Keeps max_bonds c.bonds c.bond_count d.bonds
  pub groups : Keeps max_groups c.groups c.group_count d.groups
  pub rings : Keeps max_rings c.rings c.ring_count d.rings

-- a reader's answer: what it has then, or the number by which it refuses
pub data Answer (S : Type 0) : Type 0 where
  Has : S → Answer S
  Refuses : ℕ → Answer S

-- the answer of a record, where a part of it is answered
abbrev pub answered : {S T : Type 0} → (S → T) → Answer S → Answer T
answered put (Has s) = Has (put s)
answered put (Refuses n) = Refuses n

-- an answer stands for an outcome: the record holds the chain, or the number is the refusal's
abbrev pub Stands : Answer ParsedChain → Outcome → Type 0
Stands (Has c) (Read d) = Holds c d
Stands (Has c) (Refused n) = ⊥
Stands (Refuses n) (Read d) = ⊥
Stands (Refuses n) (Refused m) = n ≡ m

-- r holds f of what c holds
pub record Takes (c r : ParsedChain) (f : Chain → Chain) : Type 0 where
  pub holds : (d : Chain) → Holds c d → Holds r (f d)

-- r stands for f of what c holds
pub record Gives (c : ParsedChain) (r : Answer ParsedChain) (f : Chain → Outcome) : Type 0 where
  pub stands : (d : Chain) → Holds c d → Stands r (f d)

-- ---- a part of a record, which is all that a reader has of it

-- one array, and how much of it is used
pub record Counting (A : Type 0) : Type 0 where
  pub count : ℕ
  pub items : List A

abbrev pub first : {A : Type 0} → ℕ → List A → Counting A
first n xs = record { count = n; items = xs }

-- e keeps every list that c keeps up to a limit, with x behind it
pub record Adds {A : Type 0} (limit : ℕ) (c e : Counting A) (x : A) : Type 0 where
  pub keeps : (l : List A) → Keeps limit c.items c.count l → Keeps limit e.items e.count (l ++ (x ∷ []))

-- a record x with other double bonds, groups or rings
abbrev pub bonds_as : ParsedChain → Counting DbPos → ParsedChain
bonds_as x c =
    record { prefix = x.prefix; written = x.written; carbon = x.carbon; branched = x.branched; unlocated = x.unlocated; oxygens = x.oxygens; bond_count = c.count; bonds = c.items; group_count = x.group_count; groups = x.groups; ring_count = x.ring_count; rings = x.rings }

abbrev pub groups_as : ParsedChain → Counting Mod → ParsedChain
groups_as x c =
    record { prefix = x.prefix; written = x.written; carbon = x.carbon; branched = x.branched; unlocated = x.unlocated; oxygens = x.oxygens; bond_count = x.bond_count; bonds = x.bonds; group_count = c.count; groups = c.items; ring_count = x.ring_count; rings = x.rings }

abbrev pub rings_as : ParsedChain → Counting Ring → ParsedChain
rings_as x c =
    record { prefix = x.prefix; written = x.written; carbon = x.carbon; branched = x.branched; unlocated = x.unlocated; oxygens = x.oxygens; bond_count = x.bond_count; bonds = x.bonds; group_count = x.group_count; groups = x.groups; ring_count = c.count; rings = c.items }

-- a record x with other counts
abbrev pub counts_as : ParsedChain → Counts → ParsedChain
counts_as x k =
    record { prefix = x.prefix; written = x.written; carbon = x.carbon; branched = x.branched; unlocated = x.unlocated; oxygens = k.oxygens; bond_count = k.bonds; bonds = x.bonds; group_count = k.groups; groups = x.groups; ring_count = k.rings; rings = x.rings }

-- the counts and all three arrays
pub record Gathered : Type 0 where
  pub counts : Counts
  pub bonds : List DbPos
  pub groups : List Mod
  pub rings : List Ring

abbrev pub gather : Counts → List DbPos → List Mod → List Ring → Gathered
gather k bs gs rs = record { counts = k; bonds = bs; groups = gs; rings = rs }

-- a record x with all of these; with its own array of groups, or of double bonds, whatever stands for them
abbrev pub all_as : ParsedChain → Gathered → ParsedChain
all_as x c =
    record { prefix = x.prefix; written = x.written; carbon = x.carbon; branched = x.branched; unlocated = x.unlocated; oxygens = c.counts.oxygens; bond_count = c.counts.bonds; bonds = c.bonds; group_count = c.counts.groups; groups = c.groups; ring_count = c.counts.rings; rings = c.rings }

abbrev pub ungrouped_as : ParsedChain → Gathered → ParsedChain
ungrouped_as x c =
    record { prefix = x.prefix; written = x.written; carbon = x.carbon; branched = x.branched; unlocated = x.unlocated; oxygens = c.counts.oxygens; bond_count = c.counts.bonds; bonds = c.bonds; group_count = c.counts.groups; groups = x.groups; ring_count = c.counts.rings; rings = c.rings }

abbrev pub unbonded_as : ParsedChain → Gathered → ParsedChain
unbonded_as x c =
    record { prefix = x.prefix; written = x.written; carbon = x.carbon; branched = x.branched; unlocated = x.unlocated; oxygens = c.counts.oxygens; bond_count = c.counts.bonds; bonds = x.bonds; group_count = c.counts.groups; groups = c.groups; ring_count = c.counts.rings; rings = c.rings }

-- a record with so many carbons, and a part of it
abbrev pub carbon_as : ParsedChain → ℕ → ParsedChain
carbon_as x n =
    record { prefix = x.prefix; written = x.written; carbon = n; branched = x.branched; unlocated = x.unlocated; oxygens = x.oxygens; bond_count = x.bond_count; bonds = x.bonds; group_count = x.group_count; groups = x.groups; ring_count = x.ring_count; rings = x.rings }

abbrev pub on : {S : Type 0} → ℕ → (ParsedChain → S → ParsedChain) → ParsedChain → S → ParsedChain
on n put x c = put (carbon_as x n) c

-- whatever the rest x of a record is, `put` putting a part in it: with e it holds f of what it holds with c
pub record Grows {S : Type 0} (put : ParsedChain → S → ParsedChain) (c e : S) (f : Chain → Chain) : Type 0 where
  pub takes : (x : ParsedChain) → Takes (put x c) (put x e) f

-- whatever the rest x of a record is: with the answer r it stands for f of what it holds with c
pub record Fills {S : Type 0} (put : ParsedChain → S → ParsedChain) (c : S) (r : Answer S) (f : Chain → Outcome) : Type 0 where
  pub gives : (x : ParsedChain) → Gives (put x c) (answered (put x) r) f

-- ---- 01's number and the values of each case of the code's answers

-- counts alone; with the arrays that go with them
abbrev pub counted : Result Counts Refusal → Answer Counts
counted (Ok k) = Has k
counted (Err r) = Refuses (number_of r)

abbrev pub collected : Result Counts Refusal → List DbPos → List Mod → List Ring → Answer Gathered
collected (Ok k) bs gs rs = Has (gather k bs gs rs)
collected (Err r) bs gs rs = Refuses (number_of r)

-- the count of one array, and the array
abbrev pub pushed : {A : Type 0} → Result ℕ Refusal → List A → Answer (Counting A)
pushed (Ok n) xs = Has (first n xs)
pushed (Err r) xs = Refuses (number_of r)

-- the answer to counts alone
abbrev pub Judges : Counts → Result Counts Refusal → (Chain → Outcome) → Type 0
Judges k r f = Fills counts_as k (counted r) f

-- the answer of a reader that adds to one array: n of xs before, and then so many of ys
abbrev pub Pushes : {A : Type 0} → (ParsedChain → Counting A → ParsedChain) → ℕ → List A → Result ℕ Refusal → List A → (Chain → Outcome) → Type 0
Pushes put n xs r ys f = Fills put (first n xs) (pushed r ys) f

-- the answer of a reader that adds to several arrays
abbrev pub Collects : (ParsedChain → Gathered → ParsedChain) → Gathered → Result Counts Refusal → List DbPos → List Mod → List Ring → (Chain → Outcome) → Type 0
Collects put c r bs gs rs f = Fills put c (collected r bs gs rs) f

-- 31 where a count is over its limit, else the counts as they are: `counts_of` of the chain whose lists are counted
unfoldable pub checked : Counts → Result Counts Refusal
checked k =
    cond (ltb max_bonds k.bonds) (Err OverLimit)
    (cond (ltb max_groups k.groups) (Err OverLimit)
    (cond (ltb max_rings k.rings) (Err OverLimit) (Ok k)))
