-- Laws of the chain record and of its parts: what a push keeps, and how answers are put together.
-- Assumes nothing.
use Prim.Native.Nat.{ℕ, ◌+◌, ◌<◌, ◌≤◌, min}
use native.Mathlib.Numerals.{add-one}
use native.Mathlib.Omega.{arith}
use mathlib.Core.Path.{◌≡◌, refl, sym, ap, ◌∙◌}
use mathlib.Core.Bool.{Bool, true, false, cond}
use mathlib.Core.List.{List, [], ◌∷◌, ◌++◌}
use lib.ListN.{length, take, set, length-append, length-take}
use lib.Seq.{take-suc-set, take_all, take-append-le, take-take}
use lib.Dec.{ltb}
use borrow.Author.Tests.{lt-ltb, le-ltb, ltb-true, ltb-false}
use Rattle.chain_record.specs.declared.plain.ChainPrefix.{ChainPrefix}
use Rattle.chain_record.specs.declared.plain.DbPos.{DbPos}
use Rattle.chain_record.specs.declared.plain.Mod.{Mod}
use Rattle.chain_record.specs.declared.plain.Ring.{Ring}
use Rattle.chain_record.specs.plain.Chain.{Chain, Outcome, Read, Refused, and_then, no_features, with_bond, with_group, with_ring, with_oxygens, counts_of, max_bonds, max_groups, max_rings}
use Rattle.chain_record.specs.declared.parsed.ParsedChain.{ParsedChain}
use Rattle.chain_record.specs.declared.parsed.Counts.{Counts}
use Rattle.std.specs.Prelude.{Result, Ok, Err}
use Rattle.std.specs.Result.{IsErrAnd}
use Rattle.chain_record.specs.declared.refusal.Refusal.{Refusal}
use Rattle.chain_record.specs.declared.refusal.Refusal.TheVariants.{OverLimit}
use Rattle.chain_record.specs.parsed.Parsed.{Keeps, Adds, Holds, Answer, Has, Refuses, answered, Stands, Takes, Gives, first, bonds_as, groups_as, rings_as, counts_as, gather, all_as, ungrouped_as, unbonded_as, carbon_as, on, Grows, Fills, counted, collected, Judges, Collects, checked}

-- ---- one element more in an array

module _ {A : Type 0} (limit : ℕ) (xs : List A) (n : ℕ) (v : A) where
  module _ (l : List A) (k : Keeps limit xs n l) where
    -- below the limit it is stored
    keeps-one : length xs ≡ limit → n < limit → Keeps limit (set xs n v) (n + 1) (l ++ (v ∷ []))
    keeps-one g h = record { counted = omega (arith, k.counted, length-append l (v ∷ [])); kept = stored }
      where
        before : take n xs ≡ l
        before =
            let a : min n limit ≡ n = omega arith in
            (rw a at k.kept) ∙ take_all limit l (omega (arith, k.counted))

        stored : take (min (n + 1) limit) (set xs n v) ≡ take limit (l ++ (v ∷ []))
        stored =
            let a : min (n + 1) limit ≡ n + 1 = omega arith in
            rw (a, add-one n, take-suc-set xs n v (omega arith), before) (sym (take_all limit (l ++ (v ∷ [])) (omega (arith, k.counted, length-append l (v ∷ [])))))

    -- at the limit it is counted
    keeps-full : limit ≤ n → Keeps limit xs (limit + 1) (l ++ (v ∷ []))
    keeps-full h = record { counted = omega (arith, k.counted, length-append l (v ∷ [])); kept = same }
      where
        same : take (min (limit + 1) limit) xs ≡ take limit (l ++ (v ∷ []))
        same =
            let a : min (limit + 1) limit ≡ min n limit = omega arith in
            rw a k.kept ∙ sym (take-append-le limit l (v ∷ []) (omega (arith, k.counted)))

  pub adds-one : length xs ≡ limit → n < limit → Adds limit (first n xs) (first (n + 1) (set xs n v)) v
  adds-one g h = record { keeps = λ l k. keeps-one l k g h }

  pub adds-full : limit ≤ n → Adds limit (first n xs) (first (limit + 1) xs) v
  adds-full h = record { keeps = λ l k. keeps-full l k h }

-- ---- in arrays with more room than the limit

-- what an array keeps, it keeps with more behind it
keeps-longer : {A : Type 0} (limit : ℕ) (xs us : List A) (n : ℕ) (l : List A) → Keeps limit xs n l → Keeps limit (xs ++ us) n l
keeps-longer limit xs us n l k =
    let e : length (take (min n limit) xs) ≡ length (take limit l) = ap length k.kept in
    let h : min n limit ≤ length xs = omega (arith, e, length-take (min n limit) xs, length-take limit l, k.counted) in
    record { counted = k.counted; kept = take-append-le (min n limit) xs us h ∙ k.kept }

-- and with no more than as many places as the limit
keeps-first : {A : Type 0} (limit : ℕ) (xs : List A) (n : ℕ) (l : List A) → Keeps limit xs n l → Keeps limit (take limit xs) n l
keeps-first limit xs n l k = record { counted = k.counted; kept = take-take (min n limit) limit xs (omega arith) ∙ k.kept }

-- what is added in the first places xs of a room is added in the room
adds-first : {A : Type 0} (limit : ℕ) (room xs ys us : List A) (n m : ℕ) (v : A) → xs ≡ take limit room → Adds limit (first n xs) (first m ys) v → Adds limit (first n room) (first m (ys ++ us)) v
adds-first limit room xs ys us n m v e a =
    record { keeps = λ l k. keeps-longer limit ys us m (l ++ (v ∷ [])) (a.keeps l (rw e (keeps-first limit room n l k))) }

-- the same of the three arrays of a record
pub holds-longer : (c : ParsedChain) (d : Chain) (bs : List DbPos) (gs : List Mod) (rs : List Ring) → Holds c d → Holds (record c { bonds = c.bonds ++ bs; groups = c.groups ++ gs; rings = c.rings ++ rs }) d
holds-longer c d bs gs rs k =
    record { prefix = k.prefix; written = k.written; carbon = k.carbon; branched = k.branched; unlocated = k.unlocated; oxygens = k.oxygens; bonds = keeps-longer max_bonds c.bonds bs c.bond_count d.bonds k.bonds; groups = keeps-longer max_groups c.groups gs c.group_count d.groups k.groups; rings = keeps-longer max_rings c.rings rs c.ring_count d.rings k.rings }

holds-first : (c : ParsedChain) (d : Chain) → Holds c d → Holds (record c { bonds = take max_bonds c.bonds; groups = take max_groups c.groups; rings = take max_rings c.rings }) d
holds-first c d k =
    record { prefix = k.prefix; written = k.written; carbon = k.carbon; branched = k.branched; unlocated = k.unlocated; oxygens = k.oxygens; bonds = keeps-first max_bonds c.bonds c.bond_count d.bonds k.bonds; groups = keeps-first max_groups c.groups c.group_count d.groups k.groups; rings = keeps-first max_rings c.rings c.ring_count d.rings k.rings }

module _ {A : Type 0} {limit : ℕ} {xs : List A} {n : ℕ} {l : List A} (k : Keeps limit xs n l) where
  -- a count over the limit is a list over the limit
  pub keeps-over : limit < n → limit < length l
  keeps-over h = omega (arith, k.counted)

  pub keeps-within : n ≤ limit → length l ≤ limit
  keeps-within h = omega (arith, k.counted)

  -- within the limit the array has the whole list
  pub keeps-count : length l ≤ limit → n ≡ length l
  keeps-count h = omega (arith, k.counted)

  pub keeps-all : length l ≤ limit → take n xs ≡ l
  keeps-all h =
      let a : min n limit ≡ n = omega (arith, k.counted) in
      (rw a at k.kept) ∙ take_all limit l h

-- ---- one feature more on a chain

pub bond-grows : (xs ys : List DbPos) (n m : ℕ) (v : DbPos) → Adds 32 (first n xs) (first m ys) v → Grows bonds_as (first n xs) (first m ys) (with_bond v)
unfolding with_bond
bond-grows xs ys n m v a = record { takes = λ x. record { holds = λ d k. record { prefix = k.prefix; written = k.written; carbon = k.carbon; branched = k.branched; unlocated = k.unlocated; oxygens = k.oxygens; bonds = a.keeps d.bonds k.bonds; groups = k.groups; rings = k.rings } } }

pub group-grows : (xs ys : List Mod) (n m : ℕ) (v : Mod) → Adds 16 (first n xs) (first m ys) v → Grows groups_as (first n xs) (first m ys) (with_group v)
unfolding with_group
group-grows xs ys n m v a = record { takes = λ x. record { holds = λ d k. record { prefix = k.prefix; written = k.written; carbon = k.carbon; branched = k.branched; unlocated = k.unlocated; oxygens = k.oxygens; bonds = k.bonds; groups = a.keeps d.groups k.groups; rings = k.rings } } }

pub ring-grows : (xs ys : List Ring) (n m : ℕ) (v : Ring) → Adds 8 (first n xs) (first m ys) v → Grows rings_as (first n xs) (first m ys) (with_ring v)
unfolding with_ring
ring-grows xs ys n m v a = record { takes = λ x. record { holds = λ d k. record { prefix = k.prefix; written = k.written; carbon = k.carbon; branched = k.branched; unlocated = k.unlocated; oxygens = k.oxygens; bonds = k.bonds; groups = k.groups; rings = a.keeps d.rings k.rings } } }

-- the same where the element is added in the first places of an array with more room
pub bond-grows-in : (room xs ys us : List DbPos) (n m : ℕ) (v : DbPos) → xs ≡ take 32 room → Adds 32 (first n xs) (first m ys) v → Grows bonds_as (first n room) (first m (ys ++ us)) (with_bond v)
bond-grows-in room xs ys us n m v e a = bond-grows room (ys ++ us) n m v (adds-first 32 room xs ys us n m v e a)

pub group-grows-in : (room xs ys us : List Mod) (n m : ℕ) (v : Mod) → xs ≡ take 16 room → Adds 16 (first n xs) (first m ys) v → Grows groups_as (first n room) (first m (ys ++ us)) (with_group v)
group-grows-in room xs ys us n m v e a = group-grows room (ys ++ us) n m v (adds-first 16 room xs ys us n m v e a)

pub ring-grows-in : (room xs ys us : List Ring) (n m : ℕ) (v : Ring) → xs ≡ take 8 room → Adds 8 (first n xs) (first m ys) v → Grows rings_as (first n room) (first m (ys ++ us)) (with_ring v)
ring-grows-in room xs ys us n m v e a = ring-grows room (ys ++ us) n m v (adds-first 8 room xs ys us n m v e a)

-- nothing on it yet, whatever the arrays are
pub holds-none : (p : ChainPrefix) (w c : ℕ) (b : Bool) (bs : List DbPos) (gs : List Mod) (rs : List Ring)
    → Holds (record { prefix = p; written = w; carbon = c; branched = b; unlocated = 0; oxygens = 0; bond_count = 0; bonds = bs; group_count = 0; groups = gs; ring_count = 0; rings = rs }) (no_features p w c b)
holds-none p w c b bs gs rs =
    record { prefix = refl; written = refl; carbon = refl; branched = refl; unlocated = refl; oxygens = refl; bonds = record { counted = refl; kept = refl }; groups = record { counted = refl; kept = refl }; rings = record { counted = refl; kept = refl } }

-- ---- the counts after a list or a segment

module _ (c : Counts) where
  pub bonds-many : 32 < c.bonds → Err OverLimit ≡ checked c
  unfolding checked
  bonds-many h = rw (lt-ltb max_bonds c.bonds h)

  pub groups-many : c.bonds ≤ 32 → 16 < c.groups → Err OverLimit ≡ checked c
  unfolding checked
  groups-many b h = rw (le-ltb max_bonds c.bonds b, lt-ltb max_groups c.groups h)

  pub rings-many : c.bonds ≤ 32 → c.groups ≤ 16 → 8 < c.rings → Err OverLimit ≡ checked c
  unfolding checked
  rings-many b g h = rw (le-ltb max_bonds c.bonds b, le-ltb max_groups c.groups g, lt-ltb max_rings c.rings h)

  pub none-many : c.bonds ≤ 32 → c.groups ≤ 16 → c.rings ≤ 8 → Ok c ≡ checked c
  unfolding checked
  none-many b g r = rw (le-ltb max_bonds c.bonds b, le-ltb max_groups c.groups g, le-ltb max_rings c.rings r)

-- a count is over its limit exactly where its list is
keeps-test : {A : Type 0} {limit : ℕ} {xs : List A} {n : ℕ} {l : List A} → Keeps limit xs n l → ltb limit n ≡ ltb limit (length l)
keeps-test {limit = limit} {n = n} {l} k = go (ltb limit n) refl
  where
    go : (b : Bool) → ltb limit n ≡ b → b ≡ ltb limit (length l)
    go true t = sym (lt-ltb limit (length l) (keeps-over k (ltb-true limit n t)))
    go false t = sym (le-ltb limit (length l) (keeps-within k (ltb-false limit n t)))

-- the counts are judged as the lists that they count
pub checked-judges : (c : Counts) → Judges c (checked c) counts_of
unfolding checked counts_of
checked-judges c =
    record {
      gives = λ x.
          record {
            stands = λ d k.
                rw (← keeps-test k.bonds, ← keeps-test k.groups, ← keeps-test k.rings)
                (go x d k (ltb max_bonds c.bonds) (ltb max_groups c.groups) (ltb max_rings c.rings));
          };
    }
  where
    go : (x : ParsedChain) (d : Chain) → Holds (counts_as x c) d → (a b e : Bool)
        → Stands (answered (counts_as x) (counted (cond a (Err OverLimit) (cond b (Err OverLimit) (cond e (Err OverLimit) (Ok c))))))
        (cond a (Refused 31) (cond b (Refused 31) (cond e (Refused 31) (Read d))))
    go x d k true b e = refl
    go x d k false true e = refl
    go x d k false false true = refl
    go x d k false false false = k

-- counts that pass are within the limits, and are those that were checked
pub checked-read : (c k : Counts) → Ok k ≡ checked c → (k ≡ c) × (k.bonds ≤ max_bonds)
unfolding checked
checked-read c k e = go (ltb max_bonds c.bonds) (ltb max_groups c.groups) (ltb max_rings c.rings) refl e
  where
    go : (a b r : Bool) → ltb max_bonds c.bonds ≡ a → Ok k ≡ cond a (Err OverLimit) (cond b (Err OverLimit) (cond r (Err OverLimit) (Ok c))) → (k ≡ c) × (k.bonds ≤ max_bonds)
    go true b r t e = let z : ◌≡◌ {A = ℕ} 0 1 = cc in absurd (omega arith)
    go false true r t e = let z : ◌≡◌ {A = ℕ} 0 1 = cc in absurd (omega arith)
    go false false true t e = let z : ◌≡◌ {A = ℕ} 0 1 = cc in absurd (omega arith)
    go false false false t e = let z : k ≡ c = cc in (z, rw z (ltb-false max_bonds c.bonds t))

-- ---- how answers are put together, of whole records and of their parts

-- what was taken is read
gives-read : {c r : ParsedChain} {f : Chain → Chain} → Takes c r f → Gives c (Has r) (λ d. Read (f d))
gives-read t = record { stands = λ d k. t.holds d k }

-- the same, said by another definition
gives_same : {c : ParsedChain} {r : Answer ParsedChain} {f g : Chain → Outcome} → Gives c r f → ((d : Chain) → Holds c d → f d ≡ g d) → Gives c r g
gives_same {r = r} w e = record { stands = λ d k. rw (e d k) at (w.stands d k) }

-- a record that was read stands for a chain, which it holds
pub stands_read : (c : ParsedChain) (o : Outcome) → Stands (Has c) o → (d : Chain) × (o ≡ Read d) × Holds c d
stands_read c (Read d) w = (d, refl, w)
stands_read c (Refused n) w = absurd w

-- a number stands for its refusal
pub stands-refused : (n : ℕ) (o : Outcome) → Stands (Refuses n) o → o ≡ Refused n
stands-refused n (Read d) w = absurd w
stands-refused n (Refused m) w = ap Refused (sym w)

-- no refusal, and then what follows
stands-then : (c : ParsedChain) (q : Answer ParsedChain) (o : Outcome) (g : Chain → Outcome) → Stands (Has c) o → Gives c q g → Stands q (and_then o g)
stands-then c q (Read d) g w v = v.stands d w
stands-then c q (Refused n) g w v = absurd w

-- what `?` passes on is the refusal that it met
pub err_kept : {T : Type 0} (r : Result T Refusal) (m : Refusal) → IsErrAnd r (λ (y : Refusal). y ≡ m) → r ≡ Err m
err_kept (Ok x) m h = absurd h
err_kept (Err y) m h = ap Err h

-- ---- the same of parts

module _ {S : Type 0} {put : ParsedChain → S → ParsedChain} where
  -- nothing is done
  pub fills-none : (c : S) → Fills put c (Has c) Read
  fills-none c = record { gives = λ x. record { stands = λ d k. k } }

  -- a refusal by the number by which the definition refuses
  pub fills-refused : (n : ℕ) (c : S) (f : Chain → Outcome) → ((x : ParsedChain) (d : Chain) → Holds (put x c) d → f d ≡ Refused n) → Fills put c (Refuses n) f
  fills-refused n c f e = record { gives = λ x. record { stands = λ d k. rw (e x d k) refl } }

  pub fills-read : {c e : S} {f : Chain → Chain} → Grows put c e f → Fills put c (Has e) (λ d. Read (f d))
  fills-read t = record { gives = λ x. gives-read (t.takes x) }

  pub fills_same : {c : S} {r : Answer S} {f g : Chain → Outcome} → Fills put c r f → ((x : ParsedChain) (d : Chain) → Holds (put x c) d → f d ≡ g d) → Fills put c r g
  fills_same w e = record { gives = λ x. gives_same (w.gives x) (e x) }

  -- a refusal stays, whatever follows
  pub fills-stop : {c : S} {n : ℕ} {f : Chain → Outcome} (g : Chain → Outcome) → Fills put c (Refuses n) f → Fills put c (Refuses n) (λ d. and_then (f d) g)
  fills-stop {n = n} {f} g w = record { gives = λ x. record { stands = λ d k. rw (stands-refused n (f d) ((w.gives x).stands d k)) refl } }

  pub fills-then : {c e : S} {q : Answer S} {f g : Chain → Outcome} → Fills put c (Has e) f → Fills put e q g → Fills put c q (λ d. and_then (f d) g)
  fills-then {e = e} {q} {f} {g} w v = record { gives = λ x. record { stands = λ d k. stands-then (put x e) (answered (put x) q) (f d) g ((w.gives x).stands d k) (v.gives x) } }

  -- whatever the number of carbons
  pub fills-on : {c : S} {r : Answer S} {f : Chain → Outcome} (n : ℕ) → Fills put c r f → Fills (on n put) c r f
  fills-on n w = record { gives = λ x. w.gives (carbon_as x n) }

-- what is done to one array, among several

pub ring-ungrouped : (k : Counts) (m : ℕ) (bs : List DbPos) (gs : List Mod) (rs ys : List Ring) (f : Chain → Chain) → Grows rings_as (first k.rings rs) (first m ys) f
    → Grows ungrouped_as (gather k bs gs rs) (gather (record { bonds = k.bonds; groups = k.groups; rings = m; oxygens = k.oxygens }) bs gs ys) f
ring-ungrouped k m bs gs rs ys f w = record { takes = λ x. w.takes (ungrouped_as x (gather k bs gs rs)) }

module _ (k : Counts) (bs : List DbPos) (gs : List Mod) (rs : List Ring) (f : Chain → Outcome) where
  pub bonds-ungrouped : (m : ℕ) (ys : List DbPos) → Fills bonds_as (first k.bonds bs) (Has (first m ys)) f
      → Fills ungrouped_as (gather k bs gs rs) (Has (gather (record { bonds = m; groups = k.groups; rings = k.rings; oxygens = k.oxygens }) ys gs rs)) f
  bonds-ungrouped m ys w = record { gives = λ x. w.gives (ungrouped_as x (gather k bs gs rs)) }

  pub bonds-ungrouped-refused : (n : ℕ) → Fills bonds_as (first k.bonds bs) (Refuses n) f → Fills ungrouped_as (gather k bs gs rs) (Refuses n) f
  bonds-ungrouped-refused n w = record { gives = λ x. w.gives (ungrouped_as x (gather k bs gs rs)) }

  pub groups-unbonded : (m : ℕ) (ys : List Mod) → Fills groups_as (first k.groups gs) (Has (first m ys)) f
      → Fills unbonded_as (gather k bs gs rs) (Has (gather (record { bonds = k.bonds; groups = m; rings = k.rings; oxygens = k.oxygens }) bs ys rs)) f
  groups-unbonded m ys w = record { gives = λ x. w.gives (unbonded_as x (gather k bs gs rs)) }

  pub groups-unbonded-refused : (n : ℕ) → Fills groups_as (first k.groups gs) (Refuses n) f → Fills unbonded_as (gather k bs gs rs) (Refuses n) f
  groups-unbonded-refused n w = record { gives = λ x. w.gives (unbonded_as x (gather k bs gs rs)) }

module _ (k : Counts) (m : ℕ) (bs : List DbPos) (gs : List Mod) (rs : List Ring) (f : Chain → Chain) where
  pub ring-unbonded : (ys : List Ring) → Grows rings_as (first k.rings rs) (first m ys) f → Grows unbonded_as (gather k bs gs rs) (gather (record { bonds = k.bonds; groups = k.groups; rings = m; oxygens = k.oxygens }) bs gs ys) f
  ring-unbonded ys w = record { takes = λ x. w.takes (unbonded_as x (gather k bs gs rs)) }

  pub group-unbonded : (ys : List Mod) → Grows groups_as (first k.groups gs) (first m ys) f → Grows unbonded_as (gather k bs gs rs) (gather (record { bonds = k.bonds; groups = m; rings = k.rings; oxygens = k.oxygens }) bs ys rs) f
  group-unbonded ys w = record { takes = λ x. w.takes (unbonded_as x (gather k bs gs rs)) }

-- the last oxygen count
pub oxygens-set : (k : Counts) (n : ℕ) (bs : List DbPos) (gs : List Mod) (rs : List Ring) → Grows unbonded_as (gather k bs gs rs) (gather (record { bonds = k.bonds; groups = k.groups; rings = k.rings; oxygens = n }) bs gs rs) (with_oxygens n)
unfolding with_oxygens
oxygens-set k n bs gs rs =
    record { takes = λ x. record { holds = λ d u. record { prefix = u.prefix; written = u.written; carbon = u.carbon; branched = u.branched; unlocated = u.unlocated; oxygens = refl; bonds = u.bonds; groups = u.groups; rings = u.rings } } }

-- what is done to several arrays, among all

module _ (carbon : ℕ) (k : Counts) (bs : List DbPos) (gs : List Mod) (rs : List Ring) (r : Result Counts Refusal) (f : Chain → Outcome) where
  pub ungrouped-all : (ys : List DbPos) (zs : List Ring) → Collects (on carbon ungrouped_as) (gather k bs [] rs) r ys [] zs f → Collects (on carbon all_as) (gather k bs gs rs) r ys gs zs f
  ungrouped-all ys zs = go r
    where
      go : (r : Result Counts Refusal) → Collects (on carbon ungrouped_as) (gather k bs [] rs) r ys [] zs f → Collects (on carbon all_as) (gather k bs gs rs) r ys gs zs f
      go (Ok j) w = record { gives = λ x. w.gives (groups_as x (first 0 gs)) }
      go (Err n) w = record { gives = λ x. w.gives (groups_as x (first 0 gs)) }

  pub unbonded-all : (hs : List Mod) (zs : List Ring) → Collects (on carbon unbonded_as) (gather k [] gs rs) r [] hs zs f → Collects (on carbon all_as) (gather k bs gs rs) r bs hs zs f
  unbonded-all hs zs = go r
    where
      go : (r : Result Counts Refusal) → Collects (on carbon unbonded_as) (gather k [] gs rs) r [] hs zs f → Collects (on carbon all_as) (gather k bs gs rs) r bs hs zs f
      go (Ok j) w = record { gives = λ x. w.gives (bonds_as x (first 0 bs)) }
      go (Err n) w = record { gives = λ x. w.gives (bonds_as x (first 0 bs)) }

  -- counts alone, among all
  pub counts_all : Judges k r f → Collects (on carbon all_as) (gather k bs gs rs) r bs gs rs f
  counts_all = go r
    where
      go : (r : Result Counts Refusal) → Judges k r f → Collects (on carbon all_as) (gather k bs gs rs) r bs gs rs f
      go (Ok j) w = record { gives = λ x. w.gives (all_as (carbon_as x carbon) (gather k bs gs rs)) }
      go (Err n) w = record { gives = λ x. w.gives (all_as (carbon_as x carbon) (gather k bs gs rs)) }

  -- what is collected in the first places of each array is collected in the arrays
  pub first-all : (xs ys us : List DbPos) (hs js vs : List Mod) (zs ks ws : List Ring) → xs ≡ take 32 bs → hs ≡ take 16 gs → zs ≡ take 8 rs
      → Collects (on carbon all_as) (gather k xs hs zs) r ys js ks f → Collects (on carbon all_as) (gather k bs gs rs) r (ys ++ us) (js ++ vs) (ks ++ ws) f
  first-all xs ys us hs js vs zs ks ws e g h w =
      record { gives = λ x. record { stands = λ d u. go x r (f d) ((w.gives x).stands d (rw (e, g, h) (holds-first (on carbon all_as x (gather k bs gs rs)) d u))) } }
    where
      go : (x : ParsedChain) (r : Result Counts Refusal) (o : Outcome) → Stands (answered (on carbon all_as x) (collected r ys js ks)) o
          → Stands (answered (on carbon all_as x) (collected r (ys ++ us) (js ++ vs) (ks ++ ws))) o
      go x (Ok j) (Read d) u = holds-longer (on carbon all_as x (gather j ys js ks)) d us vs ws u
      go x (Ok j) (Refused n) u = u
      go x (Err n) o u = u
