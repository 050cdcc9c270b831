-- Laws of a chain as it is drawn: what each step of `drawn_as` makes of the lists.
-- Assumes nothing.
use Prim.Native.Nat.{ℕ, zero, suc, ◌+◌, ◌<◌, ◌≤◌, min}
use native.Mathlib.Numerals.{add-one}
use native.Mathlib.Omega.{arith}
use mathlib.Core.Path.{◌≡◌, refl, sym, ap, ◌∙◌}
use mathlib.Core.Bool.{Bool, true, false, cond, not}
use mathlib.Core.List.{List, [], ◌∷◌, ◌++◌, append_assoc, append-nil}
use lib.Dec.{eqb}
use lib.ListN.{length, take, drop, set, get_or, length-append, length-take, length-set}
use lib.Seq.{take-suc, take-suc-set, take-set-le, take_all, take-append-add, take-take}
use borrow.Author.Tests.{eq-eqb, ne_eqb}
use Rattle.chain_record.specs.declared.plain.ChainPrefix.{ChainPrefix}
use Rattle.chain_record.specs.declared.plain.ChainPrefix.TheVariants as prefix
use Rattle.chain_record.specs.declared.plain.DbPos.{DbPos}
use Rattle.chain_record.specs.declared.plain.Mod.{Mod}
use Rattle.chain_record.specs.plain.Chain.{Chain, Within, max_bonds, max_groups, max_rings}
use Rattle.chain_record.specs.declared.parsed.ParsedChain.{ParsedChain}
use Rattle.chain_record.specs.parsed.Parsed.{Keeps, Holds}
use Rattle.chain_rules.specs.declared.chain.Role.{Role}
use Rattle.chain_rules.specs.declared.chain.Role.TheVariants.{Slot, Acyl, Base}
use Rattle.chain_rules.specs.chain.Lists.{any_of, only}
use Rattle.chain_rules.specs.chain.Features.{alkenyl_bond, doubles, located, unlocated, oxygen_at, triol_oxygen, base_oxygens, groups_on, floating}
use Rattle.group_table.specs.groups.Groups.{hydroxy}
use Rattle.drawn_chain.specs.drawable.Drawn.{Drawn, DrawsSome, bonds_in, groups_in, rings_in, no_bond, no_group, Length, group_at, chain_of}
use Rattle.drawn_chain.proofs.drawable.Through.{only-skip, only-keep, only-all}
use Rattle.drawn_chain.proofs.drawable.Lists.{length-only, take-front}
use Rattle.drawn_chain.proofs.drawable.Held.{held_more, held-full}
use Rattle.drawn_chain.specs.fitted.Fitted.{alkenyl, Parts, More, Pieces, pieces_as, Fits}

-- ---- a chain that a record holds, within its limits, is the one that its arrays say

kept : {A : Type 0} (limit : ℕ) (xs : List A) (n : ℕ) (l : List A) → Keeps limit xs n l → length l ≤ limit → take (min n limit) xs ≡ l
kept limit xs n l k h = k.kept ∙ take_all limit l h

pub held-chain : {c : ParsedChain} {d : Chain} → Holds c d → Within d → chain_of c ≡ d
unfolding chain_of
held-chain {c} {d} k w =
    simp (k.prefix, k.written, k.carbon, k.branched, k.unlocated, k.oxygens, kept max_bonds c.bonds c.bond_count d.bonds k.bonds w.bonds, kept max_groups c.groups c.group_count d.groups k.groups w.groups, kept max_rings c.rings c.ring_count d.rings k.rings w.rings)

-- what is drawn of every chain with some pieces is drawn of some chain
pub fits-some : {r : Role} {p : Pieces} {x : Drawn} → Fits r p x → DrawsSome x
fits-some {r} {p} f =
    let bare : Chain = record { prefix = p.prefix; written = 0; carbon = 0; branched = false; unlocated = 0; oxygens = 0; bonds = []; groups = []; rings = [] } in
    record { role = r; chain = pieces_as bare p; draws = f.draws bare }

-- ---- how many double bonds a prefix adds

pub adds-as : (p q : ChainPrefix) (n : ℕ) → n ≡ length (alkenyl_bond Slot q) → p ≡ q → n ≡ length (alkenyl_bond Slot p)
adds-as p q n e h = rw h e

pub adds-acyl : 0 ≡ length (alkenyl_bond Slot prefix.Acyl)
unfolding alkenyl_bond
adds-acyl = refl

pub adds-alkyl : 0 ≡ length (alkenyl_bond Slot prefix.EtherAlkyl)
unfolding alkenyl_bond
adds-alkyl = refl

pub adds-alkenyl : 1 ≡ length (alkenyl_bond Slot prefix.EtherAlkenyl)
unfolding alkenyl_bond
adds-alkenyl = refl

pub adds-diol : 0 ≡ length (alkenyl_bond Slot prefix.SphingoidD)
unfolding alkenyl_bond
adds-diol = refl

pub adds-triol : 0 ≡ length (alkenyl_bond Slot prefix.SphingoidT)
unfolding alkenyl_bond
adds-triol = refl

-- ---- one element more in an array with a count

more : {A : Type 0} (ys : List A) (j : ℕ) (v : A) → j < length ys → take (j + 1) (set ys j v) ≡ take j ys ++ (v ∷ [])
more ys j v h = rw (add-one j) (take-suc-set ys j v h)

-- ---- the double bonds: that of `P-` first, which is written over where it is not added

alkenyl-front : (r : Role) (p : ChainPrefix) → take (length (alkenyl_bond r p)) (alkenyl ∷ []) ≡ alkenyl_bond r p
unfolding alkenyl_bond
alkenyl-front Base p = refl
alkenyl-front Slot prefix.Acyl = refl
alkenyl-front Slot prefix.EtherAlkyl = refl
alkenyl-front Slot prefix.EtherAlkenyl = refl
alkenyl-front Slot prefix.SphingoidD = refl
alkenyl-front Slot prefix.SphingoidT = refl
alkenyl-front Acyl prefix.Acyl = refl
alkenyl-front Acyl prefix.EtherAlkyl = refl
alkenyl-front Acyl prefix.EtherAlkenyl = refl
alkenyl-front Acyl prefix.SphingoidD = refl
alkenyl-front Acyl prefix.SphingoidT = refl

alkenyl-short : (r : Role) (p : ChainPrefix) → length (alkenyl_bond r p) ≤ 1
unfolding alkenyl_bond
alkenyl-short Base p = omega arith
alkenyl-short Slot prefix.Acyl = omega arith
alkenyl-short Slot prefix.EtherAlkyl = omega arith
alkenyl-short Slot prefix.EtherAlkenyl = omega arith
alkenyl-short Slot prefix.SphingoidD = omega arith
alkenyl-short Slot prefix.SphingoidT = omega arith
alkenyl-short Acyl prefix.Acyl = omega arith
alkenyl-short Acyl prefix.EtherAlkyl = omega arith
alkenyl-short Acyl prefix.EtherAlkenyl = omega arith
alkenyl-short Acyl prefix.SphingoidD = omega arith
alkenyl-short Acyl prefix.SphingoidT = omega arith

pub adds-few : (r : Role) (p : ChainPrefix) (k : ℕ) → k ≡ length (alkenyl_bond r p) → k ≤ 1
adds-few r p k e = rw e (alkenyl-short r p)

bonds-none : (k : ℕ) (xs ys : List DbPos) → length ys ≡ 33 → k ≤ 1 → bonds_in (k + 0) (set ys 0 alkenyl) ≡ take k (alkenyl ∷ []) ++ bonds_in 0 xs
bonds-none zero xs ys l h = refl
bonds-none (suc zero) xs ys l h = rw (take-suc-set ys 0 alkenyl (omega arith))
bonds-none (suc (suc k)) xs ys l h = absurd (omega arith)

-- one bond more of those in the lent array, behind a
pub bonds-next : (a xs ys : List DbPos) (k i n : ℕ) → 32 ≤ length xs → length ys ≡ 33 → k ≤ 1 → n ≤ 32 → bonds_in (k + i) ys ≡ a ++ bonds_in i xs → i < n
    → bonds_in (k + (i + 1)) (set ys (k + i) (get_or xs i no_bond)) ≡ a ++ bonds_in (i + 1) xs
bonds-next a xs ys k i n s t j m v h =
    let e : k + (i + 1) ≡ k + i + 1 = omega arith in
    let w : bonds_in (i + 1) xs ≡ bonds_in i xs ++ (get_or xs i no_bond ∷ []) = rw (add-one i) (take-suc xs i no_bond (omega arith)) in
    rw (e, more ys (k + i) (get_or xs i no_bond) (omega arith), v, w, append_assoc)

-- the first two, which are written in any case
pub bonds-two : (k : ℕ) (xs ys : List DbPos) → 32 ≤ length xs → length ys ≡ 33 → k ≤ 1
    → bonds_in (k + 2) (set (set (set ys 0 alkenyl) k (get_or xs 0 no_bond)) (k + 1) (get_or xs 1 no_bond)) ≡ take k (alkenyl ∷ []) ++ bonds_in 2 xs
bonds-two k xs ys s t h =
    let z : k + 0 ≡ k = omega arith in
    let a = take k (alkenyl ∷ []) in
    let none : bonds_in (k + 0) (set ys 0 alkenyl) ≡ a ++ bonds_in 0 xs = bonds-none k xs ys t h in
    let one : bonds_in (k + 1) (set (set ys 0 alkenyl) k (get_or xs 0 no_bond)) ≡ a ++ bonds_in 1 xs =
    rw z at (bonds-next a xs (set ys 0 alkenyl) k 0 32 s (simp length-set t) h (omega arith) none (omega arith)) in
    bonds-next a xs (set (set ys 0 alkenyl) k (get_or xs 0 no_bond)) k 1 32 s (simp length-set t) h (omega arith) one (omega arith)

front_long : (k : ℕ) → k ≤ 1 → length (take k (alkenyl ∷ [])) ≡ k
front_long k h = omega (arith, length-take k (alkenyl ∷ []))

-- of more than count, those that count
pub bonds-all : (xs ys : List DbPos) (k i n : ℕ) → k ≤ 1 → bonds_in (k + i) ys ≡ take k (alkenyl ∷ []) ++ bonds_in i xs → n ≤ i → bonds_in (k + n) ys ≡ take k (alkenyl ∷ []) ++ bonds_in n xs
bonds-all xs ys k i n h v g =
    let a = take k (alkenyl ∷ []) in
    let seam : take (k + n) (a ++ bonds_in i xs) ≡ a ++ take n (bonds_in i xs) = ap (λ (j : ℕ). take (j + n) (a ++ bonds_in i xs)) (sym (front_long k h)) ∙ take-append-add a (bonds_in i xs) n in
    sym (take-take (k + n) (k + i) ys (omega arith)) ∙ (ap (take (k + n)) v ∙ (seam ∙ ap (λ (l : List DbPos). a ++ l) (take-take n i xs g)))

-- ---- groups with a position, and those without: the loop over the groups of xs, of which so many are kept in ys

module _ (xs : List Mod) (i : ℕ) where
  whole : Length (length xs) xs (length xs)
  whole = record { is = refl; fits = omega arith }

  module _ (g : Mod) (e : g ≡ get_or xs i no_group) (h : i < length xs) where
    module _ (l : List Mod) where
      pub located-pass : l ++ located (drop i xs) ≡ located xs → g.pos ≡ 0 → l ++ located (drop (i + 1) xs) ≡ located xs
      unfolding located
      located-pass v z = only-skip (λ g. not (eqb g.pos 0)) (length xs) xs (length xs) i no_group g l whole v h e (rw (eq-eqb g.pos 0 z))

      pub floating-pass : l ++ unlocated (drop i xs) ≡ unlocated xs → (g.pos ≡ 0 → ⊥) → l ++ unlocated (drop (i + 1) xs) ≡ unlocated xs
      unfolding unlocated
      floating-pass v z = only-skip (λ g. eqb g.pos 0) (length xs) xs (length xs) i no_group g l whole v h e (ne_eqb g.pos 0 z)

    module _ (ys : List Mod) (j : ℕ) (s : length ys ≡ 18) (k : length xs ≤ 16) (b : j ≤ i) where
      pub located-put : groups_in j ys ++ located (drop i xs) ≡ located xs → (g.pos ≡ 0 → ⊥) → groups_in (j + 1) (set ys j g) ++ located (drop (i + 1) xs) ≡ located xs
      unfolding located
      located-put v z =
          only-keep (λ g. not (eqb g.pos 0)) (length xs) xs (length xs) i no_group g (groups_in j ys) whole v h e (groups_in (j + 1) (set ys j g)) (rw (ne_eqb g.pos 0 z)) (more ys j g (omega arith))

      pub floating-put : groups_in j ys ++ unlocated (drop i xs) ≡ unlocated xs → g.pos ≡ 0 → groups_in (j + 1) (set ys j g) ++ unlocated (drop (i + 1) xs) ≡ unlocated xs
      unfolding unlocated
      floating-put v z =
          only-keep (λ g. eqb g.pos 0) (length xs) xs (length xs) i no_group g (groups_in j ys) whole v h e (groups_in (j + 1) (set ys j g)) (eq-eqb g.pos 0 z) (more ys j g (omega arith))

  module _ (ys : List Mod) (j : ℕ) (h : length xs ≤ i) where
    pub located_end : j ≤ i → i ≤ length xs → length xs ≤ 16 → length ys ≡ 18 → groups_in j ys ++ located (drop i xs) ≡ located xs → Parts (located xs) j ys
    unfolding located
    located_end b t k s v =
        let e : groups_in j ys ≡ located xs = only-all (λ g. not (eqb g.pos 0)) (length xs) xs (length xs) i (groups_in j ys) whole v h in
        record { groups = e; many = omega (arith, ap length e, length-take j ys) }

    pub floating-end : groups_in j ys ++ unlocated (drop i xs) ≡ unlocated xs → groups_in j ys ≡ unlocated xs
    unfolding unlocated
    floating-end v = only-all (λ g. eqb g.pos 0) (length xs) xs (length xs) i (groups_in j ys) whole v h

pub counted-few : (n : ℕ) (xs : List Mod) → n ≤ 16 → length (groups_in n xs) ≤ 16
counted-few n xs h = omega (arith, length-take n xs)

-- where all have a position none is without
located-all : (l : List Mod) → length (located l) ≡ length l → unlocated l ≡ []
unfolding located unlocated only
located-all [] e = refl
located-all (g ∷ l) e = go (eqb g.pos 0) e (located-all l)
  where
    go : (b : Bool) → length (cond {A = List Mod} (not b) (g ∷ located l) (located l)) ≡ suc (length l) → (length (located l) ≡ length l → unlocated l ≡ [])
        → cond {A = List Mod} b (g ∷ unlocated l) (unlocated l) ≡ []
    go true f k = absurd (omega (arith, length-only (λ g. not (eqb g.pos 0)) l))
    go false f k = k (omega arith)

pub none_left : (xs ys : List Mod) (n k : ℕ) → n ≤ length xs → k ≡ length (located (groups_in n xs)) → k ≡ n → groups_in 0 ys ≡ unlocated (groups_in n xs)
none_left xs ys n k f e h = sym (located-all (groups_in n xs) (omega (arith, length-take n xs)))

-- ---- one group more in a list

module _ (xs : List Mod) (n : ℕ) (s : length xs ≡ 18) where
  pub one_more : (g : Mod) → n < 18 → More (g ∷ []) n xs (n + 1) (set xs n g)
  one_more g h = record { groups = held_more xs n 18 s g h; kept = take-set-le n xs n g (omega arith) }

  pub one-full : (g : Mod) → 18 ≤ n → More (g ∷ []) n xs n xs
  one-full g h = record { groups = held-full xs n 18 s g h; kept = refl }

  -- no more than there is room for
  groups-fit : length (groups_in n xs) ≤ 18
  groups-fit = omega (arith, length-take n xs)

  pub oxygen-none : (w : ℕ) (p : ℕ) (t : Bool) {ts : List Mod} → ts ≡ groups_in w xs → t ≡ any_of (group_at p) ts → t ≡ true → More (oxygen_at p (groups_in w xs)) n xs n xs
  unfolding oxygen_at
  oxygen-none w p t s e f = record { groups = rw (sym (rw s at e) ∙ f, append-nil (groups_in n xs)) (sym (take_all 18 (groups_in n xs) groups-fit)); kept = refl }

  pub oxygen-one : (w m : ℕ) (ys : List Mod) (p : ℕ) (t : Bool) {ts : List Mod} → ts ≡ groups_in w xs → t ≡ any_of (group_at p) ts → t ≡ false → More (record { pos = p; row = 11 } ∷ []) n xs m ys
      → More (oxygen_at p (groups_in w xs)) n xs m ys
  unfolding oxygen_at
  oxygen-one w m ys p t s e f h = rw (sym (rw s at e) ∙ f) h

-- ---- the groups on the chain

module _ (p : ChainPrefix) (xs ys : List Mod) (n k : ℕ) (d : More (oxygen_at 3 (groups_in n xs)) n xs k ys) where
  -- an O at 3 alone, where the prefix is not t
  pub diol-groups : (q : ChainPrefix) → ((gs : List Mod) → triol_oxygen q gs ≡ []) → p ≡ q → groups_in k ys ≡ take 18 (groups_in n xs ++ base_oxygens Base p (groups_in n xs))
  unfolding base_oxygens
  diol-groups q z h = rw (h, z (groups_in n xs), append-nil (oxygen_at 3 (groups_in n xs))) d.groups

  -- and at 4, where it is
  pub triol-groups : (m : ℕ) (zs : List Mod) → p ≡ prefix.SphingoidT → More (oxygen_at 4 (groups_in n ys)) k ys m zs → groups_in m zs ≡ take 18 (groups_in n xs ++ base_oxygens Base p (groups_in n xs))
  unfolding base_oxygens triol_oxygen
  triol-groups m zs h e =
      let f : groups_in m zs ≡ take 18 (groups_in k ys ++ oxygen_at 4 (groups_in n xs)) = rw d.kept at e.groups in
      f ∙ rw (d.groups, h, take-front 18 (groups_in n xs ++ oxygen_at 3 (groups_in n xs)) (oxygen_at 4 (groups_in n xs)), append_assoc)

pub no-triol-acyl : (gs : List Mod) → triol_oxygen prefix.Acyl gs ≡ []
unfolding triol_oxygen
no-triol-acyl gs = refl

pub no-triol-alkyl : (gs : List Mod) → triol_oxygen prefix.EtherAlkyl gs ≡ []
unfolding triol_oxygen
no-triol-alkyl gs = refl

pub no-triol-alkenyl : (gs : List Mod) → triol_oxygen prefix.EtherAlkenyl gs ≡ []
unfolding triol_oxygen
no-triol-alkenyl gs = refl

pub no-triol-diol : (gs : List Mod) → triol_oxygen prefix.SphingoidD gs ≡ []
unfolding triol_oxygen
no-triol-diol gs = refl

-- a chain that is no base has no O's of its own
pub plain-groups : (p : ChainPrefix) (n : ℕ) (xs w : List Mod) → length w ≤ 18 → groups_in n xs ≡ w → groups_in n xs ≡ take 18 (w ++ base_oxygens Slot p w)
unfolding base_oxygens
plain-groups p n xs w l e = e ∙ rw (append-nil w) (sym (take_all 18 w l))

pub base-drawn : (p : ChainPrefix) (n m : ℕ) (xs ys w : List Mod) → Parts w n xs → groups_in m ys ≡ take 18 (groups_in n xs ++ base_oxygens Base p (groups_in n xs))
    → groups_in m ys ≡ take 18 (w ++ base_oxygens Base p w)
base-drawn p n m xs ys w e f = rw (← e.groups) f

-- ---- the lists of the whole

one-short : (b : Bool) (g : Mod) → length (cond {A = List Mod} b [] (g ∷ [])) ≤ 1
one-short true g = omega arith
one-short false g = omega arith

oxygen-short : (p : ℕ) (gs : List Mod) → length (oxygen_at p gs) ≤ 1
unfolding oxygen_at
oxygen-short p gs = one-short (any_of (group_at p) gs) (record { pos = p; row = hydroxy })

triol-short : (p : ChainPrefix) (gs : List Mod) → length (triol_oxygen p gs) ≤ 1
unfolding triol_oxygen
triol-short prefix.Acyl gs = omega arith
triol-short prefix.EtherAlkyl gs = omega arith
triol-short prefix.EtherAlkenyl gs = omega arith
triol-short prefix.SphingoidD gs = omega arith
triol-short prefix.SphingoidT gs = oxygen-short 4 gs

base_short : (r : Role) (p : ChainPrefix) (gs : List Mod) → length (base_oxygens r p gs) ≤ 2
unfolding base_oxygens
base_short Slot p gs = omega arith
base_short Acyl p gs = omega arith
base_short Base p gs = omega (arith, oxygen-short 3 gs, triol-short p gs, length-append (oxygen_at 3 gs) (triol_oxygen p gs))

-- no more groups have a position than are counted
pub located-short : (xs : List Mod) (n m : ℕ) → n ≡ min m 16 → length (located (groups_in n xs)) ≤ 16
unfolding located
located-short xs n m e = omega (arith, length-only (λ g. not (eqb g.pos 0)) (groups_in n xs), length-take n xs)

-- and no more have none
pub floating-short : (xs : List Mod) (n m : ℕ) → n ≡ min m 16 → length (unlocated (groups_in n xs)) ≤ 16
unfolding unlocated
floating-short xs n m e = omega (arith, length-only (λ g. eqb g.pos 0) (groups_in n xs), length-take n xs)

pub bonds-drawn : (r : Role) (d : Chain) (p : Pieces) (k n : ℕ) (ys : List DbPos) → k ≡ length (alkenyl_bond r p.prefix) → n ≡ min p.bond_count 32
    → bonds_in (k + n) ys ≡ take k (alkenyl ∷ []) ++ bonds_in n p.bonds → bonds_in (k + n) ys ≡ doubles r (pieces_as d p)
unfolding doubles
bonds-drawn r d p k n ys e f h = h ∙ rw (e, alkenyl-front r p.prefix, f)

pub groups-drawn : (r : Role) (d : Chain) (p : Pieces) (n : ℕ) (k m : List Mod) → n ≡ min p.group_count 16 → k ≡ located (groups_in n p.groups)
    → m ≡ take 18 (k ++ base_oxygens r p.prefix k) → m ≡ groups_on r (pieces_as d p)
unfolding groups_on
groups-drawn r d p n k m e i h =
    let g : k ≡ located (pieces_as d p).groups = rw e at i in
    h
    ∙ rw g (take_all 18 _ (omega (arith, length-append (located (pieces_as d p).groups) (base_oxygens r p.prefix (located (pieces_as d p).groups)), located-short p.groups (min p.group_count max_groups) p.group_count refl, base_short r p.prefix (located (pieces_as d p).groups))))

pub floats-drawn : (d : Chain) (p : Pieces) (n : ℕ) (m : List Mod) → n ≡ min p.group_count 16 → m ≡ unlocated (groups_in n p.groups) → m ≡ floating (pieces_as d p)
unfolding floating
floats-drawn d p n m e i = rw e at i

pub rings-drawn : (d : Chain) (p : Pieces) (n : ℕ) → n ≡ min p.ring_count 8 → rings_in n p.rings ≡ (pieces_as d p).rings
rings-drawn d p n e = rw e
