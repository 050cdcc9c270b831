-- Laws of a chain's tokens: the bonds by carbon are those of the drawing, and a carbon that is not busy carries nothing.
-- Assumes nothing.
use Prim.Native.Nat.{ℕ, zero, suc, ◌+◌, ◌-◌, ◌≤◌, ◌<◌, min, max}
use native.Mathlib.Nat.{zero-add}
use native.Mathlib.Omega.{arith}
use mathlib.Core.Path.{◌≡◌, refl, sym, ap, ◌∙◌}
use mathlib.Core.Bool.{Bool, true, false, cond, ◌||◌, ◌&&◌}
use mathlib.Core.List.{List, []}
use lib.Dec.{eqb, ltb, leb}
use lib.ListN.{length, take, get_or, set, replicate}
use lib.Seq.{take-set-lt, get_or-take, ext_get_or, length-take-le}
use borrow.Author.Tests.{ltb-true, leb-true, leb-false}
use Rattle.chain_record.specs.declared.plain.Geometry.{Geometry}
use Rattle.chain_record.specs.declared.plain.Geometry.TheVariants.{Unstated, Cis, Trans}
use Rattle.chain_record.specs.declared.plain.DbPos.{DbPos}
use Rattle.chain_record.specs.declared.plain.Mod.{Mod}
use Rattle.chain_record.specs.declared.plain.Ring.{Ring}
use Rattle.chain_rules.specs.chain.Lists.{any_of, values_from}
use Rattle.chain_rules.specs.chain.Features.{literal_end}
use Rattle.chain_rules.specs.chain.Bonds.{open_mark, opens_down, close_mark, close_byte, mark_bond, mark_from, geometry_at, plain_bond, plain_bonds}
use Rattle.drawn_chain.specs.declared.drawable.Shape.{Shape}
use Rattle.drawn_chain.specs.declared.rooms.Lists.{Lists}
use Rattle.drawn_chain.specs.drawable.Drawn.{Drawn, drawn_of, bonds_drawn, groups_drawn, rings_drawn, SaysUpTo}
use Rattle.drawn_chain.proofs.reach.Ends.{literal-whole}
use Rattle.carbons.specs.Tokens.{tokens, TokensOf, Grouped}
use Rattle.carbons.specs.ByCarbon.{double_at, bridge_at, ring_on, carbonyl_on, load_at, Noughts, SetWhere, Added, DoublesPut, PlainBonds, BondsBy, Busy}
use Rattle.carbons.proofs.BondLaws.{where-none, where-one, length-marks}
use Rattle.carbons.proofs.Loads.{past, load_is, load-few}

-- ---- values

pub length-values : {A : Type 0} (f : ℕ → A) (k n : ℕ) → length (values_from f k n) ≡ n
unfolding values_from
length-values f k zero = refl
length-values f k (suc n) = ap suc (length-values f (suc k) n)

pub values-at : {A : Type 0} (f : ℕ → A) (k n i : ℕ) (d : A) → i < n → get_or (values_from f k n) i d ≡ f (k + i)
unfolding values_from
values-at f k zero i d h = absurd (omega arith)
values-at f k (suc n) zero d h =
    let z : k + 0 ≡ k = omega arith in
    rw z
values-at f k (suc n) (suc i) d h =
    let z : suc k + i ≡ k + suc i = omega arith in
    values-at f (suc k) n i d (omega arith) ∙ ap f z

pub values_same : {A : Type 0} (f g : ℕ → A) (k n : ℕ) → ((i : ℕ) → k ≤ i → i < k + n → f i ≡ g i) → values_from f k n ≡ values_from g k n
unfolding values_from
values_same f g k zero e = refl
values_same f g k (suc n) e =
    let a = e k (omega arith) (omega arith) in
    let b = values_same f g (suc k) n (λ i h m. e i (omega arith) (omega arith)) in
    rw (a, b)

-- ---- before any mark

-- an array as it is made holds noughts
pub noughts : {zs : List ℕ} (m : ℕ) → zs ≡ replicate m 0 → Noughts zs
noughts m e = record { at = λ k. rw e (nought m k) }
  where
    nought : (m k : ℕ) → get_or (replicate {A = ℕ} m 0) k 0 ≡ 0
    nought zero k = refl
    nought (suc m) zero = refl
    nought (suc m) (suc k) = nought m k

pub bonds-plain : {bs : List DbPos} {rs : List Ring} {zs mid ks : List ℕ} → Noughts zs → SetWhere (bridge_at rs) 79 zs mid → SetWhere (double_at bs) 61 mid ks → PlainBonds bs rs ks
unfolding plain_bond bridge_at double_at
bonds-plain {bs} {rs} {zs} {mid} e v w =
    record {
      at = λ k h.
          let m : k < length mid = omega (arith, w.size) in
          let z : k < length zs = omega (arith, v.size) in
          w.at k m ∙ (rw (v.at k z, e.at k));
    }

plain-taken : (bs : List DbPos) (rs : List Ring) (c : ℕ) (ks : List ℕ) → c < length ks → PlainBonds bs rs ks → take (suc c) ks ≡ plain_bonds bs rs c
unfolding plain_bonds
plain-taken bs rs c ks h w =
    let z : length (take (suc c) ks) ≡ suc c = length-take-le (suc c) ks (omega arith) in
    ext_get_or 0 (take (suc c) ks) (values_from (plain_bond bs rs) 0 (suc c)) (z ∙ sym (length-values (plain_bond bs rs) 0 (suc c)))
    (λ i q.
    let y : i < suc c = rw z at q in
    get_or-take (suc c) ks i 0 y ∙ (w.at i (omega arith) ∙ sym (rw (zero-add i) at (values-at (plain_bond bs rs) 0 (suc c) i 0 y))))

-- ---- marks go no further than c

take-if : (b : Bool) (m : ℕ) (ks : List ℕ) (p v : ℕ) → p < m → take m (cond b (set ks p v) ks) ≡ cond b (set (take m ks) p v) (take m ks)
take-if true m ks p v h = take-set-lt m ks p v h
take-if false m ks p v h = refl

take_open : (c p : ℕ) (ks : List ℕ) → p ≤ c → take (suc c) (open_mark p ks) ≡ open_mark p (take (suc c) ks)
unfolding open_mark
take_open c p ks h =
    let z : p - 1 < suc c = omega arith in
    take-if (ltb 1 p && eqb (get_or ks (p - 1) 0) 0) (suc c) ks (p - 1) 47 z ∙ (rw (get_or-take (suc c) ks (p - 1) 0 z))

take-close : (c : ℕ) (t : Bool) (p : ℕ) (ks : List ℕ) → p ≤ c → take (suc c) (close_mark c t p ks) ≡ close_mark c t p (take (suc c) ks)
unfolding close_mark
take-close c t p ks h = go (ltb (suc p) c) refl
  where
    go : (b : Bool) → ltb (suc p) c ≡ b
        → take (suc c) (cond (b && eqb (get_or ks (suc p) 0) 0) (set ks (suc p) (close_byte t (opens_down p ks))) ks)
        ≡ cond (b && eqb (get_or (take (suc c) ks) (suc p) 0) 0) (set (take (suc c) ks) (suc p) (close_byte t (opens_down p (take (suc c) ks)))) (take (suc c) ks)
    go false e = refl
    go true e =
        let s : suc p < c = ltb-true (suc p) c e in
        take-if (eqb (get_or ks (suc p) 0) 0) (suc c) ks (suc p) (close_byte t (opens_down p ks)) (omega arith)
        ∙ (rw (get_or-take (suc c) ks (suc p) 0 (omega arith), get_or-take (suc c) ks (p - 1) 0 (omega arith)))

take-mark : (c : ℕ) (g : Geometry) (p : ℕ) (ks : List ℕ) → p ≤ c → take (suc c) (mark_bond c g p ks) ≡ mark_bond c g p (take (suc c) ks)
unfolding mark_bond
take-mark c Unstated p ks h = refl
take-mark c Cis p ks h = take-close c false p (open_mark p ks) h ∙ ap (close_mark c false p) (take_open c p ks h)
take-mark c Trans p ks h = take-close c true p (open_mark p ks) h ∙ ap (close_mark c true p) (take_open c p ks h)

take-marks : (c : ℕ) (bs : List DbPos) (p n : ℕ) (ks : List ℕ) → p + n ≤ suc c → take (suc c) (mark_from c bs p n ks) ≡ mark_from c bs p n (take (suc c) ks)
unfolding mark_from
take-marks c bs p zero ks h = refl
take-marks c bs p (suc n) ks h =
    take-marks c bs (suc p) n (mark_bond c (geometry_at p bs) p ks) (omega arith) ∙ ap (mark_from c bs (suc p) n) (take-mark c (geometry_at p bs) p ks (omega arith))

pub bonds-marked : {bs : List DbPos} {rs : List Ring} {ks js : List ℕ} (c m : ℕ) → PlainBonds bs rs ks → m ≡ min c 255 → m < length ks → js ≡ mark_from m bs 1 m ks
    → BondsBy bs rs c js
bonds-marked {bs} {rs} {ks} {js} c m w e l v =
    record {
      size = let z : length js ≡ length ks = ap length v ∙ length-marks m bs 1 m ks in omega arith;
      are = λ h.
          let z : m ≡ c = omega arith in
          let y : js ≡ mark_from c bs 1 c ks = rw z at v in
          ap (take (suc c)) y ∙ (take-marks c bs 1 c ks (omega arith) ∙ ap (mark_from c bs 1 c) (plain-taken bs rs c ks (omega arith) w));
    }

-- ---- busy carbons

pub carbonyl-set : {ks js : List ℕ} (acyl : Bool) → acyl ≡ true → js ≡ set ks 1 2 → SetWhere (carbonyl_on acyl) 2 ks js
unfolding carbonyl_on
carbonyl-set {ks} acyl e f = rw (e, f) (where-one 1 (where-none {test = λ (k : ℕ). false} 2 ks (λ k. refl)) (λ k. or-false (eqb 1 k)))
  where
    or-false : (b : Bool) → b ≡ (b || false)
    or-false true = refl
    or-false false = refl

pub carbonyl-none : {ks : List ℕ} (acyl : Bool) → acyl ≡ false → SetWhere (carbonyl_on acyl) 2 ks ks
unfolding carbonyl_on
carbonyl-none {ks} acyl e = rw e (where-none 2 ks (λ k. refl))

ends_at : (acyl : Bool) (rs : List Ring) {zs ks js : List ℕ} → Noughts zs → SetWhere (ring_on rs) 1 zs ks → SetWhere (carbonyl_on acyl) 2 ks js
    → (k : ℕ) → k < length js → get_or js k 0 ≡ cond (carbonyl_on acyl k) 2 (cond (ring_on rs k) 1 0)
ends_at acyl rs {zs} {ks} e u v k h =
    let l : k < length ks = omega (arith, v.size) in
    let z : k < length zs = omega (arith, u.size) in
    v.at k l ∙ (rw (u.at k z, e.at k))

-- no carbon has more than two atoms before its groups are added
pub ends-small : (acyl : Bool) (rs : List Ring) {zs ks js : List ℕ} → Noughts zs → SetWhere (ring_on rs) 1 zs ks → SetWhere (carbonyl_on acyl) 2 ks js
    → (k : ℕ) → get_or js k 0 ≤ 2
ends-small acyl rs {zs} {ks} {js} e u v k = go (leb (suc k) (length js)) refl
  where
    own : (a b : Bool) → cond a 2 (cond b 1 0) ≤ 2
    own true b = omega arith
    own false true = omega arith
    own false false = omega arith

    go : (b : Bool) → leb (suc k) (length js) ≡ b → get_or js k 0 ≤ 2
    go true f =
        let h : k < length js = leb-true (suc k) (length js) f in
        rw (ends_at acyl rs e u v k h) (own (carbonyl_on acyl k) (ring_on rs k))
    go false f = rw (past 0 js k (omega (arith, leb-false (suc k) (length js) f))) (omega arith)

pub busy-all : {acyl : Bool} {rs : List Ring} {zs ks js is : List ℕ} (l : List Mod) → Noughts zs → length l ≤ 18 → SetWhere (ring_on rs) 1 zs ks
    → SetWhere (carbonyl_on acyl) 2 ks js → Added l js is → Busy acyl l rs is
busy-all {acyl} {rs} {zs} {ks} {js} {is} l e f u v w =
    record {
      at = at;
      few = λ k h. rw (at k h) (load-few acyl l rs k f);
    }
  where
    at : (k : ℕ) → k < length is → get_or is k 0 ≡ load_at acyl l rs k
    at k h =
        let m : k < length js = omega (arith, w.size) in
        w.at k m ∙ (rw (ends_at acyl rs e u v k m) (load_is acyl l rs k))

-- ---- all of it

pub tokens-say : {x : Drawn} {ds : List DbPos} {gs : List Mod} {rs : List Ring} {bs us : List ℕ} {f e l : ℕ} → min x.carbon 255 < length us
    → ds ≡ bonds_drawn x → gs ≡ groups_drawn x → rs ≡ rings_drawn x → BondsBy ds rs x.carbon bs → Busy x.acyl gs rs us → f ≡ max x.first 1 → SaysUpTo x e literal_end → l ≡ min e 255
    → TokensOf x (tokens f l bs us)
tokens-say {x} {e = e} {l} h p q r b u f s m =
    record {
      first = f;
      room = omega arith;
      bonded = omega (arith, s.fits, b.size);
      laden = omega (arith, s.fits);
      last = λ h. record { is = λ r d w. let z : l ≡ e = omega (arith, s.fits) in z ∙ s.says.is r d w };
      bonds = rw (p, r) at b;
      busy = rw (q, r) at u;
    }

-- ---- a chain without rings

-- the atoms of its carbons that carry something
load_number : Drawn → ℕ → ℕ
load_number x k = load_at x.acyl (groups_drawn x) (rings_drawn x) k

pub busy_list : Drawn → List ℕ
busy_list x = values_from (load_number x) 0 256

busy-list : (x : Drawn) → length (groups_drawn x) ≤ 18 → Busy x.acyl (groups_drawn x) (rings_drawn x) (busy_list x)
unfolding busy_list load_number
busy-list x f =
    record {
      at = at;
      few = λ k h. rw (at k h) (load-few x.acyl (groups_drawn x) (rings_drawn x) k f);
    }
  where
    at : (k : ℕ) → k < length (busy_list x) → get_or (busy_list x) k 0 ≡ load_at x.acyl (groups_drawn x) (rings_drawn x) k
    at k h = rw (zero-add k) at (values-at (load_number x) 0 256 k 0 (omega (arith, length-values (load_number x) 0 256)))

pub grouped-tokens : {x : Drawn} {bs : List ℕ} → Grouped x → BondsBy (bonds_drawn x) (rings_drawn x) x.carbon bs → TokensOf x (tokens x.first x.carbon bs (busy_list x))
unfolding busy_list
grouped-tokens {x} e b =
    let room : x.carbon ≤ 255 = e.room in
    record {
      first = omega (arith, e.first);
      room = room;
      bonded = omega (arith, b.size);
      laden = omega (arith, length-values (load_number x) 0 256);
      last = λ h. (literal-whole x e.unlocated).says;
      bonds = b;
      busy = busy-list x e.few;
    }

ringless-plain : {bs : List DbPos} {zs ks : List ℕ} → Noughts zs → SetWhere (double_at bs) 61 zs ks → PlainBonds bs [] ks
unfolding bridge_at any_of
ringless-plain {zs = zs} e w = bonds-plain e (where-none 79 zs (λ k. refl)) w

pub ringless-size : {zs ks : List ℕ} {test : ℕ → Bool} {v : ℕ} (c : ℕ) → c < length zs → SetWhere test v zs ks → c < length ks
ringless-size c h w = omega (arith, w.size)

pub ringless-marked : (x : Shape) (l : Lists) {ds : List DbPos} {zs ks js : List ℕ} → Noughts zs → x.carbon < length zs → x.carbon ≤ 255 → rings_drawn (drawn_of x l) ≡ []
    → ds ≡ bonds_drawn (drawn_of x l) → SetWhere (double_at ds) 61 zs ks → js ≡ mark_from x.carbon ds 1 x.carbon ks
    → BondsBy (bonds_drawn (drawn_of x l)) (rings_drawn (drawn_of x l)) x.carbon js
ringless-marked x l z h room e p w v =
    rw (e, ← p) (bonds-marked x.carbon x.carbon (ringless-plain z w) (omega arith) (ringless-size x.carbon h w) v)

pub ringless-put : (x : Shape) (l : Lists) {ds : List DbPos} {zs js : List ℕ} (t : Bool) → Noughts zs → x.carbon < length zs → x.carbon ≤ 255 → rings_drawn (drawn_of x l) ≡ []
    → ds ≡ bonds_drawn (drawn_of x l) → (t ≡ true → DoublesPut x.carbon ds zs js) → t ≡ true → BondsBy (bonds_drawn (drawn_of x l)) (rings_drawn (drawn_of x l)) x.carbon js
ringless-put x l t z h room e q p f =
    let w = p f in
    ringless-marked x l z h room e q w.set w.marked
