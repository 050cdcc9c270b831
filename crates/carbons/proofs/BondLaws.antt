-- Laws of the arrays by carbon: bonds, their marks, geometries, and the carbons that carry something.
-- Assumes nothing.
use Prim.Native.Nat.{ℕ, zero, suc, ◌+◌, ◌-◌, ◌≤◌, ◌<◌}
use native.Mathlib.Numerals.{add-one}
use native.Mathlib.Omega.{arith}
use mathlib.Core.Path.{◌≡◌, refl, sym, ap, ◌∙◌}
use mathlib.Core.Bool.{Bool, true, false, cond, ◌||◌, ◌&&◌}
use mathlib.Core.List.{List, [], ◌∷◌}
use lib.Dec.{eqb, ltb}
use lib.ListN.{length, drop, get_or, set, replicate, get_or-replicate, length-set, length-replicate}
use lib.Seq.{set_out, get_or-set_same, get_or-set_other}
use borrow.Author.Tests.{lt-ltb, le-ltb, eq-eqb, ne_eqb, ltb-true, eqb-true, eqb-false}
use Rattle.chain_record.specs.declared.plain.Geometry.{Geometry}
use Rattle.chain_record.specs.declared.plain.Geometry.TheVariants.{Unstated, Cis, Trans}
use Rattle.chain_record.specs.declared.plain.Bridge.TheVariants.{Epoxide, Carbocycle}
use Rattle.chain_record.specs.declared.plain.DbPos.{DbPos}
use Rattle.chain_record.specs.declared.plain.Ring.{Ring}
use Rattle.chain_rules.specs.chain.Lists.{any_of}
use Rattle.chain_rules.specs.chain.Bonds.{open_mark, opens_down, close_mark, close_byte, mark_bond, mark_from, geometry_at}
use Rattle.drawn_chain.specs.drawable.Drawn.{no_bond}
use Rattle.carbons.specs.ByCarbon.{geometry_byte, geometry_of, double_at, bridge_at, ring_on, rises_from, SetWhere, Geometries, Marks}
use Rattle.drawn_chain.proofs.drawable.Turns.{left_here, left-none}

-- ---- a store

pub set_past : (xs : List ℕ) (p v : ℕ) → length xs ≤ p → xs ≡ set xs p v
set_past xs p v h = sym (set_out xs p v h)

-- what stands at k after a store at p
pub stored : (xs : List ℕ) (p v k : ℕ) → k < length xs → get_or (set xs p v) k 0 ≡ cond (eqb p k) v (get_or xs k 0)
stored xs p v k h = go (eqb p k) refl
  where
    go : (b : Bool) → eqb p k ≡ b → get_or (set xs p v) k 0 ≡ cond b v (get_or xs k 0)
    go true e = rw (eqb-true p k e) (get_or-set_same xs k v 0 h)
    go false e = get_or-set_other xs p k v 0 (λ f. eqb-false p k e (sym f))

-- ---- places where something stands

pub where-none : {test : ℕ → Bool} (v : ℕ) (ks : List ℕ) → ((k : ℕ) → test k ≡ false) → SetWhere test v ks ks
where-none v ks e = record { size = refl; at = λ k h. rw (e k) }

-- one place more
pub where-one : {test more : ℕ → Bool} {v : ℕ} {ks js : List ℕ} (p : ℕ) → SetWhere test v ks js
    → ((k : ℕ) → more k ≡ (eqb p k || test k)) → SetWhere more v ks (set js p v)
where-one {test} {more} {v} {ks} {js} p s e =
    record { size = length-set js p v ∙ s.size; at = λ k h. stored js p v k (omega (arith, s.size)) ∙ go k (eqb p k) (s.at k h) (e k) }
  where
    go : (k : ℕ) (b : Bool) → get_or js k 0 ≡ cond (test k) v (get_or ks k 0) → more k ≡ (b || test k) → cond b v (get_or js k 0) ≡ cond (more k) v (get_or ks k 0)
    go k true f g = rw g
    go k false f g = rw g f

where-same : {test more : ℕ → Bool} {v : ℕ} {ks js : List ℕ} → SetWhere test v ks js → ((k : ℕ) → more k ≡ test k) → SetWhere more v ks js
where-same s e = record { size = s.size; at = λ k h. rw (e k) (s.at k h) }

pub where-length : {test : ℕ → Bool} {v : ℕ} {ks js : List ℕ} → SetWhere test v ks js → length js ≡ length ks
where-length s = s.size

or_assoc : (a b c : Bool) → ((a || b) || c) ≡ (a || (b || c))
or_assoc true b c = refl
or_assoc false b c = refl

-- nothing is set before the loop: the list is gone through from its end
module _ (ks : List ℕ) where
  pub doubles-none : SetWhere (double_at []) 61 ks ks
  unfolding double_at any_of
  doubles-none = where-none 61 ks (λ k. refl)

  pub bridges-none : SetWhere (bridge_at []) 79 ks ks
  unfolding bridge_at any_of
  bridges-none = where-none 79 ks (λ k. refl)

  pub rings-none : SetWhere (ring_on []) 1 ks ks
  unfolding ring_on any_of
  rings-none = where-none 1 ks (λ k. refl)

-- a turn
module _ {ks js : List ℕ} where
  pub double-set : {is : List ℕ} (b : DbPos) → is ≡ set js b.pos 61 → (bs : List DbPos) → SetWhere (double_at bs) 61 ks js → SetWhere (double_at (b ∷ bs)) 61 ks is
  unfolding double_at any_of
  double-set b f bs w = rw f (where-one b.pos w (λ k. refl))

  pub bridge-set : {is : List ℕ} (x : Ring) → x.bridge ≡ Epoxide → is ≡ set js x.start 79 → (rs : List Ring) → SetWhere (bridge_at rs) 79 ks js
      → SetWhere (bridge_at (x ∷ rs)) 79 ks is
  unfolding bridge_at any_of
  bridge-set x g f rs w = rw f (where-one x.start w (λ k. rw g))

  pub bridge-not : (x : Ring) → x.bridge ≡ Carbocycle → (rs : List Ring) → SetWhere (bridge_at rs) 79 ks js → SetWhere (bridge_at (x ∷ rs)) 79 ks js
  unfolding bridge_at any_of
  bridge-not x g rs w = where-same w (λ k. rw g)

  pub ring-set : {mid is : List ℕ} (x : Ring) → mid ≡ set js x.end 1 → is ≡ set mid x.start 1 → (rs : List Ring) → SetWhere (ring_on rs) 1 ks js
      → SetWhere (ring_on (x ∷ rs)) 1 ks is
  unfolding ring_on any_of
  ring-set {mid} x f g rs w =
      let t : SetWhere (λ (k : ℕ). eqb x.end k || ring_on rs k) 1 ks mid = rw f (where-one x.end w (λ k. refl)) in
      rw g (where-one x.start t (λ k. or_assoc (eqb x.start k) (eqb x.end k) (ring_on rs k)))

-- ---- geometries

pub geometries-none : {zs : List ℕ} → zs ≡ replicate 256 0 → Geometries [] zs
unfolding geometry_at
geometries-none e = rw e (record { size = length-replicate {A = ℕ} 256 0; at = λ k h. get_or-replicate 256 k 0 0 h })

pub geometry-set : {js is : List ℕ} (r : ℕ) (b : DbPos) → r ≡ geometry_byte b.geom → is ≡ set js b.pos r → (bs : List DbPos) → Geometries bs js → Geometries (b ∷ bs) is
unfolding geometry_at
geometry-set {js} {is} r b f g bs w =
    rw g
    (record { size = length-set js b.pos r ∙ w.size; at = λ k q. stored js b.pos r k (omega (arith, w.size)) ∙ go k (eqb b.pos k) (w.at k q) })
  where
    go : (k : ℕ) (t : Bool) → get_or js k 0 ≡ geometry_byte (geometry_at k bs) → cond t r (get_or js k 0) ≡ geometry_byte (cond t b.geom (geometry_at k bs))
    go k true u = f
    go k false u = u

pub geometries-length : {bs : List DbPos} {zs js : List ℕ} → zs ≡ replicate 256 0 → Geometries bs js → length js ≡ length zs
geometries-length e w = w.size ∙ sym (ap length e ∙ length-replicate {A = ℕ} 256 0)

geometry-back : (g : Geometry) → geometry_of (geometry_byte g) ≡ g
unfolding geometry_of
geometry-back Unstated = refl
geometry-back Cis = refl
geometry-back Trans = refl

module _ (b : ℕ) where
  pub byte-cis : b ≡ 90 → Cis ≡ geometry_of b
  unfolding geometry_of
  byte-cis e = rw e

  pub byte-trans : b ≡ 69 → Trans ≡ geometry_of b
  unfolding geometry_of
  byte-trans e = rw e

  pub byte-none : (b ≡ 90 → ⊥) → (b ≡ 69 → ⊥) → Unstated ≡ geometry_of b
  unfolding geometry_of
  byte-none n e = rw (ne_eqb b 90 n, ne_eqb b 69 e)

-- ---- marks

module _ (p : ℕ) (ks : List ℕ) where
  pub open-there : 1 < p → get_or ks (p - 1) 0 ≡ 0 → set ks (p - 1) 47 ≡ open_mark p ks
  unfolding open_mark
  open-there h e = rw (lt-ltb 1 p h, eq-eqb (get_or ks (p - 1) 0) 0 e)

  pub open_full : 1 < p → (get_or ks (p - 1) 0 ≡ 0 → ⊥) → ks ≡ open_mark p ks
  unfolding open_mark
  open_full h e = rw (lt-ltb 1 p h, ne_eqb (get_or ks (p - 1) 0) 0 e)

  pub open_none : p ≤ 1 → ks ≡ open_mark p ks
  unfolding open_mark
  open_none h = rw (le-ltb 1 p h)

  module _ (c : ℕ) (t : Bool) where
    pub close-there : (r : ℕ) → p + 1 < c → get_or ks (p + 1) 0 ≡ 0 → r ≡ close_byte t (eqb (get_or ks (p - 1) 0) 92) → set ks (p + 1) r ≡ close_mark c t p ks
    unfolding close_mark
    close-there r h e f =
        let g : suc p < c = omega arith in
        let i : get_or ks (suc p) 0 ≡ 0 = rw (add-one p) at e in
        rw (f, add-one p, lt-ltb (suc p) c g, eq-eqb (get_or ks (suc p) 0) 0 i)

    pub close-full : p + 1 < c → (get_or ks (p + 1) 0 ≡ 0 → ⊥) → ks ≡ close_mark c t p ks
    unfolding close_mark
    close-full h e =
        let g : suc p < c = omega arith in
        let i : get_or ks (suc p) 0 ≡ 0 → ⊥ = rw (add-one p) at e in
        rw (lt-ltb (suc p) c g, ne_eqb (get_or ks (suc p) 0) 0 i)

    pub close-none : c ≤ p + 1 → ks ≡ close_mark c t p ks
    unfolding close_mark
    close-none h =
        let g : c ≤ suc p = omega arith in
        rw (le-ltb (suc p) c g)

  module _ (c : ℕ) (g : Geometry) where
    pub mark-cis : {mid js : List ℕ} → g ≡ Cis → mid ≡ open_mark p ks → js ≡ close_mark c false p mid → js ≡ mark_bond c g p ks
    unfolding mark_bond
    mark-cis e u v = rw (e, v, u)

    pub mark-trans : {mid js : List ℕ} → g ≡ Trans → mid ≡ open_mark p ks → js ≡ close_mark c true p mid → js ≡ mark_bond c g p ks
    unfolding mark_bond
    mark-trans e u v = rw (e, v, u)

    pub mark-none : g ≡ Unstated → ks ≡ mark_bond c g p ks
    unfolding mark_bond
    mark-none e = rw e

-- a mark keeps the length
length-if : (b : Bool) (ks : List ℕ) (p v : ℕ) → length (cond b (set ks p v) ks) ≡ length ks
length-if true ks p v = length-set ks p v
length-if false ks p v = refl

length-open : (p : ℕ) (ks : List ℕ) → length (open_mark p ks) ≡ length ks
unfolding open_mark
length-open p ks = length-if (ltb 1 p && eqb (get_or ks (p - 1) 0) 0) ks (p - 1) 47

length-close : (c : ℕ) (t : Bool) (p : ℕ) (ks : List ℕ) → length (close_mark c t p ks) ≡ length ks
unfolding close_mark
length-close c t p ks = length-if (ltb (suc p) c && eqb (get_or ks (suc p) 0) 0) ks (suc p) (close_byte t (opens_down p ks))

pub length-mark : (c : ℕ) (g : Geometry) (p : ℕ) (ks : List ℕ) → length (mark_bond c g p ks) ≡ length ks
unfolding mark_bond
length-mark c Unstated p ks = refl
length-mark c Cis p ks = length-close c false p (open_mark p ks) ∙ length-open p ks
length-mark c Trans p ks = length-close c true p (open_mark p ks) ∙ length-open p ks

pub length-marks : (c : ℕ) (bs : List DbPos) (p n : ℕ) (ks : List ℕ) → length (mark_from c bs p n ks) ≡ length ks
unfolding mark_from
length-marks c bs p zero ks = refl
length-marks c bs p (suc n) ks = length-marks c bs (suc p) n (mark_bond c (geometry_at p bs) p ks) ∙ length-mark c (geometry_at p bs) p ks

pub marked-length : (ks js : List ℕ) (c : ℕ) (g : Geometry) (p : ℕ) → js ≡ mark_bond c g p ks → length js ≡ length ks
marked-length ks js c g p e = rw e (length-mark c g p ks)

-- what is left to be marked, from p on
pub record MarksLeft (c : ℕ) (geoms before now : List ℕ) (p : ℕ) : Type 0 where
  pub size : length now ≡ length before
  pub are : (bs : List DbPos) → Geometries bs geoms → mark_from c bs 1 c before ≡ mark_from c bs p (suc c - p) now

module _ {c : ℕ} {geoms ks : List ℕ} where
  pub marks-all : MarksLeft c geoms ks ks 1
  marks-all =
      let z : suc c - 1 ≡ c = omega arith in
      record { size = refl; are = λ bs g. rw z }

  pub marks-less : {js is : List ℕ} (p : ℕ) (r : Geometry) → MarksLeft c geoms ks js p → p ≤ c → c < length geoms → r ≡ geometry_of (get_or geoms p 0)
      → is ≡ mark_bond c r p js → MarksLeft c geoms ks is (p + 1)
  unfolding mark_from
  marks-less {js} p r w h m f e =
      record {
        size = marked-length js _ c r p e ∙ w.size;
        are = λ bs g.
            let z : suc c - p ≡ suc (c - p) = omega arith in
            let y : suc c - suc p ≡ c - p = omega arith in
            w.are bs g ∙ (rw (z, add-one p, y, e, f, g.at p (omega (arith, g.size)), geometry-back));
      }

  pub marks-end : {js : List ℕ} (p : ℕ) → MarksLeft c geoms ks js p → c < p → Marks c geoms ks js
  unfolding mark_from
  marks-end p w h =
      record {
        are = λ bs g.
            let z : suc c - p ≡ 0 = omega arith in
            sym (w.are bs g ∙ (rw z));
      }

pub marks-by : {bs : List DbPos} {geoms ks js : List ℕ} {c : ℕ} → Geometries bs geoms → Marks c geoms ks js → js ≡ mark_from c bs 1 c ks
marks-by {bs} g v = v.are bs g

-- ---- positions that rise

-- the test, turn by turn
module _ (bs : List DbPos) {t : Bool} (i m : ℕ) (e : t ≡ rises_from m (drop i bs)) where
  pub rises-more : (b : DbPos) → b ≡ get_or bs i no_bond → i < length bs → m < b.pos → t ≡ rises_from b.pos (drop (i + 1) bs)
  unfolding rises_from
  rises-more b f h g = e ∙ (rw (left_here bs i no_bond b h f, lt-ltb m b.pos g))

  pub rises-not : (b : DbPos) → b ≡ get_or bs i no_bond → i < length bs → b.pos ≤ m → false ≡ t
  unfolding rises_from
  rises-not b f h g = sym (e ∙ (rw (left_here bs i no_bond b h f, le-ltb m b.pos g)))

  pub rises-end : length bs ≤ i → true ≡ t
  unfolding rises_from
  rises-end h = sym (e ∙ (rw (left-none bs i h)))

pub rises-so : (t : Bool) (bs : List DbPos) → t ≡ rises_from 0 bs → t ≡ true → rises_from 0 bs ≡ true
rises-so t bs e f = sym e ∙ f

-- what rising says of the first bond of a list, and of the others
module _ (m : ℕ) (b : DbPos) (bs : List DbPos) where
  pub rises-past : rises_from m (b ∷ bs) ≡ true → m < b.pos
  unfolding rises_from
  rises-past e = go (ltb m b.pos) refl e
    where
      go : (t : Bool) → ltb m b.pos ≡ t → (t && rises_from b.pos bs) ≡ true → m < b.pos
      go true f g = ltb-true m b.pos f
      go false f g = let z : ◌≡◌ {A = ℕ} 0 1 = cc in absurd (omega arith)

  pub rises-rest : rises_from m (b ∷ bs) ≡ true → rises_from b.pos bs ≡ true
  unfolding rises_from
  rises-rest e = go (ltb m b.pos) e
    where
      go : (t : Bool) → (t && rises_from b.pos bs) ≡ true → rises_from b.pos bs ≡ true
      go true g = g
      go false g = let z : ◌≡◌ {A = ℕ} 0 1 = cc in absurd (omega arith)

-- from further back they rise as well
pub rises-back : (m k : ℕ) (bs : List DbPos) → k ≤ m → rises_from m bs ≡ true → rises_from k bs ≡ true
unfolding rises_from
rises-back m k [] h e = refl
rises-back m k (b ∷ bs) h e =
    let p = rises-past m b bs e in
    let q : k < b.pos = omega arith in
    rw (lt-ltb k b.pos q) (rises-rest m b bs e)

-- before the first of them no geometry is stated, so that no mark is made
unstated-before : (m k : ℕ) (bs : List DbPos) → k ≤ m → rises_from m bs ≡ true → geometry_at k bs ≡ Unstated
unfolding geometry_at
unstated-before m k [] h e = refl
unstated-before m k (b ∷ bs) h e =
    let p = rises-past m b bs e in
    rw (ne_eqb b.pos k (λ f. omega arith)) (unstated-before b.pos k bs (omega arith) (rises-rest m b bs e))

pub marks-before : (c m p n : ℕ) (bs : List DbPos) (ks : List ℕ) → p + n ≤ suc m → rises_from m bs ≡ true → mark_from c bs p n ks ≡ ks
unfolding mark_from
marks-before c m p zero bs ks h e = refl
marks-before c m p (suc n) bs ks h e = rw (unstated-before m p bs (omega arith) e) (marks-before c m (suc p) n bs ks (omega arith) e)

-- past the first of them only the others count
marks-after : (c p n : ℕ) (b : DbPos) (bs : List DbPos) (ks : List ℕ) → b.pos < p → mark_from c (b ∷ bs) p n ks ≡ mark_from c bs p n ks
unfolding mark_from
marks-after c p zero b bs ks h = refl
marks-after c p (suc n) b bs ks h =
    rw (ne_eqb b.pos p (λ f. omega arith)) (marks-after c (suc p) n b bs (mark_bond c (geometry_at p bs) p ks) (omega arith))

-- the marks of the first of them may be made before all others
pub marks-first : (c p n : ℕ) (b : DbPos) (bs : List DbPos) (ks : List ℕ) → rises_from b.pos bs ≡ true → p ≤ b.pos → b.pos < p + n
    → mark_from c (b ∷ bs) p n ks ≡ mark_from c bs p n (mark_bond c b.geom b.pos ks)
unfolding mark_from
marks-first c p zero b bs ks e h m = absurd (omega arith)
marks-first c p (suc n) b bs ks e h m = go (eqb b.pos p) refl (λ l. marks-first c (suc p) n b bs ks e l (omega arith))
  where
    go : (t : Bool) → eqb b.pos p ≡ t → (suc p ≤ b.pos → mark_from c (b ∷ bs) (suc p) n ks ≡ mark_from c bs (suc p) n (mark_bond c b.geom b.pos ks))
        → mark_from c (b ∷ bs) (suc p) n (mark_bond c (cond t b.geom (geometry_at p bs)) p ks)
        ≡ mark_from c bs (suc p) n (mark_bond c (geometry_at p bs) p (mark_bond c b.geom b.pos ks))
    go true f next =
        let z : b.pos ≡ p = eqb-true b.pos p f in
        rw (← z, unstated-before b.pos b.pos bs (omega arith) e) (marks-after c (suc b.pos) n b bs (mark_bond c b.geom b.pos ks) (omega arith))
    go false f next =
        let z : b.pos ≡ p → ⊥ = eqb-false b.pos p f in
        let l : suc p ≤ b.pos = omega arith in
        rw (unstated-before b.pos p bs h e) (next l)

-- what is left to be marked, from the i-th double bond on
pub record RisingLeft (c : ℕ) (bs : List DbPos) (before now : List ℕ) (i : ℕ) : Type 0 where
  pub size : length now ≡ length before
  pub rises : rises_from 0 (drop i bs) ≡ true
  pub are : mark_from c bs 1 c before ≡ mark_from c (drop i bs) 1 c now

pub rising-all : {c : ℕ} {bs : List DbPos} {ks : List ℕ} → rises_from 0 bs ≡ true → RisingLeft c bs ks ks 0
rising-all e = record { size = refl; rises = e; are = refl }

module _ {c : ℕ} {bs : List DbPos} {ks js : List ℕ} (i : ℕ) (w : RisingLeft c bs ks js i) where
  pub rising-end : length bs ≤ i → js ≡ mark_from c bs 1 c ks
  unfolding rises_from
  rising-end h = sym (w.are ∙ (rw (left-none bs i h) (marks-before c (suc c) 1 c [] js (omega arith) refl)))

  module _ (b : DbPos) (e : b ≡ get_or bs i no_bond) (h : i < length bs) where
    first-left : rises_from 0 (b ∷ drop (i + 1) bs) ≡ true
    first-left = rw (left_here bs i no_bond b h e) at w.rises

    pub rising-one : 1 ≤ b.pos
    rising-one = rises-past 0 b (drop (i + 1) bs) first-left

    pub rising-past : c < b.pos → js ≡ mark_from c bs 1 c ks
    unfolding rises_from
    rising-past p =
        let z : rises_from c (b ∷ drop (i + 1) bs) ≡ true = rw (lt-ltb c b.pos p) (rises-rest 0 b (drop (i + 1) bs) first-left) in
        sym (w.are ∙ (rw (left_here bs i no_bond b h e) (marks-before c c 1 c (b ∷ drop (i + 1) bs) js (omega arith) z)))

    pub rising-less : {is : List ℕ} → b.pos ≤ c → is ≡ mark_bond c b.geom b.pos js → RisingLeft c bs ks is (i + 1)
    rising-less {is} p f =
        let q = rises-rest 0 b (drop (i + 1) bs) first-left in
        record {
          size = marked-length js is c b.geom b.pos f ∙ w.size;
          rises = rises-back b.pos 0 (drop (i + 1) bs) (omega arith) q;
          are = w.are ∙ (rw (left_here bs i no_bond b h e, f) (marks-first c 1 c b (drop (i + 1) bs) js q rising-one (omega arith)));
        }
