-- Laws of double bonds that are set and marked in one pass: a double bond further on may be set after the marks of one before it.
-- Assumes nothing.
use Prim.Native.Nat.{ℕ, suc, ◌+◌, ◌-◌, ◌≤◌, ◌<◌}
use native.Mathlib.Omega.{arith}
use mathlib.Core.Path.{◌≡◌, refl, sym, ap, ◌∙◌}
use mathlib.Core.Bool.{Bool, true, false, cond, ◌||◌, ◌&&◌}
use mathlib.Core.List.{List, [], ◌∷◌}
use lib.Dec.{eqb, ltb}
use lib.ListN.{length, drop, get_or, set, length-set}
use lib.Seq.{set_out, set-set, set_comm, get_or-set_same, get_or-set_other}
use borrow.Author.Tests.{lt-ltb, ltb-true, ltb-false, eqb-true, eqb-false}
use Rattle.chain_record.specs.declared.plain.Geometry.{Geometry}
use Rattle.chain_record.specs.declared.plain.Geometry.TheVariants.{Unstated, Cis, Trans}
use Rattle.chain_record.specs.declared.plain.DbPos.{DbPos}
use Rattle.chain_rules.specs.chain.Lists.{any_of}
use Rattle.chain_rules.specs.chain.Bonds.{open_mark, opens_down, close_mark, close_byte, mark_bond, mark_from}
use Rattle.drawn_chain.specs.drawable.Drawn.{no_bond}
use Rattle.carbons.specs.ByCarbon.{double_at, rises_from, SetWhere, DoublesPut}
use Rattle.drawn_chain.proofs.drawable.Turns.{left_here, left-none}
use Rattle.carbons.proofs.BondLaws.{stored, length-mark, marks-before, marks-first, rises-past, rises-rest, rises-back}

-- ---- a mark, and a store further on

open-later : (p r v : ℕ) (ks : List ℕ) → p < r → open_mark p (set ks r v) ≡ set (open_mark p ks) r v
unfolding open_mark
open-later p r v ks h =
    let n : p - 1 ≡ r → ⊥ = λ e. omega arith in
    rw (get_or-set_other ks r (p - 1) v 0 n) (go (ltb 1 p && eqb (get_or ks (p - 1) 0) 0))
  where
    go : (b : Bool) → cond b (set (set ks r v) (p - 1) 47) (set ks r v) ≡ set (cond b (set ks (p - 1) 47) ks) r v
    go true = set_comm ks r (p - 1) v 47 (λ e. omega arith)
    go false = refl

close-later : (c : ℕ) (t : Bool) (p r : ℕ) (ks : List ℕ) → p < r → r < length ks → close_mark c t p (set ks r 61) ≡ set (close_mark c t p ks) r 61
unfolding close_mark opens_down
close-later c t p r ks h l =
    let n : p - 1 ≡ r → ⊥ = λ e. omega arith in
    rw (get_or-set_other ks r (p - 1) 61 0 n) (go (eqb r (suc p)) refl)
  where
    -- the bond that comes next stands over a mark
    over : (b : Bool) (w : ℕ) → cond (b && false) (set (set ks (suc p) 61) (suc p) w) (set ks (suc p) 61) ≡ set (cond (b && eqb (get_or ks (suc p) 0) 0) (set ks (suc p) w) ks) (suc p) 61
    over false w = refl
    over true w = under (eqb (get_or ks (suc p) 0) 0)
      where
        under : (e : Bool) → set ks (suc p) 61 ≡ set (cond e (set ks (suc p) w) ks) (suc p) 61
        under true = sym (set-set ks (suc p) w 61)
        under false = refl

    apart : (b : Bool) (w : ℕ) → (r ≡ suc p → ⊥) → cond b (set (set ks r 61) (suc p) w) (set ks r 61) ≡ set (cond b (set ks (suc p) w) ks) r 61
    apart true w n = set_comm ks r (suc p) 61 w n
    apart false w n = refl

    go : (b : Bool) → eqb r (suc p) ≡ b
        → cond (ltb (suc p) c && eqb (get_or (set ks r 61) (suc p) 0) 0) (set (set ks r 61) (suc p) (close_byte t (eqb (get_or ks (p - 1) 0) 92))) (set ks r 61)
        ≡ set (cond (ltb (suc p) c && eqb (get_or ks (suc p) 0) 0) (set ks (suc p) (close_byte t (eqb (get_or ks (p - 1) 0) 92))) ks) r 61
    go true e =
        let z : r ≡ suc p = eqb-true r (suc p) e in
        let m : suc p < length ks = omega arith in
        rw (z, get_or-set_same ks (suc p) 61 0 m) (over (ltb (suc p) c) (close_byte t (eqb (get_or ks (p - 1) 0) 92)))
    go false e =
        let n : r ≡ suc p → ⊥ = eqb-false r (suc p) e in
        rw (get_or-set_other ks r (suc p) 61 0 (λ f. n (sym f))) (apart (ltb (suc p) c && eqb (get_or ks (suc p) 0) 0) (close_byte t (eqb (get_or ks (p - 1) 0) 92)) n)

length-opened : (p : ℕ) (ks : List ℕ) → length (open_mark p ks) ≡ length ks
unfolding open_mark
length-opened p ks = go (ltb 1 p && eqb (get_or ks (p - 1) 0) 0)
  where
    go : (b : Bool) → length (cond b (set ks (p - 1) 47) ks) ≡ length ks
    go true = length-set ks (p - 1) 47
    go false = refl

mark-later : (c : ℕ) (g : Geometry) (p r : ℕ) (ks : List ℕ) → p < r → r < length ks → mark_bond c g p (set ks r 61) ≡ set (mark_bond c g p ks) r 61
unfolding mark_bond
mark-later c Unstated p r ks h l = refl
mark-later c Cis p r ks h l = rw (open-later p r 61 ks h) (close-later c false p r (open_mark p ks) h (rw (length-opened p ks) l))
mark-later c Trans p r ks h l = rw (open-later p r 61 ks h) (close-later c true p r (open_mark p ks) h (rw (length-opened p ks) l))

-- past the end there is no store
mark-further : (c : ℕ) (g : Geometry) (p r : ℕ) (ks : List ℕ) → p < r → mark_bond c g p (set ks r 61) ≡ set (mark_bond c g p ks) r 61
mark-further c g p r ks h = go (ltb r (length ks)) refl
  where
    go : (b : Bool) → ltb r (length ks) ≡ b → mark_bond c g p (set ks r 61) ≡ set (mark_bond c g p ks) r 61
    go true e = mark-later c g p r ks h (ltb-true r (length ks) e)
    go false e =
        let l : length ks ≤ r = ltb-false r (length ks) e in
        rw (set_out ks r 61 l) (sym (set_out (mark_bond c g p ks) r 61 (rw (length-mark c g p ks) l)))

-- ---- all double bonds set

pub doubles_set : List DbPos → List ℕ → List ℕ
doubles_set [] ks = ks
doubles_set (b ∷ bs) ks = doubles_set bs (set ks b.pos 61)

marks-over : (c : ℕ) (g : Geometry) (p : ℕ) (bs : List DbPos) (ks : List ℕ) → rises_from p bs ≡ true → mark_bond c g p (doubles_set bs ks) ≡ doubles_set bs (mark_bond c g p ks)
unfolding doubles_set
marks-over c g p [] ks e = refl
marks-over c g p (b ∷ bs) ks e =
    let h = rises-past p b bs e in
    marks-over c g p bs (set ks b.pos 61) (rises-back b.pos p bs (omega arith) (rises-rest p b bs e)) ∙ ap (doubles_set bs) (mark-further c g p b.pos ks h)

doubles-where : (bs : List DbPos) (ks : List ℕ) → SetWhere (double_at bs) 61 ks (doubles_set bs ks)
unfolding doubles_set double_at any_of
doubles-where [] ks = record { size = refl; at = λ k h. refl }
doubles-where (b ∷ bs) ks =
    let w = doubles-where bs (set ks b.pos 61) in
    record {
      size = w.size ∙ length-set ks b.pos 61;
      at = λ k h. w.at k (rw (length-set ks b.pos 61) h) ∙ (rw (stored ks b.pos 61 k h) (go (eqb b.pos k) (double_at bs k) (get_or ks k 0)));
    }
  where
    go : (a e : Bool) (z : ℕ) → cond e 61 (cond a 61 z) ≡ cond (a || e) 61 z
    go true true z = refl
    go true false z = refl
    go false true z = refl
    go false false z = refl

-- ---- the pass

-- what is left to be set and marked, from the i-th double bond on, if those rise from past m
pub record PassLeft (c : ℕ) (bs : List DbPos) (before now : List ℕ) (m i : ℕ) : Type 0 where
  pub size : length now ≡ length before
  pub are : rises_from m (drop i bs) ≡ true → mark_from c bs 1 c (doubles_set bs before) ≡ mark_from c (drop i bs) 1 c (doubles_set (drop i bs) now)

pub pass_all : (c : ℕ) (bs : List DbPos) (ks : List ℕ) → PassLeft c bs ks ks 0 0
pass_all c bs ks = record { size = refl; are = λ e. refl }

module _ {c : ℕ} {bs : List DbPos} {ks js : List ℕ} (m i : ℕ) (w : PassLeft c bs ks js m i) where
  pub pass-end : length bs ≤ i → DoublesPut c bs ks js
  unfolding rises_from doubles_set
  pass-end h =
      let e : rises_from m (drop i bs) ≡ true = rw (left-none bs i h) refl in
      record {
        plain = doubles_set bs ks;
        set = doubles-where bs ks;
        marked = sym (w.are e ∙ (rw (left-none bs i h) (marks-before c (suc c) 1 c [] js (omega arith) refl)));
      }

  pub pass-more : {is : List ℕ} (b : DbPos) → b ≡ get_or bs i no_bond → i < length bs → m < b.pos → b.pos ≤ c → is ≡ mark_bond c b.geom b.pos (set js b.pos 61)
      → PassLeft c bs ks is b.pos (i + 1)
  unfolding rises_from doubles_set
  pass-more {is} b e h l q f =
      record {
        size = rw f (length-mark c b.geom b.pos (set js b.pos 61) ∙ (length-set js b.pos 61 ∙ w.size));
        are = λ r.
            let t : rises_from m (drop i bs) ≡ true = rw (left_here bs i no_bond b h e, lt-ltb m b.pos l) r in
            let u = w.are t in
            let v : mark_from c (drop i bs) 1 c (doubles_set (drop i bs) js) ≡ mark_from c (drop (i + 1) bs) 1 c (doubles_set (drop (i + 1) bs) is)
            = rw (left_here bs i no_bond b h e, f)
            (marks-first c 1 c b (drop (i + 1) bs) (doubles_set (drop (i + 1) bs) (set js b.pos 61)) r (omega arith) (omega arith)
            ∙ ap (mark_from c (drop (i + 1) bs) 1 c) (marks-over c b.geom b.pos (drop (i + 1) bs) (set js b.pos 61) r)) in
            u ∙ v;
      }

pub pass-room : (js : List ℕ) {is : List ℕ} {c : ℕ} (b : DbPos) → c < length js → is ≡ mark_bond c b.geom b.pos (set js b.pos 61) → c < length is
pass-room js {is} {c} b h f =
    let z : length is ≡ length js = rw f (length-mark c b.geom b.pos (set js b.pos 61) ∙ length-set js b.pos 61) in
    omega arith
