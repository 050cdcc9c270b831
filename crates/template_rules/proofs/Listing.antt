-- The chains that are listed are those of the tokens that have carbons, by rising sn.
-- Assumes nothing.
use Prim.Native.Nat.{ℕ, zero, suc, ◌+◌, ◌≤◌, ◌<◌}
use native.Mathlib.Omega.{arith}
use native.Mathlib.Decide.{dec_lt, ℕ_discrete}
use mathlib.Core.Path.{◌≡◌, refl, sym, ap, ◌∙◌}
use mathlib.Core.Logic.{◌≢◌}
use mathlib.Core.Bool.{Bool, true, false, cond, ◌||◌, false≢true}
use mathlib.Core.Option.{Option, none, some}
use mathlib.Core.List.{List, [], ◌∷◌, ◌++◌, map}
use lib.ListN.{length}
use lib.Dec.{eqb, leb}
use borrow.Author.Tests.{eqb-true, eq-eqb, ne_eqb}
use Rattle.chain_record.specs.plain.Chain.{Chain}
use Rattle.reading_rules.specs.reading.Lexer.{memb}
use Rattle.reading_rules.proofs.reading.Part.{none≢some}
use Rattle.reading_rules.proofs.reading.PartingLaws.{All, and_left, and_right}
use Rattle.chain_rules.specs.declared.chain.Role.{Role}
use Rattle.chain_rules.specs.declared.chain.Role.TheVariants as role
use Rattle.chain_rules.specs.chain.Lists.{all_of, values_from}
use Rattle.chain_rules.proofs.chain.Lists.{Rises, rises-from}
use Rattle.template_rules.specs.Template.{Element, fixed, tail, slot, chain}
use Rattle.template_rules.specs.Drawn.{chain_at, nonempty, fixed_pieces, tail_part, Placed, atoms_of_pieces, site_of, place, atoms_after, variables_after, placed_from, insert_by_sn, by_sn}
use Rattle.template_rules.specs.Promise.{chains_from, names_of}
use Rattle.template_rules.proofs.Templates.{sns_of}
use Rattle.template_rules.proofs.Sorted.{Apart, all-sorted, sn_of}

abbrev Names : Type 0
Names = List (ℕ × Chain)

-- the chain that is listed for an sn
name_at : ℕ → Names → Option Chain
name_at sn [] = none
name_at sn (x ∷ xs) = cond (eqb sn x.0) (some x.1) (name_at sn xs)

abbrev key_of : ℕ × Chain → ℕ
key_of x = x.0

-- ---- lists that rise are the same where they have the same

name-none : (k lo hi : ℕ) (xs : Names) → Rises lo hi (map key_of xs) → k < lo → name_at k xs ≡ none
unfolding name_at
name-none k lo hi [] h g = refl
name-none k lo hi (x ∷ xs) h g = rw (ne_eqb k x.0 (λ e. omega (arith, h.0))) (name-none k (suc x.0) hi xs h.1 (omega (arith, h.0)))

name-first : (x : ℕ × Chain) (xs : Names) → name_at x.0 (x ∷ xs) ≡ some x.1
unfolding name_at
name-first x xs = rw (eq-eqb x.0 x.0 refl)

name-other : (k : ℕ) (x : ℕ × Chain) (xs : Names) → k ≢ x.0 → name_at k (x ∷ xs) ≡ name_at k xs
unfolding name_at
name-other k x xs h = rw (ne_eqb k x.0 h)

name-nil : (k : ℕ) → none ≡ name_at k []
unfolding name_at
name-nil k = refl

-- the first of one is not before the first of the other
not-before : (lo hi hi' : ℕ) (x y : ℕ × Chain) (xs ys : Names) → Rises lo hi (map key_of (x ∷ xs)) → Rises lo hi' (map key_of (y ∷ ys))
    → name_at x.0 (x ∷ xs) ≡ name_at x.0 (y ∷ ys) → x.0 < y.0 → ⊥
not-before lo hi hi' x y xs ys h g e l =
    none≢some (sym (name-none x.0 (suc x.0) hi' (y ∷ ys) (l, g.1) (omega arith)) ∙ (sym e ∙ name-first x xs))

same_names : (lo hi hi' : ℕ) (xs ys : Names) → Rises lo hi (map key_of xs) → Rises lo hi' (map key_of ys) → ((k : ℕ) → name_at k xs ≡ name_at k ys) → xs ≡ ys
same_names lo hi hi' [] [] h g e = refl
same_names lo hi hi' [] (y ∷ ys) h g e = absurd (none≢some (name-nil y.0 ∙ (e y.0 ∙ name-first y ys)))
same_names lo hi hi' (x ∷ xs) [] h g e = absurd (none≢some (name-nil x.0 ∙ (sym (e x.0) ∙ name-first x xs)))
same_names lo hi hi' (x ∷ xs) (y ∷ ys) h g e = go (dec_lt x.0 y.0) (dec_lt y.0 x.0) (same_names (suc x.0) hi hi' xs ys)
  where
    go : Dec (x.0 < y.0) → Dec (y.0 < x.0)
        → (Rises (suc x.0) hi (map key_of xs) → Rises (suc x.0) hi' (map key_of ys) → ((k : ℕ) → name_at k xs ≡ name_at k ys) → xs ≡ ys) → x ∷ xs ≡ y ∷ ys
    go (yes l) d ih = absurd (not-before lo hi hi' x y xs ys h g (e x.0) l)
    go (no l) (yes r) ih = absurd (not-before lo hi' hi y x ys xs g h (sym (e y.0)) r)
    go (no l) (no r) ih =
        let p : x.0 ≡ y.0 = omega arith in
        let a : some x.1 ≡ name_at y.0 (y ∷ ys) = sym (name-first x xs) ∙ (e x.0 ∙ ap (λ (z : ℕ). name_at z (y ∷ ys)) p) in
        let b : some x.1 ≡ some y.1 = a ∙ name-first y ys in
        let q : x.1 ≡ y.1 = cc in
        let t : xs ≡ ys = ih h.1 (rises-from (suc x.0) (suc y.0) hi' (map key_of ys) (omega arith) g.1) (λ k. rest k (ℕ_discrete k x.0) p) in
        let w : x ≡ y = pair x y p q in
        cc
      where
        pair : (x y : ℕ × Chain) → x.0 ≡ y.0 → x.1 ≡ y.1 → x ≡ y
        pair x y p q = λ i. (p i, q i)

        rest : (k : ℕ) → Dec (k ≡ x.0) → x.0 ≡ y.0 → name_at k xs ≡ name_at k ys
        rest k (yes z) p =
            name-none k (suc x.0) hi xs h.1 (omega arith) ∙ sym (name-none k (suc y.0) hi' ys g.1 (omega arith))
        rest k (no z) p = sym (name-other k x xs z) ∙ (e k ∙ name-other k y ys (λ w. z (w ∙ sym p)))

-- ---- the tokens' chains

chains-rise : (sn : ℕ) (ds : List Chain) → Rises sn (sn + length ds) (map key_of (chains_from sn ds))
unfolding chains_from
chains-rise sn [] = omega arith
chains-rise sn (d ∷ ds) = go (eqb d.carbon 0) (chains-rise (suc sn) ds)
  where
    go : (b : Bool) → Rises (suc sn) (suc sn + length ds) (map key_of (chains_from (suc sn) ds))
        → Rises sn (sn + suc (length ds)) (map key_of (cond b (chains_from (suc sn) ds) ((sn, d) ∷ chains_from (suc sn) ds)))
    go b r = let e : sn + suc (length ds) ≡ suc sn + length ds = omega arith in rw e (both b r)
      where
        both : (b : Bool) → Rises (suc sn) (suc sn + length ds) (map key_of (chains_from (suc sn) ds))
            → Rises sn (suc sn + length ds) (map key_of (cond b (chains_from (suc sn) ds) ((sn, d) ∷ chains_from (suc sn) ds)))
        both true r = rises-from sn (suc sn) (suc sn + length ds) (map key_of (chains_from (suc sn) ds)) (omega arith) r
        both false r = (omega arith, r)

chains-name : (m k : ℕ) (ds : List Chain) → name_at (m + k) (chains_from m ds) ≡ nonempty (suc k) ds
unfolding chains_from name_at nonempty chain_at
chains-name m k [] = refl
chains-name m zero (d ∷ ds) = let e : m + 0 ≡ m = omega arith in rw e (go (eqb d.carbon 0))
  where
    go : (b : Bool) → name_at m (cond b (chains_from (suc m) ds) ((m, d) ∷ chains_from (suc m) ds)) ≡ cond b none (some d)
    go true = name-none m (suc m) (suc m + length ds) (chains_from (suc m) ds) (chains-rise (suc m) ds) (omega arith)
    go false = name-first (m, d) (chains_from (suc m) ds)
chains-name m (suc k) (d ∷ ds) = let e : m + suc k ≡ suc m + k = omega arith in rw e (go (eqb d.carbon 0) (chains-name (suc m) k ds))
  where
    go : (b : Bool) → name_at (suc m + k) (chains_from (suc m) ds) ≡ nonempty (suc k) ds
        → name_at (suc m + k) (cond b (chains_from (suc m) ds) ((m, d) ∷ chains_from (suc m) ds)) ≡ nonempty (suc k) ds
    go true q = q
    go false q = name-other (suc m + k) (m, d) (chains_from (suc m) ds) (λ z. omega arith) ∙ q

no_zero : (ds : List Chain) → nonempty 0 ds ≡ none
unfolding nonempty chain_at
no_zero [] = refl
no_zero (d ∷ ds) = refl

-- the list of the tokens has for each sn its chain, if that has carbons
tokens-name : (k : ℕ) (ds : List Chain) → name_at k (chains_from 1 ds) ≡ nonempty k ds
tokens-name zero ds = name-none 0 1 (1 + length ds) (chains_from 1 ds) (chains-rise 1 ds) (omega arith) ∙ sym (no_zero ds)
tokens-name (suc k) ds = let e : 1 + k ≡ suc k = omega arith in rw e at (chains-name 1 k ds)

-- ---- the chains that are placed

-- one more place
place-name : (ds : List Chain) (k sn : ℕ) (r : Role) (s : Option ℕ) (n v : ℕ) (o : Option Chain) (b : Bool) (ps : List Placed) → nonempty sn ds ≡ o
    → name_at k (names_of ps) ≡ cond b (nonempty k ds) none → name_at k (names_of (place sn r s n v o ++ ps)) ≡ cond (eqb k sn || b) (nonempty k ds) none
unfolding names_of name_at
place-name ds k sn r s n v none b ps e h = go (eqb k sn) refl b h
  where
    go : (x : Bool) → eqb k sn ≡ x → (b : Bool) → name_at k (names_of ps) ≡ cond b (nonempty k ds) none → name_at k (names_of ps) ≡ cond (x || b) (nonempty k ds) none
    go false q b h = h
    go true q true h = h
    go true q false h = h ∙ sym (ap (λ (z : ℕ). nonempty z ds) (eqb-true k sn q) ∙ e)
place-name ds k sn r s n v (some d) b ps e h = go (eqb k sn) refl
  where
    go : (x : Bool) → eqb k sn ≡ x → cond x (some d) (name_at k (names_of ps)) ≡ cond (x || b) (nonempty k ds) none
    go true q = sym (ap (λ (z : ℕ). nonempty z ds) (eqb-true k sn q) ∙ e)
    go false q = h

placed-name : (t : List ℕ) (ds : List Chain) (n v : ℕ) (es : List Element) (k : ℕ) → name_at k (names_of (placed_from t ds n v es)) ≡ cond (memb k (sns_of es)) (nonempty k ds) none
unfolding placed_from sns_of memb
placed-name t ds n v [] k = unfold names_of name_at in refl
placed-name t ds n v (fixed b ∷ es) k = placed-name t ds (n + atoms_of_pieces (fixed_pieces b)) v es k
placed-name t ds n v (tail ∷ es) k = placed-name t ds (n + (tail_part t).size) v es k
placed-name t ds n v (slot sn ∷ es) k =
    let m : ℕ = atoms_after role.Slot (suc n) (nonempty sn ds) in
    let w : ℕ = variables_after v (nonempty sn ds) in
    place-name ds k sn role.Slot (site_of role.Slot n) (suc n) v (nonempty sn ds) (memb k (sns_of es)) (placed_from t ds m w es) refl (placed-name t ds m w es k)
placed-name t ds n v (chain sn r ∷ es) k =
    let m : ℕ = atoms_after r n (nonempty sn ds) in
    let w : ℕ = variables_after v (nonempty sn ds) in
    place-name ds k sn r (site_of r n) n v (nonempty sn ds) (memb k (sns_of es)) (placed_from t ds m w es) refl (placed-name t ds m w es k)

-- ---- by rising sn

inserted-name : (k : ℕ) (p : Placed) (ps : List Placed) → All (λ q. q.sn ≢ p.sn) ps → name_at k (names_of (insert_by_sn p ps)) ≡ name_at k (names_of (p ∷ ps))
unfolding insert_by_sn names_of name_at
inserted-name k p [] h = refl
inserted-name k p (q ∷ qs) h = go (leb p.sn q.sn) (inserted-name k p qs h.1)
  where
    swap : (a b : Bool) → eqb k p.sn ≡ a → eqb k q.sn ≡ b → (x : Option Chain)
        → cond b (some q.chain) (cond a (some p.chain) x) ≡ cond a (some p.chain) (cond b (some q.chain) x)
    swap true true u w x = absurd (h.0 (sym (eqb-true k q.sn w) ∙ eqb-true k p.sn u))
    swap true false u w x = refl
    swap false b u w x = refl

    go : (b : Bool) → name_at k (names_of (insert_by_sn p qs)) ≡ cond (eqb k p.sn) (some p.chain) (name_at k (names_of qs))
        → name_at k (names_of (cond b (p ∷ q ∷ qs) (q ∷ insert_by_sn p qs))) ≡ cond (eqb k p.sn) (some p.chain) (cond (eqb k q.sn) (some q.chain) (name_at k (names_of qs)))
    go true e = refl
    go false e = ap (λ (z : Option Chain). cond (eqb k q.sn) (some q.chain) z) e ∙ swap (eqb k p.sn) (eqb k q.sn) refl refl (name_at k (names_of qs))

sorted-name : (k : ℕ) (ps : List Placed) → Apart ps → name_at k (names_of (by_sn ps)) ≡ name_at k (names_of ps)
unfolding by_sn names_of name_at
sorted-name k [] h = refl
sorted-name k (p ∷ ps) h =
    inserted-name k p (by_sn ps) (all-sorted (λ q. q.sn ≢ p.sn) ps h.0)
    ∙ ap (λ (z : Option Chain). cond (eqb k p.sn) (some p.chain) z) (sorted-name k ps h.1)

keys : (ps : List Placed) → map key_of (names_of ps) ≡ map sn_of ps
unfolding names_of
keys [] = refl
keys (p ∷ ps) = ap (λ (z : List ℕ). p.sn ∷ z) (keys ps)

-- ---- a token past the template's places

-- a token has an sn from 1 to the number of tokens
chain-within : (k : ℕ) (ds : List Chain) → length ds < k → nonempty k ds ≡ none
unfolding nonempty chain_at
chain-within k [] h = refl
chain-within zero (d ∷ ds) h = absurd (omega arith)
chain-within (suc zero) (d ∷ ds) h = absurd (omega arith)
chain-within (suc (suc k)) (d ∷ ds) h = chain-within (suc k) ds (omega arith)

in-places : (sns : List ℕ) (f m k : ℕ) → all_of (λ sn. memb sn sns) (values_from (λ z. z) f m) ≡ true → f ≤ k → k < f + m → memb k sns ≡ true
unfolding all_of values_from
in-places sns f zero k h a b = absurd (omega arith)
in-places sns f (suc m) k h a b = go (ℕ_discrete k f) (in-places sns (suc f) m k (and_right (memb f sns) (all_of (λ sn. memb sn sns) (values_from (λ z. z) (suc f) m)) h))
  where
    go : Dec (k ≡ f) → (suc f ≤ k → k < suc f + m → memb k sns ≡ true) → memb k sns ≡ true
    go (yes e) ih = rw e (and_left (memb f sns) (all_of (λ sn. memb sn sns) (values_from (λ z. z) (suc f) m)) h)
    go (no e) ih = ih (omega arith) (omega arith)

-- THE LISTED CHAINS
pub chains-listed : (t : List ℕ) (ds : List Chain) (m : ℕ) (es : List Element) → all_of (λ sn. memb sn (sns_of es)) (values_from (λ k. k) 1 m) ≡ true → length ds ≤ m
    → Apart (placed_from t ds 0 0 es) → (hi : ℕ) → Rises 1 hi (map sn_of (by_sn (placed_from t ds 0 0 es))) → names_of (by_sn (placed_from t ds 0 0 es)) ≡ chains_from 1 ds
chains-listed t ds m es h l a hi g =
    same_names 1 hi (1 + length ds) (names_of (by_sn ps)) (chains_from 1 ds) (rw (keys (by_sn ps)) g) (chains-rise 1 ds)
    (λ k. sorted-name k ps a ∙ (placed-name t ds 0 0 es k ∙ (there k (memb k (sns_of es)) refl ∙ sym (tokens-name k ds))))
  where
    ps : List Placed
    ps = placed_from t ds 0 0 es

    there : (k : ℕ) (b : Bool) → memb k (sns_of es) ≡ b → cond b (nonempty k ds) none ≡ nonempty k ds
    there k true e = refl
    there zero false e = sym (no_zero ds)
    there (suc k) false e = go (dec_lt (length ds) (suc k))
      where
        go : Dec (length ds < suc k) → none ≡ nonempty (suc k) ds
        go (yes q) = sym (chain-within (suc k) ds q)
        go (no q) = absurd (false≢true (sym e ∙ in-places (sns_of es) 1 m (suc k) h (omega arith) (omega arith)))
