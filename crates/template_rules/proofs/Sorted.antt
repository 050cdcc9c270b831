-- The chains of a template by rising sn, and what holds of every chain that a template places.
-- Assumes nothing.
use Prim.Native.Nat.{ℕ, suc, ◌+◌, ◌≤◌, ◌<◌}
use native.Mathlib.Omega.{arith}
use mathlib.Core.Path.{◌≡◌, refl, sym, ap, ◌∙◌}
use mathlib.Core.Logic.{◌≢◌}
use mathlib.Core.Bool.{Bool, true, false, cond, not, ◌||◌, false≢true}
use mathlib.Core.Option.{Option, none, some}
use mathlib.Core.List.{List, [], ◌∷◌, ◌++◌, map}
use lib.ListN.{length, length-append}
use lib.Dec.{eqb, leb}
use borrow.Author.Tests.{eqb-false, eq-eqb, leb-true, leb-false, not-true}
use Rattle.chain_record.specs.plain.Chain.{Chain}
use Rattle.reading_rules.specs.reading.Lexer.{memb}
use Rattle.reading_rules.specs.reading.Piece.{Piece}
use Rattle.reading_rules.specs.reading.Molecule.{atoms_of, notes_of}
use Rattle.reading_rules.specs.reading.Line.{distinct, times}
use Rattle.reading_rules.proofs.reading.PartingLaws.{All, all_map, all_any, and_left, and_right, and_both}
use Rattle.reading_rules.proofs.reading.ListLaws.{times-all, all-times, distinct-times}
use Rattle.chain_rules.specs.declared.chain.Role.{Role}
use Rattle.chain_rules.specs.declared.chain.Role.TheVariants as role
use Rattle.chain_rules.specs.chain.Lists.{any_of}
use Rattle.chain_rules.specs.chain.Drawing.{carbons}
use Rattle.chain_rules.proofs.chain.Lists.{or_left, or_right, Rises, rises-from, all_append}
use Rattle.chain_rules.proofs.chain.Atoms.{chain_end-le, atoms_end-le, atoms_of-append}
use Rattle.template_rules.specs.Template.{Element, fixed, tail, slot, chain}
use Rattle.template_rules.specs.Drawn.{nonempty, fixed_pieces, tail_part, Placed, atoms_of_piece, atoms_of_pieces, site_of, place, atoms_after, variables_after, placed_from, insert_by_sn, by_sn, site_note, sn_sites}
use Rattle.template_rules.proofs.Templates.{sns_of, is_base, has_base, headed, Begins, begins}

-- ---- what a template places

-- every chain is placed at a slot or at a chain of the template
module _ (P : Placed → Type 0) where
  place-all : (sn : ℕ) (r : Role) (s : Option ℕ) (n v : ℕ) (o : Option Chain)
      → ((d : Chain) → P (record { sn = sn; role = r; chain = d; first = n; site = s; variable = v })) → All P (place sn r s n v o)
  place-all sn r s n v none h = tt
  place-all sn r s n v (some d) h = (h d, tt)

-- a fact of each sn of the template is one of each sn that is placed
pub sns-placed : (P : ℕ → Type 0) (t : List ℕ) (ds : List Chain) (n v : ℕ) (es : List Element) → All P (sns_of es) → All (λ p. P p.sn) (placed_from t ds n v es)
unfolding placed_from sns_of
sns-placed P t ds n v [] h = tt
sns-placed P t ds n v (fixed b ∷ es) h = sns-placed P t ds (n + atoms_of_pieces (fixed_pieces b)) v es h
sns-placed P t ds n v (tail ∷ es) h = sns-placed P t ds (n + (tail_part t).size) v es h
sns-placed P t ds n v (slot sn ∷ es) h =
    all_append (λ p. P p.sn) (place sn role.Slot (site_of role.Slot n) (suc n) v (nonempty sn ds)) _
    (place-all (λ p. P p.sn) sn role.Slot (site_of role.Slot n) (suc n) v (nonempty sn ds) (λ d. h.0))
    (sns-placed P t ds (atoms_after role.Slot (suc n) (nonempty sn ds)) (variables_after v (nonempty sn ds)) es h.1)
sns-placed P t ds n v (chain sn r ∷ es) h =
    all_append (λ p. P p.sn) (place sn r (site_of r n) n v (nonempty sn ds)) _
    (place-all (λ p. P p.sn) sn r (site_of r n) n v (nonempty sn ds) (λ d. h.0))
    (sns-placed P t ds (atoms_after r n (nonempty sn ds)) (variables_after v (nonempty sn ds)) es h.1)

-- a chain has atoms from its first on
after-le : (r : Role) (n : ℕ) (o : Option Chain) → n ≤ atoms_after r n o
after-le r n none = omega arith
after-le r n (some d) = omega (arith, chain_end-le n (carbons r d), atoms_end-le r d n)

-- every chain that is placed comes after the atoms before it
pub placed-after : (t : List ℕ) (ds : List Chain) (n v : ℕ) (es : List Element) → All (λ p. n ≤ p.first) (placed_from t ds n v es)
unfolding placed_from
placed-after t ds n v [] = tt
placed-after t ds n v (fixed b ∷ es) =
    all_map {P = λ (p : Placed). n + atoms_of_pieces (fixed_pieces b) ≤ p.first} (λ p h. omega arith) (placed_from t ds (n + atoms_of_pieces (fixed_pieces b)) v es)
    (placed-after t ds (n + atoms_of_pieces (fixed_pieces b)) v es)
placed-after t ds n v (tail ∷ es) =
    all_map {P = λ (p : Placed). n + (tail_part t).size ≤ p.first} (λ p h. omega arith) (placed_from t ds (n + (tail_part t).size) v es) (placed-after t ds (n + (tail_part t).size) v es)
placed-after t ds n v (slot sn ∷ es) =
    let m : ℕ = atoms_after role.Slot (suc n) (nonempty sn ds) in
    let w : ℕ = variables_after v (nonempty sn ds) in
    all_append (λ p. n ≤ p.first) (place sn role.Slot (site_of role.Slot n) (suc n) v (nonempty sn ds)) (placed_from t ds m w es)
    (place-all (λ p. n ≤ p.first) sn role.Slot (site_of role.Slot n) (suc n) v (nonempty sn ds) (λ d. omega arith))
    (all_map {P = λ (p : Placed). m ≤ p.first} (λ p h. omega (arith, after-le role.Slot (suc n) (nonempty sn ds))) (placed_from t ds m w es) (placed-after t ds m w es))
placed-after t ds n v (chain sn r ∷ es) =
    let m : ℕ = atoms_after r n (nonempty sn ds) in
    let w : ℕ = variables_after v (nonempty sn ds) in
    all_append (λ p. n ≤ p.first) (place sn r (site_of r n) n v (nonempty sn ds)) (placed_from t ds m w es)
    (place-all (λ p. n ≤ p.first) sn r (site_of r n) n v (nonempty sn ds) (λ d. omega arith))
    (all_map {P = λ (p : Placed). m ≤ p.first} (λ p h. omega (arith, after-le r n (nonempty sn ds))) (placed_from t ds m w es) (placed-after t ds m w es))

not-headed : (ps : List Placed) → All (λ p. false ≡ true → 2 ≤ p.first) ps
not-headed ps = all_any {P = λ (p : Placed). false ≡ true → 2 ≤ p.first} (λ p e. absurd (false≢true e)) ps

-- after `C(C` the chains begin with atom 2 or later
pub headed-first : (t : List ℕ) (ds : List Chain) (es : List Element) → All (λ p. headed es ≡ true → 2 ≤ p.first) (placed_from t ds 0 0 es)
unfolding placed_from headed
headed-first t ds [] = tt
headed-first t ds (fixed b ∷ es) =
    all_map {P = λ (p : Placed). 0 + atoms_of_pieces (fixed_pieces b) ≤ p.first} (λ p h e. omega (arith, two (fixed_pieces b) (begins (fixed_pieces b) e)))
    (placed_from t ds (0 + atoms_of_pieces (fixed_pieces b)) 0 es) (placed-after t ds (0 + atoms_of_pieces (fixed_pieces b)) 0 es)
  where
    two : (us : List Piece) → Begins us → 2 ≤ atoms_of_pieces us
    two us h = rw h.is (unfold atoms_of_pieces atoms_of_piece in omega arith)
headed-first t ds (tail ∷ es) = not-headed (placed_from t ds 0 0 (tail ∷ es))
headed-first t ds (slot sn ∷ es) = not-headed (placed_from t ds 0 0 (slot sn ∷ es))
headed-first t ds (chain sn r ∷ es) = not-headed (placed_from t ds 0 0 (chain sn r ∷ es))

-- a base is placed only by a template that has one
or-second : (a b : Bool) → b ≡ true → (a || b) ≡ true
or-second true b e = refl
or-second false b e = e

pub base-placed : (t : List ℕ) (ds : List Chain) (n v : ℕ) (es : List Element) → All (λ p. is_base p.role ≡ true → any_of has_base es ≡ true) (placed_from t ds n v es)
unfolding placed_from any_of has_base
base-placed t ds n v [] = tt
base-placed t ds n v (fixed b ∷ es) = base-placed t ds (n + atoms_of_pieces (fixed_pieces b)) v es
base-placed t ds n v (tail ∷ es) = base-placed t ds (n + (tail_part t).size) v es
base-placed t ds n v (slot sn ∷ es) =
    all_append (λ p. is_base p.role ≡ true → any_of has_base es ≡ true) (place sn role.Slot (site_of role.Slot n) (suc n) v (nonempty sn ds)) _
    (place-all (λ p. is_base p.role ≡ true → any_of has_base es ≡ true) sn role.Slot (site_of role.Slot n) (suc n) v (nonempty sn ds) (λ d e. absurd (false≢true e)))
    (base-placed t ds (atoms_after role.Slot (suc n) (nonempty sn ds)) (variables_after v (nonempty sn ds)) es)
base-placed t ds n v (chain sn r ∷ es) =
    let m : ℕ = atoms_after r n (nonempty sn ds) in
    let w : ℕ = variables_after v (nonempty sn ds) in
    all_append (λ p. is_base p.role ≡ true → (is_base r || any_of has_base es) ≡ true) (place sn r (site_of r n) n v (nonempty sn ds)) (placed_from t ds m w es)
    (place-all (λ p. is_base p.role ≡ true → (is_base r || any_of has_base es) ≡ true) sn r (site_of r n) n v (nonempty sn ds) (λ d e. rw e))
    (all_map {P = λ (p : Placed). is_base p.role ≡ true → any_of has_base es ≡ true} (λ p h e. or-second (is_base r) (any_of has_base es) (h e)) (placed_from t ds m w es)
    (base-placed t ds m w es))

-- no more chains than places
length-place : (sn : ℕ) (r : Role) (s : Option ℕ) (n v : ℕ) (o : Option Chain) → length (place sn r s n v o) ≤ 1
length-place sn r s n v none = omega arith
length-place sn r s n v (some d) = omega arith

pub length-placed : (t : List ℕ) (ds : List Chain) (n v : ℕ) (es : List Element) → length (placed_from t ds n v es) ≤ length (sns_of es)
unfolding placed_from sns_of
length-placed t ds n v [] = omega arith
length-placed t ds n v (fixed b ∷ es) = length-placed t ds (n + atoms_of_pieces (fixed_pieces b)) v es
length-placed t ds n v (tail ∷ es) = length-placed t ds (n + (tail_part t).size) v es
length-placed t ds n v (slot sn ∷ es) =
    let m : ℕ = atoms_after role.Slot (suc n) (nonempty sn ds) in
    let w : ℕ = variables_after v (nonempty sn ds) in
    let ps : List Placed = place sn role.Slot (site_of role.Slot n) (suc n) v (nonempty sn ds) in
    omega (arith, length-append ps (placed_from t ds m w es), length-place sn role.Slot (site_of role.Slot n) (suc n) v (nonempty sn ds), length-placed t ds m w es)
length-placed t ds n v (chain sn r ∷ es) =
    let m : ℕ = atoms_after r n (nonempty sn ds) in
    let w : ℕ = variables_after v (nonempty sn ds) in
    omega (arith, length-append (place sn r (site_of r n) n v (nonempty sn ds)) (placed_from t ds m w es), length-place sn r (site_of r n) n v (nonempty sn ds), length-placed t ds m w es)

-- ---- no two chains have one sn

abbrev pub Apart : List Placed → Type 0
Apart [] = Unit {0}
Apart (p ∷ ps) = All (λ q. q.sn ≢ p.sn) ps × Apart ps

apart-place : (sn : ℕ) (r : Role) (s : Option ℕ) (n v : ℕ) (o : Option Chain) (ps : List Placed) → All (λ q. q.sn ≢ sn) ps → Apart ps → Apart (place sn r s n v o ++ ps)
apart-place sn r s n v none ps h g = g
apart-place sn r s n v (some d) ps h g = (h, g)

others : (sn : ℕ) (sns : List ℕ) → memb sn sns ≡ false → All (λ z. z ≢ sn) sns
unfolding memb
others sn [] h = tt
others sn (z ∷ sns) h = ((λ e. eqb-false sn z (or_left (eqb sn z) (memb sn sns) h) (sym e)), others sn sns (or_right (eqb sn z) (memb sn sns) h))

pub placed-apart : (t : List ℕ) (ds : List Chain) (n v : ℕ) (es : List Element) → distinct (sns_of es) ≡ true → Apart (placed_from t ds n v es)
unfolding placed_from sns_of distinct
placed-apart t ds n v [] h = tt
placed-apart t ds n v (fixed b ∷ es) h = placed-apart t ds (n + atoms_of_pieces (fixed_pieces b)) v es h
placed-apart t ds n v (tail ∷ es) h = placed-apart t ds (n + (tail_part t).size) v es h
placed-apart t ds n v (slot sn ∷ es) h =
    let m : ℕ = atoms_after role.Slot (suc n) (nonempty sn ds) in
    let w : ℕ = variables_after v (nonempty sn ds) in
    apart-place sn role.Slot (site_of role.Slot n) (suc n) v (nonempty sn ds) (placed_from t ds m w es)
    (sns-placed (λ z. z ≢ sn) t ds m w es (others sn (sns_of es) (not-true (memb sn (sns_of es)) (and_left (not (memb sn (sns_of es))) (distinct (sns_of es)) h))))
    (placed-apart t ds m w es (and_right (not (memb sn (sns_of es))) (distinct (sns_of es)) h))
placed-apart t ds n v (chain sn r ∷ es) h =
    let m : ℕ = atoms_after r n (nonempty sn ds) in
    let w : ℕ = variables_after v (nonempty sn ds) in
    apart-place sn r (site_of r n) n v (nonempty sn ds) (placed_from t ds m w es)
    (sns-placed (λ z. z ≢ sn) t ds m w es (others sn (sns_of es) (not-true (memb sn (sns_of es)) (and_left (not (memb sn (sns_of es))) (distinct (sns_of es)) h))))
    (placed-apart t ds m w es (and_right (not (memb sn (sns_of es))) (distinct (sns_of es)) h))

-- ---- by rising sn

all_inserted : (P : Placed → Type 0) (p : Placed) (ps : List Placed) → P p → All P ps → All P (insert_by_sn p ps)
unfolding insert_by_sn
all_inserted P p [] h g = (h, tt)
all_inserted P p (q ∷ qs) h g = go (leb p.sn q.sn) (all_inserted P p qs h g.1)
  where
    go : (b : Bool) → All P (insert_by_sn p qs) → All P (cond b (p ∷ q ∷ qs) (q ∷ insert_by_sn p qs))
    go true r = (h, g)
    go false r = (g.0, r)

pub all-sorted : (P : Placed → Type 0) (ps : List Placed) → All P ps → All P (by_sn ps)
unfolding by_sn
all-sorted P [] h = tt
all-sorted P (p ∷ ps) h = all_inserted P p (by_sn ps) h.0 (all-sorted P ps h.1)

abbrev pub sn_of : Placed → ℕ
sn_of p = p.sn

-- no chain is lost by it, and there are no more sites than chains
length_inserted : (p : Placed) (ps : List Placed) → length (insert_by_sn p ps) ≡ suc (length ps)
unfolding insert_by_sn
length_inserted p [] = refl
length_inserted p (q ∷ qs) = go (leb p.sn q.sn) (length_inserted p qs)
  where
    go : (b : Bool) → length (insert_by_sn p qs) ≡ suc (length qs) → length (cond b (p ∷ q ∷ qs) (q ∷ insert_by_sn p qs)) ≡ suc (suc (length qs))
    go true h = refl
    go false h = ap suc h

pub length-sorted : (ps : List Placed) → length (by_sn ps) ≡ length ps
unfolding by_sn
length-sorted [] = refl
length-sorted (p ∷ ps) = length_inserted p (by_sn ps) ∙ ap suc (length-sorted ps)

pub sites-count : (ps : List Placed) → length (sn_sites ps) ≤ length ps
unfolding sn_sites
sites-count [] = omega arith
sites-count (p ∷ ps) = go p.site (sites-count ps)
  where
    go : (s : Option ℕ) → length (sn_sites ps) ≤ length ps → length (site_note s p.sn ++ sn_sites ps) ≤ suc (length ps)
    go none h = omega (arith, h)
    go (some i) h = omega (arith, h)

inserted-rise : (lo hi : ℕ) (p : Placed) (ps : List Placed) → lo ≤ p.sn → p.sn < hi → All (λ q. q.sn ≢ p.sn) ps → Rises lo hi (map sn_of ps) → Rises lo hi (map sn_of (insert_by_sn p ps))
unfolding insert_by_sn
inserted-rise lo hi p [] a b h g = (a, b)
inserted-rise lo hi p (q ∷ qs) a b h g = go (leb p.sn q.sn) refl (inserted-rise (suc q.sn) hi p qs)
  where
    go : (x : Bool) → leb p.sn q.sn ≡ x
        → (suc q.sn ≤ p.sn → p.sn < hi → All (λ z. z.sn ≢ p.sn) qs → Rises (suc q.sn) hi (map sn_of qs) → Rises (suc q.sn) hi (map sn_of (insert_by_sn p qs)))
        → Rises lo hi (map sn_of (cond x (p ∷ q ∷ qs) (q ∷ insert_by_sn p qs)))
    go true e ih =
        let l : p.sn ≤ q.sn = leb-true p.sn q.sn e in
        let d : q.sn ≢ p.sn = h.0 in
        (a, (omega arith, g.1))
    go false e ih =
        let l : q.sn < p.sn = leb-false p.sn q.sn e in
        (g.0, ih l b h.1 g.1)

pub sorted-rise : (lo hi : ℕ) (ps : List Placed) → lo ≤ hi → All (λ p. (lo ≤ p.sn) × (p.sn < hi)) ps → Apart ps → Rises lo hi (map sn_of (by_sn ps))
unfolding by_sn
sorted-rise lo hi [] l h a = l
sorted-rise lo hi (p ∷ ps) l h a =
    inserted-rise lo hi p (by_sn ps) h.0.0 h.0.1 (all-sorted (λ q. q.sn ≢ p.sn) ps a.0) (sorted-rise lo hi ps l h.1 a.1)

-- ---- the sn sites

-- the labels rise as the sns do
pub site-notes-rise : (lo hi : ℕ) (ps : List Placed) → Rises lo hi (map sn_of ps) → Rises lo hi (notes_of (sn_sites ps))
unfolding sn_sites notes_of
site-notes-rise lo hi [] h = h
site-notes-rise lo hi (p ∷ ps) h = go p.site (site-notes-rise (suc p.sn) hi ps h.1)
  where
    go : (o : Option ℕ) → Rises (suc p.sn) hi (notes_of (sn_sites ps)) → Rises lo hi (notes_of (site_note o p.sn ++ sn_sites ps))
    go none r = rises-from lo (suc p.sn) hi (notes_of (sn_sites ps)) (omega (arith, h.0)) r
    go (some i) r = (h.0, r)

times-append : (x : ℕ) (a b : List ℕ) → times x (a ++ b) ≡ times x a + times x b
unfolding times
times-append x [] b = omega arith
times-append x (y ∷ a) b = go (eqb x y) (times-append x a b)
  where
    go : (z : Bool) → times x (a ++ b) ≡ times x a + times x b
        → cond z (suc (times x (a ++ b))) (times x (a ++ b)) ≡ cond z (suc (times x a)) (times x a) + times x b
    go true e = omega arith
    go false e = e

-- the atoms of the sites
abbrev site_atoms : List Placed → List ℕ
site_atoms ps = atoms_of (sn_sites ps)

abbrev site_atom : Placed → List ℕ
site_atom p = atoms_of (site_note p.site p.sn)

times-cons : (x : ℕ) (p : Placed) (ps : List Placed) → times x (site_atoms (p ∷ ps)) ≡ times x (site_atom p) + times x (site_atoms ps)
unfolding sn_sites
times-cons x p ps = ap (times x) (atoms_of-append (site_note p.site p.sn) (sn_sites ps)) ∙ times-append x (site_atom p) (site_atoms ps)

times-inserted : (x : ℕ) (p : Placed) (ps : List Placed) → times x (site_atoms (insert_by_sn p ps)) ≡ times x (site_atoms (p ∷ ps))
unfolding insert_by_sn
times-inserted x p [] = refl
times-inserted x p (q ∷ qs) = go (leb p.sn q.sn) (times-inserted x p qs)
  where
    go : (b : Bool) → times x (site_atoms (insert_by_sn p qs)) ≡ times x (site_atoms (p ∷ qs))
        → times x (site_atoms (cond b (p ∷ q ∷ qs) (q ∷ insert_by_sn p qs))) ≡ times x (site_atoms (p ∷ q ∷ qs))
    go true e = refl
    go false e = omega (arith, times-cons x q (insert_by_sn p qs), times-cons x p qs, times-cons x p (q ∷ qs), times-cons x q qs)

times-sorted : (x : ℕ) (ps : List Placed) → times x (site_atoms (by_sn ps)) ≡ times x (site_atoms ps)
unfolding by_sn
times-sorted x [] = refl
times-sorted x (p ∷ ps) = omega (arith, times-inserted x p (by_sn ps), times-cons x p (by_sn ps), times-cons x p ps, times-sorted x ps)

-- numbers of which none stands there twice
times-memb : (x : ℕ) (xs : List ℕ) → times x xs ≡ 0 → memb x xs ≡ false
unfolding times memb
times-memb x [] h = refl
times-memb x (y ∷ xs) h = go (eqb x y) h (times-memb x xs)
  where
    go : (b : Bool) → cond b (suc (times x xs)) (times x xs) ≡ 0 → (times x xs ≡ 0 → memb x xs ≡ false) → (b || memb x xs) ≡ false
    go true e f = absurd (omega arith)
    go false e f = f e

-- the first number, and one more than it stands among the others
times-first : (y : ℕ) (xs : List ℕ) → times y (y ∷ xs) ≡ suc (times y xs)
unfolding times
times-first y xs = rw (eq-eqb y y refl)

times-others : (x y : ℕ) (xs : List ℕ) → times x xs ≤ times x (y ∷ xs)
unfolding times
times-others x y xs = go (eqb x y)
  where
    go : (b : Bool) → times x xs ≤ cond b (suc (times x xs)) (times x xs)
    go true = omega arith
    go false = omega arith

times-distinct : (xs : List ℕ) → ((x : ℕ) → times x xs ≤ 1) → distinct xs ≡ true
unfolding distinct
times-distinct [] h = refl
times-distinct (y ∷ xs) h =
    and_both (not (memb y xs)) (distinct xs) (ap not (times-memb y xs (omega (arith, h y, times-first y xs))))
    (times-distinct xs (λ x. omega (arith, h x, times-others x y xs)))

pub sorted-sites-apart : (ps : List Placed) → distinct (atoms_of (sn_sites ps)) ≡ true → distinct (atoms_of (sn_sites (by_sn ps))) ≡ true
sorted-sites-apart ps h = times-distinct (site_atoms (by_sn ps)) (λ x. omega (arith, times-sorted x ps, distinct-times (site_atoms ps) h x))

-- every site stands where it stood
pub sorted-sites-all : (P : ℕ → Type 0) (ps : List Placed) → All P (atoms_of (sn_sites ps)) → All P (atoms_of (sn_sites (by_sn ps)))
sorted-sites-all P ps h =
    all-times {P = P} (site_atoms (by_sn ps)) (λ x g. times-all P (site_atoms ps) h x (omega (arith, times-sorted x ps)))
