-- What a molecule of rows says of an atom, and the set of its sums.
-- Assumes nothing.
use Prim.Native.Nat.{ℕ, zero, suc, ◌+◌, ◌≤◌, ◌<◌}
use native.Mathlib.Decide.{ℕ_discrete}
use native.Mathlib.Omega.{arith}
use mathlib.Core.Path.{◌≡◌, refl, sym, ap, ◌∙◌, subst}
use mathlib.Core.Option.{Option, some}
use mathlib.Core.Bool.{true}
use borrow.Author.Tests.{eq-eqb, ne_eqb}
use mathlib.Core.List.{List, [], ◌∷◌, ◌++◌, map}
use Rattle.reading_rules.specs.reading.Ascii.{ascii}
use Rattle.reading_rules.specs.reading.Row.{link, Row, row}
use lib.ListN.{length}
use Rattle.reading_rules.specs.reading.Molecule.{At, at, atoms_of, look, bond, bond_key, bonds_to, bonds_from, bonds_of, Sum, set_of, sum_key, atoms_from, molecule_of}
use Rattle.reading_rules.proofs.reading.SetLaws.{Has, set_to, set-from, bond-told, sum_told}
use mathlib.Core.Logic.{inl, inr, ⊎_elim}
use Rattle.reading_rules.proofs.reading.PartingLaws.{All, all_map}
use Rattle.reading_rules.proofs.reading.Part.{none≢some}
use Rattle.template_rules.specs.Atoms.{atom_at, bytes_of, variable_of, bytes_at, variable_at, sums_in, label_of, label_at, row_at, Among, bonds_in, noted, mark_in, site_list_in, marks_in, site_lists_in}
use Rattle.template_rules.specs.declared.Class.{Class}
use Rattle.template_rules.specs.Written.{head_carbons}
use Rattle.template_rules.specs.Chains.{hangs_on, parent_of, mark_before, Joined, own_carbons, HeadedBy}
use Rattle.chain_rules.proofs.chain.Lists.{Rises, rises-le, rises-from, rises-within}
use Rattle.template_rules.proofs.Notes.{look-outside}
use Rattle.chain_rules.specs.chain.Lists.{Each}
use Rattle.chain_rules.specs.chain.Drawing.{sums}
use Rattle.template_rules.specs.Drawn.{Placed, all_sums}
use Rattle.chain_rules.specs.declared.chain.Role.{Role}
use Rattle.chain_rules.specs.declared.chain.Role.TheVariants as role
use Rattle.chain_rules.proofs.chain.Accepted.{Drawable}
use Rattle.template_rules.proofs.Templates.{is_base}
use Rattle.template_rules.proofs.Rows.{row_bytes}
use Rattle.template_rules.proofs.Strands.{bytes_in, first_link, RowsJoined, indices-own}

-- ---- atoms

atom-bytes : (n i : ℕ) (rs : List Row) (ls ms : List (At ℕ)) (fs : List (At (List ℕ))) (b : List ℕ) → row_bytes i rs ≡ some b
    → (bytes_of (atom_at i (atoms_from n rs ls ms fs)) ≡ some b) × (variable_of (atom_at i (atoms_from n rs ls ms fs)) ≡ look (n + i) ms)
unfolding row_bytes atom_at atoms_from
atom-bytes n i [] ls ms fs b h = absurd (none≢some h)
atom-bytes n zero (row a ks ∷ rs) ls ms fs b h = let e : n + 0 ≡ n = omega arith in (h, rw e)
atom-bytes n (suc i) (row a ks ∷ rs) ls ms fs b h = let e : n + suc i ≡ suc n + i = omega arith in rw e (atom-bytes (suc n) i rs ls ms fs b h)

atom-label : (n i : ℕ) (rs : List Row) (ls ms : List (At ℕ)) (fs : List (At (List ℕ))) → All (λ j. j < n + length rs) (atoms_of ls) → label_of (atom_at i (atoms_from n rs ls ms fs)) ≡ look (n + i) ls
unfolding atom_at atoms_from
atom-label n i [] ls ms fs h = sym (look-outside (n + i) ls (all_map {P = λ (j : ℕ). j < n + 0} (λ j q. λ e. omega arith) (atoms_of ls) h))
atom-label n zero (row a ks ∷ rs) ls ms fs h = let e : n + 0 ≡ n = omega arith in rw e refl
atom-label n (suc i) (row a ks ∷ rs) ls ms fs h =
    let e : n + suc i ≡ suc n + i = omega arith in
    rw e (atom-label (suc n) i rs ls ms fs (all_map {P = λ (j : ℕ). j < n + suc (length rs)} (λ j q. omega arith) (atoms_of ls) h))

-- ---- all that is noted

looks : {A : Type 0} → ℕ → List Row → List (At A) → List (Option A)
looks n [] xs = []
looks n (r ∷ rs) xs = look n xs ∷ looks (suc n) rs xs

atoms-looks : (n : ℕ) (rs : List Row) (ls ms : List (At ℕ)) (fs : List (At (List ℕ)))
    → (map mark_in (atoms_from n rs ls ms fs) ≡ looks n rs ms) × (map site_list_in (atoms_from n rs ls ms fs) ≡ looks n rs fs)
unfolding atoms_from looks
atoms-looks n [] ls ms fs = (refl, refl)
atoms-looks n (row a ks ∷ rs) ls ms fs =
    let ih : (map mark_in (atoms_from (suc n) rs ls ms fs) ≡ looks (suc n) rs ms) × (map site_list_in (atoms_from (suc n) rs ls ms fs) ≡ looks (suc n) rs fs) = atoms-looks (suc n) rs ls ms fs in
    (rw ih.0 refl, rw ih.1 refl)

-- what is noted at atoms that rise is found there, and nothing else
noted-looks : {A : Type 0} (n : ℕ) (rs : List Row) (xs ys : List (At A)) → Rises n (n + length rs) (atoms_of xs) → ((i : ℕ) → n ≤ i → look i ys ≡ look i xs) → noted n (looks n rs ys) ≡ xs
unfolding noted looks atoms_of look
noted-looks n [] [] ys h e = refl
noted-looks n [] (at i a ∷ xs) ys h e = absurd (omega (arith, h.0, rises-le (suc i) (n + 0) (atoms_of xs) h.1))
noted-looks n (r ∷ rs) [] ys h e = rw (e n (omega arith)) (noted-looks (suc n) rs [] ys (omega arith) (λ i q. e i (omega arith)))
noted-looks {A} n (r ∷ rs) (at i a ∷ xs) ys h e = go (ℕ_discrete n i) (λ xs'. noted-looks (suc n) rs xs' ys)
  where
    up : suc n + length rs ≡ n + length (r ∷ rs)
    up = omega arith

    go : Dec (n ≡ i) → ((xs' : List (At A)) → Rises (suc n) (suc n + length rs) (atoms_of xs') → ((j : ℕ) → suc n ≤ j → look j ys ≡ look j xs') → noted (suc n) (looks (suc n) rs ys) ≡ xs') → noted n (look n ys ∷ looks (suc n) rs ys) ≡ at i a ∷ xs
    go (yes q) ih =
        rw (e n (omega arith), eq-eqb n i q)
        (ap (λ (z : ℕ). at z a ∷ noted (suc n) (looks (suc n) rs ys)) q
        ∙ ap (λ (z : List (At _)). at i a ∷ z)
        (ih xs (rw up (rises-from (suc n) (suc i) (n + length (r ∷ rs)) (atoms_of xs) (omega arith) h.1)) (λ j w. e j (omega arith) ∙ rw (ne_eqb j i (λ z. omega arith)) refl)))
    go (no q) ih =
        rw (e n (omega arith), ne_eqb n i q, look-outside n xs (all_map {P = λ (j : ℕ). (suc i ≤ j) × (j < n + length (r ∷ rs))} (λ j w. λ z. omega (arith, w.0, h.0)) (atoms_of xs) (rises-within (suc i) (n + length (r ∷ rs)) (atoms_of xs) h.1)))
        (ih (at i a ∷ xs) (rw up (omega (arith, h.0), h.1)) (λ j w. e j (omega arith)))

module _ (rs : List Row) (ls ms : List (At ℕ)) (fs : List (At (List ℕ))) (ss : List Sum) where
  pub bytes-at : (i : ℕ) (b : List ℕ) → row_bytes i rs ≡ some b → bytes_at (molecule_of rs ls ms fs ss) i ≡ some b
  unfolding bytes_at molecule_of
  bytes-at i b h = (atom-bytes 0 i rs ls ms fs b h).0

  -- an atom is marked as the marks say
  pub variable-at : (i : ℕ) (b : List ℕ) → row_bytes i rs ≡ some b → variable_at (molecule_of rs ls ms fs ss) i ≡ look i ms
  unfolding variable_at molecule_of
  variable-at i b h = (atom-bytes 0 i rs ls ms fs b h).1 ∙ ap (λ (z : ℕ). look z ms) (omega arith)

  from : length rs ≡ 0 + length rs
  from = omega arith

  -- it has the label that the labels say
  pub label-at : (i : ℕ) → All (λ j. j < length rs) (atoms_of ls) → label_at (molecule_of rs ls ms fs ss) i ≡ look i ls
  unfolding label_at molecule_of
  label-at i h =
      let e : 0 + i ≡ i = omega arith in
      atom-label 0 i rs ls ms fs (all_map {P = λ (j : ℕ). j < length rs} (λ j q. omega arith) (atoms_of ls) h) ∙ ap (λ (z : ℕ). look z ls) e

  pub marks-in : Rises 0 (length rs) (atoms_of ms) → marks_in (molecule_of rs ls ms fs ss) ≡ ms
  unfolding marks_in molecule_of
  marks-in h = ap (noted 0) (atoms-looks 0 rs ls ms fs).0 ∙ noted-looks 0 rs ms ms (rw from at h) (λ i q. refl)

  pub lists-in : Rises 0 (length rs) (atoms_of fs) → site_lists_in (molecule_of rs ls ms fs ss) ≡ fs
  unfolding site_lists_in molecule_of
  lists-in h = ap (noted 0) (atoms-looks 0 rs ls ms fs).1 ∙ noted-looks 0 rs fs fs (rw from at h) (λ i q. refl)

  pub sums-in : sums_in (molecule_of rs ls ms fs ss) ≡ set_of sum_key ss
  unfolding sums_in molecule_of
  sums-in = refl

-- ---- bonds

has_right : {A : Type 0} (x : A) (xs ys : List A) → Has x ys → Has x (xs ++ ys)
has_right x [] ys h = h
has_right x (b ∷ xs) ys h = inr (has_right x xs ys h)

-- an atom's first link is a bond
first-bond : (n i : ℕ) (rs : List Row) (a m : ℕ) → first_link (row_at i rs) ≡ some (link a m) → Has (bond a (n + i) m) (bonds_from n rs)
unfolding row_at bonds_from bonds_to
first-bond n i [] a m h = absurd (none≢some h)
first-bond n zero (row b [] ∷ rs) a m h = absurd (none≢some h)
first-bond n zero (row b (link a' m' ∷ ks) ∷ rs) a m h =
    let e : n + 0 ≡ n = omega arith in
    let q : bond a n m ≡ bond a' n m' = cc in
    rw e (inl q)
first-bond n (suc i) (row b ks ∷ rs) a m h =
    let e : n + suc i ≡ suc n + i = omega arith in
    rw e (has_right (bond a (suc n + i) m) (bonds_to n ks) (bonds_from (suc n) rs) (first-bond (suc n) i rs a m h))

has-among : {A : Type 0} (x : A) (l : List A) → Has x l → Among x l
has-among x [] h = absurd h
has-among x (b ∷ l) h = ⊎_elim (λ e. inl e) (λ r. inr (has-among x l r)) h

row-bytes : (i : ℕ) (rs : List Row) (b : List ℕ) → bytes_in (row_at i rs) ≡ some b → row_bytes i rs ≡ some b
unfolding row_at row_bytes
row-bytes i [] b h = absurd (none≢some h)
row-bytes zero (row a ks ∷ rs) b h = h
row-bytes (suc i) (row a ks ∷ rs) b h = row-bytes i rs b h

-- a chain whose rows are joined to the atom that it hangs on is joined to it in the molecule
pub joined_in : (rs : List Row) (ls ms : List (At ℕ)) (fs : List (At (List ℕ))) (ss : List Sum) (c : Class) (p : Placed)
    → RowsJoined rs (parent_of c p.role) (hangs_on p.role p.first) p.first (mark_before p.role p.chain) → Joined c (molecule_of rs ls ms fs ss) p
unfolding bonds_in molecule_of bonds_of
joined_in rs ls ms fs ss c p j =
    let n : ℕ = p.first in
    let k : ℕ = hangs_on p.role n in
    let m : ℕ = mark_before p.role p.chain in
    let e : 0 + n ≡ n = omega arith in
    record {
      before = j.before;
      parent = bytes-at rs ls ms fs ss k (parent_of c p.role) (row-bytes k rs (parent_of c p.role) j.parent_is);
      carbon = bytes-at rs ls ms fs ss n (ascii "C") (row-bytes n rs (ascii "C") j.carbon);
      bonded = has-among (bond k n m) (set_of bond_key (bonds_from 0 rs)) (set-from bond_key bond-told (bond k n m) (bonds_from 0 rs) (rw e at (first-bond 0 n rs k m j.bonded)));
    }

-- a base whose C2 is atom 0, with atom 1 joined to it
pub headed-in : (rs : List Row) (ls ms : List (At ℕ)) (fs : List (At (List ℕ))) (ss : List Sum) (p : Placed) → Drawable p.role p.chain → (is_base p.role ≡ true → first_link (row_at 1 rs) ≡ some (link 0 0))
    → HeadedBy p.role (molecule_of rs ls ms fs ss) p
unfolding bonds_in molecule_of bonds_of
headed-in rs ls ms fs ss p a h = go p.role refl (h)
  where
    go : (r : Role) → p.role ≡ r → (is_base r ≡ true → first_link (row_at 1 rs) ≡ some (link 0 0)) → HeadedBy r (molecule_of rs ls ms fs ss) p
    go role.Slot e l = tt
    go role.Acyl e l = tt
    go role.Base e l =
        let on : hangs_on p.role p.first ≡ 0 = ap (λ (r : Role). hangs_on r p.first) e in
        record {
          listed = indices-own p a ∙ ap (λ (r : Role). head_carbons r ++ own_carbons p) e ∙ ap (λ (k : ℕ). 1 ∷ k ∷ own_carbons p) (sym on);
          bonded = rw on (has-among (bond 0 1 0) (set_of bond_key (bonds_from 0 rs)) (set-from bond_key bond-told (bond 0 1 0) (bonds_from 0 rs) (first-bond 0 1 rs 0 0 (l refl))));
        }

-- ---- sets

-- what holds of every element of a list holds of each that it has, and the other way round
all-has : (P : Sum → Type 0) (x : Sum) (l : List Sum) → All P l → Has x l → P x
all-has P x [] a h = absurd h
all-has P x (b ∷ l) a h = ⊎_elim (λ e. subst P (sym e) a.0) (λ r. all-has P x l a.1 r) h

has_all : (P : Sum → Type 0) (l : List Sum) → ((x : Sum) → Has x l → P x) → All P l
has_all P [] h = tt
has_all P (b ∷ l) h = (h b (inl refl), has_all P l (λ x q. h x (inr q)))

module _ (P : Sum → Type 0) (ss : List Sum) where
  -- a set has no more than its list, and no less
  pub set_all : All P ss → All P (set_of sum_key ss)
  set_all h = has_all P (set_of sum_key ss) (λ x q. all-has P x ss h (set_to sum_key sum_told x ss q))

  pub all_set : All P (set_of sum_key ss) → All P ss
  all_set h = has_all P ss (λ x q. all-has P x (set_of sum_key ss) h (set-from sum_key sum_told x ss q))

-- the sums of each chain are among those of all
has_left : (x : Sum) (xs ys : List Sum) → Has x xs → Has x (xs ++ ys)
has_left x [] ys h = absurd h
has_left x (b ∷ xs) ys h = ⊎_elim (λ e. inl e) (λ r. inr (has_left x xs ys r)) h

each-among : (ss l : List Sum) → ((x : Sum) → Has x l → Has x ss) → Each (λ x. Among x (set_of sum_key ss)) l
each-among ss [] h = tt
each-among ss (x ∷ l) h = (has-among x (set_of sum_key ss) (set-from sum_key sum_told x ss (h x (inl refl))), each-among ss l (λ y q. h y (inr q)))

pub sums-among : (ss : List Sum) (ps : List Placed) → ((x : Sum) → Has x (all_sums ps) → Has x ss) → All (λ p. Each (λ x. Among x (set_of sum_key ss)) (sums p.role p.chain p.variable)) ps
unfolding all_sums
sums-among ss [] h = tt
sums-among ss (p ∷ ps) h =
    let own : List Sum = sums p.role p.chain p.variable in
    (each-among ss own (λ x q. h x (has_left x own (all_sums ps) q)), sums-among ss ps (λ x q. h x (has_right x own (all_sums ps) q)))
