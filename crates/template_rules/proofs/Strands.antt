-- What stands among the rows of a template for one of its chains: its own rows, its carbons at its indices, its site and its floating parts.
-- Assumes nothing.
use Prim.Native.Nat.{ℕ, zero, suc, ◌+◌, ◌-◌, ◌*◌, ◌≤◌, ◌<◌}
use native.Mathlib.Omega.{arith}
use mathlib.Core.Path.{◌≡◌, refl, sym, ap, ◌∙◌}
use mathlib.Core.Bool.{Bool, true, false, cond}
use mathlib.Core.Option.{Option, none, some}
use mathlib.Core.List.{List, [], ◌∷◌, ◌++◌, map, append_assoc}
use lib.ListN.{length, take, drop, length-append}
use borrow.Author.Tests.{eq-eqb, ne_eqb}
use Rattle.chain_record.specs.plain.Chain.{Chain}
use Rattle.chain_record.specs.declared.plain.Mod.{Mod}
use Rattle.reading_rules.specs.reading.Ascii.{ascii}
use Rattle.reading_rules.specs.reading.Row.{Link, link, Row, row}
use Rattle.reading_rules.specs.reading.Machine.{plainly}
use Rattle.reading_rules.specs.reading.Part.{Part, hung}
use Rattle.reading_rules.specs.reading.Molecule.{At, at, atoms_of, notes_of}
use Rattle.reading_rules.specs.reading.Line.{summed}
use Rattle.group_table.specs.groups.Groups.{entries, keto}
use Rattle.reading_rules.specs.reading.Chain.{Ring, Carbon, parts_end, carbon_end, carbon_last, chain_end, atom_from, atom_of, part_rows, bridge_rows, Kind, own, other, Member, others, carbon_members, chain_members, float_members, rows_of, places}
use Rattle.reading_rules.specs.reading.Template.{members}
use Rattle.reading_rules.proofs.reading.Members.{rows-length, float-rows, places-others}
use Rattle.reading_rules.proofs.reading.Part.{none≢some}
use Rattle.reading_rules.proofs.reading.PartingLaws.{All, all_map}
use Rattle.chain_rules.specs.declared.chain.Role.{Role}
use Rattle.chain_rules.specs.declared.chain.Role.TheVariants as role
use Rattle.chain_rules.specs.chain.Lists.{values_from, Each}
use Rattle.chain_rules.specs.chain.Features.{first_drawn, is_acyl, groups_on, floating, literal_end, flexible_count, drawn_count, site_skip}
use Rattle.chain_rules.specs.chain.Bonds.{bond_at, mark_of}
use Rattle.chain_rules.specs.chain.Drawing.{carbon_at, literal, flexible, carbons, ring_pairs, floats, chain_drawn, carbon_atoms, site_atoms, site_lists, sites, flexible_atom, mark_list, marks, variables, sums}
use Rattle.chain_rules.proofs.chain.Lists.{all-each}
use Rattle.chain_rules.proofs.chain.Accepted.{Drawable, literal-on}
use Rattle.chain_rules.proofs.chain.Bonds.{bond-zero}
use Rattle.chain_rules.proofs.chain.Branches.{Branch, branch-whole}
use Rattle.chain_rules.proofs.chain.Atoms.{flexible-atom, marked-atoms, marks-notes, sums-notes}
use Rattle.chain_rules.proofs.chain.Fits.{InTable, groups-table, floating-table, CarbonFine, carbons-fine, floats-read, length-literal, length-carbons as chain_length}
use Rattle.template_rules.specs.Drawn.{Placed, site_note, sn_sites, all_marks, all_sites}
use Rattle.template_rules.specs.Written.{head_carbons, indices_of}
use Rattle.template_rules.specs.Chains.{hangs_on, mark_before, own_members, is_own, is_star, own_carbons, own_stars, Stretch, site_by, sites_by, no_sites, star_lists, Stars, repeated, numbered, own_marks, carbon_marks, Group, Grouped}
use Rattle.template_rules.specs.Atoms.{row_at}
use Rattle.template_rules.proofs.Rows.{row_bytes, Carbonic, carbonic-before, carbonic-after, length-hung, length-parts, length-bridge, drawn_rows, carbon_part, float_part, drawn-parts, length-carbon-part, drawn-carbonic}
use Rattle.template_rules.proofs.Templates.{is_base}
use Rattle.template_rules.proofs.Placing.{last_bytes, Led, Strand}

-- ---- lists

drop_past : {A : Type 0} (xs ys : List A) → drop (length xs) (xs ++ ys) ≡ ys
drop_past [] ys = refl
drop_past (x ∷ xs) ys = drop_past xs ys

take-front : {A : Type 0} (xs ys : List A) → take (length xs) (xs ++ ys) ≡ xs
take-front [] ys = refl
take-front (x ∷ xs) ys = ap (λ (z : List _). x ∷ z) (take-front xs ys)

row-past : (i : ℕ) (xs ys : List Row) → row_at (length xs + i) (xs ++ ys) ≡ row_at i ys
unfolding row_at
row-past i [] ys = ap (λ (z : ℕ). row_at z ys) (omega arith)
row-past i (x ∷ xs) ys = let e : suc (length xs) + i ≡ suc (length xs + i) = omega arith in rw e (row-past i xs ys)

-- the first of some rows that come after others
row_next : (n : ℕ) (xs : List Row) (y : Row) (ys : List Row) → length xs ≡ n → row_at n (xs ++ y ∷ ys) ≡ some y
unfolding row_at
row_next n xs y ys e = let z : n ≡ length xs + 0 = omega arith in rw z (row-past 0 xs (y ∷ ys))

-- ---- the places of carbons and stars among a chain's members

-- a carbon, what branches off it and its bridge, and then the carbons after it
places-cons : (is : Kind → Bool) → is other ≡ false → (pos : ℕ → ℕ) (rs : List Ring) (k n prev : ℕ) (c : Carbon) (cs : List Carbon) (ys : List Member) → All Branch c.parts
    → (more : List ℕ) → places is (carbon_end n c) (carbon_members pos rs (suc k) (carbon_end n c) (carbon_last n c) cs ++ ys) ≡ more
    → places is n (carbon_members pos rs k n prev (c ∷ cs) ++ ys) ≡ cond (is own) (n ∷ more) more
unfolding carbon_members places carbon_end
places-cons is e pos rs k n prev c cs ys h more q =
    ap (λ (z : List ℕ). cond (is own) (n ∷ z) z)
    (ap (places is (suc n)) (append_assoc (others xs) (others bs ++ ms) ys ∙ ap (λ (z : List Member). others xs ++ z) (append_assoc (others bs) ms ys))
    ∙ places-others is e (suc n) xs (others bs ++ (ms ++ ys))
    ∙ places-others is e (suc n + length xs) bs (ms ++ ys)
    ∙ ap (λ (z : ℕ). places is z (ms ++ ys)) (ap (λ (z : ℕ). z + length bs) (length-parts n (suc n) c.parts h) ∙ length-bridge c.bridge (parts_end (suc n) c.parts) n)
    ∙ q)
  where
    xs : List Row
    xs = part_rows n (suc n) c.parts

    bs : List Row
    bs = bridge_rows c.bridge n

    ms : List Member
    ms = carbon_members pos rs (suc k) (carbon_end n c) (carbon_last n c) cs

-- among floating parts are no carbons, and a `*` for each part
float_own : (n m : ℕ) (qs : List Part) → places is_own n (float_members m qs) ≡ []
unfolding float_members places
float_own n m [] = refl
float_own n m (q ∷ qs) = places-others is_own refl (suc n) (hung m (suc m) q) (float_members (suc m + q.size) qs) ∙ float_own (suc n + length (hung m (suc m) q)) (suc m + q.size) qs

float-stars : (js : List ℕ) (n : ℕ) (qs : List Part) → All Branch qs → site_lists js n qs ≡ map (λ i. at i js) (places is_star n (float_members n qs))
unfolding float_members places site_lists
float-stars js n [] h = refl
float-stars js n (q ∷ qs) h =
    ap (λ (z : List (At (List ℕ))). at n js ∷ z)
    (float-stars js (suc n + q.size) qs h.1
    ∙ ap (map (λ i. at i js)) (ap (λ (z : ℕ). places is_star (suc n + z) (float_members (suc n + q.size) qs)) (sym (length-hung n (suc n) q h.0.hangs)) ∙ sym (places-others is_star refl (suc n) (hung n (suc n) q) (float_members (suc n + q.size) qs))))

-- the atoms of carbons, one after the other, are the members that are carbons
own-values : (g : ℕ → ℕ) (f : ℕ) (pos : ℕ → ℕ) (rs : List Ring) (k n prev m : ℕ) (cs : List Carbon) (qs : List Part) → All CarbonFine cs → ((j : ℕ) → g (f + j) ≡ atom_from n cs j)
    → places is_own n (carbon_members pos rs k n prev cs ++ float_members m qs) ≡ values_from g f (length cs)
unfolding values_from atom_from
own-values g f pos rs k n prev m [] qs h e = unfold carbon_members in float_own n m qs
own-values g f pos rs k n prev m (c ∷ cs) qs h e =
    let z : f + 0 ≡ f = omega arith in
    let first : g f ≡ n = rw z at (e 0) in
    rw first
    (places-cons is_own refl pos rs k n prev c cs (float_members m qs) h.0.parts (values_from g (suc f) (length cs))
    (own-values g (suc f) pos rs (suc k) (carbon_end n c) (carbon_last n c) m cs qs h.1 (λ j. ap g (omega arith) ∙ e (suc j))))

-- the floating parts come after the carbons
star-places : (pos : ℕ → ℕ) (rs : List Ring) (k n prev : ℕ) (cs : List Carbon) (ys : List Member) → All CarbonFine cs
    → places is_star n (carbon_members pos rs k n prev cs ++ ys) ≡ places is_star (chain_end n cs) ys
unfolding chain_end
star-places pos rs k n prev [] ys h = unfold carbon_members in refl
star-places pos rs k n prev (c ∷ cs) ys h =
    places-cons is_star refl pos rs k n prev c cs ys h.0.parts (places is_star (chain_end (carbon_end n c) cs) ys) (star-places pos rs (suc k) (carbon_end n c) (carbon_last n c) cs ys h.1)

module _ (p : Placed) (a : Drawable p.role p.chain) where
  abbrev own_end : ℕ
  own_end = chain_end p.first (carbons p.role p.chain)

  pub atoms-own : carbon_atoms p.role p.chain p.first ≡ own_carbons p
  unfolding carbon_atoms atom_of members chain_members chain_drawn
  atoms-own =
      let f : ℕ = first_drawn p.role in
      let cs : List Carbon = carbons p.role p.chain in
      sym (own-values (atom_of f p.first cs) f (atom_of f p.first cs) (ring_pairs p.chain.rings) f p.first (hangs_on p.role p.first) own_end cs (floats p.chain) (carbons-fine p.role p.chain a.sound) (λ j. ap (atom_from p.first cs) (omega arith)))

  pub indices-own : indices_of p ≡ head_carbons p.role ++ own_carbons p
  unfolding indices_of
  indices-own = ap (λ (z : List ℕ). head_carbons p.role ++ z) atoms-own

  own-stars : own_stars p ≡ places is_star own_end (float_members own_end (floats p.chain))
  unfolding members chain_members chain_drawn
  own-stars =
      let f : ℕ = first_drawn p.role in
      let cs : List Carbon = carbons p.role p.chain in
      star-places (atom_of f p.first cs) (ring_pairs p.chain.rings) f p.first (hangs_on p.role p.first) cs (float_members own_end (floats p.chain)) (carbons-fine p.role p.chain a.sound)

-- ---- the rows of a chain

pub in_rows : {π : Role → List ℕ} {b : Option (List ℕ)} (n : ℕ) (rs : List Row) (p : Placed) → Drawable p.role p.chain → Strand π b n rs p → All (Carbonic n rs) (carbon_atoms p.role p.chain p.first)
in_rows n rs p a s =
    let own : List Row = rows_of (own_members p) in
    rw s.is
    (all_map {P = Carbonic p.first own} {Q = Carbonic n (s.before ++ (own ++ s.behind))}
    (λ i c. carbonic-before n p.first s.before (own ++ s.behind) i s.from (carbonic-after p.first own s.behind i c))
    (carbon_atoms p.role p.chain p.first) (drawn-carbonic p.role p.chain a p.first (hangs_on p.role p.first)))

-- ---- the atom that a chain hangs on

abbrev pub bytes_in : Option Row → Option (List ℕ)
bytes_in none = none
bytes_in (some (row b ks)) = some b

-- the link that an atom was drawn with: its first
abbrev pub first_link : Option Row → Option Link
first_link none = none
first_link (some (row b [])) = none
first_link (some (row b (k ∷ ks))) = some k

-- row k, and after it row n, a C that is joined to it
pub record RowsJoined (rs : List Row) (parent : List ℕ) (k n mark : ℕ) : Type 0 where
  pub before : k < n
  pub parent_is : bytes_in (row_at k rs) ≡ some parent
  pub carbon : bytes_in (row_at n rs) ≡ some (ascii "C")
  pub bonded : first_link (row_at n rs) ≡ some (link k mark)

bytes-row : (i : ℕ) (rs : List Row) (b : List ℕ) → row_bytes i rs ≡ some b → bytes_in (row_at i rs) ≡ some b
unfolding row_at row_bytes
bytes-row i [] b h = absurd (none≢some h)
bytes-row zero (row a ks ∷ rs) b h = h
bytes-row (suc i) (row a ks ∷ rs) b h = bytes-row i rs b h

values-some : {A : Type 0} (f : ℕ → A) (k n : ℕ) → 1 ≤ n → values_from f k n ≡ f k ∷ values_from f (suc k) (n - 1)
unfolding values_from
values-some f k zero h = absurd (omega arith)
values-some f k (suc n) h = let e : suc n - 1 ≡ n = omega arith in rw e refl

-- the carbons of a chain begin with carbon f
record Begins (r : Role) (d : Chain) : Type 0 where
  others : List Carbon
  is : carbons r d ≡ carbon_at r d (first_drawn r) ∷ others

carbons-begin : (r : Role) (d : Chain) → Drawable r d → Begins r d
unfolding carbons literal
carbons-begin r d a =
    let f : ℕ = first_drawn r in
    let m : ℕ = suc (literal_end r d) - f in
    let fs : List Carbon = flexible (mark_of (bond_at r d (literal_end r d))) d.unlocated in
    record { others = values_from (carbon_at r d) (suc f) (m - 1) ++ fs; is = ap (λ (z : List Carbon). z ++ fs) (values-some (carbon_at r d) f m (omega (arith, (literal-on r d a).0))) }

-- its first row is joined to the atom that it hangs on
first-row : (f : ℕ) (rs : List Ring) (c : Carbon) (cs : List Carbon) (n on : ℕ) (ys : List Row)
    → (first_link (row_at 0 (rows_of (chain_members f rs (c ∷ cs) n on) ++ ys)) ≡ some (link on (plainly c.before))) × (bytes_in (row_at 0 (rows_of (chain_members f rs (c ∷ cs) n on) ++ ys)) ≡ some (ascii "C"))
unfolding chain_members carbon_members rows_of row_at
first-row f rs c cs n on ys = (refl, refl)

drawn-first : (r : Role) (d : Chain) → Drawable r d → (n on : ℕ) (ys : List Row)
    → (first_link (row_at 0 (drawn_rows r d n on ++ ys)) ≡ some (link on (plainly (carbon_at r d (first_drawn r)).before))) × (bytes_in (row_at 0 (drawn_rows r d n on ++ ys)) ≡ some (ascii "C"))
drawn-first r d a n on ys =
    let b : Begins r d = carbons-begin r d a in
    let here : drawn_rows r d n on ++ ys ≡ rows_of (chain_members (first_drawn r) (ring_pairs d.rings) (carbon_at r d (first_drawn r) ∷ b.others) n on) ++ (float_part r d n on ++ ys) =
    ap (λ (z : List Row). z ++ ys) (drawn-parts r d n on) ∙ append_assoc (carbon_part r d n on) (float_part r d n on) ys
    ∙ ap (λ (z : List Carbon). rows_of (chain_members (first_drawn r) (ring_pairs d.rings) z n on) ++ (float_part r d n on ++ ys)) b.is
    in
    rw here (first-row (first_drawn r) (ring_pairs d.rings) (carbon_at r d (first_drawn r)) b.others n on (float_part r d n on ++ ys))

-- the mark before the first carbon
first-mark : (r : Role) (d : Chain) → Drawable r d → plainly (carbon_at r d (first_drawn r)).before ≡ mark_before r d
unfolding carbon_at plainly mark_of
first-mark role.Slot d a = rw (bond-zero role.Slot d a) refl
first-mark role.Acyl d a = rw (bond-zero role.Acyl d a) refl
first-mark role.Base d a = refl

-- the last of some rows
last_row : (b : Option (List ℕ)) (xs ys : List Row) (x : List ℕ) → last_bytes b xs ≡ some x → 1 ≤ length xs → bytes_in (row_at (length xs - 1) (xs ++ ys)) ≡ some x
unfolding last_bytes row_at
last_row b [] ys x e h = absurd (omega arith)
last_row b (row a ks ∷ []) ys x e h = e
last_row b (row a ks ∷ (row a' ks' ∷ xs)) ys x e h =
    let z : length (row a ks ∷ row a' ks' ∷ xs) - 1 ≡ suc (length (row a' ks' ∷ xs) - 1) = omega arith in
    rw z (last_row (some a) (row a' ks' ∷ xs) ys x e (omega arith))

last_some : (xs : List Row) (x : List ℕ) → last_bytes none xs ≡ some x → 1 ≤ length xs
unfolding last_bytes
last_some [] x e = absurd (none≢some e)
last_some (r ∷ xs) x e = omega arith

module _ {π : Role → List ℕ} (rs : List Row) (p : Placed) (a : Drawable p.role p.chain) (s : Strand π none 0 rs p) where
  starts : length s.before ≡ p.first
  starts = omega (arith, s.from)

  pub stretch : Stretch rs p
  stretch =
      let own : List Row = rows_of (own_members p) in
      record {
        rows = ap (λ (z : ℕ). take z (drop p.first rs)) (sym (rows-length (own_members p)))
            ∙ ap (take (length own)) (ap (drop p.first) s.is ∙ ap (λ (z : ℕ). drop z (s.before ++ (own ++ s.behind))) (sym starts) ∙ drop_past s.before (own ++ s.behind))
            ∙ take-front own s.behind;
        indices = indices-own p a;
      }

  -- the chain's first row among all
  first-there : row_at p.first rs ≡ row_at 0 (rows_of (own_members p) ++ s.behind)
  first-there =
      ap (row_at p.first) s.is ∙ ap (λ (z : ℕ). row_at z (s.before ++ (rows_of (own_members p) ++ s.behind))) (omega (arith, starts))
      ∙ row-past 0 s.before (rows_of (own_members p) ++ s.behind)

  -- joined to any lower atom that is known
  joined_to : (parent : List ℕ) → hangs_on p.role p.first < p.first → bytes_in (row_at (hangs_on p.role p.first) rs) ≡ some parent
      → RowsJoined rs parent (hangs_on p.role p.first) p.first (mark_before p.role p.chain)
  joined_to parent h e =
      let k : ℕ = hangs_on p.role p.first in
      record {
        before = h;
        parent_is = e;
        carbon = ap bytes_in first-there ∙ (drawn-first p.role p.chain a p.first k s.behind).1;
        bonded = ap first_link first-there ∙ (drawn-first p.role p.chain a p.first k s.behind).0 ∙ ap (λ (z : ℕ). some (link k z)) (first-mark p.role p.chain a);
      }

  -- to the last atom before it
  joined-last : (x : List ℕ) → last_bytes none s.before ≡ some x → hangs_on p.role p.first ≡ p.first - 1 → RowsJoined rs x (hangs_on p.role p.first) p.first (mark_before p.role p.chain)
  joined-last x e h =
      let some-before : 1 ≤ length s.before = last_some s.before x e in
      let z : hangs_on p.role p.first ≡ length s.before - 1 = omega (arith, starts) in
      joined_to x (omega (arith, starts)) (ap bytes_in (ap (row_at (hangs_on p.role p.first)) s.is ∙ ap (λ (i : ℕ). row_at i (s.before ++ (rows_of (own_members p) ++ s.behind))) z) ∙ last_row none s.before (rows_of (own_members p) ++ s.behind) x e some-before)

  -- a base is joined to atom 0, the others to the last before them
  pub rows-joined : (is_base p.role ≡ true → (π role.Base ≡ ascii "C") × ((2 ≤ p.first) × Carbonic 0 rs 0)) → RowsJoined rs (π p.role) (hangs_on p.role p.first) p.first (mark_before p.role p.chain)
  rows-joined base = go p.role refl s.led base
    where
      go : (r : Role) → p.role ≡ r → Led π r (last_bytes none s.before) → (is_base r ≡ true → (π role.Base ≡ ascii "C") × ((2 ≤ p.first) × Carbonic 0 rs 0))
          → RowsJoined rs (π p.role) (hangs_on p.role p.first) p.first (mark_before p.role p.chain)
      go role.Slot e l h = joined-last (π p.role) (l ∙ ap (λ (r : Role). some (π r)) (sym e)) (ap (λ (r : Role). hangs_on r p.first) e)
      go role.Acyl e l h = joined-last (π p.role) (l ∙ ap (λ (r : Role). some (π r)) (sym e)) (ap (λ (r : Role). hangs_on r p.first) e)
      go role.Base e l h =
          let zero-on : hangs_on p.role p.first ≡ 0 = ap (λ (r : Role). hangs_on r p.first) e in
          joined_to (π p.role) (omega (arith, (h refl).1.0))
          (ap (λ (i : ℕ). bytes_in (row_at i rs)) zero-on ∙ bytes-row 0 rs (ascii "C") (h refl).1.1.is ∙ ap (λ (x : List ℕ). some x) (sym (h refl).0 ∙ ap π (sym e)))

-- the sites are where the roles say
pub sites-by : (ps : List Placed) → All (λ p. p.site ≡ site_by p.role p.first) ps → sn_sites ps ≡ sites_by ps
unfolding sn_sites sites_by
sites-by [] h = refl
sites-by (p ∷ ps) h = ap (λ (z : Option ℕ). site_note z p.sn ++ sn_sites ps) h.0 ∙ ap (λ (z : List (At ℕ)). site_note (site_by p.role p.first) p.sn ++ z) (sites-by ps h.1)

-- ---- the floating parts

-- each begins with its `*`
floats-starred : (rs : List Row) (m : ℕ) (qs : List Part) → All Branch qs → (xs ys : List Row) → rs ≡ xs ++ (rows_of (float_members m qs) ++ ys) → length xs ≡ m
    → Each (λ i. row_at i rs ≡ some (row (ascii "*") [])) (places is_star m (float_members m qs))
unfolding float_members places
floats-starred rs m [] h xs ys e l = tt
floats-starred rs m (q ∷ qs) h xs ys e l =
    let first : List Row = row (ascii "*") [] ∷ hung m (suc m) q in
    let more : List Row = rows_of (float_members (suc m + q.size) qs) in
    let z : rs ≡ xs ++ (first ++ (more ++ ys)) = e ∙ ap (λ (u : List Row). xs ++ (u ++ ys)) (float-rows m q qs) ∙ ap (λ (u : List Row). xs ++ u) (append_assoc first more ys) in
    let rest : Each (λ i. row_at i rs ≡ some (row (ascii "*") [])) (places is_star (suc m + q.size) (float_members (suc m + q.size) qs)) =
    floats-starred rs (suc m + q.size) qs h.1 (xs ++ first) ys (z ∙ sym (append_assoc xs first (more ++ ys))) (omega (arith, length-append xs first, length-hung m (suc m) q h.0.hangs))
    in (
      ap (row_at m) z ∙ row_next m xs (row (ascii "*") []) (hung m (suc m) q ++ (more ++ ys)) l,
      rw (places-others is_star refl (suc m) (hung m (suc m) q) (float_members (suc m + q.size) qs), length-hung m (suc m) q h.0.hangs) rest,
    )

pub stars-stand : {π : Role → List ℕ} (rs : List Row) (p : Placed) → Drawable p.role p.chain → Strand π none 0 rs p → Stars rs p
stars-stand rs p a s =
    let n : ℕ = p.first in
    let on : ℕ = hangs_on p.role n in
    let m : ℕ = own_end p a in
    let carbons : List Row = carbon_part p.role p.chain n on in
    let fs : List Row = float_part p.role p.chain n on in
    let e : rs ≡ (s.before ++ carbons) ++ (fs ++ s.behind) =
    s.is ∙ ap (λ (z : List Row). s.before ++ (z ++ s.behind)) (drawn-parts p.role p.chain n on) ∙ ap (λ (z : List Row). s.before ++ z) (append_assoc carbons fs s.behind) ∙ sym (append_assoc s.before carbons (fs ++ s.behind))
    in
    let l : length (s.before ++ carbons) ≡ m = omega (arith, length-append s.before carbons, starts rs p a s, length-carbon-part p.role p.chain a n on) in
    rw (own-stars p a) (floats-starred rs m (floats p.chain) (floats-read p.chain a.sound).0 (s.before ++ carbons) s.behind e l)

-- all indices but those that are no sites
sites-rest : (r : Role) (d : Chain) (is : List ℕ) → drop (site_skip r d) is ≡ drop (no_sites r d) (head_carbons r ++ is)
unfolding site_skip no_sites is_acyl
sites-rest role.Slot d is = refl
sites-rest role.Acyl d is = refl
sites-rest role.Base d is = refl

-- the site lists of chains stand at the floating `*`
pub lists-starred : (ps : List Placed) → All (λ p. Drawable p.role p.chain) ps → all_sites ps ≡ star_lists ps
unfolding all_sites star_lists sites site_atoms indices_of
lists-starred [] h = refl
lists-starred (p ∷ ps) h =
    let is : List ℕ = carbon_atoms p.role p.chain p.first in
    rw (
      float-stars (drop (site_skip p.role p.chain) is) (own_end p h.0) (floats p.chain) (floats-read p.chain h.0.sound).0,
      sites-rest p.role p.chain is,
      own-stars p h.0,
      lists-starred ps h.1,
    ) refl

-- ---- the repeat marks

values_same : (g h : ℕ → ℕ) (a b m : ℕ) → ((j : ℕ) → g (a + j) ≡ h (b + j)) → values_from g a m ≡ values_from h b m
unfolding values_from
values_same g h a b zero e = refl
values_same g h a b (suc m) e =
    let x : a + 0 ≡ a = omega arith in
    let y : b + 0 ≡ b = omega arith in
    let first : g a ≡ h b = rw (x, y) at (e 0) in
    rw first (ap (λ (z : List ℕ). h b ∷ z) (values_same g h (suc a) (suc b) m (λ j. ap g (omega arith) ∙ e (suc j) ∙ ap h (omega arith))))

drop-values : (g : ℕ → ℕ) (a l m : ℕ) → drop l (values_from g a (l + m)) ≡ values_from g (a + l) m
unfolding values_from
drop-values g a zero m = rw (zero-sum m, zero-end a) refl
  where
    zero-sum : (m : ℕ) → 0 + m ≡ m
    zero-sum m = omega arith

    zero-end : (a : ℕ) → a + 0 ≡ a
    zero-end a = omega arith
drop-values g a (suc l) m =
    let x : suc l + m ≡ suc (l + m) = omega arith in
    let y : a + suc l ≡ suc a + l = omega arith in
    rw (x, y) (drop-values g (suc a) l m)

-- P, P+2, .. and the last
repeated-values : (p u : ℕ) → repeated (values_from (λ j. j) p (2 * u + 2)) ≡ values_from (λ i. p + 2 * i) 0 u ++ (p + 2 * u + 1) ∷ []
unfolding repeated values_from
repeated-values p zero = let e : p + 2 * 0 + 1 ≡ suc p = omega arith in rw e refl
repeated-values p (suc u) =
    let x : 2 * suc u + 2 ≡ suc (suc (suc (suc (2 * u)))) = omega arith in
    let y : 2 * u + 2 ≡ suc (suc (2 * u)) = omega arith in
    let z : p + 2 * suc u + 1 ≡ suc (suc p) + 2 * u + 1 = omega arith in
    let w : p + 2 * 0 ≡ p = omega arith in
    rw (x, z, w) (ap (λ (l : List ℕ). p ∷ l) (rw y at (repeated-values (suc (suc p)) u)
    ∙ ap (λ (l : List ℕ). l ++ (suc (suc p) + 2 * u + 1) ∷ []) (values_same (λ i. suc (suc p) + 2 * i) (λ i. p + 2 * i) 0 1 u (λ j. omega arith))))

marks-repeated : (r : Role) (d : Chain) (n v : ℕ) → atoms_of (marks r d n v) ≡ repeated (drop (length (literal r d)) (carbon_atoms r d n))
unfolding marks carbon_atoms flexible_count drawn_count
marks-repeated r d n v = go d.unlocated (flexible_count d) refl refl
  where
    f : ℕ
    f = first_drawn r

    l : ℕ
    l = length (literal r d)

    p : ℕ
    p = flexible_atom r d n

    -- the carbons after the literal ones are atoms P, P+1, ..
    tail : (m : ℕ) → flexible_count d ≡ m → drop l (values_from (atom_of f n (carbons r d)) f (length (carbons r d))) ≡ values_from (λ j. j) p m
    tail m e =
        let c : length (carbons r d) ≡ l + m = omega (arith, chain_length r d, length-literal r d, e) in
        rw c (drop-values (atom_of f n (carbons r d)) f l m ∙ values_same (atom_of f n (carbons r d)) (λ j. j) (f + l) p m (λ j. ap (atom_of f n (carbons r d)) (omega arith) ∙ flexible-atom r d n j))

    go : (u m : ℕ) → d.unlocated ≡ u → flexible_count d ≡ m → atoms_of (mark_list p v u) ≡ repeated (drop l (values_from (atom_of f n (carbons r d)) f (length (carbons r d))))
    go zero m e q =
        let z : flexible_count d ≡ 0 = rw (eq-eqb d.unlocated 0 e) refl in
        rw (tail 0 z) (unfold mark_list atoms_of values_from repeated in refl)
    go (suc u) m e q =
        let z : flexible_count d ≡ 2 * suc u + 2 = rw (ne_eqb d.unlocated 0 (λ x. omega arith), e) refl in
        rw (tail (2 * suc u + 2) z) (marked-atoms p v u ∙ sym (repeated-values p (suc u)))

-- marks with variables that follow one another
marks-numbered : (v a k : ℕ) (xs : List (At ℕ)) → notes_of xs ≡ values_from (λ i. v + i) a k → xs ≡ numbered (v + a) (atoms_of xs)
unfolding notes_of atoms_of values_from numbered
marks-numbered v a k [] e = refl
marks-numbered v a zero (at i w ∷ xs) e = cc
marks-numbered v a (suc k) (at i w ∷ xs) e =
    let q : w ≡ v + a = cc in
    let r : notes_of xs ≡ values_from (λ i. v + i) (suc a) k = cc in
    let z : v + suc a ≡ suc (v + a) = omega arith in
    ap (λ (x : ℕ). at i x ∷ xs) q ∙ ap (λ (x : List (At ℕ)). at i (v + a) ∷ x) (rw z at (marks-numbered v (suc a) k xs r))

-- the marks of a chain are on its own carbons
pub marks-own : (p : Placed) → Drawable p.role p.chain → marks p.role p.chain p.first p.variable ≡ own_marks p
marks-own p a =
    let v : ℕ = p.variable in
    let z : v + 0 ≡ v = omega arith in
    (rw z at (marks-numbered v 0 (variables p.chain) (marks p.role p.chain p.first v) (marks-notes p.role p.chain p.first v)))
    ∙ ap (numbered v) (marks-repeated p.role p.chain p.first v ∙ ap (λ (z : List ℕ). repeated (drop (length (literal p.role p.chain)) z)) (atoms-own p a))

pub all-marks-own : (ps : List Placed) → All (λ p. Drawable p.role p.chain) ps → all_marks ps ≡ carbon_marks ps
unfolding all_marks carbon_marks
all-marks-own [] h = refl
all-marks-own (p ∷ ps) h = rw (marks-own p h.0, all-marks-own ps h.1) refl

-- its sum has their variables
pub sum-own : (p : Placed) → Drawable p.role p.chain → summed (sums p.role p.chain p.variable) ≡ notes_of (own_marks p)
sum-own p a = sums-notes p.role p.chain p.first p.variable ∙ sym (marks-notes p.role p.chain p.first p.variable) ∙ ap notes_of (marks-own p a)

-- ---- the groups

pub groups-whole : (p : Placed) → Drawable p.role p.chain → Grouped p
unfolding entries
groups-whole p a =
    record {
      located = of (groups_on p.role p.chain) (groups-table p.role p.chain a.sound).0;
      floating = of (floating p.chain) (floating-table p.chain a.sound);
      carbonyl = whole keto (omega arith);
    }
  where
    whole : (i : ℕ) → i < 17 → Group i
    whole i h = record { row = h; branch = record { reads = (branch-whole i h).0; shown = (branch-whole i h).1 } }

    of : (gs : List Mod) → All InTable gs → Each (λ (g : Mod). Group g.row) gs
    of gs h = all-each (λ (g : Mod). Group g.row) gs (all_map {P = InTable} (λ g q. whole g.row q) gs h)
