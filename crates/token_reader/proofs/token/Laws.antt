-- Laws of the token reader: one for each way out of its functions.
-- Assumes nothing.
use Prim.Native.Nat.{ℕ, ◌+◌, ◌-◌, ◌≤◌, ◌<◌}
use native.Mathlib.Nat.{sub-zero}
use native.Mathlib.Omega.{arith}
use native.Mathlib.Decide.{ℕ_discrete}
use mir.Syntax.{w16}
use mir.Val.{Fits}
use mathlib.Core.Path.{◌≡◌, refl, sym, ap, ◌∙◌}
use mathlib.Core.Bool.{Bool, true, false, not, cond}
use mathlib.Core.List.{List, [], ◌∷◌, ◌++◌}
use lib.ListN.{length, take, drop, get_or, length-take}
use lib.Dec.{eqb, leb}
use borrow.Author.Tests.{lt-ltb, le-ltb, eq-eqb, ne_eqb, not-true, not-false}
use Rattle.scanner.specs.scan.Part.{trimmed, index_of, starts_with, same_bytes, Place}
use Rattle.scanner.specs.scan.Number.{digit_run, digits_up_to}
use Rattle.std.specs.Prelude.{Option, Some, None, Result, Ok, Err}
use Rattle.std.specs.Result.{IsErrAnd}
use Rattle.scanner.proofs.scan.Laws.{to_end, starts-length}
use Rattle.chain_record.specs.declared.plain.ChainPrefix.{ChainPrefix}
use Rattle.chain_record.specs.declared.plain.ChainPrefix.TheVariants.{Acyl}
use Rattle.chain_record.specs.declared.plain.DbPos.{DbPos}
use Rattle.chain_record.specs.declared.plain.Mod.{Mod}
use Rattle.chain_record.specs.declared.plain.Ring.{Ring}
use Rattle.chain_record.specs.plain.Chain.{Chain, Outcome, Read, Refused, and_then, counts_of, with_unlocated, max_bonds, max_groups, max_rings}
use Rattle.chain_record.specs.declared.parsed.Counts.{Counts}
use Rattle.chain_record.specs.declared.refusal.Refusal.{Refusal}
use Rattle.chain_record.specs.declared.refusal.Refusal.TheVariants.{OverLimit, Unreadable}
use Rattle.chain_record.specs.refusal.Refusal.{number_of}
use Rattle.chain_record.specs.parsed.Parsed.{Keeps, answered, Stands, bonds_as, carbon_as, gather, all_as, on, Pushes, Collects, Judges, checked}
use Rattle.chain_record.proofs.parsed.Laws.{err_kept, keeps-within, keeps-all, holds-none, holds-longer, checked-judges, checked-read, stands_read, stands-refused, fills-refused, fills_same, fills-stop, fills-then}
use Rattle.token_reader.specs.seats.Seats.{positions, Seated}
use Rattle.token_head.specs.positions.Positions.{bond_list}
use Rattle.token_head.specs.declared.opening.Branch.{Branch}
use Rattle.token_head.specs.declared.opening.Opening.{Opening}
use Rattle.token_head.specs.declared.opening.Start.{Start}
use Rattle.token_head.specs.opening.Opening.{carbons_of, Opened, start_as, Starts}
use Rattle.token_segments.specs.segment.Segment.{segments}
use Rattle.token_segments.proofs.segment.Laws.{segments-none}
use Rattle.std.specs.Prelude.{Option, Some, None}
use Rattle.token_reader.specs.token.Token.{missing_of, bare_oxygens, finished, rest_of, counted_list, listed_of, after_count, bonds_of, named_chain, empty_text, trimmed_of, printable, all_printable, token_of}
use Rattle.token_reader.specs.declared.token.Ending.{Ending}
use Rattle.token_reader.specs.declared.token.ReadChain.{ReadChain}
use Rattle.token_reader.specs.token.Lent.{chain_as, token_as, bonds_in, Bare, ending_as, Finishes, listed_as, FewBonds, ListIs, tell, telling_as, told, Ends, empty_chain, ended_as, Tells, token_in}

-- ---- bytes

pub printable-low : (b : ℕ) → b < 32 → false ≡ printable b
unfolding printable
printable-low b h = rw (lt-ltb b 32 h)

pub printable-test : (b : ℕ) → 32 ≤ b → leb b 126 ≡ printable b
unfolding printable
printable-test b h = rw (le-ltb b 32 h)

module _ (A : Bool) where
  pub printable-more : (t : List ℕ) (a b r : Bool) → 0 < length t → A ≡ cond a (all_printable t) false → b ≡ printable (get_or t 0 0) → r ≡ cond a b false
      → A ≡ cond r (all_printable (take (length t - 1) (drop 1 t))) false
  unfolding all_printable
  printable-more [] a b r h v e f = absurd (omega arith)
  printable-more (x ∷ t) true true r h v e f = rw (to_end 1 (x ∷ t), f) (v ∙ rw (sym e))
  printable-more (x ∷ t) true false r h v e f = rw f (v ∙ rw (sym e))
  printable-more (x ∷ t) false b r h v e f = rw f v

  pub printable-all : (t : List ℕ) (a : Bool) → length t ≤ 0 → A ≡ cond a (all_printable t) false → a ≡ A
  unfolding all_printable
  printable-all [] true h v = sym v
  printable-all [] false h v = sym v
  printable-all (x ∷ t) a h v = absurd (omega arith)

-- ---- the missing bonds

pub bonds-long : (n : ℕ) (bs : List DbPos) → n ≤ length bs → length (bonds_in n bs) ≡ n
bonds-long n bs l = omega (arith, length-take n bs)

module _ (carbon : ℕ) (bs : List DbPos) (n declared : ℕ) (l : n ≤ length bs) where
  pub given-many : declared < n → None ≡ missing_of carbon (bonds_in n bs) declared
  unfolding missing_of
  given-many h = rw (bonds-long n bs l, lt-ltb declared n h)

  module _ (s : Bool) (g : n ≤ declared) (w : Seated carbon (positions (take n bs)) (declared - n) s) where
    same : missing_of carbon (bonds_in n bs) declared ≡ cond s (Some (declared - n)) None
    unfolding missing_of
    same = rw (bonds-long n bs l, le-ltb declared n g, ← w.is)

    pub not-seated : not s ≡ true → None ≡ missing_of carbon (bonds_in n bs) declared
    not-seated z = sym (same ∙ rw (not-true s z))

    pub all-seated : not s ≡ false → Some (declared - n) ≡ missing_of carbon (bonds_in n bs) declared
    all-seated z = sym (same ∙ rw (not-false s z))

    pub seated-fits : not s ≡ false → Fits w16 (declared - n)
    seated-fits z = record { fits = omega (arith, w.few (not-false s z)) }

-- the double bonds that an array keeps within the limit are the list's
bonds-kept : (bs : List DbPos) (n : ℕ) (l : List DbPos) → Keeps max_bonds bs n l → n ≤ max_bonds → bonds_in n bs ≡ l
bonds-kept bs n l k h = keeps-all k (keeps-within k h)

-- ---- an oxygen count that stands alone

module _ {A : Type 0} {limit : ℕ} {xs : List A} {n : ℕ} {l : List A} (k : Keeps limit xs n l) where
  nothing : n ≡ 0 → length l ≡ 0
  nothing e = omega (arith, k.counted)

  something : (n ≡ 0 → ⊥) → length l ≡ 0 → ⊥
  something f e = f (omega (arith, k.counted))

  none-exactly : eqb n 0 ≡ eqb (length l) 0
  none-exactly = go (ℕ_discrete n 0)
    where
      go : Dec (n ≡ 0) → eqb n 0 ≡ eqb (length l) 0
      go (yes e) = eq-eqb n 0 e ∙ sym (eq-eqb (length l) 0 (nothing e))
      go (no f) = ne_eqb n 0 f ∙ sym (ne_eqb (length l) 0 (something f))

module _ (c : Counts) where
  pub no-oxygens : c.oxygens ≡ 0 → Bare c false
  unfolding bare_oxygens
  no-oxygens e = record { is = λ x d k. rw (eq-eqb d.oxygens 0 (sym k.oxygens ∙ e)) }

  pub with-groups : (c.oxygens ≡ 0 → ⊥) → (c.groups ≡ 0 → ⊥) → Bare c false
  unfolding bare_oxygens
  with-groups e f = record { is = λ x d k. rw (ne_eqb d.oxygens 0 (λ z. e (k.oxygens ∙ z)), ne_eqb (length d.groups) 0 (something k.groups f)) }

  pub with-rings : (c.oxygens ≡ 0 → ⊥) → c.groups ≡ 0 → Bare c (eqb c.rings 0)
  unfolding bare_oxygens
  with-rings e f = record { is = λ x d k. rw (ne_eqb d.oxygens 0 (λ z. e (k.oxygens ∙ z)), eq-eqb (length d.groups) 0 (nothing k.groups f)) (none-exactly k.rings) }

-- ---- after the segments

pub rest-empty : (m : Option ℕ) (d : Chain) → rest_of m [] d ≡ finished m d
unfolding rest_of
rest-empty m d = rw (segments-none d)

module _ (m : Option ℕ) (c : Counts) where
  pub finish-unseated : m ≡ None → Finishes c (Err Unreadable) (finished m)
  finish-unseated e = fills-refused 11 (record { unlocated = 0; counts = c }) (finished m) (λ x d k. rw e)

  module _ (n : ℕ) (e : m ≡ Some n) (b : Bool) (w : Bare c b) where
    pub finish-bare : b ≡ true → Finishes c (Err Unreadable) (finished m)
    finish-bare t =
        fills-refused {put = ending_as} 11 (record { unlocated = 0; counts = c }) (finished m)
        (λ x d k. rw (e, sym (w.is (ending_as x (record { unlocated = 0; counts = c })) d k) ∙ t))

    pub finish-read : b ≡ false → Finishes c (Ok (record { unlocated = n; counts = c })) (finished m)
    unfolding with_unlocated
    finish-read t =
        rw e
        (record {
          gives = λ x.
              record {
                stands = λ d k.
                    rw (sym (w.is (ending_as x (record { unlocated = 0; counts = c })) d k) ∙ t)
                    (record { prefix = k.prefix; written = k.written; carbon = k.carbon; branched = k.branched; unlocated = refl; oxygens = k.oxygens; bonds = k.bonds; groups = k.groups; rings = k.rings });
              };
        })

module _ (m : Option ℕ) (s : List ℕ) (carbon : ℕ) (k : Counts) (bs : List DbPos) (gs : List Mod) (rs : List Ring) where
  last : (q : Counts) (ys : List DbPos) (hs : List Mod) (zs : List Ring) (r : Result Ending Refusal) → Finishes q r (finished m) → Ends carbon q ys hs zs r ys hs zs (finished m)
  last q ys hs zs (Ok e) w = record { gives = λ x. w.gives (telling_as (carbon_as x carbon) (tell 0 q ys hs zs)) }
  last q ys hs zs (Err n) w = record { gives = λ x. w.gives (telling_as (carbon_as x carbon) (tell 0 q ys hs zs)) }

  -- without segments
  pub rest-none : (r : Result Ending Refusal) → length s ≡ 0 → Finishes k r (finished m) → Ends carbon k bs gs rs r bs gs rs (rest_of m s)
  rest-none r h w = go s h
    where
      go : (s : List ℕ) → length s ≡ 0 → Ends carbon k bs gs rs r bs gs rs (rest_of m s)
      go [] h = fills_same (last k bs gs rs r w) (λ x d u. sym (rest-empty m d))
      go (x ∷ s) h = absurd (omega arith)

  module _ (p : Result Counts Refusal) (ys : List DbPos) (hs : List Mod) (zs : List Ring) (w : Collects (on carbon all_as) (gather k bs gs rs) p ys hs zs (segments s)) where
    pub rest-refused : (n : Refusal) (r : Result Ending Refusal) → p ≡ Err n → IsErrAnd r (λ (y : Refusal). y ≡ n) → Ends carbon k bs gs rs r ys hs zs (rest_of m s)
    unfolding rest_of
    rest-refused n r e f =
        let v : Collects (on carbon all_as) (gather k bs gs rs) (Err n) ys hs zs (segments s) = rw e at w in
        rw (err_kept r n f) (fills-stop (finished m) (record { gives = λ x. v.gives (telling_as x (tell 0 k bs gs rs)) }))

    pub rest_read : (q : Counts) (r : Result Ending Refusal) → p ≡ Ok q → Finishes q r (finished m) → Ends carbon k bs gs rs r ys hs zs (rest_of m s)
    unfolding rest_of
    rest_read q r e f =
        let v : Collects (on carbon all_as) (gather k bs gs rs) (Ok q) ys hs zs (segments s) = rw e at w in
        fills-then {e = tell 0 q ys hs zs} (record { gives = λ x. v.gives (telling_as x (tell 0 k bs gs rs)) }) (last q ys hs zs r f)

-- ---- the position list

module _ (s : List ℕ) (k : Counts) (bs : List DbPos) (p : Result ℕ Refusal) (ys : List DbPos) (w : Pushes bonds_as k.bonds bs p ys (bond_list s)) where
  pub list-refused : (n : Refusal) (r : Result Counts Refusal) → p ≡ Err n → IsErrAnd r (λ (y : Refusal). y ≡ n) → ListIs s k bs r ys
  unfolding counted_list
  list-refused n r e f =
      let v : Pushes bonds_as k.bonds bs (Err n) ys (bond_list s) = rw e at w in
      rw (err_kept r n f) (record { collects = fills-stop counts_of (record { gives = λ x. v.gives (listed_as x (gather k bs [] [])) }); few = tt })

  module _ (n : ℕ) (e : p ≡ Ok n) where
    more : Counts
    more = record { bonds = n; groups = k.groups; rings = k.rings; oxygens = k.oxygens }

    listed-counts : (r : Result Counts Refusal) → r ≡ checked more → Collects listed_as (gather more ys [] []) r ys [] [] counts_of
    unfolding more
    listed-counts r h = go r (rw (← h) at (checked-judges more))
      where
        go : (r : Result Counts Refusal) → Judges more r counts_of → Collects listed_as (gather more ys [] []) r ys [] [] counts_of
        go (Ok q) v = record { gives = λ x. v.gives (listed_as x (gather more ys [] [])) }
        go (Err m) v = record { gives = λ x. v.gives (listed_as x (gather more ys [] [])) }

    listed-few : (r : Result Counts Refusal) → r ≡ checked more → FewBonds r
    listed-few (Ok q) h = (checked-read more q h).1
    listed-few (Err m) h = tt

    pub list_read : (r : Result Counts Refusal) → r ≡ checked (record { bonds = n; groups = k.groups; rings = k.rings; oxygens = k.oxygens }) → ListIs s k bs r ys
    unfolding counted_list more
    list_read r h =
        let v : Pushes bonds_as k.bonds bs (Ok n) ys (bond_list s) = rw e at w in
        record {
          collects = fills-then {e = gather more ys [] []} (record { gives = λ x. v.gives (listed_as x (gather k bs [] [])) }) (listed-counts r h);
          few = listed-few r h;
        }

module _ (declared : ℕ) (s : List ℕ) (carbon : ℕ) (k : Counts) (bs : List DbPos) (gs : List Mod) (rs : List Ring) (n : ℕ) (f : Place s (index_of 41 s) n) where
  pub list_open : n ≡ length s → Ends carbon k bs gs rs (Err Unreadable) bs gs rs (listed_of declared s)
  unfolding listed_of
  list_open h = fills-refused 11 (tell 0 k bs gs rs) (listed_of declared s) (λ x d u. rw (eq-eqb (index_of 41 s) (length s) (sym f.is ∙ h)))

  module _ (h : n ≡ length s → ⊥) (p : Result Counts Refusal) (ys : List DbPos) (w : ListIs (take (n - 0) s) k bs p ys) where
    closed : eqb (index_of 41 s) (length s) ≡ false
    closed = ne_eqb (index_of 41 s) (length s) (λ e. h (f.is ∙ e))

    part : take (n - 0) s ≡ take (index_of 41 s) s
    part = rw (sub-zero n, f.is)

    -- what follows the list, where it is read
    whole : (d : Chain) → listed_of declared s d ≡ and_then (counted_list (take (n - 0) s) d) (λ e. rest_of (missing_of d.carbon e.bonds declared) (drop (n + 1) s) e)
    unfolding listed_of
    whole d = rw (closed, ← part, ← f.is)

    pub listed-refused : (m : Refusal) (r : Result Ending Refusal) → p ≡ Err m → IsErrAnd r (λ (y : Refusal). y ≡ m) → Ends carbon k bs gs rs r ys gs rs (listed_of declared s)
    listed-refused m r e g =
        let v : ListIs (take (n - 0) s) k bs (Err m) ys = rw e at w in
        rw (err_kept r m g)
        (fills-refused {put = on carbon telling_as} (number_of m) (tell 0 k bs gs rs) (listed_of declared s)
        (λ x d u.
        whole d ∙ rw (stands-refused (number_of m) (counted_list (take (n - 0) s) d) ((v.collects.gives (telling_as (carbon_as x carbon) (tell 0 k bs gs rs))).stands d u))))

    module _ (q : Counts) (e : p ≡ Ok q) where
      pub listed-few-bonds : q.bonds ≤ max_bonds
      listed-few-bonds = let v : ListIs (take (n - 0) s) k bs (Ok q) ys = rw e at w in v.few

      pub listed-read : (m : Option ℕ) (r : Result Ending Refusal) (xs : List DbPos) (hs : List Mod) (zs : List Ring) → m ≡ missing_of carbon (bonds_in q.bonds ys) declared
          → Ends carbon q ys gs rs r xs hs zs (rest_of m (take (length s - (n + 1)) (drop (n + 1) s))) → Ends carbon k bs gs rs r xs hs zs (listed_of declared s)
      listed-read m r xs hs zs g t =
          record {
            gives = λ x.
                record {
                  stands = λ d u.
                      let v : ListIs (take (n - 0) s) k bs (Ok q) ys = rw e at w in
                      let z = stands_read (telling_as (carbon_as x carbon) (tell 0 q ys gs rs)) (counted_list (take (n - 0) s) d) ((v.collects.gives (telling_as (carbon_as x carbon) (tell 0 k bs gs rs))).stands d u) in
                      let b : bonds_in q.bonds ys ≡ z.0.bonds = bonds-kept ys q.bonds z.0.bonds z.2.bonds listed-few-bonds in
                      let c : m ≡ missing_of d.carbon z.0.bonds declared = g ∙ ap (λ (l : List DbPos). missing_of carbon l declared) b ∙ ap (λ (i : ℕ). missing_of i z.0.bonds declared) u.carbon in
                      let y : take (length s - (n + 1)) (drop (n + 1) s) ≡ drop (n + 1) s = to_end (n + 1) s in
                      rw (whole d, z.1, ← c, ← y) ((t.gives x).stands z.0 z.2);
                };
          }

-- ---- from the bond count on

module _ (declared : ℕ) (s : List ℕ) (carbon : ℕ) (k : Counts) (bs : List DbPos) (gs : List Mod) (rs : List Ring) (b : Bool) (e : b ≡ starts_with (40 ∷ []) s) where
  pub list-room : b ≡ true → 1 ≤ length s
  list-room t = starts-length (40 ∷ []) s (sym e ∙ t)

  module _ (r : Result Ending Refusal) (ys : List DbPos) (hs : List Mod) (zs : List Ring) where
    pub with-list : b ≡ true → Ends carbon k bs gs rs r ys hs zs (listed_of declared (take (length s - 1) (drop 1 s))) → Ends carbon k bs gs rs r ys hs zs (after_count declared s)
    unfolding after_count
    with-list t w = fills_same w (λ x d u. sym (rw (sym e ∙ t, to_end 1 s)))

    pub without-list : (m : Option ℕ) → b ≡ false → k.bonds ≤ 32 → m ≡ missing_of carbon (bonds_in k.bonds bs) declared → Ends carbon k bs gs rs r ys hs zs (rest_of m s) → Ends carbon k bs gs rs r ys hs zs (after_count declared s)
    unfolding after_count
    without-list m t l v w =
        fills_same w
        (λ x d u.
        let q : m ≡ missing_of d.carbon d.bonds declared = v ∙ rw (bonds-kept bs k.bonds d.bonds u.bonds l, u.carbon) in
        sym (rw (sym e ∙ t, ← q)))

module _ (s : List ℕ) (carbon : ℕ) (k : Counts) (bs : List DbPos) (gs : List Mod) (rs : List Ring) (n : ℕ) (f : Place s (digit_run s) n) (v : Option ℕ) (e : v ≡ digits_up_to 4294967295 (take (n - 0) s)) where
  run : v ≡ digits_up_to 4294967295 (take (digit_run s) s)
  run = rw (sub-zero n, f.is) at e

  pub no-count : v ≡ None → Ends carbon k bs gs rs (Err Unreadable) bs gs rs (bonds_of s)
  unfolding bonds_of
  no-count g = fills-refused 11 (tell 0 k bs gs rs) (bonds_of s) (λ x d u. rw (sym run ∙ g))

  pub count-read : (m : ℕ) (r : Result Ending Refusal) (ys : List DbPos) (hs : List Mod) (zs : List Ring) → v ≡ Some m → Ends carbon k bs gs rs r ys hs zs (after_count m (take (length s - n) (drop n s))) → Ends carbon k bs gs rs r ys hs zs (bonds_of s)
  unfolding bonds_of
  count-read m r ys hs zs g w = fills_same w (λ x d u. sym (rw (sym run ∙ g, ← f.is, to_end n s)))

-- ---- the token

-- a start and what was read from the bond count on stand for an outcome as a token
pub with-start : (s : Start) (e : Result Ending Refusal) (bs : List DbPos) (gs : List Mod) (rs : List Ring) (o : Outcome) → Stands (answered (telling_as (carbon_as (start_as s bs gs rs) s.carbon)) (told e bs gs rs)) o → Tells (ended_as s e) bs gs rs o
with-start s (Ok e) bs gs rs o w = record { stands = w }
with-start s (Err n) bs gs rs o w = record { stands = w }

module _ (p : ChainPrefix) (b : Branch) (s : List ℕ) (bs : List DbPos) (gs : List Mod) (rs : List Ring) (n : ℕ) (f : Place s (index_of 58 s) n) where
  pub no-colon : n ≡ length s → Tells (Err Unreadable) bs gs rs (named_chain p b s)
  unfolding named_chain
  no-colon h = record { stands = rw (eq-eqb (index_of 58 s) (length s) (sym f.is ∙ h)) refl }

  module _ (h : n ≡ length s → ⊥) (q : Result Start Refusal) (w : Starts q gs (carbons_of p b (take (n - 0) s))) where
    colon : eqb (index_of 58 s) (length s) ≡ false
    colon = ne_eqb (index_of 58 s) (length s) (λ e. h (f.is ∙ e))

    text : take (n - 0) s ≡ take (index_of 58 s) s
    text = rw (sub-zero n, f.is)

    pub carbons-refused : (m : Refusal) (r : Result ReadChain Refusal) → q ≡ Err m → IsErrAnd r (λ (y : Refusal). y ≡ m) → Tells r bs gs rs (named_chain p b s)
    unfolding named_chain
    carbons-refused m r e g =
        let v : Starts (Err m) gs (carbons_of p b (take (n - 0) s)) = rw e at w in
        rw (err_kept r m g) (record { stands = rw (colon, ← text, stands-refused (number_of m) (carbons_of p b (take (n - 0) s)) (v.stands bs rs)) refl })

    pub carbons-then : (a : Start) (e : Result Ending Refusal) (r : Result ReadChain Refusal) (ys : List DbPos) (hs : List Mod) (zs : List Ring) → q ≡ Ok a
        → Ends a.carbon (record { bonds = 0; groups = a.groups; rings = 0; oxygens = 0 }) bs gs rs e ys hs zs (bonds_of (take (length s - (n + 1)) (drop (n + 1) s)))
        → r ≡ ended_as a e → Tells r ys hs zs (named_chain p b s)
    unfolding named_chain
    carbons-then a e r ys hs zs z v i =
        let y : Starts (Ok a) gs (carbons_of p b (take (n - 0) s)) = rw z at w in
        let g = stands_read (start_as a bs gs rs) (carbons_of p b (take (n - 0) s)) (y.stands bs rs) in
        let t : take (length s - (n + 1)) (drop (n + 1) s) ≡ drop (n + 1) s = to_end (n + 1) s in
        rw (i, colon, ← text, g.1, ← f.is, ← t) (with-start a e ys hs zs _ ((v.gives (start_as a bs gs rs)).stands g.0 g.2))

module _ (t : List ℕ) (a : Bool) (e : a ≡ same_bytes t empty_text) where
  pub empty-token : (r : ReadChain) (bs : List DbPos) (gs : List Mod) (rs : List Ring) → a ≡ true → r ≡ empty_chain → Tells (Ok r) bs gs rs (trimmed_of t)
  unfolding trimmed_of
  empty-token r bs gs rs h k = rw k (record { stands = rw (sym e ∙ h) (holds-none Acyl 0 0 false bs gs rs) })

  pub opened-chain : (o : Opening) (r : Result ReadChain Refusal) (bs : List DbPos) (gs : List Mod) (rs : List Ring) → a ≡ false → Opened t o → Tells r bs gs rs (named_chain o.prefix o.branch (take (length t - o.carbons) (drop o.carbons t))) → Tells r bs gs rs (trimmed_of t)
  unfolding trimmed_of
  opened-chain o r bs gs rs h w s = record { stands = rw (sym e ∙ h, ← w.is, ← to_end o.carbons t) s.stands }

module _ (s : List ℕ) (bs : List DbPos) (gs : List Mod) (rs : List Ring) where
  pub token-long : 255 < length s → Tells (Err OverLimit) bs gs rs (token_of s)
  unfolding token_of
  token-long h = record { stands = rw (lt-ltb 255 (length s) h) refl }

  module _ (h : length s ≤ 255) (b : Bool) (e : b ≡ all_printable s) where
    pub token-bytes : not b ≡ true → Tells (Err OverLimit) bs gs rs (token_of s)
    unfolding token_of
    token-bytes n = record { stands = rw (le-ltb 255 (length s) h, sym e ∙ not-true b n) refl }

    pub token-read : (t : List ℕ) (r : Result ReadChain Refusal) → not b ≡ false → t ≡ trimmed s → Tells r bs gs rs (trimmed_of t) → Tells r bs gs rs (token_of s)
    unfolding token_of
    token-read t r n g w = record { stands = rw (le-ltb 255 (length s) h, sym e ∙ not-false b n, ← g) w.stands }

-- ---- in arrays of any length

stands-longer : (r : Result ReadChain Refusal) (bs : List DbPos) (gs : List Mod) (rs : List Ring) (xs : List DbPos) (hs : List Mod) (zs : List Ring) (o : Outcome)
    → Stands (token_as r bs gs rs) o → Stands (token_as r (bs ++ xs) (gs ++ hs) (rs ++ zs)) o
stands-longer (Ok r) bs gs rs xs hs zs (Read d) k = holds-longer (chain_as r bs gs rs) d xs hs zs k
stands-longer (Ok r) bs gs rs xs hs zs (Refused n) k = k
stands-longer (Err n) bs gs rs xs hs zs (Read d) k = k
stands-longer (Err n) bs gs rs xs hs zs (Refused m) k = k

module _ (b g n : ℕ) (s : List ℕ) (bs : List DbPos) (gs : List Mod) (rs : List Ring) where
  pub bonds-short : b < 32 → Tells (Err OverLimit) bs gs rs (token_in b g n s)
  unfolding token_in
  bonds-short h = record { stands = rw (lt-ltb b max_bonds h) refl }

  pub groups-short : 32 ≤ b → g < 16 → Tells (Err OverLimit) bs gs rs (token_in b g n s)
  unfolding token_in
  groups-short u h = record { stands = rw (le-ltb b max_bonds u, lt-ltb g max_groups h) refl }

  pub rings-short : 32 ≤ b → 16 ≤ g → n < 8 → Tells (Err OverLimit) bs gs rs (token_in b g n s)
  unfolding token_in
  rings-short u v h = record { stands = rw (le-ltb b max_bonds u, le-ltb g max_groups v, lt-ltb n max_rings h) refl }

  -- a token is read into the first places of each array
  pub token-in : (xs : List DbPos) (hs : List Mod) (zs : List Ring) (r : Result ReadChain Refusal) → 32 ≤ b → 16 ≤ g → 8 ≤ n → Tells r bs gs rs (token_of s) → Tells r (bs ++ xs) (gs ++ hs) (rs ++ zs) (token_in b g n s)
  unfolding token_in
  token-in xs hs zs r u v w k =
      record { stands = rw (le-ltb b max_bonds u, le-ltb g max_groups v, le-ltb n max_rings w) (stands-longer r bs gs rs xs hs zs (token_of s) k.stands) }
