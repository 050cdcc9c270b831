-- Laws of rings, features and parts: one for each way out.
-- Assumes nothing.
use Prim.Native.Nat.{ℕ, suc, ◌+◌, ◌-◌, ◌≤◌, ◌<◌}
use native.Mathlib.Nat.{sub-zero}
use native.Mathlib.Numerals.{add-one}
use native.Mathlib.Omega.{arith}
use mathlib.Core.Path.{◌≡◌, refl, sym, ◌∙◌}
use mathlib.Core.List.{List, [], ◌∷◌}
use lib.ListN.{length, take, drop, get_or}
use borrow.Author.Tests.{lt-ltb, le-ltb, eq-eqb, ne_eqb}
use Rattle.scanner.specs.scan.Part.{Place, index_of}
use Rattle.scanner.specs.scan.Number.{digit_run}
use Rattle.std.specs.Prelude.{Option, Some, None}
use Rattle.scanner.proofs.scan.Laws.{to_end}
use Rattle.token_syntax.specs.form.Numbers.{trimmed_number, leading_position, number_or_one}
use Rattle.group_table.specs.groups.Groups.{substituent_of, alias_ring_size}
use Rattle.chain_record.specs.declared.plain.Bridge.{Bridge}
use Rattle.token_features.specs.declared.features.Segment.{Segment}
use Rattle.token_features.specs.declared.features.Segment.TheVariants.{Cycle, Located, Repeated, Oxygens, Unreadable}
use Rattle.token_features.specs.declared.features.Feature.{Feature}
use Rattle.token_features.specs.declared.features.Feature.TheVariants.{Ring, Group, Other}
use Rattle.token_features.specs.features.Features.{Span, ring_at, bridge_of, feature_of, placed, listed_as, oxygen_count, oxygens_in, item_at, part_of, repeated_of}

-- ---- an alias ring

module _ (start : ℕ) (b : Bridge) (c : ℕ) where
  pub ring-at-zero : start ≡ 0 → Unreadable ≡ ring_at start b c
  unfolding ring_at
  ring-at-zero h = rw (eq-eqb start 0 h)

  module _ (n : ℕ) (s : Span b n) (z : start ≡ 0 → ⊥) where
    pub ring-at-off : c < start + n - 1 → Unreadable ≡ ring_at start b c
    unfolding ring_at
    ring-at-off h = rw (← s.is, ne_eqb start 0 z, lt-ltb c (start + n - 1) h)

    pub ring-at-is : start + n - 1 ≤ c → Cycle (record { start = start; end = start + n - 1; bridge = b }) ≡ ring_at start b c
    unfolding ring_at
    ring-at-is h = rw (← s.is, ne_eqb start 0 z, le-ltb c (start + n - 1) h)

-- ---- what an abbreviation names

module _ (abbr : List ℕ) (a : Option ℕ) (e : a ≡ alias_ring_size abbr) where
  pub names-ring : (n : ℕ) (b : Bridge) → a ≡ Some n → b ≡ bridge_of n → Ring b ≡ feature_of abbr
  unfolding feature_of
  names-ring n b f h = sym (rw (sym e ∙ f, h))

  module _ (f : a ≡ None) (g : Option ℕ) (h : g ≡ substituent_of abbr) where
    pub names-nothing : g ≡ None → Other ≡ feature_of abbr
    unfolding feature_of
    names-nothing k = sym (rw (sym e ∙ f, sym h ∙ k))

    pub names-group : (row : ℕ) → g ≡ Some row → Group row ≡ feature_of abbr
    unfolding feature_of
    names-group row k = sym (rw (sym e ∙ f, sym h ∙ k))

-- ---- a feature at a position

module _ (f : Feature) (pos c : ℕ) where
  pub placed-ring : (b : Bridge) (r : Segment) → f ≡ Ring b → r ≡ ring_at pos b c → r ≡ placed f pos c
  placed-ring b r e h = h ∙ rw e

  pub placed-group : (row : ℕ) → f ≡ Group row → Located (record { pos = pos; row = row }) ≡ placed f pos c
  placed-group row e = rw e

module _ (s : List ℕ) (f : Feature) (c : ℕ) (n : Option ℕ) (e : n ≡ trimmed_number s) where
  pub listed-unreadable : n ≡ None → Unreadable ≡ listed_as f s c
  unfolding listed_as
  listed-unreadable h = sym (rw (sym e ∙ h))

  pub listed-is : (pos : ℕ) (r : Segment) → n ≡ Some pos → r ≡ placed f pos c → r ≡ listed_as f s c
  unfolding listed_as
  listed-is pos r h k = k ∙ sym (rw (sym e ∙ h))

-- ---- an oxygen count

module _ (s : List ℕ) (n : Option ℕ) (e : n ≡ number_or_one s) where
  pub oxygens-unreadable : n ≡ None → Unreadable ≡ oxygen_count s
  unfolding oxygen_count
  oxygens-unreadable h = sym (rw (sym e ∙ h))

  pub oxygens-are : (m : ℕ) → n ≡ Some m → Oxygens m ≡ oxygen_count s
  unfolding oxygen_count
  oxygens-are m h = sym (rw (sym e ∙ h))

pub no-abbreviation : (s : List ℕ) → length s ≡ 0 → Unreadable ≡ oxygens_in s
unfolding oxygens_in
no-abbreviation [] h = refl
no-abbreviation (x ∷ xs) h = absurd (omega arith)

pub no-oxygen : (s : List ℕ) → (length s ≡ 0 → ⊥) → (get_or s 0 0 ≡ 79 → ⊥) → Unreadable ≡ oxygens_in s
unfolding oxygens_in
no-oxygen [] h k = absurd (h refl)
no-oxygen (x ∷ xs) h k = rw (ne_eqb x 79 k)

pub oxygen-counted : (s : List ℕ) (r : Segment) → (length s ≡ 0 → ⊥) → get_or s 0 0 ≡ 79 → r ≡ oxygen_count (take (length s - 1) (drop 1 s)) → r ≡ oxygens_in s
unfolding oxygens_in
oxygen-counted [] r h k e = absurd (h refl)
oxygen-counted (x ∷ xs) r h k e = e ∙ rw (eq-eqb x 79 k, to_end 1 (x ∷ xs))

-- ---- a part between commas

module _ (abbr : List ℕ) (pos c : ℕ) (f : Feature) (e : f ≡ feature_of abbr) (r : Segment) where
  pub item-ring : (b : Bridge) → f ≡ Ring b → r ≡ placed f pos c → r ≡ item_at abbr pos c
  unfolding item_at
  item-ring b h k = k ∙ rw (← e, h)

  pub item-group : (row : ℕ) → f ≡ Group row → r ≡ placed f pos c → r ≡ item_at abbr pos c
  unfolding item_at
  item-group row h k = k ∙ rw (← e, h)

  pub item-other : f ≡ Other → r ≡ oxygens_in abbr → r ≡ item_at abbr pos c
  unfolding item_at
  item-other h k = k ∙ rw (← e, h)

module _ (s : List ℕ) (c n : ℕ) (p : Place s (digit_run s) n) where
  pub part-no-abbreviation : n ≡ length s → Unreadable ≡ part_of s c
  unfolding part_of
  part-no-abbreviation h = rw (← p.is, eq-eqb n (length s) h)

  module _ (d : n ≡ length s → ⊥) (a : Option ℕ) (e : a ≡ leading_position (take (n - 0) s)) where
    pub part-unreadable : a ≡ None → Unreadable ≡ part_of s c
    unfolding part_of
    part-unreadable h = let z : leading_position (take n s) ≡ None = (rw (sub-zero n) at (sym e)) ∙ h in rw (← p.is, ne_eqb n (length s) d, z)

    pub part-is : (pos : ℕ) (r : Segment) → a ≡ Some pos → r ≡ item_at (take (length s - n) (drop n s)) pos c → r ≡ part_of s c
    unfolding part_of
    part-is pos r h k =
        let z : leading_position (take n s) ≡ Some pos = (rw (sub-zero n) at (sym e)) ∙ h in
        k ∙ rw (← p.is, ne_eqb n (length s) d, z, to_end n s)

-- ---- groups without a position

module _ (s : List ℕ) (k : ℕ) (p : Place s (index_of 41 s) k) where
  pub repeated-open : k ≡ length s → Unreadable ≡ repeated_of s
  unfolding repeated_of
  repeated-open h = rw (← p.is, eq-eqb k (length s) h)

  module _ (d : k ≡ length s → ⊥) (g : Option ℕ) (e : g ≡ substituent_of (take (k - 0) s)) where
    pub repeated-unknown : g ≡ None → Unreadable ≡ repeated_of s
    unfolding repeated_of
    repeated-unknown h = let z : substituent_of (take k s) ≡ None = (rw (sub-zero k) at (sym e)) ∙ h in rw (← p.is, ne_eqb k (length s) d, z)

    module _ (row : ℕ) (h : g ≡ Some row) (n : Option ℕ) (f : n ≡ number_or_one (take (length s - (k + 1)) (drop (k + 1) s))) where
      group-row : substituent_of (take k s) ≡ Some row
      group-row = (rw (sub-zero k) at (sym e)) ∙ h

      count-text : number_or_one (drop (suc k) s) ≡ n
      count-text = rw (to_end (k + 1) s, add-one k) at (sym f)

      pub repeated-unreadable : n ≡ None → Unreadable ≡ repeated_of s
      unfolding repeated_of
      repeated-unreadable i = rw (← p.is, ne_eqb k (length s) d, group-row, count-text ∙ i)

      pub repeated-is : (m : ℕ) → n ≡ Some m → Repeated row m ≡ repeated_of s
      unfolding repeated_of
      repeated-is m i = rw (← p.is, ne_eqb k (length s) d, group-row, count-text ∙ i)
