-- The rows of a drawn chain: as many as its atoms, with a C at the atom of each of its carbons.
-- Assumes nothing.
use Prim.Native.Nat.{ℕ, zero, suc, ◌+◌, ◌-◌, ◌≤◌, ◌<◌}
use native.Mathlib.Omega.{arith}
use mathlib.Core.Path.{◌≡◌, ap, ◌∙◌}
use mathlib.Core.Bool.{Bool, true, false}
use mathlib.Core.Option.{Option, none, some}
use mathlib.Core.List.{List, [], ◌∷◌, ◌++◌, append_assoc}
use lib.ListN.{length, length-append, length-map}
use Rattle.chain_record.specs.plain.Chain.{Chain}
use Rattle.reading_rules.specs.reading.Ascii.{ascii}
use Rattle.reading_rules.specs.reading.Row.{link, Row, row}
use Rattle.reading_rules.specs.reading.Machine.{plainly}
use Rattle.reading_rules.specs.reading.Part.{Part, place, move_row, hung}
use Rattle.reading_rules.specs.reading.Chain.{Ring, Carbon, parts_end, bridge_end, carbon_end, carbon_last, chain_end, atom_from, atom_of, part_rows, bridge_rows, ring_links, carbon_members, chain_members, float_members, rows_of, float_end}
use Rattle.reading_rules.specs.reading.Template.{members}
use Rattle.reading_rules.proofs.reading.PartingLaws.{All}
use Rattle.reading_rules.proofs.reading.Members.{rows_append, carbon-rows, float-rows}
use Rattle.reading_rules.proofs.reading.Part.{part-size}
use Rattle.reading_rules.proofs.reading.Frame.{Hangs}
use Rattle.chain_rules.specs.declared.chain.Role.{Role}
use Rattle.chain_rules.specs.chain.Features.{first_drawn}
use Rattle.chain_rules.specs.chain.Drawing.{carbons, floats, ring_pairs, chain_drawn, carbon_atoms, atoms_end}
use Rattle.chain_rules.proofs.chain.Lists.{all-values}
use Rattle.chain_rules.proofs.chain.Branches.{Branch}
use Rattle.chain_rules.proofs.chain.Fits.{CarbonFine, carbons-fine, floats-read}
use Rattle.chain_rules.proofs.chain.Accepted.{Drawable}

-- ---- the bytes of a row among rows

unfoldable pub row_bytes : ℕ → List Row → Option (List ℕ)
row_bytes i [] = none
row_bytes zero (row b ks ∷ rs) = some b
row_bytes (suc i) (r ∷ rs) = row_bytes i rs

-- atom i is a carbon, where the rows are numbered from n
pub record Carbonic (n : ℕ) (rs : List Row) (i : ℕ) : Type 0 where
  pub from : n ≤ i
  pub is : row_bytes (i - n) rs ≡ some (ascii "C")

bytes-before : (i : ℕ) (xs ys : List Row) → row_bytes (length xs + i) (xs ++ ys) ≡ row_bytes i ys
unfolding row_bytes
bytes-before i [] ys = ap (λ (z : ℕ). row_bytes z ys) (omega arith)
bytes-before i (x ∷ xs) ys = let e : suc (length xs) + i ≡ suc (length xs + i) = omega arith in rw e (bytes-before i xs ys)

bytes_after : (i : ℕ) (xs ys : List Row) (b : List ℕ) → row_bytes i xs ≡ some b → row_bytes i (xs ++ ys) ≡ some b
unfolding row_bytes
bytes_after i [] ys b e = cc
bytes_after zero (row a ks ∷ xs) ys b e = e
bytes_after (suc i) (x ∷ xs) ys b e = bytes_after i xs ys b e

-- rows that come before, and rows that come after
pub carbonic-before : (n m : ℕ) (xs ys : List Row) (i : ℕ) → n + length xs ≡ m → Carbonic m ys i → Carbonic n (xs ++ ys) i
carbonic-before n m xs ys i e c =
    let q : i - n ≡ length xs + (i - m) = omega (arith, c.from) in
    record { from = omega (arith, c.from); is = rw q (bytes-before (i - m) xs ys ∙ c.is) }

pub carbonic-after : (n : ℕ) (xs ys : List Row) (i : ℕ) → Carbonic n xs i → Carbonic n (xs ++ ys) i
carbonic-after n xs ys i c = record { from = c.from; is = bytes_after (i - n) xs ys (ascii "C") c.is }

-- ---- the rows of parts and carbons

pub length-hung : (on n : ℕ) (p : Part) → Hangs p → length (hung on n p) ≡ p.size
unfolding hung
length-hung on n p h = length-map p.rows (move_row (place on n)) ∙ part-size h

pub length-parts : (self n : ℕ) (ps : List Part) → All Branch ps → n + length (part_rows self n ps) ≡ parts_end n ps
unfolding part_rows parts_end
length-parts self n [] h = omega arith
length-parts self n (p ∷ ps) h =
    omega (arith, length-append (hung self n p) (part_rows self (n + p.size) ps), length-hung self n p h.0.hangs, length-parts self (n + p.size) ps h.1)

pub length-bridge : (b : Bool) (n self : ℕ) → n + length (bridge_rows b self) ≡ bridge_end b n
unfolding bridge_rows bridge_end
length-bridge true n self = omega arith
length-bridge false n self = omega arith

length-floats : (n : ℕ) (ps : List Part) → All Branch ps → n + length (rows_of (float_members n ps)) ≡ float_end n ps
unfolding float_end
length-floats n [] h = unfold float_members rows_of in omega arith
length-floats n (p ∷ ps) h =
    omega (
      arith,
      ap length (float-rows n p ps),
      length-append (hung n (suc n) p) (rows_of (float_members (suc n + p.size) ps)),
      length-hung n (suc n) p h.0.hangs,
      length-floats (suc n + p.size) ps h.1,
    )

module _ (pos : ℕ → ℕ) (rs : List Ring) where
  -- the rows of one carbon with its branches and its bridge
  own : ℕ → ℕ → ℕ → Carbon → List Row
  own k n prev c = row (ascii "C") (link prev (plainly c.before) ∷ ring_links pos k rs) ∷ (part_rows n (suc n) c.parts ++ bridge_rows c.bridge n)

  length-own : (k n prev : ℕ) (c : Carbon) → All Branch c.parts → n + length (own k n prev c) ≡ carbon_end n c
  unfolding own carbon_end
  length-own k n prev c h =
      omega (
        arith,
        length-append (part_rows n (suc n) c.parts) (bridge_rows c.bridge n),
        length-parts n (suc n) c.parts h,
        length-bridge c.bridge (parts_end (suc n) c.parts) n,
      )

  -- the rows of the carbons from k on
  abbrev rows_from : ℕ → ℕ → ℕ → List Carbon → List Row
  rows_from k n prev cs = rows_of (carbon_members pos rs k n prev cs)

  rows-cons : (k n prev : ℕ) (c : Carbon) (cs : List Carbon) → rows_from k n prev (c ∷ cs) ≡ own k n prev c ++ rows_from (suc k) (carbon_end n c) (carbon_last n c) cs
  unfolding own
  rows-cons k n prev c cs = carbon-rows pos rs k n prev c cs ∙ simp append_assoc

  pub length-carbons : (k n prev : ℕ) (cs : List Carbon) → All CarbonFine cs → n + length (rows_from k n prev cs) ≡ chain_end n cs
  unfolding chain_end
  length-carbons k n prev [] h = unfold carbon_members rows_of in omega arith
  length-carbons k n prev (c ∷ cs) h =
      omega (
        arith,
        ap length (rows-cons k n prev c cs),
        length-append (own k n prev c) (rows_from (suc k) (carbon_end n c) (carbon_last n c) cs),
        length-own k n prev c h.0.parts,
        length-carbons (suc k) (carbon_end n c) (carbon_last n c) cs h.1,
      )

  own-carbonic : (k n prev : ℕ) (c : Carbon) (rest : List Row) → Carbonic n (own k n prev c ++ rest) n
  unfolding own row_bytes
  own-carbonic k n prev c rest = let e : n - n ≡ 0 = omega arith in record { from = omega arith; is = rw e }

  -- each carbon's row is at its atom
  carbons-carbonic : (k n prev : ℕ) (cs : List Carbon) (j : ℕ) → All CarbonFine cs → j < length cs → Carbonic n (rows_from k n prev cs) (atom_from n cs j)
  unfolding atom_from
  carbons-carbonic k n prev [] j h g = absurd (omega arith)
  carbons-carbonic k n prev (c ∷ cs) zero h g =
      rw (rows-cons k n prev c cs) (own-carbonic k n prev c (rows_from (suc k) (carbon_end n c) (carbon_last n c) cs))
  carbons-carbonic k n prev (c ∷ cs) (suc j) h g =
      rw (rows-cons k n prev c cs)
      (carbonic-before n (carbon_end n c) (own k n prev c) (rows_from (suc k) (carbon_end n c) (carbon_last n c) cs) (atom_from (carbon_end n c) cs j) (length-own k n prev c h.0.parts)
      (carbons-carbonic (suc k) (carbon_end n c) (carbon_last n c) cs j h.1 (omega arith)))

-- ---- the rows of a chain

abbrev pub drawn_rows : Role → Chain → ℕ → ℕ → List Row
drawn_rows r d n on = rows_of (members (chain_drawn r d) n on)

module _ (r : Role) (d : Chain) (n on : ℕ) where
  -- those of its carbons, and those of its floating parts
  abbrev pub carbon_part : List Row
  carbon_part = rows_of (chain_members (first_drawn r) (ring_pairs d.rings) (carbons r d) n on)

  abbrev pub float_part : List Row
  float_part = rows_of (float_members (chain_end n (carbons r d)) (floats d))

  pub drawn-parts : drawn_rows r d n on ≡ carbon_part ++ float_part
  unfolding members chain_drawn
  drawn-parts = rows_append (chain_members (first_drawn r) (ring_pairs d.rings) (carbons r d) n on) (float_members (chain_end n (carbons r d)) (floats d))

module _ (r : Role) (d : Chain) (a : Drawable r d) (n on : ℕ) where
  pub length-carbon-part : n + length (carbon_part r d n on) ≡ chain_end n (carbons r d)
  unfolding chain_members
  length-carbon-part = length-carbons (atom_of (first_drawn r) n (carbons r d)) (ring_pairs d.rings) (first_drawn r) n on (carbons r d) (carbons-fine r d a.sound)

  pub length-drawn : n + length (drawn_rows r d n on) ≡ atoms_end r d n
  unfolding atoms_end
  length-drawn =
      omega (
        arith,
        ap length (drawn-parts r d n on),
        length-append (carbon_part r d n on) (float_part r d n on),
        length-carbon-part,
        length-floats (chain_end n (carbons r d)) (floats d) (floats-read d a.sound).0,
      )

  pub drawn-carbonic : All (Carbonic n (drawn_rows r d n on)) (carbon_atoms r d n)
  unfolding carbon_atoms atom_of
  drawn-carbonic =
      rw (drawn-parts r d n on)
      (all-values (Carbonic n (carbon_part r d n on ++ float_part r d n on)) (atom_of (first_drawn r) n (carbons r d)) (first_drawn r) (length (carbons r d))
      (λ i h g. carbonic-after n (carbon_part r d n on) (float_part r d n on) (atom_of (first_drawn r) n (carbons r d) i) (here i h g)))
    where
      here : (i : ℕ) → first_drawn r ≤ i → i < first_drawn r + length (carbons r d) → Carbonic n (carbon_part r d n on) (atom_of (first_drawn r) n (carbons r d) i)
      here i h g = unfold chain_members in carbons-carbonic (atom_of (first_drawn r) n (carbons r d)) (ring_pairs d.rings) (first_drawn r) n on (carbons r d) (i - first_drawn r) (carbons-fine r d a.sound) (omega arith)
