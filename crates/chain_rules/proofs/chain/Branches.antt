-- The branch of every row of the group table is a part that reads by itself, with as many atoms as the table says and no label.
-- Assumes nothing.
use Prim.Native.Nat.{ℕ, zero, suc, ◌≤◌, ◌<◌}
use native.Mathlib.Omega.{arith}
use mathlib.Core.Path.{◌≡◌, refl}
use mathlib.Core.Bool.{Bool, true, false, ◌&&◌, false≢true}
use mathlib.Core.Option.{Option, none, some}
use mathlib.Core.List.{List, [], ◌∷◌}
use lib.ListN.{length, get_or}
use lib.Dec.{eqb, leb}
use borrow.Author.Tests.{eqb-true, leb-true}
use Rattle.group_table.specs.groups.Groups.{Entry, entries, entry_at, blank}
use Rattle.reading_rules.specs.reading.Piece.{Piece, atom, mark, dot, lpar, rpar, show}
use Rattle.reading_rules.specs.reading.Part.{Part, part_of}
use Rattle.reading_rules.proofs.reading.Frame.{Hangs, EachLabel}
use Rattle.reading_rules.proofs.reading.WellFormed.{AllWell}
use Rattle.reading_rules.proofs.reading.Part.{PartFrom, part-from}
use Rattle.reading_rules.proofs.reading.PartingLaws.{and_left, and_right}
use Rattle.chain_rules.specs.chain.Lists.{all_of}
use Rattle.chain_rules.specs.chain.Drawing.{or_none, branch_part}

-- no atom has a label
abbrev plain : List ℕ → Bool
plain [] = true
plain (l ∷ ls) = false

unfoldable pub unlabelled : List Piece → Bool
unlabelled [] = true
unlabelled (atom b ls ∷ us) = plain ls && unlabelled us
unlabelled (mark m ∷ us) = unlabelled us
unlabelled (dot ∷ us) = unlabelled us
unlabelled (lpar ∷ us) = unlabelled us
unlabelled (rpar ∷ us) = unlabelled us

-- where no atom has a label, any fact holds of each
pub each-unlabelled : (P : ℕ → Type 0) (us : List Piece) → unlabelled us ≡ true → EachLabel P us
unfolding unlabelled
each-unlabelled P [] h = tt
each-unlabelled P (atom b [] ∷ us) h = (tt, each-unlabelled P us h)
each-unlabelled P (atom b (l ∷ ls) ∷ us) h = absurd (false≢true h)
each-unlabelled P (mark m ∷ us) h = (tt, each-unlabelled P us h)
each-unlabelled P (dot ∷ us) h = (tt, each-unlabelled P us h)
each-unlabelled P (lpar ∷ us) h = (tt, each-unlabelled P us h)
each-unlabelled P (rpar ∷ us) h = (tt, each-unlabelled P us h)

-- the test of a row
unfoldable pub part_is : ℕ → Option Part → Bool
unfolding unlabelled
part_is n none = false
part_is n (some p) = eqb p.size n && leb n 5 && unlabelled p.pieces

unfoldable pub row_reads : Entry → Bool
unfolding part_of part_is
row_reads e = part_is e.atoms (part_of e.branch)

-- 01, The form each place needs: "one computed test ties the counts to the reading rules"
pub table-reads : all_of row_reads entries ≡ true
unfolding all_of row_reads entries
table-reads = refl

-- ---- one row

-- a part that reads by itself, has no label and at most five atoms
pub record Branch (p : Part) : Type 0 where
  pub hangs : Hangs p
  pub well : AllWell p.pieces
  pub bare : unlabelled p.pieces ≡ true
  pub few : p.size ≤ 5

row-reads : (es : List Entry) (row : ℕ) → all_of row_reads es ≡ true → row < length es → row_reads (get_or es row blank) ≡ true
unfolding all_of
row-reads [] row h g = absurd (omega arith)
row-reads (e ∷ es) zero h g = and_left (row_reads e) (all_of row_reads es) h
row-reads (e ∷ es) (suc row) h g = row-reads es row (and_right (row_reads e) (all_of row_reads es) h) (omega arith)

seventeen : length entries ≡ 17
unfolding entries
seventeen = refl

module _ (row : ℕ) (h : row < 17) where
  row_is : part_is (entry_at row).atoms (part_of (entry_at row).branch) ≡ true
  unfolding entry_at row_reads
  row_is = row-reads entries row table-reads (omega (arith, seventeen))

  branch-from : (o : Option Part) → part_of (entry_at row).branch ≡ o → part_is (entry_at row).atoms o ≡ true → Branch (or_none o) × ((or_none o).size ≡ (entry_at row).atoms)
  unfolding part_is
  branch-from none e t = absurd (false≢true t)
  branch-from (some p) e t =
      let first : (eqb p.size (entry_at row).atoms && leb (entry_at row).atoms 5) ≡ true =
      and_left (eqb p.size (entry_at row).atoms && leb (entry_at row).atoms 5) (unlabelled p.pieces) t
      in
      let same : p.size ≡ (entry_at row).atoms = eqb-true p.size (entry_at row).atoms (and_left (eqb p.size (entry_at row).atoms) (leb (entry_at row).atoms 5) first) in
      let five : (entry_at row).atoms ≤ 5 = leb-true (entry_at row).atoms 5 (and_right (eqb p.size (entry_at row).atoms) (leb (entry_at row).atoms 5) first) in
      let from : PartFrom (entry_at row).branch p = part-from (entry_at row).branch p e in (
        record {
          hangs = from.hangs;
          well = from.well;
          bare = and_right (eqb p.size (entry_at row).atoms && leb (entry_at row).atoms 5) (unlabelled p.pieces) t;
          few = omega arith;
        },
        same,
      )

  -- the branch of a row of the table is such a part
  pub branch-reads : Branch (branch_part row)
  unfolding branch_part
  branch-reads = (branch-from (part_of (entry_at row).branch) refl row_is).0

  -- and it has the atoms that the table counts
  pub branch-counts : (branch_part row).size ≡ (entry_at row).atoms
  unfolding branch_part
  branch-counts = (branch-from (part_of (entry_at row).branch) refl row_is).1

  -- it is the table's bytes, read whole and written
  pub branch-whole : (part_of (entry_at row).branch ≡ some (branch_part row)) × (show (branch_part row).pieces ≡ (entry_at row).branch)
  unfolding branch_part part_is
  branch-whole = go (part_of (entry_at row).branch) refl row_is
    where
      go : (o : Option Part) → part_of (entry_at row).branch ≡ o → part_is (entry_at row).atoms o ≡ true → (o ≡ some (or_none o)) × (show (or_none o).pieces ≡ (entry_at row).branch)
      go none e t = absurd (false≢true t)
      go (some p) e t = (refl, (part-from (entry_at row).branch p e).shown)
