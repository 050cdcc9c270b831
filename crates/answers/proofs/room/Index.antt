-- How many indices the chains of a request have by rising sn.
-- Assumes nothing.
use Prim.Native.Nat.{ℕ, ◌+◌, ◌≤◌}
use native.Mathlib.Omega.{arith}
use mathlib.Core.Path.{◌≡◌, refl}
use mathlib.Core.Bool.{Bool, true, false, cond}
use mathlib.Core.List.{List, [], ◌∷◌, ◌++◌}
use lib.ListN.{length, length-append}
use lib.Dec.{leb}
use Rattle.chain_record.specs.plain.Chain.{Chain}
use Rattle.template_rules.specs.declared.Class.{Class}
use Rattle.template_rules.specs.Drawn as request
use Rattle.template_rules.specs.Drawn.{placed, insert_by_sn, by_sn}
use Rattle.template_rules.specs.Written.{indices_of, all_indices, index_of}
use Rattle.placement.specs.chain_notes.Fragment.{gathered}

length_inserted : (p : request.Placed) (ps : List request.Placed) → length (all_indices (insert_by_sn p ps)) ≡ length (indices_of p) + length (all_indices ps)
unfolding all_indices insert_by_sn
length_inserted p [] = length-append (indices_of p) []
length_inserted p (q ∷ qs) = go (leb p.sn q.sn) (length_inserted p qs)
  where
    go : (b : Bool) → length (all_indices (insert_by_sn p qs)) ≡ length (indices_of p) + length (all_indices qs)
        → length (all_indices (cond b (p ∷ q ∷ qs) (q ∷ insert_by_sn p qs))) ≡ length (indices_of p) + length (indices_of q ++ all_indices qs)
    go true h = length-append (indices_of p) (indices_of q ++ all_indices qs)
    go false h = omega (arith, length-append (indices_of q) (all_indices (insert_by_sn p qs)), h, length-append (indices_of q) (all_indices qs))

-- by rising sn they are as many as in the order of the text
length-sorted : (ps : List request.Placed) → length (all_indices (by_sn ps)) ≡ length (gathered indices_of ps)
unfolding all_indices by_sn gathered
length-sorted [] = refl
length-sorted (p ∷ ps) = omega (arith, length_inserted p (by_sn ps), length-sorted ps, length-append (indices_of p) (gathered indices_of ps))

pub index-length : (c : Class) (t : List ℕ) (ds : List Chain) → length (index_of c t ds) ≡ length (gathered indices_of (placed c t ds))
unfolding index_of
index-length c t ds = length-sorted (placed c t ds)

-- and the same, where there is one chain at most
lone : (ps : List request.Placed) → length ps ≤ 1 → all_indices (by_sn ps) ≡ gathered indices_of ps
unfolding all_indices by_sn insert_by_sn gathered
lone [] h = refl
lone (p ∷ []) h = refl
lone (p ∷ q ∷ ps) h = absurd (omega arith)

pub index-alone : (c : Class) (t : List ℕ) (ds : List Chain) → length (placed c t ds) ≤ 1 → index_of c t ds ≡ gathered indices_of (placed c t ds)
unfolding index_of
index-alone c t ds h = lone (placed c t ds) h
