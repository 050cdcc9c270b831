-- The count of an answer is the number of times that it stands among the answers. 01, Put to each public function: "in any order each answer
-- met stands there once, with its times". Assumes nothing.
use Prim.Native.Nat.{ℕ, suc, ◌+◌, ◌≤◌, ◌<◌, min}
use native.Mathlib.Omega.{arith}
use mathlib.Core.Path.{◌≡◌, refl, sym}
use mathlib.Core.Bool.{Bool, true, false, cond}
use mathlib.Core.List.{List, [], ◌∷◌}
use lib.ListN.{length, get_or, length-set, length-replicate, get_or-replicate}
use lib.Seq.{get_or-set_same, get_or-set_other}
use lib.Dec.{eqb}
use borrow.Author.Tests.{eqb-true, eqb-false}
use Rattle.sheet_frame.specs.tally.Counts.{answers, no_times, with_answer, times_from, times_of, occurrences}

times-from : (n : ℕ) (ts ns : List ℕ) → n < length ts → get_or ts n 0 ≤ 18446744073709551615
    → get_or (times_from ts ns) n 0 ≡ min (get_or ts n 0 + occurrences n ns) 18446744073709551615
unfolding times_from occurrences
times-from n ts [] l h = omega arith
times-from n ts (m ∷ ns) l h = go (eqb m n) refl (times-from n (with_answer ts m) ns (rw length-set l))
  where
    go : (b : Bool) → eqb m n ≡ b
        → (get_or (with_answer ts m) n 0 ≤ 18446744073709551615
        → get_or (times_from (with_answer ts m) ns) n 0 ≡ min (get_or (with_answer ts m) n 0 + occurrences n ns) 18446744073709551615)
        → get_or (times_from (with_answer ts m) ns) n 0 ≡ min (get_or ts n 0 + cond b (suc (occurrences n ns)) (occurrences n ns)) 18446744073709551615
    go true e f =
        let d : m ≡ n = eqb-true m n e in
        let g : get_or (with_answer ts m) n 0 ≡ min (get_or ts n 0 + 1) 18446744073709551615 = (rw d (get_or-set_same ts n (min (get_or ts n 0 + 1) 18446744073709551615) 0 l)) in
        let i = f (omega (arith, g)) in
        omega (arith, i, g)
    go false e f =
        let g : get_or (with_answer ts m) n 0 ≡ get_or ts n 0 = get_or-set_other ts m n (min (get_or ts m 0 + 1) 18446744073709551615) 0 (λ z. eqb-false m n e (sym z)) in
        let i = f (omega (arith, g)) in
        omega (arith, i, g)

pub times-told : (n : ℕ) (ns : List ℕ) → n < answers → get_or (times_of ns) n 0 ≡ min (occurrences n ns) 18446744073709551615
unfolding times_of
times-told n ns h =
    let z : get_or no_times n 0 ≡ 0 = get_or-replicate answers n 0 0 h in
    let i = times-from n no_times ns (rw length-replicate h) (omega arith) in
    omega (arith, i, z)
