-- Laws of the writers of site lists: a law for each way out and each turn of a loop. Assumes nothing.
use Prim.Native.Nat.{ℕ, ◌+◌, ◌^◌, ◌≤◌, ◌<◌}
use native.Mathlib.Numerals.{add-one}
use native.Mathlib.Omega.{arith}
use mathlib.Core.Path.{◌∙◌}
use mathlib.Core.List.{List, map, map-append, append_assoc}
use lib.ListN.{length, take, get_or, length-map}
use lib.Seq.{take-suc, take_all, length-take-le}
use lib.Dec.{ltb}
use Rattle.writer.specs.emit.Text.{Written, decimal}
use Rattle.writer.proofs.emit.Laws.{written-append}
use Rattle.reading_rules.specs.reading.Ascii.{ascii}
use Rattle.reading_rules.specs.reading.Parting.{joined}
use Rattle.reading_rules.specs.reading.Molecule.{at}
use Rattle.reading_rules.specs.reading.Show.{show_sites}
use Rattle.line_parts.specs.shown.Chained.{listed, numbered}
use Rattle.line_parts.proofs.shown.Laws.{part-more}

pub sites-text : {xs ys zs : List ℕ} {a p q : ℕ} (i : ℕ) (js : List ℕ) → length xs < 2 ^ 64 → Written xs a (numbered (ascii "m:") i 58) ys p
    → Written ys p (joined 46 (map decimal js)) zs q → Written xs a (show_sites (at i js)) zs q
unfolding show_sites numbered ascii
sites-text i js g w u = simp append_assoc at (written-append g w u)

-- a turn of the loop
pub sites-more : {xs ys zs : List ℕ} {a p q : ℕ} (i : ℕ) (g : length xs < 2 ^ 64) (js : List ℕ) → i < length js → Written xs a (joined 46 (map decimal (take i js))) ys p
    → Written ys p (listed (ltb 0 i) 46 (decimal (get_or js i 0))) zs q → Written xs a (joined 46 (map decimal (take (i + 1) js))) zs q
sites-more i g js h w u =
    rw (add-one, take-suc js i 0 h, map-append)
    (part-more 46 (map decimal (take i js)) (decimal (get_or js i 0)) i (length-map (take i js) decimal ∙ length-take-le i js (omega arith)) g w u)

pub sites-all : {xs ys : List ℕ} {a p : ℕ} (js : List ℕ) (i : ℕ) → length js ≤ i → Written xs a (joined 46 (map decimal (take i js))) ys p
    → Written xs a (joined 46 (map decimal js)) ys p
sites-all js i h w = rw (take_all i js h) at w
