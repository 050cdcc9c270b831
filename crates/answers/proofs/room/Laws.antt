-- A slice is too short, or both are long enough.
-- Assumes nothing.
use Prim.Native.Nat.{ℕ, ◌≤◌, ◌<◌, ◌^◌}
use native.Mathlib.Omega.{arith}
use mathlib.Core.Path.{◌≡◌, sym, ap, ◌∙◌}
use mathlib.Core.Bool.{Bool, true, false}
use mathlib.Core.List.{List}
use lib.ListN.{length}
use lib.Dec.{ltb}
use borrow.Author.Tests.{ltb-false, lt-ltb, le-ltb}
use Rattle.writer.specs.emit.Text.{after}
use Rattle.chain_rules.proofs.chain.Lists.{or_left, or_right}
use Rattle.chain_record.specs.plain.Chain.{Chain}
use Rattle.drawn_chain.specs.declared.drawable.Shape.{Shape}
use Rattle.drawn_chain.specs.declared.rooms.Lists.{Lists}
use Rattle.placement.specs.declared.chain_notes.Placed.{Placed}
use Rattle.drawn_chain.specs.drawable.Chains.{Chains}
use Rattle.request_chains.specs.chain_shapes.Shapes.{chains_kept}
use Rattle.template_rules.specs.declared.Class.{Class}
use Rattle.template_rules.specs.Written.{line_of, index_of}
use Rattle.line_builder.specs.Build.{rooms}
use Rattle.class_lines.specs.declared.lines.Line.{Line}
use Rattle.class_lines.specs.lines.Line.{Writes, Writable, LineIs, LineBuilt}
use Rattle.class_lines.specs.longest.Covered.{Covered, Slight, SlightCovered}
use Rattle.answers.specs.answer.Answer.{short}
use Rattle.answers.specs.room.Ready.{Ready, Readied, ShortIs, Ample}
use Rattle.answers.proofs.room.Index.{index-length}

-- a measured length is no more than the text has
least : (n : ℕ) → after 0 n ≤ n
least n = omega arith

module _ (c : Class) (swap : Bool) (t : List ℕ) (ds : List Chain) where
  short-by-line : (n m : ℕ) → n < length (line_of c swap t ds) → short c swap t ds n m ≡ true
  unfolding short
  short-by-line n m h = rw (lt-ltb n (length (line_of c swap t ds)) h)

  -- the line has room: then the indices tell
  by_index : (n m : ℕ) → length (line_of c swap t ds) ≤ n → short c swap t ds n m ≡ ltb m (length (index_of c t ds))
  unfolding short
  by_index n m h = rw (le-ltb n (length (line_of c swap t ds)) h)

  pub long-enough : (n m : ℕ) → length (line_of c swap t ds) ≤ n → length (index_of c t ds) ≤ m → short c swap t ds n m ≡ false
  long-enough n m h k = by_index n m h ∙ le-ltb m (length (index_of c t ds)) k

  -- and back
  pub line-room : (n m : ℕ) → short c swap t ds n m ≡ false → length (line_of c swap t ds) ≤ n
  unfolding short
  line-room n m h = ltb-false n (length (line_of c swap t ds)) (or_left _ (ltb m (length (index_of c t ds))) h)

  pub index-room : (n m : ℕ) → short c swap t ds n m ≡ false → length (index_of c t ds) ≤ m
  unfolding short
  index-room n m h = ltb-false m (length (index_of c t ds)) (or_right (ltb n (length (line_of c swap t ds))) _ h)

-- ---- a line that is measured

-- there is room for the indices and rows of four chains
module _ {c : Class} {t : List ℕ} {k : ℕ} {x : Chains} {vs ns rs : List ℕ} {os : List Placed} (n : length ns ≡ 1020) (m : length rs ≡ 64) where
  ready-writes : (ds : List Chain) → Ready c t k x ds → Writes c t k x (rooms vs ns rs os) ds
  ready-writes ds w =
      record { own = w.own; told = w.told; room = record { index = omega (arith, n, w.index, w.tokens); rows = omega (arith, m, w.rows, w.tokens) } }

  pub readied-writable : Readied c t k x → Writable c t k x (rooms vs ns rs os)
  readied-writable w = record { chains = w.chains; writes = ready-writes w.chains w.ready }

module _ {c : Class} {swap : Bool} {t : List ℕ} {k : ℕ} {x : Chains} {vs zs ns js rs ss : List ℕ} {os ps : List Placed} {r : Line} where
  measured : LineBuilt c swap t k x (rooms vs ns rs os) (rooms zs js ss ps) r → length ns ≡ 1020 → length rs ≡ 64 → (ds : List Chain) → Ready c t k x ds
      → LineIs c swap t ds (rooms vs ns rs os) (rooms zs js ss ps) r
  measured h n m ds w = h.line ds (ready-writes n m ds w)

  pub short-line : {n m : ℕ} → LineBuilt c swap t k x (rooms vs ns rs os) (rooms zs js ss ps) r → length ns ≡ 1020 → length rs ≡ 64 → n < r.at
      → ShortIs c swap t k x n m true
  short-line {n} {m} h e f l =
      record { is = λ ds w. sym (short-by-line c swap t ds n m (omega (arith, l, (measured h e f ds w).text.next, least (length (line_of c swap t ds))))) }

  pub short-index : {n m : ℕ} → LineBuilt c swap t k x (rooms vs ns rs os) (rooms zs js ss ps) r → length ns ≡ 1020 → length rs ≡ 64 → n < 2 ^ 63
      → r.at ≤ n → ShortIs c swap t k x n m (ltb m r.used)
  short-index {n} {m} h e f u l =
      record {
        is = λ ds w.
            let i = measured h e f ds w in
            ap (λ (z : ℕ). ltb m z) (i.used ∙ sym (index-length c t ds)) ∙ sym (by_index c swap t ds n m (omega (arith, u, l, i.text.next)));
      }

-- ---- slices that are long enough for any line with such chains

pub ample : {t : List ℕ} {k count : ℕ} {ns : List Shape} {r n m : ℕ} → Covered t k count ns r → 1020 ≤ m → r ≤ n → Ample t k count ns n m
ample {t} {n = n} {m} h e f =
    record {
      long = λ c swap l ds w.
          long-enough c swap t ds n m (omega (arith, f, h.covers c swap ds l w.own.tail w.own.stood w.told)) (omega (arith, e, index-length c t ds, w.index, w.tokens));
    }

-- for any with chains of which none is long
pub slight-ample : {t : List ℕ} {k count : ℕ} {ns : List Shape} {b : Bool} {r n m : ℕ} → SlightCovered 30 t k r → (b ≡ true → Slight 30 count ns) → b ≡ true → 1020 ≤ m → r ≤ n
    → Ample t k count ns n m
slight-ample {count = count} {ns} h g q e f = ample (h.covers count ns (g q)) e f

pub not_short : {c : Class} {swap : Bool} {t : List ℕ} {k count : ℕ} {ns : List Shape} {n m : ℕ} (l : List Lists) → Ample t k count ns n m → ShortIs c swap t k (chains_kept count ns l) n m false
not_short {c} {swap} l h = record { is = λ ds w. sym (h.long c swap l ds w) }
