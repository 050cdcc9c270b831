-- Laws of the writers of what parts: a law for each way out, and for lists with a byte between their parts. Assumes nothing.
use Prim.Native.Nat.{ℕ, zero, suc, ◌+◌, ◌^◌, ◌<◌}
use native.Mathlib.Nat.{add-zero, add-suc, suc-add}
use native.Mathlib.Omega.{arith}
use mathlib.Core.Path.{◌≡◌, refl, ap}
use mathlib.Core.Bool.{Bool, true, false}
use mathlib.Core.List.{List, [], ◌∷◌, ◌++◌, append_assoc, append-nil}
use lib.ListN.{length}
use lib.Dec.{ltb}
use borrow.Author.Tests.{lt-ltb}
use Rattle.writer.specs.emit.Text.{Written, decimal}
use Rattle.writer.proofs.emit.Laws.{written-append, written-nil}
use Rattle.reading_rules.specs.reading.Ascii.{ascii}
use Rattle.reading_rules.specs.reading.Parting.{joined, led}
use Rattle.reading_rules.specs.reading.Show.{show_label}
use Rattle.chain_rules.specs.chain.Lists.{values_from}
use Rattle.line_parts.specs.shown.Chained.{lead, blocks_end, parting, listed, numbered}

-- ---- the label of a site

pub label-text : {xs ys : List ℕ} {a p : ℕ} (sn : ℕ) → Written xs a (115 ∷ 110 ∷ (48 + sn) ∷ []) ys p → Written xs a (show_label sn) ys p
unfolding show_label ascii
label-text sn w = w

-- ---- the texts that are chosen by a test

module _ {xs ys : List ℕ} {at p : ℕ} where
  pub lead-first : (opening sep : List ℕ) (first : Bool) → first ≡ true → Written xs at opening ys p → Written xs at (lead opening sep first) ys p
  unfolding lead
  lead-first opening sep first e w = rw e w

  pub lead-later : (opening sep : List ℕ) (first : Bool) → first ≡ false → Written xs at sep ys p → Written xs at (lead opening sep first) ys p
  unfolding lead
  lead-later opening sep first e w = rw e w

  pub end-any : (any : Bool) → any ≡ true → Written xs at (ascii "|") ys p → Written xs at (blocks_end any) ys p
  unfolding blocks_end
  end-any any e w = rw e w

  pub parting-more : (more : Bool) (s : ℕ) → more ≡ true → Written xs at (s ∷ []) ys p → Written xs at (parting more s) ys p
  unfolding parting
  parting-more more s e w = rw e w

pub end_none : (any : Bool) (xs : List ℕ) (p : ℕ) → any ≡ false → p < 2 ^ 64 → Written xs p (blocks_end any) xs p
unfolding blocks_end
end_none any xs p e h = rw e (written-nil xs p h)

pub parting-none : (more : Bool) (s : ℕ) (xs : List ℕ) (p : ℕ) → more ≡ false → p < 2 ^ 64 → Written xs p (parting more s) xs p
unfolding parting
parting-none more s xs p e h = rw e (written-nil xs p h)

-- ---- the texts of blocks and parts

pub numbered-text : {xs ys zs ws before : List ℕ} {a p q r : ℕ} (n after : ℕ) → length xs < 2 ^ 64 → Written xs a before ys p
    → Written ys p (decimal n) zs q → Written zs q (after ∷ []) ws r → Written xs a (numbered before n after) ws r
unfolding numbered
numbered-text n after g w u v = rw append_assoc at (written-append g (written-append g w u) v)

-- ---- lists with a byte between their parts, written part by part

led-snoc : (s : ℕ) (ps : List (List ℕ)) (t : List ℕ) → led s (ps ++ (t ∷ [])) ≡ led s ps ++ s ∷ t
unfolding led
led-snoc s [] t = rw append-nil
led-snoc s (p ∷ ps) t = rw (led-snoc s ps t, append_assoc)

joined_snoc : (s : ℕ) (ps : List (List ℕ)) (t : List ℕ) → joined s (ps ++ (t ∷ [])) ≡ joined s ps ++ listed (ltb 0 (length ps)) s t
unfolding joined led listed parting
joined_snoc s [] t = rw append-nil
joined_snoc s (p ∷ ps) t = rw (lt-ltb 0 (suc (length ps)) (omega arith), led-snoc s ps t, append_assoc)

pub part-text : {xs ys zs t : List ℕ} {a p q : ℕ} (more : Bool) (s : ℕ) → length xs < 2 ^ 64 → Written xs a (parting more s) ys p → Written ys p t zs q
    → Written xs a (listed more s t) zs q
unfolding listed
part-text more s g w u = written-append g w u

-- a turn of a loop: the parts so far, and one more
pub part-more : {xs ys zs : List ℕ} {a p q : ℕ} (s : ℕ) (ps : List (List ℕ)) (t : List ℕ) (i : ℕ) → length ps ≡ i → length xs < 2 ^ 64
    → Written xs a (joined s ps) ys p → Written ys p (listed (ltb 0 i) s t) zs q → Written xs a (joined s (ps ++ (t ∷ []))) zs q
part-more s ps t i e g w u = rw (joined_snoc s ps t, e) (written-append g w u)

-- the values of a function at one number more
pub values-more : {A : Type 0} (f : ℕ → A) (k n : ℕ) → values_from f k (suc n) ≡ values_from f k n ++ (f (k + n) ∷ [])
unfolding values_from
values-more f k zero = rw add-zero
values-more f k (suc n) = rw (values-more f (suc k) n, add-suc, suc-add)

pub values_length : {A : Type 0} (f : ℕ → A) (k n : ℕ) → length (values_from f k n) ≡ n
unfolding values_from
values_length f k zero = refl
values_length f k (suc n) = ap suc (values_length f (suc k) n)
