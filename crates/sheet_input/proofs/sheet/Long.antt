-- A header that is readable is short: each of its names is, and each heads a column of its own. So what is past the first 2,048 bytes of a
-- line does not matter, whether it is the header or a row. Assumes nothing.
use Prim.Native.Nat.{ℕ, zero, suc, ◌+◌, ◌*◌, ◌≤◌, ◌<◌}
use native.Mathlib.Decide.{dec_le}
use native.Mathlib.Omega.{arith}
use mathlib.Core.Path.{◌≡◌, refl, sym, ap, ◌∙◌}
use mathlib.Core.Bool.{Bool, true, false, cond, true≢false}
use mathlib.Core.List.{List, [], ◌∷◌, ◌++◌}
use lib.ListN.{length, get_or, set, take, replicate, length-append, length-set}
use lib.Seq.{length-take-le, take_all}
use lib.Dec.{eqb}
use borrow.Author.Tests.{lt-ltb, ne_eqb}
use Rattle.std.specs.Prelude.{Option, None, Some}
use Rattle.std.specs.Option.{option_and_then}
use Rattle.std.proofs.lemmas.Option.{none-some}
use Rattle.scanner.specs.scan.Part.{same_bytes}
use Rattle.scanner.proofs.scan.Laws.{same-equal}
use Rattle.token_syntax.specs.form.Parts.{onto, parts_at}
use Rattle.reading_rules.specs.reading.Ascii.{ascii}
use Rattle.sheet_input.specs.declared.header.Column.{Column}
use Rattle.sheet_input.specs.declared.header.Column.TheVariants.{Class, Swap, Tail, Sn1, Sn2, Sn3, Sn4}
use Rattle.sheet_input.specs.declared.header.Plan.{Plan}
use Rattle.sheet_input.specs.header.Header.{cells_of, column_index, column_of, plan_from, plan_of}
use Rattle.sheet_input.specs.sheet.Sheet.{Unreadable, request_of}

-- ---- a known name is short

name-short : (name : List ℕ) (c : Column) → column_of name ≡ Some c → length name ≤ 5
unfolding column_of ascii
name-short name c =
    heads (same_bytes name (ascii "class")) Class _ (is (ascii "class") (omega arith)) (
    heads (same_bytes name (ascii "swap")) Swap _ (is (ascii "swap") (omega arith)) (
    heads (same_bytes name (ascii "tail")) Tail _ (is (ascii "tail") (omega arith)) (
    heads (same_bytes name (ascii "sn1")) Sn1 _ (is (ascii "sn1") (omega arith)) (
    heads (same_bytes name (ascii "sn2")) Sn2 _ (is (ascii "sn2") (omega arith)) (
    heads (same_bytes name (ascii "sn3")) Sn3 _ (is (ascii "sn3") (omega arith)) (
    heads (same_bytes name (ascii "sn4")) Sn4 None (is (ascii "sn4") (omega arith)) (λ e. absurd (none-some c e))))))))
  where
    is : (t : List ℕ) → length t ≤ 5 → same_bytes name t ≡ true → length name ≤ 5
    is t l e = let z : length name ≡ length t = ap length (same-equal name t e) in omega arith

    heads : (b : Bool) (column : Column) (rest : Option Column) → (b ≡ true → length name ≤ 5) → (rest ≡ Some c → length name ≤ 5)
        → cond b (Some column) rest ≡ Some c → length name ≤ 5
    heads true column rest f g e = f refl
    heads false column rest f g e = g e

-- ---- columns that no name heads yet

abbrev one_if : Bool → ℕ
one_if true = 1
one_if false = 0

free : List ℕ → ℕ
free [] = 0
free (p ∷ ps) = one_if (eqb p 0) + free ps

all-free : free (replicate 7 0) ≡ 7
unfolding free
all-free = refl

-- a place that is free and taken
free-taken : (places : List ℕ) (k n : ℕ) → eqb (get_or places k 1) 0 ≡ true → free places ≡ suc (free (set places k (suc n)))
unfolding free
free-taken [] k n e = absurd (true≢false (sym e))
free-taken (p ∷ ps) zero n e = rw (ne_eqb (suc n) 0 (λ z. omega arith)) (go (eqb p 0) e)
  where
    go : (b : Bool) → b ≡ true → one_if b + free ps ≡ suc (0 + free ps)
    go true e = omega arith
    go false e = absurd (true≢false (sym e))
free-taken (p ∷ ps) (suc k) n e = let z = free-taken ps k n e in omega arith

-- ---- the bytes of cells, with one that ends each

size : List (List ℕ) → ℕ
size [] = 0
size (c ∷ cs) = suc (length c) + size cs

onto-size : (x : ℕ) (cs : List (List ℕ)) → 0 < size cs → size (onto x cs) ≡ suc (size cs)
unfolding size
onto-size x [] h = absurd (omega arith)
onto-size x (c ∷ cs) h = omega arith

cells-size : (b : ℕ) (xs : List ℕ) → size (parts_at b xs) ≡ suc (length xs)
unfolding parts_at size
cells-size b [] = refl
cells-size b (x ∷ xs) = go (eqb x b) (cells-size b xs)
  where
    go : (e : Bool) → size (parts_at b xs) ≡ suc (length xs) → size (cond e ([] ∷ parts_at b xs) (onto x (parts_at b xs))) ≡ suc (suc (length xs))
    go true h = omega arith
    go false h = onto-size x (parts_at b xs) (omega arith) ∙ ap suc h

-- ---- a readable header

plan-short : (n : ℕ) (places : List ℕ) (cells : List (List ℕ)) (plan : Plan) → length places ≡ 7 → plan_from n places cells ≡ Some plan → size cells ≤ 6 * free places
unfolding plan_from size
plan-short n places [] plan l e = omega arith
plan-short n places (name ∷ names) plan l e =
    named (column_of name) refl e
    (λ column. plan-short (suc n) (set places (column_index column) (suc n)) names plan (length-set places (column_index column) (suc n) ∙ l))
  where
    next : Column → Option Plan
    next column = plan_from (suc n) (set places (column_index column) (suc n)) names

    Rest : Column → Type 0
    Rest column = next column ≡ Some plan → size names ≤ 6 * free (set places (column_index column) (suc n))

    taken : (column : Column) → Rest column → column_of name ≡ Some column → (b : Bool) → eqb (get_or places (column_index column) 1) 0 ≡ b → cond b (next column) None ≡ Some plan
        → suc (length name) + size names ≤ 6 * free places
    taken column r c true d e =
        let s : length name ≤ 5 = name-short name column c in
        let z : free places ≡ suc (free (set places (column_index column) (suc n))) = free-taken places (column_index column) n d in
        let w : size names ≤ 6 * free (set places (column_index column) (suc n)) = r e in
        omega arith
    taken column r c false d e = absurd (none-some plan e)

    named : (o : Option Column) → column_of name ≡ o
        → option_and_then (λ column. cond (eqb (get_or places (column_index column) 1) 0) (next column) None) o ≡ Some plan
        → ((column : Column) → Rest column) → suc (length name) + size names ≤ 6 * free places
    named None c e r = absurd (none-some plan e)
    named (Some column) c e r = taken column (r column) c (eqb (get_or places (column_index column) 1) 0) refl e

-- a header of more than 41 bytes is none
pub header-long : (xs : List ℕ) → 41 < length xs → plan_of xs ≡ None
unfolding plan_of
header-long xs h = go (plan_from 0 (replicate 7 0) (cells_of xs)) refl
  where
    go : (o : Option Plan) → plan_from 0 (replicate 7 0) (cells_of xs) ≡ o → plan_from 0 (replicate 7 0) (cells_of xs) ≡ None
    go (Some plan) e =
        let z = plan-short 0 (replicate 7 0) (cells_of xs) plan refl e in
        let w = cells-size 9 xs in
        let f : free (replicate 7 0) ≡ 7 = all-free in
        absurd (omega arith)
    go None e = e

-- ---- what is past the first 2,049 bytes

-- the start of a line that is kept until its end comes
abbrev pub kept : ℕ
kept = 2049

cut-long : (a b : List ℕ) → kept ≤ length a → length (take kept a ++ b) ≡ kept + length b
cut-long a b h = length-append (take kept a) b ∙ ap (λ (n : ℕ). n + length b) (length-take-le kept a h)

pub cut-header : (a b : List ℕ) → plan_of (take kept a ++ b) ≡ plan_of (a ++ b)
cut-header a b = go (dec_le kept (length a))
  where
    go : Dec (kept ≤ length a) → plan_of (take kept a ++ b) ≡ plan_of (a ++ b)
    go (yes h) = header-long (take kept a ++ b) (omega (arith, cut-long a b h)) ∙ sym (header-long (a ++ b) (omega (arith, length-append a b)))
    go (no h) = rw (take_all kept a (omega arith))

pub cut-row : (p : Plan) (a b : List ℕ) → request_of p (take kept a ++ b) ≡ request_of p (a ++ b)
unfolding request_of
cut-row p a b = go (dec_le kept (length a))
  where
    long : (row : List ℕ) → 2048 < length row → request_of p row ≡ Unreadable
    long row h = rw (lt-ltb 2048 (length row) h)

    go : Dec (kept ≤ length a) → request_of p (take kept a ++ b) ≡ request_of p (a ++ b)
    go (yes h) = long (take kept a ++ b) (omega (arith, cut-long a b h)) ∙ sym (long (a ++ b) (omega (arith, length-append a b)))
    go (no h) = rw (take_all kept a (omega arith))
