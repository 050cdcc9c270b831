-- Laws of the writers of a row: a law for each way out and each turn of a loop. Assumes nothing.
use Prim.Native.Nat.{ℕ, suc, ◌+◌, ◌-◌, ◌^◌, ◌≤◌, ◌<◌, min}
use native.Mathlib.Nat.{sub-zero, min-eq_left}
use native.Mathlib.Decide.{dec_le}
use native.Mathlib.Numerals.{add-one}
use native.Mathlib.Omega.{arith}
use mathlib.Core.Path.{◌≡◌, refl, sym, ap, ◌∙◌}
use mathlib.Core.List.{List, [], ◌∷◌, ◌++◌, map, map-append, append_assoc, append-nil}
use lib.ListN.{length, get_or, take, drop, length-map, drop_of_length-le}
use lib.Seq.{take-suc, take_all, length-take-le}
use lib.Dec.{ltb}
use Rattle.writer.specs.emit.Text.{Written, decimal}
use Rattle.writer.proofs.emit.Laws.{written-append, written-nil}
use Rattle.reading_rules.specs.reading.Parting.{joined, led}
use Rattle.scanner.proofs.scan.Laws.{to_end}
use Rattle.line_parts.specs.shown.Chained.{listed}
use Rattle.line_parts.proofs.shown.Laws.{part-more}
use Rattle.chain_lists.specs.declared.listing.Listed.{Listed}
use Rattle.sheet_frame.specs.row_heads.Text.{ended, tabbed, Carbons, chain_text, chains_text, head_text, row_text}
use Rattle.sheet_output.specs.rows.Chains.{carbons_of, rest_text}

-- ---- texts

pub chain-text : {xs ys zs ws : List ℕ} {a p q r : ℕ} (sn : ℕ) (js : List ℕ) → length xs < 2 ^ 64 → Written xs a (decimal sn) ys p
    → Written ys p (58 ∷ []) zs q → Written zs q (joined 46 (map decimal js)) ws r → Written xs a (chain_text (record { sn = sn; indices = js })) ws r
unfolding chain_text
chain-text sn js g w u v = rw append_assoc at (written-append g (written-append g w u) v)

-- ---- the listed chains

-- the indices that are left after some chains
unfoldable pub rest_after : List Listed → List ℕ → List ℕ
rest_after [] index = index
rest_after (l ∷ ls) index = rest_after ls (drop l.count index)

carbons-snoc : (ls : List Listed) (l : Listed) (index : List ℕ)
    → carbons_of (ls ++ l ∷ []) index ≡ carbons_of ls index ++ record { sn = l.sn; indices = take l.count (rest_after ls index) } ∷ []
unfolding carbons_of rest_after
carbons-snoc [] l index = refl
carbons-snoc (k ∷ ls) l index = rw (carbons-snoc ls l (drop k.count index))

rest-snoc : (ls : List Listed) (l : Listed) (index : List ℕ) → rest_after (ls ++ l ∷ []) index ≡ drop l.count (rest_after ls index)
unfolding rest_after
rest-snoc [] l index = refl
rest-snoc (k ∷ ls) l index = rest-snoc ls l (drop k.count index)

carbons-length : (ls : List Listed) (index : List ℕ) → length (carbons_of ls index) ≡ length ls
unfolding carbons_of
carbons-length [] index = refl
carbons-length (l ∷ ls) index = ap suc (carbons-length ls (drop l.count index))

module _ (t : List ℕ) (n k : ℕ) (e : k ≡ min n (length t)) where
  pub part-taken : take (k - 0) t ≡ take n t
  part-taken = rw sub-zero (go (dec_le n (length t)))
    where
      go : Dec (n ≤ length t) → take k t ≡ take n t
      go (yes h) = ap (λ (j : ℕ). take j t) (e ∙ min-eq_left h)
      go (no h) = take_all k t (omega arith) ∙ sym (take_all n t (omega arith))

  part_left : take (length t - k) (drop k t) ≡ drop n t
  part_left = to_end k t ∙ go (dec_le n (length t))
    where
      go : Dec (n ≤ length t) → drop k t ≡ drop n t
      go (yes h) = ap (λ (j : ℕ). drop j t) (e ∙ min-eq_left h)
      go (no h) = drop_of_length-le t {i = k} (omega arith) ∙ sym (drop_of_length-le t {i = n} (omega arith))

module _ (items : List Listed) (index t : List ℕ) (i n k : ℕ) (z : Listed) (g : length items ≡ 4) (h : i < n) (m : n ≤ 4)
    (f : t ≡ rest_after (take i items) index) (e : k ≡ min (get_or items i z).count (length t)) where
  next-list : take (i + 1) items ≡ take i items ++ get_or items i z ∷ []
  next-list = rw (add-one, take-suc items i z (omega arith))

  pub chains-rest : take (length t - k) (drop k t) ≡ rest_after (take (i + 1) items) index
  chains-rest = rw (next-list, rest-snoc (take i items) (get_or items i z) index, ← f) (part_left t (get_or items i z).count k e)

  pub chains-more : {xs ys zs : List ℕ} {a p q : ℕ} → length xs < 2 ^ 64 → Written xs a (chains_text (carbons_of (take i items) index)) ys p
      → Written ys p (listed (ltb 0 i) 59 (chain_text (record { sn = (get_or items i z).sn; indices = take (k - 0) t }))) zs q
      → Written xs a (chains_text (carbons_of (take (i + 1) items) index)) zs q
  unfolding chains_text
  chains-more b w u =
      let l : Listed = get_or items i z in
      rw (next-list, carbons-snoc (take i items) l index, map-append)
      (part-more 59 (map chain_text (carbons_of (take i items) index)) (chain_text (record { sn = l.sn; indices = take l.count (rest_after (take i items) index) })) i
      (length-map (carbons_of (take i items) index) chain_text ∙ carbons-length (take i items) index ∙ length-take-le i items (omega arith))
      b w (rw (part-taken t l.count k e, f) at u))

pub chains-start : (xs index : List ℕ) (items : List Listed) (a : ℕ) → a < 2 ^ 64 → Written xs a (chains_text (carbons_of (take 0 items) index)) xs a
unfolding chains_text carbons_of joined
chains-start xs index items a h = written-nil xs a h

pub rest-start : (index : List ℕ) (items : List Listed) → index ≡ rest_after (take 0 items) index
unfolding rest_after
rest-start index items = refl

pub chains-all : {xs ys : List ℕ} {a p : ℕ} (items : List Listed) (index : List ℕ) (i n count : ℕ) → length items ≡ 4 → n ≡ min count 4 → i ≤ n → n ≤ i
    → Written xs a (chains_text (carbons_of (take i items) index)) ys p → Written xs a (chains_text (carbons_of (take count items) index)) ys p
chains-all items index i n count g e h k w =
    let s : take i items ≡ take count items = go (dec_le count 4) in rw s at w
  where
    go : Dec (count ≤ 4) → take i items ≡ take count items
    go (yes m) = let o : i ≡ count = omega (arith, min-eq_left m) in ap (λ (j : ℕ). take j items) o
    go (no m) = take_all i items (omega arith) ∙ sym (take_all count items (omega arith))

-- ---- a row

pub row-text : {xs ys zs ws vs : List ℕ} {a p q r s : ℕ} (answer token : ℕ) (line : List ℕ) (cs : List Carbons) → length xs < 2 ^ 64
    → Written xs a (head_text answer token) ys p → Written ys p (ended line 9) zs q → Written zs q (chains_text cs) ws r → Written ws r (10 ∷ []) vs s
    → Written xs a (row_text answer token line cs) vs s
unfolding row_text head_text tabbed ended joined led
row-text answer token line cs g w u v t =
    simp (append_assoc, append-nil) (simp append_assoc at (written-append g (written-append g (written-append g w u) v) t))

pub rest-text : {xs ys zs ws : List ℕ} {a p q r : ℕ} (cs : List Carbons) → length xs < 2 ^ 64 → Written xs a (9 ∷ []) ys p → Written ys p (chains_text cs) zs q
    → Written zs q (10 ∷ []) ws r → Written xs a (rest_text cs) ws r
unfolding rest_text ended
rest-text cs g w u v = written-append g (written-append g w u) v

-- the text of a row is its head, its line and what follows it
pub row-parts : (answer token : ℕ) (line : List ℕ) (cs : List Carbons) → head_text answer token ++ (line ++ rest_text cs) ≡ row_text answer token line cs
unfolding row_text head_text tabbed ended joined led rest_text
row-parts answer token line cs = simp (append_assoc, append-nil)
