-- Laws of the chains in their places.
-- Assumes nothing.
use Prim.Native.Nat.{ℕ, zero, suc, ◌+◌, ◌≤◌, ◌<◌, min}
use native.Mathlib.Numerals.{add-one}
use native.Mathlib.Omega.{arith}
use mathlib.Core.Path.{◌≡◌, refl, sym, ap, ap₂, ◌∙◌}
use mathlib.Core.List.{List, [], ◌∷◌, ◌++◌, append-nil, append_assoc, map}
use lib.ListN.{length, take, drop, get_or, length-append}
use lib.Seq.{take-suc}
use Rattle.chain_record.specs.declared.plain.Mod.{Mod}
use Rattle.chain_rules.specs.chain.Features.{floating}
use Rattle.chain_rules.specs.chain.Drawing.{carbon_atoms}
use Rattle.writer.specs.index_runs.Index.{index_from, indices}
use Rattle.chain_indices.proofs.atoms.NumberLaws.{carbon-atoms-shift}
use Rattle.template_rules.specs.Drawn as request
use Rattle.template_rules.specs.Written.{head_carbons, indices_of}
use Rattle.chain_rules.specs.chain.Lists.{Each}
use Rattle.chain_pieces.specs.branches.Text.{rows_in}
use Rattle.placement.specs.chain_notes.Fragment.{noted, index_list, rows_of, gathered, summed, Told}

-- ---- what is gathered

pub gathered-append : {A B : Type 0} (f : B → List A) (a b : List B) → gathered f (a ++ b) ≡ gathered f a ++ gathered f b
unfolding gathered
gathered-append f [] b = refl
gathered-append f (p ∷ a) b = ap (λ l. f p ++ l) (gathered-append f a b) ∙ sym (append_assoc (f p) (gathered f a) (gathered f b))

-- from one chain more
pub gathered-more : {A B : Type 0} (f : B → List A) (l : List B) (i : ℕ) (d : B) → i < length l
    → gathered f (take (i + 1) l) ≡ gathered f (take i l) ++ f (get_or l i d)
unfolding gathered
gathered-more f l i d h =
    rw (add-one i, take-suc l i d h, gathered-append f (take i l) (get_or l i d ∷ []), append-nil (f (get_or l i d))) refl

pub gathered-length : {A B : Type 0} (f : B → List A) (l : List B) → length (gathered f l) ≡ summed (λ p. length (f p)) l
unfolding gathered summed
gathered-length f [] = refl
gathered-length f (p ∷ l) = length-append (f p) (gathered f l) ∙ ap (λ (n : ℕ). length (f p) + n) (gathered-length f l)

drop-further : {A : Type 0} (a b : List A) (n : ℕ) → drop (length a + n) (a ++ b) ≡ drop n b
drop-further [] b n = let z : 0 + n ≡ n = omega arith in rw z
drop-further (x ∷ a) b n = let z : suc (length a) + n ≡ suc (length a + n) = omega arith in rw z (drop-further a b n)

take-front : {A : Type 0} (a b : List A) → take (length a) (a ++ b) ≡ a
take-front [] b = refl
take-front (x ∷ a) b = ap (λ l. x ∷ l) (take-front a b)

-- READING BACK: what is said of the element k stands behind what is said of those before it
pub gathered-at : {A B : Type 0} (f : B → List A) (l : List B) (k : ℕ) (z : B) → k < length l
    → take (length (f (get_or l k z))) (drop (length (gathered f (take k l))) (gathered f l)) ≡ f (get_or l k z)
unfolding gathered
gathered-at f [] k z h = absurd (omega arith)
gathered-at f (p ∷ l) zero z h = take-front (f p) (gathered f l)
gathered-at f (p ∷ l) (suc k) z h =
    let n : length (f p ++ gathered f (take k l)) ≡ length (f p) + length (gathered f (take k l)) = length-append (f p) (gathered f (take k l)) in
    rw (n, drop-further (f p) (gathered f l) (length (gathered f (take k l)))) (gathered-at f l k z (omega arith))

-- the same, its numbers said
pub gathered-part : {A B : Type 0} (f : B → List A) (l : List B) (k : ℕ) (z : B) → k < length l
    → take (length (f (get_or l k z))) (drop (summed (λ p. length (f p)) (take k l)) (gathered f l)) ≡ f (get_or l k z)
gathered-part f l k z h = rw (← gathered-length f (take k l)) (gathered-at f l k z h)

pub summed-map : {A B : Type 0} (g : B → A) (f : A → ℕ) (l : List B) → summed f (map g l) ≡ summed (λ p. f (g p)) l
unfolding summed
summed-map g f [] = refl
summed-map g f (p ∷ l) = ap (λ (n : ℕ). f (g p) + n) (summed-map g f l)

-- ---- the indices of a chain

indices-length : (n : ℕ) (l : List ℕ) → length (indices n l) ≡ length l
indices-length n [] = refl
indices-length n (i ∷ l) = ap suc (indices-length n l)

shifted-length : (n : ℕ) (l : List ℕ) → length (map (λ i. n + i) l) ≡ length l
shifted-length n [] = refl
shifted-length n (i ∷ l) = ap suc (shifted-length n l)

-- a chain has as many indices as are written of it
pub index-count : (p : request.Placed) → length (index_list p) ≡ length (indices_of p)
unfolding index_list indices_of
index-count p =
    omega (arith, length-append (head_carbons p.role) (indices p.first (carbon_atoms p.role p.chain 0)), length-append (head_carbons p.role) (carbon_atoms p.role p.chain p.first), indices-length p.first (carbon_atoms p.role p.chain 0), ap length (carbon-atoms-shift p.role p.chain p.first), shifted-length p.first (carbon_atoms p.role p.chain 0))

each_after : {A : Type 0} (P : A → Type 0) (a b : List A) → Each P (a ++ b) → Each P b
each_after P [] b h = h
each_after P (x ∷ a) b h = each_after P a b h.1

-- an index that fits is not cut
indices-same : (n : ℕ) (l : List ℕ) → n ≤ 4294000000 → Each (λ j. j ≤ 65535) (map (λ i. n + i) l) → indices n l ≡ map (λ i. n + i) l
unfolding index_from
indices-same n [] g h = refl
indices-same n (i ∷ l) g h =
    let z : n + i ≤ 65535 = h.0 in
    let e : min (min n 4294000000 + i) 65535 ≡ n + i = omega arith in
    ap₂ (λ (a : ℕ) (b : List ℕ). a ∷ b) e (indices-same n l g h.1)

pub index-list : (p : request.Placed) → Told p → index_list p ≡ indices_of p
unfolding index_list indices_of
index-list p t =
    let shift : carbon_atoms p.role p.chain p.first ≡ map (λ i. p.first + i) (carbon_atoms p.role p.chain 0)
    = carbon-atoms-shift p.role p.chain p.first in
    let own : Each (λ j. j ≤ 65535) (carbon_atoms p.role p.chain p.first)
    = each_after (λ j. j ≤ 65535) (head_carbons p.role) (carbon_atoms p.role p.chain p.first) t.indices in
    let moved : Each (λ j. j ≤ 65535) (map (λ i. p.first + i) (carbon_atoms p.role p.chain 0)) = rw shift at own in
    ap (λ (l : List ℕ). head_carbons p.role ++ l) (indices-same p.first (carbon_atoms p.role p.chain 0) t.first moved ∙ sym shift)

-- those of all chains
pub index-lists : (ps : List request.Placed) → Each Told ps → gathered index_list ps ≡ gathered indices_of ps
unfolding gathered
index-lists [] h = refl
index-lists (p ∷ ps) h = ap₂ (λ (a b : List ℕ). a ++ b) (index-list p h.0) (index-lists ps h.1)

-- a chain has as many rows as floating groups
pub row_count : (p : request.Placed) → length (rows_of p) ≡ (noted p).float_count
unfolding rows_of rows_in noted
row_count p = go (floating p.chain)
  where
    go : (gs : List Mod) → length (rows_in gs) ≡ length gs
    go [] = refl
    go (g ∷ gs) = ap suc (go gs)
