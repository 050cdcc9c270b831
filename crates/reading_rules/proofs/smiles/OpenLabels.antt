-- The open labels: what is found after one is opened or closed.
use mathlib.Core.Path.{◌≡◌, refl, sym, ap, ◌∙◌}
use mathlib.Core.Bool.{Bool, true, false, cond}
use mathlib.Core.Option.{none, some}
use Prim.Native.Nat.{ℕ}
use native.Mathlib.Omega.{arith}
use mathlib.Core.List.{List, [], ◌∷◌, ◌++◌}
use lib.Dec.{eqb}
use borrow.Author.Tests.{eqb-true, eq-eqb, ne_eqb}
use Rattle.reading_rules.specs.smiles.Row.{Link, link}
use Rattle.reading_rules.specs.smiles.Machine.{Entry, entry, lookup, remove, among, Labelled, stop, links, close, found, label, and_labels, labels}

pub lookup-same : (l a : ℕ) (t : List Entry) → lookup l (entry l a ∷ t) ≡ some a
unfolding lookup
lookup-same l a t = rw (eq-eqb l l refl)

pub lookup-other : (m l a : ℕ) (t : List Entry) → (m ≡ l → ⊥) → lookup m (entry l a ∷ t) ≡ lookup m t
unfolding lookup
lookup-other m l a t h = rw (ne_eqb m l h)

pub lookup-removed : (l : ℕ) (t : List Entry) → lookup l (remove l t) ≡ none
unfolding lookup remove
lookup-removed l [] = refl
lookup-removed l (entry k a ∷ t) = go (eqb l k) refl (lookup-removed l t)
  where
    go : (x : Bool) → eqb l k ≡ x → lookup l (remove l t) ≡ none → lookup l (cond x (remove l t) (entry k a ∷ remove l t)) ≡ none
    go true e ih = ih
    go false e ih = rw e ih

pub lookup-remove-other : (m l : ℕ) (t : List Entry) → (m ≡ l → ⊥) → lookup m (remove l t) ≡ lookup m t
unfolding lookup remove
lookup-remove-other m l [] h = refl
lookup-remove-other m l (entry k a ∷ t) h = go (eqb l k) refl (lookup-remove-other m l t h)
  where
    go : (x : Bool) → eqb l k ≡ x → lookup m (remove l t) ≡ lookup m t
        → lookup m (cond x (remove l t) (entry k a ∷ remove l t)) ≡ cond (eqb m k) (some a) (lookup m t)
    go true e ih = rw (ne_eqb m k (λ q. h (q ∙ sym (eqb-true l k e)))) ih
    go false e ih = ap (cond (eqb m k) (some a)) ih

-- a table in which no label is found is empty
pub nothing-open : (t : List Entry) → ((m : ℕ) → lookup m t ≡ none) → t ≡ []
nothing-open [] h = refl
nothing-open (entry k a ∷ t) h = cc (h k, lookup-same k a t)

-- a label that is not open in the first is looked for in the others
pub lookup-append : (m : ℕ) (t ext : List Entry) → lookup m t ≡ none → lookup m (t ++ ext) ≡ lookup m ext
unfolding lookup
lookup-append m [] ext h = refl
lookup-append m (entry k a ∷ t) ext h = go (eqb m k) (lookup-append m t ext) h
  where
    go : (x : Bool) → (lookup m t ≡ none → lookup m (t ++ ext) ≡ lookup m ext) → cond x (some a) (lookup m t) ≡ none → cond x (some a) (lookup m (t ++ ext)) ≡ lookup m ext
    go true ih q = cc
    go false ih q = ih q

-- ---- a label on an atom

pub label-opens : (l self : ℕ) (ks : List Link) (t : List Entry) → lookup l t ≡ none → label l self ks t ≡ links ks (entry l self ∷ t)
unfolding label found
label-opens l self ks t h = rw h

pub label-closes : (l self a : ℕ) (ks : List Link) (t : List Entry) → lookup l t ≡ some a → (a ≡ self → ⊥) → among a ks ≡ false
    → label l self ks t ≡ links (ks ++ link a 0 ∷ []) (remove l t)
unfolding label found close
label-closes l self a ks t h g q = rw (h, ne_eqb a self g, q)

pub labels-cons : (l : ℕ) (ls : List ℕ) (self : ℕ) (ks ks' : List Link) (t t' : List Entry) → label l self ks t ≡ links ks' t' → labels (l ∷ ls) self ks t ≡ labels ls self ks' t'
unfolding labels and_labels
labels-cons l ls self ks ks' t t' e = rw e

-- one more label
pub labels-snoc : (ls : List ℕ) (d self : ℕ) (ks ks' ks'' : List Link) (t t' t'' : List Entry)
    → labels ls self ks t ≡ links ks' t' → label d self ks' t' ≡ links ks'' t'' → labels (ls ++ d ∷ []) self ks t ≡ links ks'' t''
unfolding labels and_labels
labels-snoc [] d self ks ks' ks'' t t' t'' e f =
    let p : ks ≡ ks' = cc in
    let q : t ≡ t' = cc in
    rw (p, q, f)
labels-snoc (l ∷ ls) d self ks ks' ks'' t t' t'' e f = go (label l self ks t) (λ a b. labels-snoc ls d self a ks' ks'' b t' t'') e
  where
    go : (g : Labelled) → ((a : List Link) (b : List Entry) → labels ls self a b ≡ links ks' t' → label d self ks' t' ≡ links ks'' t'' → labels (ls ++ d ∷ []) self a b ≡ links ks'' t'')
        → and_labels g (λ a b. labels ls self a b) ≡ links ks' t' → and_labels g (λ a b. labels (ls ++ d ∷ []) self a b) ≡ links ks'' t''
    go stop ih h = let z : ◌≡◌ {A = ℕ} 0 1 = cc in absurd (omega arith)
    go (links a b) ih h = ih a b h f
