-- Laws of a loop over parts that are read one after the other: its start, a turn and each way out, for every way f to read a part and every
-- byte b between the parts. Assumes nothing.
use Prim.Native.Nat.{ℕ, ◌+◌, ◌-◌}
use mathlib.Core.Path.{◌≡◌, refl, sym}
use mathlib.Core.List.{List, [], ◌∷◌}
use lib.ListN.{length, take, drop}
use Rattle.scanner.specs.scan.Part.{Place, index_of}
use Rattle.token_syntax.specs.form.Parts.{parts_at, list_parts}
use Rattle.token_syntax.proofs.form.Laws.{parts_last, parts_more, parts_first, list-none, list-some}
use Rattle.chain_record.specs.plain.Chain.{Chain, Outcome, Read, Refused, and_then}
use Rattle.chain_record.specs.declared.parsed.ParsedChain.{ParsedChain}
use Rattle.chain_record.specs.parsed.Parsed.{Answer, Has, Refuses, Fills}
use Rattle.chain_record.proofs.parsed.Laws.{fills-none, fills_same, fills-stop, fills-then}
use Rattle.token_head.specs.positions.Each.{each}

-- what is left to do on c gives what was to be done on e
pub record Onward {S : Type 0} (put : ParsedChain → S → ParsedChain) (e c : S) (whole rest : Chain → Outcome) : Type 0 where
  pub then : (q : Answer S) → Fills put c q rest → Fills put e q whole

and-read : (o : Outcome) → and_then o Read ≡ o
and-read (Read d) = refl
and-read (Refused n) = refl

module _ {S : Type 0} {put : ParsedChain → S → ParsedChain} where
  pub onward-start : (c : S) (f : Chain → Outcome) → Onward put c c f f
  onward-start c f = record { then = λ q w. w }

module _ {S : Type 0} {put : ParsedChain → S → ParsedChain} (f : List ℕ → Chain → Outcome) where
  -- an empty list adds nothing
  pub each_none : (s : List ℕ) (c : S) → length s ≡ 0 → Fills put c (Has c) (each f (list_parts s))
  unfolding each
  each_none s c h = rw (list-none s h) (fills-none c)

  pub each_start : (s : List ℕ) (c : S) → (length s ≡ 0 → ⊥) → Onward put c c (each f (list_parts s)) (each f (parts_at 44 s))
  each_start s c h = rw (list-some s h) (onward-start c (each f (parts_at 44 s)))

  module _ (b : ℕ) (e c : S) (whole : Chain → Outcome) (t : List ℕ) (n : ℕ) (o : Onward put e c whole (each f (parts_at b t))) (p : Place t (index_of b t) n) where
    -- a refusal ends the loop
    pub each-stop : (m : ℕ) → Fills put c (Refuses m) (f (take (n - 0) t)) → Fills put e (Refuses m) whole
    unfolding each
    each-stop m w =
        let ss = parts_first b t n p in
        o.then (Refuses m) (rw ss.1 (fills-stop (each f ss.0) w))

    -- so does the last part
    pub each_last : (r : Answer S) → Fills put c r (f (take (n - 0) t)) → n ≡ length t → Fills put e r whole
    unfolding each
    each_last r w h = o.then r (rw (parts_last b t n p h) (fills_same w (λ x d k. sym (and-read (f (take (n - 0) t) d)))))

    -- a part that was read, and more to come
    pub each_more : (q : S) → Fills put c (Has q) (f (take (n - 0) t)) → (n ≡ length t → ⊥) → Onward put e q whole (each f (parts_at b (take (length t - (n + 1)) (drop (n + 1) t))))
    unfolding each
    each_more q w h = record { then = λ z v. o.then z (rw (parts_more b t n p h) (fills-then w v)) }

-- two ways to read a part that agree on every part
pub each_same : (f g : List ℕ → Chain → Outcome) → ((s : List ℕ) (d : Chain) → f s d ≡ g s d) → (ss : List (List ℕ)) (d : Chain) → each f ss d ≡ each g ss d
unfolding each
each_same f g h [] d = refl
each_same f g h (s ∷ ss) d = rw (h s d) (go (g s d) (each_same f g h ss))
  where
    go : (o : Outcome) → ((e : Chain) → each f ss e ≡ each g ss e) → and_then o (each f ss) ≡ and_then o (each g ss)
    go (Read e) k = k e
    go (Refused n) k = refl
