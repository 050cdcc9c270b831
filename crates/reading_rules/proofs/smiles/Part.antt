-- A part that comes from bytes reads by itself, and is those bytes written.
use mathlib.Core.Path.{◌≡◌, refl, subst}
use mathlib.Core.Option.{Option, none, some}
use Prim.Native.Nat.{ℕ, zero, suc}
use native.Mathlib.Omega.{arith}
use mathlib.Core.List.{List, [], ◌∷◌}
use lib.ListN.{length}
use Rattle.reading_rules.specs.smiles.Piece.{Piece, show}
use Rattle.reading_rules.specs.smiles.Lexer.{between, lex, pieces_of}
use Rattle.reading_rules.specs.smiles.Machine.{fresh, opened, after, marked, st, Out, fail, ok}
use Rattle.reading_rules.specs.smiles.Part.{Part, alone, part_read, part_lexed, part_of}
use Rattle.reading_rules.proofs.smiles.Reading.{reads-count}
use Rattle.reading_rules.proofs.smiles.Frame.{Hangs}
use Rattle.reading_rules.proofs.smiles.WellFormed.{AllWell}
use Rattle.reading_rules.proofs.smiles.ShowLex.{show-lex}

-- what is known of the part of some bytes
pub record PartFrom (xs : List ℕ) (p : Part) : Type 0 where
  pub hangs : Hangs p
  pub shown : show p.pieces ≡ xs
  pub well : AllWell p.pieces

pub none≢some : {A : Type 0} {p : A} → ◌≡◌ {A = Option A} none (some p) → ⊥
none≢some e = let z : ◌≡◌ {A = ℕ} 0 1 = cc in omega arith

part-read : (xs : List ℕ) (us : List Piece) (o : Out) (p : Part) → lex between xs ≡ some us → alone us ≡ o → part_read us o ≡ some p → PartFrom xs p
unfolding alone part_read
part-read xs us fail p l r e = absurd (none≢some e)
part-read xs us (ok rs (st zero a stk t ph)) p l r e = absurd (none≢some e)
part-read xs us (ok rs (st (suc n) a [] [] fresh)) p l r e = absurd (none≢some e)
part-read xs us (ok rs (st (suc n) a [] [] opened)) p l r e = absurd (none≢some e)
part-read xs us (ok rs (st (suc n) a [] [] after)) p l r e =
    let q : record { pieces = us; rows = rs; size = n; last = a } ≡ p = cc in
    subst (PartFrom xs) q (record { hangs = record { reads = record { by = r } }; shown = (show-lex xs us l).0; well = (show-lex xs us l).1 })
part-read xs us (ok rs (st (suc n) a [] [] (marked m))) p l r e = absurd (none≢some e)
part-read xs us (ok rs (st (suc n) a [] (x ∷ t) ph)) p l r e = absurd (none≢some e)
part-read xs us (ok rs (st (suc n) a (q ∷ stk) t ph)) p l r e = absurd (none≢some e)

pub part-from : (xs : List ℕ) (p : Part) → part_of xs ≡ some p → PartFrom xs p
unfolding part_of pieces_of part_lexed
part-from xs p e = go (lex between xs) refl e
  where
    go : (o : Option (List Piece)) → lex between xs ≡ o → part_lexed o ≡ some p → PartFrom xs p
    go none l h = absurd (none≢some h)
    go (some us) l h = part-read xs us (alone us) p l refl h

-- a part has a row for each of its atoms
pub part-size : {p : Part} → Hangs p → length p.rows ≡ p.size
part-size {p} d = omega (arith, reads-count p.pieces d.reads)
