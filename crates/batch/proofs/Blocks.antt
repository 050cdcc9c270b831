-- The input in blocks. Of the bytes so far some are left after the last LF that was answered; `Fed` says that they and what was answered
-- stand for all bytes so far, whatever comes next. It holds at the start, after one more block, after lines were answered, and where what
-- is left is cut to its first 2,049 bytes; at the end it gives the whole batch. Assumes nothing.
use Prim.Native.Nat.{ℕ, zero, suc}
use native.Mathlib.Omega.{arith}
use mathlib.Core.Path.{◌≡◌, refl, sym, ap, ◌∙◌}
use mathlib.Core.Bool.{Bool, true, false, cond}
use mathlib.Core.List.{List, [], ◌∷◌, ◌++◌, append_assoc, append-nil}
use lib.ListN.{length, take}
use lib.Dec.{eqb}
use Rattle.token_syntax.specs.form.Parts.{onto, parts_at}
use Rattle.sheet_input.specs.declared.header.Plan.{Plan}
use Rattle.sheet_input.specs.sheet.Header.{plan_of}
use Rattle.sheet_input.specs.sheet.Sheet.{request_of}
use Rattle.sheet_input.proofs.sheet.Long.{cut-header, cut-row}
use Rattle.sheet_frame.specs.declared.beginning.Stage.{Stage}
use Rattle.sheet_frame.specs.declared.beginning.Stage.TheVariants.{Header, Rows, Over}
use Rattle.sheet_input.specs.remnant.Kept.{kept}
use Rattle.batch.specs.Batch.{replies_at, stage_after, index_at, Held, batch_after, held_after, held_from, is_header, is_line, held_last, held_end}

-- ---- the parts of bytes that are joined

-- the last of some parts goes on with the first of others
abbrev glue : List (List ℕ) → List (List ℕ) → List (List ℕ)
glue [] qs = qs
glue (p ∷ []) [] = p ∷ []
glue (p ∷ []) (q ∷ qs) = (p ++ q) ∷ qs
glue (p ∷ o ∷ ps) qs = p ∷ glue (o ∷ ps) qs

-- at least one part
data Some : List (List ℕ) → Type 0 where
  some : (p : List ℕ) (ps : List (List ℕ)) → Some (p ∷ ps)

onto-some : (x : ℕ) (ps : List (List ℕ)) → Some (onto x ps)
onto-some x [] = some (x ∷ []) []
onto-some x (p ∷ ps) = some (x ∷ p) ps

parts-some : (b : ℕ) (xs : List ℕ) → Some (parts_at b xs)
unfolding parts_at
parts-some b [] = some [] []
parts-some b (x ∷ xs) = go (eqb x b)
  where
    go : (e : Bool) → Some (cond e ([] ∷ parts_at b xs) (onto x (parts_at b xs)))
    go true = some [] (parts_at b xs)
    go false = onto-some x (parts_at b xs)

glue-none : (qs : List (List ℕ)) → Some qs → glue ([] ∷ []) qs ≡ qs
glue-none qs (some q ps) = refl

glue-next : (p : List ℕ) (ps qs : List (List ℕ)) → Some ps → glue (p ∷ ps) qs ≡ p ∷ glue ps qs
glue-next p ps qs (some o os) = refl

glue-onto : (x : ℕ) (ps qs : List (List ℕ)) → Some ps → Some qs → onto x (glue ps qs) ≡ glue (onto x ps) qs
glue-onto x ps qs (some p []) (some q os) = refl
glue-onto x ps qs (some p (o ∷ ns)) (some q os) = refl

parts-joined : (b : ℕ) (xs more : List ℕ) → parts_at b (xs ++ more) ≡ glue (parts_at b xs) (parts_at b more)
unfolding parts_at
parts-joined b [] more = sym (glue-none (parts_at b more) (parts-some b more))
parts-joined b (x ∷ xs) more = rw (parts-joined b xs more) (go (eqb x b))
  where
    go : (e : Bool) → cond e ([] ∷ glue (parts_at b xs) (parts_at b more)) (onto x (glue (parts_at b xs) (parts_at b more)))
        ≡ glue (cond e ([] ∷ parts_at b xs) (onto x (parts_at b xs))) (parts_at b more)
    go true = sym (glue-next [] (parts_at b xs) (parts_at b more) (parts-some b xs))
    go false = glue-onto x (parts_at b xs) (parts_at b more) (parts-some b xs) (parts-some b more)

glue-after : (ls ps qs : List (List ℕ)) → Some ps → glue (ls ++ ps) qs ≡ ls ++ glue ps qs
glue-after [] ps qs s = refl
glue-after (l ∷ ls) ps qs s = glue-next l (ls ++ ps) qs (later ls s) ∙ ap (λ (r : List (List ℕ)). l ∷ r) (glue-after ls ps qs s)
  where
    later : (ls : List (List ℕ)) → Some ps → Some (ls ++ ps)
    later [] s = s
    later (l ∷ ls) s = some l (ls ++ ps)

-- lines that were answered first
end_after : (h : Held) (ls ps : List (List ℕ)) → Some ps → held_end h (ls ++ ps) ≡ held_end (held_from h ls) ps
unfolding held_end held_from
end_after h [] ps s = refl
end_after h (l ∷ ls) ps s = go (ls ++ ps) (later ls s) ∙ end_after (held_after h l) ls ps s
  where
    later : (ls : List (List ℕ)) → Some ps → Some (ls ++ ps)
    later [] s = s
    later (l ∷ ls) s = some l (ls ++ ps)

    go : (ks : List (List ℕ)) → Some ks → held_end h (l ∷ ks) ≡ held_end (held_after h l) ks
    go ks (some k ms) = refl

-- ---- a line of which only its plan, or its request, matters

module _ (l k : List ℕ) (e : plan_of l ≡ plan_of k) (f : (p : Plan) → request_of p l ≡ request_of p k) where
  same-replies : (s : Stage) (index : ℕ) → replies_at s l index ≡ replies_at s k index
  same-replies Header index = rw e
  same-replies (Rows p) index = rw (f p)
  same-replies Over index = refl

  same-stage : (s : Stage) → stage_after s l ≡ stage_after s k
  same-stage Header = rw e
  same-stage (Rows p) = refl
  same-stage Over = refl

  same_index : (s : Stage) (index : List ℕ) → index_at s l index ≡ index_at s k index
  same_index Header index = refl
  same_index (Rows p) index = rw (f p)
  same_index Over index = refl

  same_after : (h : Held) → held_after h l ≡ held_after h k
  unfolding held_after batch_after
  same_after h = rw (same-replies h.batch.stage (length h.index), same-stage h.batch.stage, same_index h.batch.stage h.index)

  same_end : (h : Held) (qs : List (List ℕ)) → is_line (is_header h.batch.stage) l ≡ is_line (is_header h.batch.stage) k → held_end h (l ∷ qs) ≡ held_end h (k ∷ qs)
  unfolding held_end held_last
  same_end h [] g = rw (g, same_after h)
  same_end h (q ∷ qs) g = rw (same_after h)

-- ---- what stands for the input so far

-- s is held at the start, `done` are the bytes so far, of which `rest` are left, and h is held now
pub record Fed (s : Held) (done rest : List ℕ) (h : Held) : Type 0 where
  pub fed : (more : List ℕ) → held_end s (parts_at 10 (done ++ more)) ≡ held_end h (parts_at 10 (rest ++ more))

pub fed-start : (s : Held) → Fed s [] [] s
fed-start s = record { fed = λ more. refl }

pub fed-block : {s h : Held} {done rest : List ℕ} (block : List ℕ) → Fed s done rest h → Fed s (done ++ block) (rest ++ block) h
fed-block {s} {h} {done} {rest} block f = record { fed = λ more. rw (append_assoc done block more, append_assoc rest block more) (f.fed (block ++ more)) }

pub fed-lines : {s h : Held} {done text : List ℕ} (lines : List (List ℕ)) (rest : List ℕ) → parts_at 10 text ≡ lines ++ parts_at 10 rest → Fed s done text h
    → Fed s done rest (held_from h lines)
fed-lines {s} {h} {done} {text} lines rest e f =
    record {
      fed = λ more.
          f.fed more
          ∙ ap (held_end h) (parts-joined 10 text more ∙ ap (λ (ps : List (List ℕ)). glue ps (parts_at 10 more)) e
          ∙ glue-after lines (parts_at 10 rest) (parts_at 10 more) (parts-some 10 rest) ∙ ap (λ (ps : List (List ℕ)). lines ++ ps) (sym (parts-joined 10 rest more)))
          ∙ end_after h lines (parts_at 10 (rest ++ more)) (parts-some 10 (rest ++ more));
    }

-- ---- bytes with no LF

clear_first : (x : ℕ) (xs : List ℕ) → parts_at 10 (x ∷ xs) ≡ (x ∷ xs) ∷ [] → (eqb x 10 ≡ false) × (parts_at 10 xs ≡ xs ∷ [])
unfolding parts_at
clear_first x xs h = go (eqb x 10) (parts_at 10 xs) (parts-some 10 xs) h
  where
    go : (b : Bool) (ps : List (List ℕ)) → Some ps → cond b ([] ∷ ps) (onto x ps) ≡ (x ∷ xs) ∷ [] → (b ≡ false) × (ps ≡ xs ∷ [])
    go true ps s e = let z : ◌≡◌ {A = ℕ} 0 1 = cc in absurd (omega arith)
    go false ps (some q qs) e = (refl, cc)

clear-part : (n : ℕ) (xs : List ℕ) → parts_at 10 xs ≡ xs ∷ [] → parts_at 10 (take n xs) ≡ take n xs ∷ []
unfolding parts_at
clear-part zero xs h = refl
clear-part (suc n) [] h = refl
clear-part (suc n) (x ∷ xs) h = let c = clear_first x xs h in rw (c.0, clear-part n xs c.1)

same_kept : (header : Bool) (xs ys : List ℕ) → is_line header (take kept xs ++ ys) ≡ is_line header (xs ++ ys)
same_kept header [] ys = refl
same_kept header (x ∷ xs) ys = refl

cut-end : (h : Held) (rest : List ℕ) (qs : List (List ℕ)) → Some qs → held_end h (glue (rest ∷ []) qs) ≡ held_end h (glue (take kept rest ∷ []) qs)
cut-end h rest qs (some q os) =
    sym (same_end (take kept rest ++ q) (rest ++ q) (cut-header rest q) (λ p. cut-row p rest q) h os (same_kept (is_header h.batch.stage) rest q))

pub fed-cut : {s h : Held} {done rest : List ℕ} → parts_at 10 rest ≡ rest ∷ [] → Fed s done rest h → Fed s done (take kept rest) h
fed-cut {s} {h} {done} {rest} e f =
    record {
      fed = λ more.
          f.fed more
          ∙ ap (held_end h) (parts-joined 10 rest more ∙ ap (λ (ps : List (List ℕ)). glue ps (parts_at 10 more)) e)
          ∙ cut-end h rest (parts_at 10 more) (parts-some 10 more)
          ∙ ap (held_end h) (sym (parts-joined 10 (take kept rest) more ∙ ap (λ (ps : List (List ℕ)). glue ps (parts_at 10 more)) (clear-part kept rest e)));
    }

pub fed-end : {s h : Held} {done rest : List ℕ} → Fed s done rest h → held_end s (parts_at 10 done) ≡ held_end h (parts_at 10 rest)
fed-end {s} {h} {done} {rest} f = rw (append-nil done, append-nil rest) at (f.fed [])
