-- What a verdict says of a request: a drawable one is accepted by its class, its tail reads, and its chains are those of its tokens; a
-- refused one has a number of 01 and the place of a token, or 0.
-- Assumes nothing.
use Prim.Native.Nat.{ℕ, suc, ◌+◌, ◌≤◌, ◌<◌}
use native.Mathlib.Omega.{arith}
use mathlib.Core.Path.{◌≡◌, refl, sym, ap, ◌∙◌, subst}
use mathlib.Core.Bool.{Bool, true, false, cond, not, false≢true}
use mathlib.Core.List.{List, [], ◌∷◌}
use lib.ListN.{length, length-take}
use lib.Dec.{eqb, ltb}
use borrow.Author.Tests.{eqb-true, eqb-false, ltb-false, not-false}
use Rattle.chain_record.specs.plain.Chain.{Chain}
use Rattle.chain_record.proofs.plain.Sound.{Every, Sound}
use Rattle.token_reader.specs.token.Request as token
use Rattle.reading_rules.specs.reading.Lexer.{within}
use Rattle.reading_rules.proofs.reading.ShowLex.{within_both}
use Rattle.tail_grammar.specs.tail.Grammar.{no_rings, stands, opening, scan, is_tail, atoms_of_tail}
use Rattle.tail_grammar.proofs.tail.Alone.{TailPart, tail-alone}
use Rattle.chain_rules.specs.declared.chain.Role.{Role}
use Rattle.chain_rules.specs.chain.Refusals.{wrong_kind, off_chain, clashes, place_refusal, group_on_carbonyl, pin_too_far, tail_too_short, no_site, draw_refusal}
use Rattle.template_rules.specs.declared.Class.{Class}
use Rattle.template_rules.specs.declared.Class.TheVariants.{Fa, Gl1, Gl2, Gl3, Gp, Cl, Sb, Sa}
use Rattle.template_rules.specs.Template.{fewest, most, role_of, has_tail}
use Rattle.template_rules.proofs.Placing.{AcceptsFrom}
use Rattle.template_rules.proofs.Tail.{TailReads}
use Rattle.template_rules.proofs.Theorem.{Accepted}
use Rattle.drawn_chain.specs.declared.drawable.Shape.{Shape}
use Rattle.request_chains.specs.chain_shapes.Shapes.{chains_kept}
use Rattle.std.specs.Prelude.{Option, None, Some, Ok, Err}
use Rattle.chain_record.specs.refusal.Refusal.{number_of}
use Rattle.drawn_chain.specs.declared.rooms.Lists.{Lists}
use Rattle.class_rules.specs.class.Class.{class_of}
use Rattle.judge.specs.declared.Fault as code
use Rattle.judge.specs.declared.Drawable as code_drawable
use Rattle.judge.specs.Verdict.{Verdict, Refused, Drawable, Fault, Nothing, Due as Fault-as-Due, tokens, fault_at, earlier_of, first_of, kind_refusal, wrong_tail, or_else, judge_drawn, judge_chains, judge_read, wrong_count, judge_tokens, judge_class, verdict, is_refusal}
use Rattle.judge.specs.Judged.{Drawing, JudgedIs}
use Rattle.judge.proofs.Tokens.{tokens-sound, tokens-length, tokens-refused}

-- ---- the numbers of a chain's refusals

-- a number of 01, or 0
abbrev Due : ℕ → Type 0
Due n = (n ≡ 0 → ⊥) → is_refusal n ≡ true

kind-due : (r : Role) (d : Chain) → Due (kind_refusal r d)
unfolding kind_refusal is_refusal
kind-due r d = go (wrong_kind r d)
  where
    go : (b : Bool) → Due (cond b 22 0)
    go true = λ n. refl
    go false = λ n. absurd (n refl)

place-due : (r : Role) (d : Chain) → Due (place_refusal r d)
unfolding place_refusal is_refusal
place-due r d = go (off_chain r d) (clashes r d)
  where
    go : (a b : Bool) → Due (cond a 32 (cond b 33 0))
    go true b = λ n. refl
    go false true = λ n. refl
    go false false = λ n. absurd (n refl)

draw-due : (r : Role) (d : Chain) → Due (draw_refusal r d)
unfolding draw_refusal is_refusal
draw-due r d = go (group_on_carbonyl r d) (pin_too_far r d) (tail_too_short r d) (no_site r d)
  where
    go : (w x y z : Bool) → Due (cond w 12 (cond x 13 (cond y 14 (cond z 15 0))))
    go true x y z = λ n. refl
    go false true y z = λ n. refl
    go false false true z = λ n. refl
    go false false false true = λ n. refl
    go false false false false = λ n. absurd (n refl)

-- ---- the first fault

-- where a fault is due, it has a number of 01 and one of the places from p on
abbrev Numbered : ℕ → List Chain → Fault → Type 0
Numbered p ds Nothing = Unit {0}
Numbered p ds (Fault-as-Due n q) = (is_refusal n ≡ true) × (q < p + length ds)

module _ (test : Role → Chain → ℕ) (c : Class) where
  first-numbered : ((r : Role) (d : Chain) → Due (test r d)) → (p : ℕ) (ds : List Chain) → Numbered p ds (first_of test c p ds)
  unfolding first_of fault_at
  first-numbered g p [] = tt
  first-numbered g p (d ∷ ds) = go (eqb (test (role_of c p) d) 0) refl (first_of test c (suc p) ds) (first-numbered g (suc p) ds)
    where
      later : (f : Fault) → Numbered (suc p) ds f → Numbered p (d ∷ ds) f
      later Nothing h = tt
      later (Fault-as-Due n q) h = (h.0, omega (arith, h.1))

      go : (b : Bool) → eqb (test (role_of c p) d) 0 ≡ b → (f : Fault) → Numbered (suc p) ds f → Numbered p (d ∷ ds) (earlier_of (cond b Nothing (Fault-as-Due (test (role_of c p) d) p)) f)
      go true e f h = later f h
      go false e f h = (g (role_of c p) d (eqb-false (test (role_of c p) d) 0 e), omega arith)

  -- no fault: none in the first chain, and none in the others
  first-passed : (p : ℕ) (d : Chain) (ds : List Chain) → first_of test c p (d ∷ ds) ≡ Nothing → (test (role_of c p) d ≡ 0) × (first_of test c (suc p) ds ≡ Nothing)
  unfolding first_of fault_at
  first-passed p d ds h = go (eqb (test (role_of c p) d) 0) refl h
    where
      go : (b : Bool) → eqb (test (role_of c p) d) 0 ≡ b → earlier_of (cond b Nothing (Fault-as-Due (test (role_of c p) d) p)) (first_of test c (suc p) ds) ≡ Nothing
          → (test (role_of c p) d ≡ 0) × (first_of test c (suc p) ds ≡ Nothing)
      go true e k = (eqb-true (test (role_of c p) d) 0 e, k)
      go false e k = let z : ◌≡◌ {A = ℕ} 0 1 = cc in absurd (omega arith)

right-kind : (r : Role) (d : Chain) → kind_refusal r d ≡ 0 → wrong_kind r d ≡ false
unfolding kind_refusal
right-kind r d h = go (wrong_kind r d) h
  where
    go : (b : Bool) → ◌≡◌ {A = ℕ} (cond b 22 0) 0 → b ≡ false
    go true k = absurd (omega arith)
    go false k = refl

accepts-from : (c : Class) (p : ℕ) (ds : List Chain) → Every Sound ds → first_of kind_refusal c p ds ≡ Nothing → first_of place_refusal c p ds ≡ Nothing → first_of draw_refusal c p ds ≡ Nothing
    → AcceptsFrom (role_of c) p ds
accepts-from c p [] s k l m = tt
accepts-from c p (d ∷ ds) s k l m =
    let k' = first-passed kind_refusal c p d ds k in
    let l' = first-passed place_refusal c p d ds l in
    let m' = first-passed draw_refusal c p d ds m in (
      record { sound = s.0; kind = right-kind (role_of c p) d k'.0; placed = l'.0; draws = m'.0 },
      accepts-from c (suc p) ds s.1 k'.1 l'.1 m'.1,
    )

-- ---- what a verdict says

-- every test was passed
pub record Fits (class t : List ℕ) (count : ℕ) (ss : List (List ℕ)) (c : Class) (ds : List Chain) : Type 0 where
  pub known : class_of class ≡ Some c
  pub counted : wrong_count c count ≡ false
  pub read : token.tokens_of ss ≡ token.All ds
  pub kinds : first_of kind_refusal c 1 ds ≡ Nothing
  pub tail : wrong_tail c t ≡ false
  pub places : first_of place_refusal c 1 ds ≡ Nothing
  pub draws : first_of draw_refusal c 1 ds ≡ Nothing

module _ (class t : List ℕ) (count : ℕ) (ss : List (List ℕ)) where
  abbrev Says : Verdict → Type 0
  Says (Refused n p) = (is_refusal n ≡ true) × (p ≤ length ss)
  Says (Drawable c ds) = Fits class t count ss c ds

  module _ (c : Class) (known : class_of class ≡ Some c) (counted : wrong_count c count ≡ false) where
    module _ (ds : List Chain) (read : token.tokens_of ss ≡ token.All ds) where
      or-says : (f : Fault) (v : Verdict) → Numbered 1 ds f → (f ≡ Nothing → Says v) → Says (or_else f v)
      or-says Nothing v n h = h refl
      or-says (Fault-as-Due m p) v n h = (n.0, omega (arith, n.1, tokens-length ss ds read))

      drawn-says : first_of kind_refusal c 1 ds ≡ Nothing → wrong_tail c t ≡ false → Says (judge_drawn c ds)
      unfolding judge_drawn
      drawn-says kinds tail =
          or-says (first_of place_refusal c 1 ds) (or_else (first_of draw_refusal c 1 ds) (Drawable c ds)) (first-numbered place_refusal c place-due 1 ds)
          (λ places. or-says (first_of draw_refusal c 1 ds) (Drawable c ds) (first-numbered draw_refusal c draw-due 1 ds)
          (λ draws. record { known = known; counted = counted; read = read; kinds = kinds; tail = tail; places = places; draws = draws }))

      chains-say : Says (judge_chains c t ds)
      unfolding judge_chains is_refusal
      chains-say =
          or-says (first_of kind_refusal c 1 ds) (cond (wrong_tail c t) (Refused 23 0) (judge_drawn c ds)) (first-numbered kind_refusal c kind-due 1 ds) (λ kinds. go (wrong_tail c t) refl kinds)
        where
          go : (b : Bool) → wrong_tail c t ≡ b → first_of kind_refusal c 1 ds ≡ Nothing → Says (cond b (Refused 23 0) (judge_drawn c ds))
          go true e kinds = (refl, omega arith)
          go false e kinds = drawn-says kinds e

    read-says : (v : token.Verdict) → token.tokens_of ss ≡ v → Says (judge_read c t v)
    read-says (token.First n p) e = tokens-refused ss n p e
    read-says (token.All ds) e = chains-say ds e

  tokens-say : (c : Class) → class_of class ≡ Some c → Says (judge_tokens c t count ss)
  unfolding judge_tokens is_refusal
  tokens-say c k = go (wrong_count c count) refl
    where
      go : (b : Bool) → wrong_count c count ≡ b → Says (cond b (Refused 21 0) (judge_read c t (token.tokens_of ss)))
      go true e = (refl, omega arith)
      go false e = read-says c k e (token.tokens_of ss) refl

  class-says : (o : Option Class) → class_of class ≡ o → Says (judge_class o t count ss)
  unfolding is_refusal
  class-says None e = (refl, omega arith)
  class-says (Some c) e = tokens-say c e

  verdict-says : Says (verdict class t count ss)
  unfolding verdict
  verdict-says = class-says (class_of class) refl

  pub judged-fits : (c : Class) (ds : List Chain) → verdict class t count ss ≡ Drawable c ds → Fits class t count ss c ds
  judged-fits c ds e = subst Says e verdict-says

  -- the class is the one with the code
  pub judged-drawable : (c : Class) (ds : List Chain) → verdict class t count ss ≡ Drawable c ds → class_of class ≡ Some c
  judged-drawable c ds e = (judged-fits c ds e).known

  -- and the chains are those of the tokens
  pub judged-chains : (c : Class) (ds : List Chain) → verdict class t count ss ≡ Drawable c ds → token.tokens_of ss ≡ token.All ds
  judged-chains c ds e = (judged-fits c ds e).read

  refused_says : (n p : ℕ) → verdict class t count ss ≡ Refused n p → (is_refusal n ≡ true) × (p ≤ length ss)
  refused_says n p e = subst Says e verdict-says

-- ---- the tail

tail-reads : (t : List ℕ) → is_tail t ≡ true → TailReads t
unfolding is_tail atoms_of_tail
tail-reads t h =
    let p : TailPart t = tail-alone t h in
    record { part = p.part; is = p.is; few = go (within 1 255 (length t)) refl h }
  where
    go : (b : Bool) → within 1 255 (length t) ≡ b → not (eqb (cond b (scan (stands opening [] no_rings) t) 0) 0) ≡ true → length t ≤ 255
    go true e k = (within_both 1 255 (length t) e).1
    go false e k = absurd (false≢true k)

no_bytes : (t : List ℕ) → length t ≡ 0 → t ≡ []
no_bytes [] h = refl
no_bytes (x ∷ t) h = absurd (omega arith)

-- a tail that is right for its class reads by itself, or is empty where the class has none
module _ (c : Class) (t : List ℕ) (h : wrong_tail c t ≡ false) where
  right-tail : has_tail c ≡ true → TailReads t
  unfolding wrong_tail
  right-tail e = tail-reads t (not-false (is_tail t) (rw e at h))

  no-tail : has_tail c ≡ false → t ≡ []
  unfolding wrong_tail
  no-tail e = no_bytes t (eqb-true (length t) 0 (not-false (eqb (length t) 0) (rw e at h)))

-- ---- the number of tokens

most-four : (c : Class) → most c ≤ 4
most-four Fa = omega arith
most-four Gl1 = omega arith
most-four Gl2 = omega arith
most-four Gl3 = omega arith
most-four Gp = omega arith
most-four Cl = omega arith
most-four Sb = omega arith
most-four Sa = omega arith

right-count : (c : Class) (count : ℕ) → wrong_count c count ≡ false → (fewest c ≤ count) × (count ≤ most c)
unfolding wrong_count
right-count c count h = go (ltb count (fewest c)) (ltb (most c) count) refl refl h
  where
    go : (a b : Bool) → ltb count (fewest c) ≡ a → ltb (most c) count ≡ b → cond a true b ≡ false → (fewest c ≤ count) × (count ≤ most c)
    go true b e f k = absurd (false≢true (sym k))
    go false b e f k = (ltb-false count (fewest c) e, ltb-false (most c) count (f ∙ k))

-- ---- A DRAWABLE REQUEST IS ACCEPTED

module _ (class t : List ℕ) (count : ℕ) (sn1 sn2 sn3 sn4 : List ℕ) where
  pub judged-accepted : (c : Class) (ds : List Chain) → verdict class t count (tokens count sn1 sn2 sn3 sn4) ≡ Drawable c ds → Accepted c t ds
  judged-accepted c ds e =
      let f : Fits class t count (tokens count sn1 sn2 sn3 sn4) c ds = judged-fits class t count (tokens count sn1 sn2 sn3 sn4) c ds e in
      let n : length ds ≡ length (tokens count sn1 sn2 sn3 sn4) = tokens-length (tokens count sn1 sn2 sn3 sn4) ds f.read in
      let m : (fewest c ≤ count) × (count ≤ most c) = right-count c count f.counted in
      let four = length-take count (sn1 ∷ sn2 ∷ sn3 ∷ sn4 ∷ []) in
      record {
        few = omega (arith, n, m, four, most-four c);
        many = omega (arith, n, m, four);
        chains = accepts-from c 1 ds (tokens-sound (tokens count sn1 sn2 sn3 sn4) ds f.read) f.kinds f.places f.draws;
        tail = right-tail c t f.tail;
      }

  -- where its class has no tail, the tail is empty
  pub judged-tail : (c : Class) (ds : List Chain) → verdict class t count (tokens count sn1 sn2 sn3 sn4) ≡ Drawable c ds → has_tail c ≡ false → t ≡ []
  judged-tail c ds e = no-tail c t (judged-fits class t count (tokens count sn1 sn2 sn3 sn4) c ds e).tail

  -- ---- A REFUSED ONE has a number of 01, and the place of a token or 0
  pub refused-number : (n p : ℕ) → verdict class t count (tokens count sn1 sn2 sn3 sn4) ≡ Refused n p → (is_refusal n ≡ true) × (p ≤ 4)
  refused-number n p e =
      let h : (is_refusal n ≡ true) × (p ≤ length (tokens count sn1 sn2 sn3 sn4)) = refused_says class t count (tokens count sn1 sn2 sn3 sn4) n p e in
      (h.0, omega (arith, h.1, length-take count (sn1 ∷ sn2 ∷ sn3 ∷ sn4 ∷ [])))

-- ---- what the answer of the code says of the verdict

-- the n chains that the shapes ns and the lists l hold are those of the verdict, and the atoms of the tail t are counted
pub record Drawn (c : Class) (a n : ℕ) (ns : List Shape) (l : List Lists) (t : List ℕ) (v : Verdict) : Type 0 where
  pub chains : List Chain
  pub is : v ≡ Drawable c chains
  pub drawing : Drawing c chains (chains_kept n ns l)
  pub atoms : a ≡ atoms_of_tail t

pub answer-drawable : (d : code_drawable.Drawable) (n : ℕ) (ns : List Shape) (l : List Lists) (t : List ℕ) (v : Verdict) → JudgedIs (Ok d) n ns l t v → Drawn d.class d.tail_atoms n ns l t v
answer-drawable d n ns l t (Refused m p) h = absurd h
answer-drawable d n ns l t (Drawable c ds) h = record { chains = ds; is = ap (λ (x : Class). Drawable x ds) (sym h.0); drawing = rw h.0 h.1; atoms = h.2 }

pub answer-refused : (f : code.Fault) (n : ℕ) (ns : List Shape) (l : List Lists) (t : List ℕ) (v : Verdict) → JudgedIs (Err f) n ns l t v → v ≡ Refused (number_of f.refusal) f.place
answer-refused f n ns l t (Refused k q) h = rw (h.0, h.1)
answer-refused f n ns l t (Drawable c ds) h = absurd h
