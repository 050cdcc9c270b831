-- Laws of the judging of a request: each way out of its tests, one after the other.
-- Assumes nothing.
use Prim.Native.Nat.{ℕ, ◌+◌, ◌≤◌, ◌<◌, min}
use native.Mathlib.Omega.{arith}
use mathlib.Core.Path.{◌≡◌, refl, sym, ◌∙◌}
use mathlib.Core.Bool.{Bool, true, false, cond, not, false≢true}
use mathlib.Core.List.{List, []}
use lib.ListN.{length, take, get_or, length-take}
use lib.Dec.{eqb, ltb}
use borrow.Author.Tests.{lt-ltb, le-ltb, ltb-false}
use Rattle.std.specs.Prelude.{Option, None, Some, Result, Ok, Err}
use Rattle.chain_record.specs.declared.refusal.Refusal.{Refusal}
use Rattle.chain_record.specs.declared.refusal.Refusal.TheVariants.{UnknownClass, WrongCount}
use Rattle.chain_record.specs.plain.Chain.{Chain}
use Rattle.token_reader.specs.token.Token.{token_of}
use Rattle.token_reader.specs.token.Request as token
use Rattle.tail_grammar.specs.tail.Grammar.{is_tail, atoms_of_tail}
use Rattle.template_rules.specs.declared.Class.{Class}
use Rattle.template_rules.specs.declared.Class.TheVariants.{Fa, Gl1, Gl2, Gl3, Gp, Cl, Sb, Sa}
use Rattle.template_rules.specs.Template.{fewest, most, role_of, has_tail}
use Rattle.class_rules.specs.class.Class.{class_of}
use Rattle.drawn_chain.specs.declared.drawable.Shape.{Shape}
use Rattle.drawn_chain.specs.declared.rooms.Lists.{Lists}
use Rattle.drawn_chain.specs.drawable.Chains.{drawn_in, items_of}
use Rattle.drawn_chain.proofs.drawable.Parts.{items-length}
use Rattle.request_chains.specs.chain_shapes.Shapes.{chains_kept}
use Rattle.judge.specs.declared.Fault as code
use Rattle.judge.specs.declared.Drawable as code_drawable
use Rattle.judge.specs.declared.Looked.{Looked}
use Rattle.judge.specs.Verdict.{Verdict, Refused, Drawable, Fault, Nothing, Due, earlier_of, wrong_tail, or_else, judge_drawn, judge_chains, judge_read, wrong_count, judge_tokens, verdict}
use Rattle.judge.specs.Judged.{Drawing, JudgedIs, SeenIs, fault_of, Firsts, due_of}
use Rattle.judge.proofs.Laws.{Met, draws-length, met-stop}

-- ---- the tail

not-not : (b : Bool) → not (not b) ≡ b
not-not true = refl
not-not false = refl

module _ (c : Class) (t : List ℕ) (a : Bool) (e : a ≡ has_tail c) where
  pub tail-outside : (k : ℕ) → a ≡ true → k ≡ atoms_of_tail t → eqb k 0 ≡ wrong_tail c t
  unfolding wrong_tail is_tail
  tail-outside k h f = rw (sym e ∙ h, f) (sym (not-not (eqb (atoms_of_tail t) 0)))

  pub tail-elsewhere : (k : Bool) → a ≡ false → k ≡ eqb (length t) 0 → not k ≡ wrong_tail c t
  unfolding wrong_tail
  tail-elsewhere k h f = rw (sym e ∙ h, f)

-- ---- the number of tokens

pub count-few : (c : Class) (n m : ℕ) → m ≡ fewest c → n < m → ltb n m ≡ wrong_count c n
unfolding wrong_count
count-few c n m e h = rw (← e, lt-ltb n m h)

pub count-enough : (c : Class) (n m k : ℕ) → m ≡ fewest c → m ≤ n → k ≡ most c → ltb k n ≡ wrong_count c n
unfolding wrong_count
count-enough c n m k e h f = rw (← e, le-ltb n m h, ← f)

most-four : (c : Class) → most c ≤ 4
most-four Fa = omega arith
most-four Gl1 = omega arith
most-four Gl2 = omega arith
most-four Gl3 = omega arith
most-four Gp = omega arith
most-four Cl = omega arith
most-four Sb = omega arith
most-four Sa = omega arith

-- a class takes four tokens at most
module _ (c : Class) (n : ℕ) (b : Bool) (e : b ≡ wrong_count c n) (h : b ≡ false) where
  counted : (fewest c ≤ n) × (n ≤ most c)
  unfolding wrong_count
  counted = go (ltb n (fewest c)) (ltb (most c) n) refl refl (sym e ∙ h)
    where
      go : (x y : Bool) → ltb n (fewest c) ≡ x → ltb (most c) n ≡ y → cond x true y ≡ false → (fewest c ≤ n) × (n ≤ most c)
      go true y f g w = absurd (false≢true (sym w))
      go false true f g w = absurd (false≢true (sym w))
      go false false f g w = (ltb-false n (fewest c) f, ltb-false (most c) n g)

  pub count-four : n ≤ 4
  count-four = omega (arith, most-four c, counted.1)

  -- so there is room for their chains
  pub room-enough : (m : ℕ) → min n 4 ≤ m → n ≤ m
  room-enough m h = omega (arith, count-four)

-- ---- the tokens

-- a fault, or a verdict that says what is drawn
or_drawable : Option code.Fault → Class → ℕ → Result code_drawable.Drawable code.Fault
or_drawable None c a = Ok (record { class = c; tail_atoms = a })
or_drawable (Some f) c a = Err f

-- the sorts in their order are one fault, or none
in-order : (k : Fault) (b : Bool) (p q : Fault) (v : Verdict) → or_else k (cond b (Refused 23 0) (or_else p (or_else q v))) ≡ or_else (earlier_of k (cond b (Due 23 0) (earlier_of p q))) v
in-order (Due m i) b p q v = refl
in-order Nothing true p q v = refl
in-order Nothing false (Due m i) q v = refl
in-order Nothing false Nothing q v = refl

module _ (c : Class) (t : List ℕ) (b : Bool) (e : b ≡ wrong_tail c t) (f : Firsts) (n : ℕ) (ns : List Shape) (l : List Lists) (few : n ≤ 4) (size : n ≤ length ns) (a : ℕ) (y : a ≡ atoms_of_tail t)
    (g : Option code.Fault) (w : fault_of g ≡ due_of f b) where
  -- the fault that is due of chains is that which their verdict says
  fault-judged : (ds : List Chain) (d : Drawing c ds (chains_kept n ns l)) (h : Fault) (g : Option code.Fault) → fault_of g ≡ h → JudgedIs (or_drawable g c a) n ns l t (or_else h (Drawable c ds))
  unfolding or_drawable
  fault-judged ds d (Due m i) (Some x) w = (cc, cc)
  fault-judged ds d (Due m i) None w = let z : ◌≡◌ {A = ℕ} 0 1 = cc in absurd (omega arith)
  fault-judged ds d Nothing (Some x) w = let z : ◌≡◌ {A = ℕ} 0 1 = cc in absurd (omega arith)
  fault-judged ds d Nothing None w = (refl, d, y)

  met-judged : (v : token.Verdict) → Met c f (take n (items_of ns l)) v → JudgedIs (or_drawable g c a) n ns l t (judge_read c t v)
  unfolding drawn_in judge_chains judge_drawn due_of
  met-judged (token.First m p) h = absurd h
  met-judged (token.All ds) h =
      let d : Drawing c ds (chains_kept n ns l) = record { few = few; counted = omega (arith, length-take n (items_of ns l), items-length ns l, draws-length h.3); drawn = h.3 } in
      rw (← h.0, ← h.1, ← h.2, ← e, in-order f.kind b f.place f.draw (Drawable c ds)) (fault-judged ds d (earlier_of f.kind (cond b (Due 23 0) (earlier_of f.place f.draw))) g w)

  module _ (ts : List (List ℕ)) (i : ℕ) (all : i ≡ n) (m : Met c f (take i (items_of ns l)) (token.tokens_of (take i ts))) where
    judged : JudgedIs (or_drawable g c a) n ns l t (judge_read c t (token.tokens_of (take n ts)))
    judged = met-judged (token.tokens_of (take n ts)) (rw all at m)

    pub tokens-faulty : (x : code.Fault) → g ≡ Some x → JudgedIs (Err x) n ns l t (judge_read c t (token.tokens_of (take n ts)))
    unfolding or_drawable
    tokens-faulty x h = rw h at judged

    pub tokens-drawable : g ≡ None → JudgedIs (Ok (record { class = c; tail_atoms = a })) n ns l t (judge_read c t (token.tokens_of (take n ts)))
    unfolding or_drawable
    tokens-drawable h = rw h at judged

-- a token that is refused, behind others that are not
pub token-refused : (ts : List (List ℕ)) (c : Class) (t : List ℕ) (x : Result Looked Refusal) (f : Firsts) (ns ms : List Shape) (l k : List Lists) (p : Lists) (i n : ℕ) (m : Refusal) → n ≤ length ns → n ≤ length l → n ≤ length ts → i < n
    → SeenIs (role_of c (i + 1)) x p (token_of (get_or ts i [])) → Met c f (take i (items_of ns l)) (token.tokens_of (take i ts)) → x ≡ Err m
    → JudgedIs (Err (record { refusal = m; place = i + 1 })) n ms k t (judge_read c t (token.tokens_of (take n ts)))
token-refused ts c t x f ns ms l k p i n m z b w h j y e = rw (met-stop ts c x f ns l p i n z b w h j y m e) (refl, refl)

-- ---- the class, then the number of tokens, then the tokens

module _ (s t : List ℕ) (count : ℕ) (ss : List (List ℕ)) (r : Option Class) (e : r ≡ class_of s) (ns : List Shape) (l : List Lists) where
  pub class-unknown : r ≡ None → JudgedIs (Err (record { refusal = UnknownClass; place = 0 })) count ns l t (verdict s t count ss)
  unfolding verdict
  class-unknown h = rw (sym e ∙ h) (refl, refl)

  module _ (c : Class) (b : Bool) (h : r ≡ Some c) (k : b ≡ wrong_count c count) where
    pub class-count : b ≡ true → JudgedIs (Err (record { refusal = WrongCount; place = 0 })) count ns l t (verdict s t count ss)
    unfolding verdict judge_tokens
    class-count g = rw (sym e ∙ h, sym k ∙ g) (refl, refl)

    pub class-known : (j : Result code_drawable.Drawable code.Fault) → b ≡ false → JudgedIs j count ns l t (judge_read c t (token.tokens_of ss)) → JudgedIs j count ns l t (verdict s t count ss)
    unfolding verdict judge_tokens
    class-known j g w = rw (sym e ∙ h, sym k ∙ g) w
