-- Laws of the tokens that were looked at, one after the other: the first fault of each sort, and the chains as they are drawn.
-- Assumes nothing.
use Prim.Native.Nat.{ℕ, suc, ◌+◌, ◌≤◌, ◌<◌}
use native.Mathlib.Nat.{add-zero, add-suc, suc-add}
use native.Mathlib.Numerals.{add-one}
use native.Mathlib.Omega.{arith}
use mathlib.Core.Path.{◌≡◌, refl, sym, ap, ◌∙◌, subst}
use mathlib.Core.Bool.{Bool, true, false, cond, not, false≢true, ◌&&◌}
use mathlib.Core.List.{List, [], ◌∷◌, ◌++◌, map}
use lib.ListN.{length, take, drop, get_or, set, length-take, take-append-drop, get_or-map}
use lib.Seq.{take-suc, take-take}
use borrow.Author.Tests.{le-ltb}
use Rattle.std.specs.Prelude.{Option, None, Some, Result, Ok, Err}
use Rattle.std.proofs.Common.{Bor}
use Rattle.std.specs.Bool.{then_some}
use Rattle.std.specs.Option.{is_none, is_some, option_or}
use Rattle.chain_record.specs.declared.plain.ChainPrefix.{ChainPrefix}
use Rattle.chain_record.specs.declared.plain.DbPos.{DbPos}
use Rattle.chain_record.specs.declared.plain.Mod.{Mod}
use Rattle.chain_record.specs.declared.plain.Ring.{Ring}
use Rattle.chain_record.specs.plain.Chain.{Chain, Outcome, Read, Refused, max_bonds, max_groups, max_rings}
use Rattle.std.specs.Result.{IsErrAnd}
use Rattle.chain_record.proofs.parsed.Laws.{err_kept, stands_read, stands-refused}
use Rattle.chain_record.specs.declared.refusal.Refusal.{Refusal}
use Rattle.chain_record.specs.declared.refusal.Refusal.TheVariants.{Unreadable, GroupOnCarbonyl, PinTooFar, TailTooShort, NoSite, UnknownClass, WrongCount, WrongKind, WrongTail, OverLimit, OffChain, Clash, ShortSlice}
use Rattle.chain_record.specs.refusal.Refusal.{number_of, number_due}
use Rattle.token_reader.specs.declared.token.ReadChain.{ReadChain}
use Rattle.token_reader.specs.token.Token.{token_of}
use Rattle.token_reader.specs.token.Lent.{Tells, chain_as, token_in}
use Rattle.token_reader.specs.token.Request.{Verdict, All, First, with_token, tokens_from, tokens_of}
use Rattle.token_reader.proofs.token.Sound.{token-sound}
use Rattle.chain_rules.specs.declared.chain.Role.{Role}
use Rattle.chain_rules.specs.chain.Refusals.{wrong_kind, place_refusal, draw_refusal}
use Rattle.template_rules.specs.declared.Class.{Class}
use Rattle.template_rules.specs.Template.{role_of}
use Rattle.drawn_chain.specs.declared.drawable.Shape.{Shape}
use Rattle.drawn_chain.specs.declared.rooms.Lists.{Lists}
use Rattle.drawn_chain.specs.drawable.Drawn.{Drawn, drawn_of, Draws, chain_of, Says}
use Rattle.drawn_chain.specs.drawable.Chains.{items_of}
use Rattle.drawn_chain.specs.fitted.Fitted.{pieces, Fits}
use Rattle.drawn_chain.proofs.fitted.Drawing.{held-chain}
use Rattle.drawn_chain.proofs.drawable.Parts.{items-length}
use Rattle.chain_rules.specs.kind.Kind.{Kind}
use Rattle.judge.specs.declared.Fault as code
use Rattle.judge.specs.declared.Faults.{Faults}
use Rattle.judge.specs.declared.Looked.{Looked}
use Rattle.judge.specs.declared.Reasons.{Reasons}
use Rattle.judge.specs.Verdict.{Fault, Nothing, Due, fault_at, earlier_of, first_of, kind_refusal}
use Rattle.judge.specs.Judged.{DrawsAll, none, more, fault_of, fault_from, Firsts, firsts_of, due_of, KindIs, SeenIs, no_faults, nothing_due, with_reasons}
use Rattle.judge.proofs.Items.{items-next}

-- ---- one token

pub kind-told : (r : Role) (p : ChainPrefix) (c : ℕ) (b : Bool) → Kind r p c b → KindIs r p c (number_due (then_some b WrongKind))
unfolding kind_refusal
kind-told r p c b k = record { is = λ d e f. go b (wrong_kind r d) (k.is d e f) }
  where
    go : (x y : Bool) → x ≡ y → number_due (then_some x WrongKind) ≡ cond y 22 0
    go true true h = refl
    go false false h = refl
    go true false h = absurd (false≢true (sym h))
    go false true h = absurd (false≢true h)

-- with room for all that a token may say, its outcome is that of the token
with-room : (b g r : ℕ) (t : List ℕ) → max_bonds ≤ b → max_groups ≤ g → max_rings ≤ r → token_in b g r t ≡ token_of t
unfolding token_in
with-room b g r t h k l = rw (le-ltb b max_bonds h, le-ltb g max_groups k, le-ltb r max_rings l)

pub told : (t : List ℕ) (x : Result ReadChain Refusal) (bs : List DbPos) (gs : List Mod) (rs : List Ring) (b g k : ℕ) → max_bonds ≤ b → max_groups ≤ g → max_rings ≤ k → Tells x bs gs rs (token_in b g k t) → Tells x bs gs rs (token_of t)
told t x bs gs rs b g k hb hg hr w = rw (with-room b g k t hb hg hr) at w

module _ (r : Role) (t : List ℕ) (x : Result ReadChain Refusal) (bs : List DbPos) (gs : List Mod) (rs : List Ring) (w : Tells x bs gs rs (token_of t)) where
  -- a token that is refused
  pub looked-refused : (l : Lists) (z : Refusal) (y : Result Looked Refusal) → x ≡ Err z → IsErrAnd y (λ (k : Refusal). k ≡ z) → SeenIs r y l (token_of t)
  looked-refused l z y e f = let v : Tells (Err z) bs gs rs (token_of t) = rw e at w in rw (err_kept y z f, stands-refused (number_of z) (token_of t) v.stands) refl

  -- what is drawn of the pieces of a token is drawn of the chain that its record holds
  drawn-held : (q : ReadChain) (l : Lists) (s : Shape) → Fits r (pieces q.prefix q.carbon q.unlocated q.counts.bonds bs q.counts.groups gs q.counts.rings rs) (drawn_of s l) → Draws r (chain_of (chain_as q bs gs rs)) (drawn_of s l)
  unfolding chain_of
  drawn-held q l s f = f.draws (chain_of (chain_as q bs gs rs))

  -- and of the chain that the token says
  pub looked : (q : ReadChain) (l : Lists) (s : Shape) (i n m : Option Refusal) → x ≡ Ok q
      → Fits r (pieces q.prefix q.carbon q.unlocated q.counts.bonds bs q.counts.groups gs q.counts.rings rs) (drawn_of s l)
      → KindIs r q.prefix q.carbon (number_due i) → Says (drawn_of s l) (number_due n) place_refusal → Says (drawn_of s l) (number_due m) draw_refusal
      → SeenIs r (Ok (record { reasons = record { kind = i; place = n; draw = m }; shape = s })) l (token_of t)
  looked q l s i n m e f o a z =
      let v : Tells (Ok q) bs gs rs (token_of t) = rw e at w in
      let d = stands_read (chain_as q bs gs rs) (token_of t) v.stands in
      let h : chain_of (chain_as q bs gs rs) ≡ d.0 = held-chain d.2 (token-sound t d.0 d.1).within in
      let u : Draws r d.0 (drawn_of s l) = rw h at (drawn-held q l s f) in
      rw d.1 (record { kind = o.is d.0 (sym d.2.prefix) (sym d.2.carbon); place = a.is r d.0 u; draw = z.is r d.0 u; drawn = u })

-- ---- a fault, or the next one

-- no refusal has the number 0
due-numbered : (r : Refusal) (p : ℕ) → Due (number_of r) p ≡ fault_at (number_of r) p
unfolding fault_at
due-numbered Unreadable p = refl
due-numbered GroupOnCarbonyl p = refl
due-numbered PinTooFar p = refl
due-numbered TailTooShort p = refl
due-numbered NoSite p = refl
due-numbered UnknownClass p = refl
due-numbered WrongCount p = refl
due-numbered WrongKind p = refl
due-numbered WrongTail p = refl
due-numbered OverLimit p = refl
due-numbered OffChain p = refl
due-numbered Clash p = refl
due-numbered ShortSlice p = refl

due-at : (r : Option Refusal) (p : ℕ) → fault_of (fault_from r p) ≡ fault_at (number_due r) p
unfolding fault_at
due-at None p = refl
due-at (Some r) p = due-numbered r p

pub earlier-or : (f g : Option code.Fault) → fault_of (option_or f g) ≡ earlier_of (fault_of f) (fault_of g)
earlier-or None g = refl
earlier-or (Some f) g = refl

earlier-nothing : (f : Fault) → f ≡ earlier_of f Nothing
earlier-nothing Nothing = refl
earlier-nothing (Due n p) = refl

earlier-apart : (f g h : Fault) → earlier_of (earlier_of f g) h ≡ earlier_of f (earlier_of g h)
earlier-apart Nothing g h = refl
earlier-apart (Due n p) g h = refl

-- ---- the first fault of each sort

-- one chain more
earlier-at : (f : Option code.Fault) (r : Option Refusal) (p : ℕ) → fault_of (option_or f (fault_from r p)) ≡ earlier_of (fault_of f) (fault_at (number_due r) p)
earlier-at f r p = earlier-or f (fault_from r p) ∙ ap (earlier_of (fault_of f)) (due-at r p)

pub joined : (f : Faults) (n : Reasons) (p : ℕ) (u v w a b d : Option code.Fault) → u ≡ fault_from n.kind p → a ≡ option_or f.kind u → v ≡ fault_from n.place p → b ≡ option_or f.place v → w ≡ fault_from n.draw p → d ≡ option_or f.draw w
    → firsts_of (record { kind = a; place = b; draw = d }) ≡ with_reasons (firsts_of f) n p
unfolding with_reasons
joined f n p u v w a b d e h i j k l =
    rw (h, e, j, i, l, k, earlier-at f.kind n.kind p, earlier-at f.place n.place p, earlier-at f.draw n.draw p)

module _ (f : Faults) (tail : Bool) where
  pub due-tail : (g : Option code.Fault) → tail ≡ true → g ≡ option_or f.kind (Some (record { refusal = WrongTail; place = 0 })) → fault_of g ≡ due_of (firsts_of f) tail
  unfolding due_of
  due-tail g h e = rw (e, h) (earlier-or f.kind (Some (record { refusal = WrongTail; place = 0 })))

  pub due-other : (g h : Option code.Fault) → tail ≡ false → g ≡ option_or f.place f.draw → h ≡ option_or f.kind g → fault_of h ≡ due_of (firsts_of f) tail
  unfolding due_of
  due-other g h t e k = rw (k, e, t) (earlier-or f.kind (option_or f.place f.draw) ∙ ap (earlier_of (fault_of f.kind)) (earlier-or f.place f.draw))

-- ---- a chain that is refused for nothing

pub none-due : (n : Reasons) (a b : Option Refusal) (t : Bool) → a ≡ option_or n.kind n.place → b ≡ option_or a n.draw → is_some b ≡ not t → t ≡ nothing_due n
unfolding nothing_due
none-due n a b t e f h = go t n.kind n.place n.draw (rw (f, e) at h)
  where
    go : (t : Bool) (x y z : Option Refusal) → is_some (option_or (option_or x y) z) ≡ not t → t ≡ (is_none x && is_none y && is_none z)
    go true None None None h = refl
    go true None None (Some r) h = absurd (false≢true (sym h))
    go true None (Some r) z h = absurd (false≢true (sym h))
    go true (Some r) y z h = absurd (false≢true (sym h))
    go false None None None h = absurd (false≢true h)
    go false None None (Some r) h = refl
    go false None (Some r) z h = refl
    go false (Some r) y z h = refl

-- reasons of which none is due change no fault
faults-stay : (f : Firsts) (n : Reasons) (p : ℕ) → nothing_due n ≡ true → f ≡ with_reasons f n p
unfolding nothing_due with_reasons fault_at
faults-stay f n p h = go n.kind n.place n.draw h
  where
    go : (x y z : Option Refusal) → (is_none x && is_none y && is_none z) ≡ true
        → f ≡ record { kind = earlier_of f.kind (fault_at (number_due x) p); place = earlier_of f.place (fault_at (number_due y) p); draw = earlier_of f.draw (fault_at (number_due z) p) }
    go (Some r) y z h = absurd (false≢true h)
    go None (Some r) z h = absurd (false≢true h)
    go None None (Some r) h = absurd (false≢true h)
    go None None None h = rw (← earlier-nothing f.kind, ← earlier-nothing f.place, ← earlier-nothing f.draw)

-- ---- the first fault

-- the first fault of chains with one more behind them
first-snoc : (test : Role → Chain → ℕ) (c : Class) (p q : ℕ) (ds : List Chain) (d : Chain) → q ≡ p + length ds
    → earlier_of (first_of test c p ds) (fault_at (test (role_of c q) d) q) ≡ first_of test c p (ds ++ d ∷ [])
unfolding first_of
first-snoc test c p q [] d e = let h : q ≡ p = e ∙ add-zero p in rw h (earlier-nothing (fault_at (test (role_of c p) d) p))
first-snoc test c p q (x ∷ ds) d e =
    earlier-apart (fault_at (test (role_of c p) x) p) (first_of test c (suc p) ds) (fault_at (test (role_of c q) d) q)
    ∙ ap (earlier_of (fault_at (test (role_of c p) x) p)) (first-snoc test c (suc p) q ds d (e ∙ (add-suc p (length ds) ∙ sym (suc-add p (length ds)))))

-- ---- the chains as they are drawn

draws-snoc : {c : Class} {p : ℕ} {xs : List Drawn} {ds : List Chain} {x : Drawn} {d : Chain} → DrawsAll c p xs ds → Draws (role_of c (p + length xs)) d x
    → DrawsAll c p (xs ++ x ∷ []) (ds ++ d ∷ [])
draws-snoc {c} {p} {x = x} {d} none g = more (rw (add-zero p) at g) none
draws-snoc {c} {p} {x = x} {d} (more {xs = xs} h r) g = more h (draws-snoc r (rw (add-suc p (length xs), ← suc-add p (length xs)) at g))

pub draws-length : {c : Class} {p : ℕ} {xs : List Drawn} {ds : List Chain} → DrawsAll c p xs ds → length xs ≡ length ds
draws-length none = refl
draws-length (more g r) = ap suc (draws-length r)

-- ---- the tokens that were looked at

-- what the faults f and the chains xs are of tokens of which none is refused
abbrev pub Met : Class → Firsts → List Drawn → Verdict → Type 0
Met c f xs (All ds) = (f.kind ≡ first_of kind_refusal c 1 ds) × (f.place ≡ first_of place_refusal c 1 ds) × (f.draw ≡ first_of draw_refusal c 1 ds) × DrawsAll c 1 xs ds
Met c f xs (First n p) = ⊥

met-none : (c : Class) → Met c no_faults [] (All [])
unfolding first_of
met-none c = (refl, refl, refl, none)

-- one token more that is read, at place i + 1
met-more : (c : Class) (f : Firsts) (xs : List Drawn) (i : ℕ) (x : Looked) (p : Lists) (v : Verdict) (o : Outcome) → length xs ≡ i → Met c f xs v
    → SeenIs (role_of c (i + 1)) (Ok x) p o → Met c (with_reasons f x.reasons (i + 1)) (xs ++ drawn_of x.shape p ∷ []) (with_token v o)
unfolding with_reasons
met-more c f xs i x p (First m q) o l h g = absurd h
met-more c f xs i x p (All ds) (Refused m) l h g = absurd g
met-more c f xs i x p (All ds) (Read d) l h g =
    let k : i + 1 ≡ 1 + length ds = omega (arith, draws-length h.3, l) in
    let y : i + 1 ≡ 1 + length xs = omega (arith, l) in (
      rw (h.0, g.kind) (first-snoc kind_refusal c 1 (i + 1) ds d k),
      rw (h.1, g.place) (first-snoc place_refusal c 1 (i + 1) ds d k),
      rw (h.2, g.draw) (first-snoc draw_refusal c 1 (i + 1) ds d k),
      draws-snoc h.3 (rw y at g.drawn),
    )

-- one that is refused, and so all of them
met-refused : (c : Class) (f : Firsts) (xs : List Drawn) (i : ℕ) (m : Refusal) (r : Role) (p : Lists) (v : Verdict) (o : Outcome) → length xs ≡ i → Met c f xs v → SeenIs r (Err m) p o → with_token v o ≡ First (number_of m) (i + 1)
met-refused c f xs i m r p (First k q) o l h g = absurd h
met-refused c f xs i m r p (All ds) (Read d) l h g = absurd g
met-refused c f xs i m r p (All ds) (Refused k) l h g = let y : length ds ≡ i = omega (arith, draws-length h.3, l) in rw (y, g)

tokens_append : (v : Verdict) (ts us : List (List ℕ)) → tokens_from v (ts ++ us) ≡ tokens_from (tokens_from v ts) us
unfolding tokens_from
tokens_append v [] us = refl
tokens_append v (t ∷ ts) us = tokens_append (with_token v (token_of t)) ts us

tokens-one : (v : Verdict) (ts : List (List ℕ)) (t : List ℕ) → tokens_from v (ts ++ (t ∷ [])) ≡ with_token (tokens_from v ts) (token_of t)
unfolding tokens_from
tokens-one v ts t = tokens_append v ts (t ∷ [])

-- what follows a refusal is not asked
tokens-stay : (n p : ℕ) (ts : List (List ℕ)) → tokens_from (First n p) ts ≡ First n p
unfolding tokens_from
tokens-stay n p [] = refl
tokens-stay n p (t ∷ ts) = tokens-stay n p ts

-- before the first
pub met-first : (c : Class) (f : Firsts) → f ≡ no_faults → Met c f [] (tokens_of [])
unfolding tokens_of tokens_from
met-first c f e = rw e (met-none c)

-- the bytes of tokens that are lent
abbrev pub texts : List (Bor (List ℕ)) → List (List ℕ)
texts ts = map (λ t. t.now) ts

-- a token in its place
pub in-place : (c : Class) (role : Role) (i : ℕ) (x : Result Looked Refusal) (p : Lists) (ts : List (Bor (List ℕ))) (d : Bor (List ℕ)) → d.now ≡ [] → role ≡ role_of c (i + 1) → SeenIs role x p (token_of (get_or ts i d).now)
    → SeenIs (role_of c (i + 1)) x p (token_of (get_or (texts ts) i []))
in-place c role i x p ts d z r w =
    let now : Bor (List ℕ) → List ℕ = λ t. t.now in
    let e : get_or (texts ts) i [] ≡ (get_or ts i d).now = subst (λ (y : List ℕ). get_or (map now ts) i y ≡ now (get_or ts i d)) z (get_or-map now ts i d) in
    rw (e, ← r) w

module _ (ts : List (List ℕ)) where
  module _ (c : Class) (x : Result Looked Refusal) (f : Firsts) (ns : List Shape) (l : List Lists) (p : Lists) (i n : ℕ) (z : n ≤ length ns) (b : n ≤ length l) (k : n ≤ length ts) (h : i < n)
      (w : SeenIs (role_of c (i + 1)) x p (token_of (get_or ts i [])))
      (m : Met c f (take i (items_of ns l)) (tokens_of (take i ts))) where
    next : take (i + 1) ts ≡ take i ts ++ (get_or ts i [] ∷ [])
    next = rw (add-one i) (take-suc ts i [] (omega arith))

    so-many : length (take i (items_of ns l)) ≡ i
    so-many = omega (arith, length-take i (items_of ns l), items-length ns l)

    -- a token that is refused is the first of all n
    pub met-stop : (a : Refusal) → x ≡ Err a → tokens_of (take n ts) ≡ First (number_of a) (i + 1)
    unfolding tokens_of
    met-stop a e =
        let y : with_token (tokens_from (All []) (take i ts)) (token_of (get_or ts i [])) ≡ First (number_of a) (i + 1) = met-refused c f (take i (items_of ns l)) i a (role_of c (i + 1)) p (tokens_from (All []) (take i ts)) (token_of (get_or ts i [])) so-many m (rw e at w) in
        let z : take n ts ≡ take (i + 1) ts ++ drop (i + 1) (take n ts) = sym (ap (λ (us : List (List ℕ)). us ++ drop (i + 1) (take n ts)) (sym (take-take (i + 1) n ts (omega arith))) ∙ take-append-drop (i + 1) (take n ts)) in
        ap (tokens_from (All [])) z ∙ tokens_append (All []) (take (i + 1) ts) (drop (i + 1) (take n ts))
        ∙ ap (λ (v : Verdict). tokens_from v (drop (i + 1) (take n ts))) (ap (tokens_from (All [])) next ∙ tokens-one (All []) (take i ts) (get_or ts i []) ∙ y) ∙ tokens-stay (number_of a) (i + 1) (drop (i + 1) (take n ts))

    module _ (a : Looked) (e : x ≡ Ok a) (ms : List Shape) (q : ms ≡ set ns i a.shape) where
      -- a turn: the shape of the token's chain is kept, and its lists are laid into their place
      pub met_next : (g : Firsts) → g ≡ with_reasons f a.reasons (i + 1) → Met c g (take (i + 1) (items_of ms (set l i p))) (tokens_of (take (i + 1) ts))
      unfolding tokens_of
      met_next g y =
          let d : take (i + 1) (items_of (set ns i a.shape) (set l i p)) ≡ take i (items_of ns l) ++ (drawn_of a.shape p ∷ []) = rw (add-one i) (items-next i a.shape ns l p (omega arith) (omega arith)) in
          rw
          (y, q, next, d, tokens-one (All []) (take i ts) (get_or ts i []))
          (met-more c f (take i (items_of ns l)) i a p (tokens_from (All []) (take i ts)) (token_of (get_or ts i [])) so-many m (rw e at w))

      -- a turn with a chain that is refused for nothing: the faults stay
      pub met-clear : nothing_due a.reasons ≡ true → Met c f (take (i + 1) (items_of ms (set l i p))) (tokens_of (take (i + 1) ts))
      met-clear u = met_next f (faults-stay f a.reasons (i + 1) u)
