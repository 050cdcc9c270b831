-- The call: what is answered to a request that was judged, and the promise that is kept where it is accepted.
-- Assumes nothing.
use Prim.Native.Nat.{ℕ, ◌≤◌}
use native.Mathlib.Omega.{arith}
use mathlib.Core.Path.{◌≡◌, refl, sym, ap, ◌∙◌}
use mathlib.Core.Bool.{Bool, true, false, cond, false≢true}
use mathlib.Core.List.{List, [], ◌∷◌, ◌++◌, map}
use lib.ListN.{length, take, drop, length-map}
use borrow.Author.Tests.{not-false}
use Rattle.std.specs.Prelude.{Result, Ok, Err}
use Rattle.chain_record.specs.refusal.Refusal.{number_of as refusal_number}
use Rattle.chain_record.specs.plain.Chain.{Chain}
use Rattle.tail_grammar.specs.tail.Grammar.{is_tail}
use Rattle.drawn_chain.specs.declared.drawable.Shape.{Shape}
use Rattle.drawn_chain.specs.declared.rooms.Lists.{Lists}
use Rattle.request_chains.specs.chain_shapes.Shapes.{chains_kept}
use Rattle.template_rules.specs.declared.Class.{Class}
use Rattle.template_rules.specs.Template.{has_tail}
use Rattle.template_rules.specs.Drawn.{placed, by_sn, sn_sites}
use Rattle.template_rules.specs.Written.{line_of, index_of}
use Rattle.template_rules.specs.Promise.{Promise}
use Rattle.template_rules.proofs.Sorted.{length-sorted, sites-count}
use Rattle.chain_lists.proofs.rising.FourLaws.{four-held}
use Rattle.chain_lists.specs.listing.Sites.{no_site}
use Rattle.chain_lists.specs.listing.Lists.{no_list, list_of}
use Rattle.chain_lists.proofs.listing.PlacedLaws.{places-few}
use Rattle.template_rules.proofs.Theorem.{promise}
use Rattle.judge.specs.declared.Drawable as code_drawable
use Rattle.judge.specs.declared.Fault as code
use Rattle.judge.specs.Judged.{JudgedIs}
use Rattle.judge.specs.Verdict.{Verdict, Refused, Drawable, wrong_tail, verdict, tokens, is_refusal}
use Rattle.judge.proofs.Accepted.{judged-accepted, judged-fits, refused-number, answer-drawable, answer-refused}
use Rattle.answers.specs.declared.answer.Answer.{Answer}
use Rattle.answers.specs.answer.Answer.{site_of, refusal, acceptance, short, at_start, Answers}
use Rattle.answers.specs.room.Ready.{Readied}
use Rattle.drawing.specs.Draw.{ChainsDrawn}
use Rattle.forward.specs.Call.{Kept, Called}
use Rattle.forward.proofs.Ready.{ready}

-- ---- accepted

start-taken : (text xs : List ℕ) → take (length text) (at_start text xs) ≡ text
unfolding at_start
start-taken text xs = go text (drop (length text) xs)
  where
    go : (l r : List ℕ) → take (length l) (l ++ r) ≡ l
    go [] r = refl
    go (x ∷ l) r = ap (λ (z : List ℕ). x ∷ z) (go l r)

-- what is accepted is not short of room
number_of : (b : Bool) (c : Class) (swap : Bool) (t : List ℕ) (ds : List Chain) → (cond b (refusal 41 0) (acceptance c swap t ds)).number ≡ 0 → b ≡ false
unfolding acceptance
number_of true c swap t ds e = absurd (omega (arith, e))
number_of false c swap t ds e = refl

module _ (class t : List ℕ) (count : ℕ) (sn1 sn2 sn3 sn4 : List ℕ) where
  abbrev v : Verdict
  v = verdict class t count (tokens count sn1 sn2 sn3 sn4)

  kept_by : (c : Class) (ds : List Chain) (swap : Bool) (xs is ys js : List ℕ) (a : Answer) → v ≡ Drawable c ds → Answers (Drawable c ds) swap t xs is ys js a → a.number ≡ 0
      → Kept v swap t ys js a
  unfolding acceptance
  kept_by c ds swap xs is ys js a e h z =
      let room : short c swap t ds (length xs) (length is) ≡ false = number_of (short c swap t ds (length xs) (length is)) c swap t ds (sym (ap (λ (x : Answer). x.number) h.answer) ∙ z) in
      let is-accepted : a ≡ acceptance c swap t ds = rw room at h.answer in
      let long : a.length ≡ length (line_of c swap t ds) = ap (λ (x : Answer). x.length) is-accepted in
      let line : ys ≡ at_start (line_of c swap t ds) xs = rw room at h.line in
      let index : js ≡ at_start (index_of c t ds) is = rw room at h.index in
      let promised : Promise c swap t ds = promise c swap t ds (judged-accepted class t count sn1 sn2 sn3 sn4 c ds e) in
      let few : length (by_sn (placed c t ds)) ≤ 4 = omega (arith, length-sorted (placed c t ds), places-few c t ds) in
      record {
        class = c;
        chains = ds;
        judged = e;
        line = rw (long, line) (start-taken (line_of c swap t ds) xs);
        lists = rw index (start-taken (index_of c t ds) is);
        listed = rw is-accepted (four-held no_list (map list_of (by_sn (placed c t ds))) (omega (arith, length-map (by_sn (placed c t ds)) list_of, few)));
        sites = rw (is-accepted, ← promised.sites) (four-held no_site (map site_of (sn_sites (by_sn (placed c t ds)))) (omega (arith, length-map (sn_sites (by_sn (placed c t ds))) site_of, sites-count (by_sn (placed c t ds)), few)));
        promise = promised;
      }

  right-tail : (c : Class) (ds : List Chain) → v ≡ Drawable c ds → has_tail c ≡ true → is_tail t ≡ true
  unfolding wrong_tail
  right-tail c ds e q = not-false (is_tail t) (rw q at (judged-fits class t count (tokens count sn1 sn2 sn3 sn4) c ds e).tail)

  -- a refusal's number is not 0
  some_number : (m p : ℕ) → v ≡ Refused m p → m ≡ 0 → ⊥
  unfolding is_refusal
  some_number m p e z =
      let h : is_refusal m ≡ true = (refused-number class t count sn1 sn2 sn3 sn4 m p e).0 in
      let g : false ≡ true = rw z at h in
      false≢true g

  pub called-refused : {swap : Bool} {xs is : List ℕ} {a : Answer} (j : Result code_drawable.Drawable code.Fault) (f : code.Fault) (ns : List Shape) (l : List Lists) → JudgedIs j count ns l t v → j ≡ Err f
      → a ≡ refusal (refusal_number f.refusal) f.place → Called v swap t xs is xs is a
  called-refused {swap} {xs} {is} {a} j f ns l h k e =
      let w : v ≡ Refused (refusal_number f.refusal) f.place = answer-refused f count ns l t v (rw k at h) in
      record {
        answers = rw w (record { answer = e; line = refl; index = refl });
        kept = λ z. absurd (some_number (refusal_number f.refusal) f.place w (sym (ap (λ (x : Answer). x.number) e) ∙ z));
      }

  -- what was judged is ready to be drawn
  module _ (j : Result code_drawable.Drawable code.Fault) (r : code_drawable.Drawable) (ns : List Shape) (l : List Lists) (h : JudgedIs j count ns l t v) (n : j ≡ Ok r) where
    pub judged-ready : Readied r.class t r.tail_atoms (chains_kept count ns l)
    judged-ready =
        let d = answer-drawable r count ns l t v (rw n at h) in
        let accepted = judged-accepted class t count sn1 sn2 sn3 sn4 r.class d.chains d.is in
        record { chains = d.chains; ready = ready r.class t d.chains r.tail_atoms (chains_kept count ns l) accepted (right-tail r.class d.chains d.is) d.drawing d.atoms }

  pub called-drawn : {swap : Bool} {xs is ys js : List ℕ} {a : Answer} (j : Result code_drawable.Drawable code.Fault) (r : code_drawable.Drawable) (ns : List Shape) (l : List Lists) → JudgedIs j count ns l t v → j ≡ Ok r
      → ChainsDrawn r.class swap t r.tail_atoms (chains_kept count ns l) xs is ys js a → Called v swap t xs is ys js a
  unfolding judged-ready
  called-drawn {swap} {xs} {is} {ys} {js} {a} j r ns l h n g =
      let d = answer-drawable r count ns l t v (rw n at h) in
      let w : Answers (Drawable r.class d.chains) swap t xs is ys js a = g.drawn d.chains (judged-ready j r ns l h n).ready in
      record {
        answers = rw d.is w;
        kept = kept_by r.class d.chains swap xs is ys js a d.is w;
      }
