-- The chains of a request that was judged stand ready to be drawn.
-- Assumes nothing.
use Prim.Native.Nat.{ℕ, zero, suc, ◌+◌, ◌≤◌}
use native.Mathlib.Nat.{add-zero, add-suc, suc-add}
use native.Mathlib.Omega.{arith}
use mathlib.Core.Path.{◌≡◌, sym, ap, ◌∙◌}
use mathlib.Core.Bool.{true}
use mathlib.Core.List.{List, [], ◌∷◌}
use Rattle.chain_record.specs.plain.Chain.{Chain}
use Rattle.tail_grammar.specs.tail.Grammar.{is_tail, atoms_of_tail}
use Rattle.tail_grammar.proofs.tail.Atoms.{tail-part-atoms, tail-part-shows}
use Rattle.chain_rules.specs.chain.Drawing.{or_none}
use Rattle.drawn_chain.specs.drawable.Drawn.{Drawn}
use Rattle.drawn_chain.specs.drawable.Chains.{Chains, drawn_in}
use Rattle.template_rules.specs.declared.Class.{Class}
use Rattle.template_rules.specs.Template.{role_of, has_tail}
use Rattle.template_rules.specs.Drawn.{chain_at, unless_empty, nonempty, tail_part, placed}
use Rattle.template_rules.proofs.Placing.{AcceptsFrom}
use Rattle.template_rules.proofs.Tail.{tail-fits}
use Rattle.template_rules.proofs.Theorem.{Accepted}
use Rattle.request_chains.specs.chain_shapes.Sn.{drawn_at, IsDrawn, ChainAt}
use Rattle.placement.specs.chain_notes.Fragment.{Stands}
use Rattle.placement.proofs.chain_notes.Ready.{stands-carried, told}
use Rattle.class_templates.specs.Templates.{TailOf}
use Rattle.class_templates.specs.Classes.{StoodIn}
use Rattle.class_templates.proofs.Fits.{fits-class}
use Rattle.chain_rules.proofs.chain.Lists.{each_all}
use Rattle.class_lines.proofs.lines.Room.{places-most, index-room, carbons-few, rows-room}
use Rattle.judge.specs.Judged.{DrawsAll, none as no_chains, more, Drawing}
use Rattle.answers.specs.room.Ready.{Ready}

-- ---- each chain stands

nth-stands : {c : Class} {p : ℕ} {xs : List Drawn} {ds : List Chain} → DrawsAll c p xs ds → AcceptsFrom (role_of c) p ds → (i : ℕ) (f : Drawn) → IsDrawn (drawn_at (suc i) xs) f
    → Stands (role_of c (p + i)) (unless_empty (chain_at (suc i) ds)) f
unfolding chain_at drawn_at
nth-stands no_chains a i f h = h
nth-stands {c} {p} (more {x = x} {d} k r) a zero f h = rw (add-zero p, h) (stands-carried (role_of c p) d x a.0 k)
nth-stands {c} {p} (more {x = x} {d} {xs} {ds} k r) a (suc i) f h = rw (add-suc p i, ← suc-add p i) (nth-stands r a.1 i f h)

-- an sn is never 0
none-stands : (c : Class) (xs : List Drawn) (ds : List Chain) (f : Drawn) → IsDrawn (drawn_at zero xs) f → Stands (role_of c zero) (unless_empty (chain_at zero ds)) f
unfolding chain_at drawn_at
none-stands c [] [] f h = h
none-stands c [] (d ∷ ds) f h = h
none-stands c (x ∷ xs) [] f h = h
none-stands c (x ∷ xs) (d ∷ ds) f h = h

stood : (c : Class) (ds : List Chain) (x : Chains) → Drawing c ds x → AcceptsFrom (role_of c) 1 ds → StoodIn c ds x
unfolding nonempty
stood c ds x k a = record { stands = go }
  where
    go : (sn : ℕ) (f : Drawn) → ChainAt x sn f → Stands (role_of c sn) (nonempty sn ds) f
    go zero f h = none-stands c (drawn_in x) ds f h.is
    go (suc i) f h = let e : 1 + i ≡ suc i = omega arith in rw e at (nth-stands k.drawn a i f h.is)

-- ---- the tail

tail_of : (c : Class) (t : List ℕ) (ds : List Chain) (k : ℕ) → Accepted c t ds → (has_tail c ≡ true → is_tail t ≡ true) → k ≡ atoms_of_tail t → has_tail c ≡ true → TailOf t k
unfolding tail_part
tail_of c t ds k a h e q =
    let r = a.tail q in
    let same : tail_part t ≡ r.part = ap or_none r.is in
    record { shown = rw same (tail-part-shows t r.part r.is); size = rw same (tail-part-atoms t (h q) r.part r.is) ∙ sym e }

-- ---- all of it

pub ready : (c : Class) (t : List ℕ) (ds : List Chain) (k : ℕ) (x : Chains) → Accepted c t ds → (has_tail c ≡ true → is_tail t ≡ true) → Drawing c ds x → k ≡ atoms_of_tail t → Ready c t k x ds
ready c t ds k x a h d e =
    record {
      own = record { tail = tail_of c t ds k a h e; stood = stood c ds x d a.chains; fits = fits-class c t ds a.chains (λ q. (tail-fits t (a.tail q)).few) };
      told = told c t ds a;
      tokens = d.few;
      few = omega (arith, places-most c t ds a, d.counted);
      index = omega (arith, index-room c t ds a 255 (carbons-few c t ds a), d.counted);
      lists = λ m h. rw d.counted (index-room c t ds a m (each_all (λ p. p.chain.carbon ≤ m) (placed c t ds) h));
      rows = omega (arith, rows-room c t ds a, d.counted);
    }
