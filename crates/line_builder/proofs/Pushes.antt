-- Laws of the pushes: what each one adds, put together.
-- Assumes nothing.
use Prim.Native.Nat.{ℕ, suc, ◌+◌, ◌≤◌, ◌<◌, ◌^◌}
use native.Mathlib.Omega.{arith}
use mathlib.Core.Path.{◌≡◌, refl, sym, ap, ◌∙◌}
use mathlib.Core.Option.{Option, none, some}
use mathlib.Core.List.{List, [], ◌∷◌, ◌++◌, append-nil}
use lib.ListN.{length, set}
use lib.Seq.{take_all, set_out}
use borrow.Author.Tests.{eq-eqb, ne_eqb}
use Rattle.writer.specs.emit.Text.{Written}
use Rattle.writer.proofs.emit.Laws.{written-nil, written-append, written-length}
use Rattle.chain_record.specs.plain.Chain.{Chain}
use Rattle.reading_rules.specs.reading.Ascii.{ascii}
use Rattle.reading_rules.specs.reading.Piece.{show_labels, show_piece, show}
use Rattle.reading_rules.specs.reading.Template.{chain, item_pieces, next_label, template_pieces}
use Rattle.chain_rules.specs.declared.chain.Role.{Role}
use Rattle.chain_rules.specs.declared.chain.Role.TheVariants.{Slot, Acyl, Base}
use Rattle.chain_rules.specs.chain.Features.{floating}
use Rattle.chain_rules.specs.chain.Drawing.{variables, chain_drawn}
use Rattle.drawn_chain.specs.declared.drawable.Shape.{Shape}
use Rattle.drawn_chain.specs.declared.rooms.Lists.{Lists}
use Rattle.drawn_chain.specs.drawable.Drawn.{Drawn, drawn_of}
use Rattle.drawn_chain.specs.drawable.Chains.{Chains, part_of}
use Rattle.drawn_chain.proofs.drawable.Held.{held_more, held-full}
use Rattle.request_chains.specs.chain_shapes.Shapes.{chains_kept}
use Rattle.request_chains.specs.chain_shapes.Sn.{ShapeAt}
use Rattle.request_chains.proofs.chain_shapes.Sn.{chain-there}
use Rattle.chain_pieces.specs.branches.Text.{rows_in}
use Rattle.chain_indices.proofs.atoms.NumberLaws.{atoms-end-shift}
use Rattle.template_rules.specs.Drawn as request
use Rattle.template_rules.specs.Drawn.{site_of, atoms_after, chain_item, slot_oxygen}
use Rattle.template_rules.specs.Written.{indices_of}
use Rattle.line_builder.specs.declared.Atoms.{Atoms}
use Rattle.line_builder.specs.declared.Variables.{Variables}
use Rattle.line_builder.specs.declared.Labels.{Labels}
use Rattle.placement.specs.declared.chain_notes.Placed.{Placed}
use Rattle.line_builder.specs.declared.Builder.{Builder}
use Rattle.placement.specs.chain_notes.Fragment.{Carries, Stands, site_or, noted, index_list, rows_of, gathered}
use Rattle.placement.proofs.chain_notes.Laws.{index-count}
use Rattle.placement.specs.declared.chain_strand.Strand.{Strand}
use Rattle.chain_indices.specs.declared.totals.Figures.{Figures}
use Rattle.chain_indices.specs.totals.Totals.{FiguresOf}
use Rattle.placement.specs.chain_strand.Strand.{indexes_of, Carried, StrandOf}
use Rattle.line_builder.specs.Build.{Rooms, rooms, laid_in, plus, in_labels, variables_for, placed_in, Counts, FixedPushed, placed_of, Settled, FitsChain, PushingAll, PushingChain, FragmentPushed, StandsSome, ChainPushed, InSlot, Bare, SlotFits, BareFits, SlotPushed, BarePushed}

-- ---- counts

pub variables-none : (n : ℕ) → n ≡ 0 → 0 ≡ variables_for n
variables-none n e = rw (eq-eqb n 0 e)

pub variables-some : (n : ℕ) → (n ≡ 0 → ⊥) → n + 1 ≡ variables_for n
variables-some n h = rw (ne_eqb n 0 h) (omega arith)

-- ---- a text of the template's own

pub fixed-is : {ts xs ys : List ℕ} {k next : ℕ} {b : Builder} {ns : Atoms} → b.used < 2 ^ 64 → b.rows < 2 ^ 64 → Written xs b.at ts ys next → ns.0 ≡ plus b.atoms.0 k
    → FixedPushed ts k xs b ys (record { at = next; atoms = ns; variables = b.variables; labels = b.labels; used = b.used; rows = b.rows; count = b.count })
fixed-is g h w e =
    record { text = w; atoms = e; variables = refl; labels = refl; used = record { is = refl; small = g }; rows = record { is = refl; small = h }; count = refl }

-- ---- the places after a chain, its counts, and where it stands

module _ {x : Strand} {f : Figures} {vf : ℕ} {ats : Atoms} {vs : Variables} {ls : Labels} {ns ms : List Placed} (b : Builder) (p : Placed) (size : length ns ≡ 4) (kept : ms ≡ set ns b.count p)
    (ea : ats.0 ≡ plus b.atoms.0 x.end) (ef : vf ≡ variables_for f.unlocated) (ev : vs.0 ≡ plus b.variables.0 vf) (el : ls.0 ≡ plus b.labels.0 f.rings) where
  pub settled-more : b.count < 4
      → Settled p x f ns b ms (record { at = x.at; atoms = ats; variables = vs; labels = ls; used = x.used; rows = x.rows; count = b.count + 1 })
  unfolding placed_in
  settled-more h =
      record { at = refl; used = refl; rows = refl; atoms = ea; variables = ev ∙ ap (λ (n : ℕ). plus b.variables.0 n) ef; labels = el; placed = rw kept (held_more ns b.count 4 size p h) }

  pub settled-full : 4 ≤ b.count
      → Settled p x f ns b ms (record { at = x.at; atoms = ats; variables = vs; labels = ls; used = x.used; rows = x.rows; count = b.count })
  unfolding placed_in
  settled-full h =
      let same : set ns b.count p ≡ ns = set_out ns b.count p (rw size h) in
      record { at = refl; used = refl; rows = refl; atoms = ea; variables = ev ∙ ap (λ (n : ℕ). plus b.variables.0 n) ef; labels = el; placed = rw (kept, same) (held-full ns b.count 4 size p h) }

-- ---- a chain that has carbons

module _ {x : Drawn} {sn s m : ℕ} {r : Role} {xs ys : Rooms} {b q : Builder} {y : Strand} {f : Figures} where
  pub fragment-pushed : m ≡ in_labels b.labels.0 → StrandOf r b.atoms.0 m x (laid_in xs) b.at b.used b.rows (laid_in ys) y → FiguresOf x f
      → Settled (placed_of b sn r s y f) y f xs.notes b ys.notes q → FragmentPushed x sn r s xs b ys q
  unfolding noted index_list rows_of gathered variables template_pieces
  fragment-pushed em w g u = record { sizes = record { text = w.sizes.text; index = w.sizes.index; rows = w.sizes.rows }; pushed = pushed }
    where
      pushed : (d : Chain) (k : Option ℕ) (n v l : ℕ) (ps : List Placed) → s ≡ site_or n k → Carries r d x → Counts b xs.notes n v l ps
          → FitsChain sn r k (some d) n v l ps → PushingChain sn r k (some d) n v l ps xs b ys q
      pushed d k n v l ps es a c fit =
          let here : request.Placed = record { sn = sn; role = r; chain = d; first = n; site = k; variable = v } in
          let same : m ≡ l = omega (arith, em, c.labels, fit.labels) in
          let z = w.laid d a in
          let e = g.are r d a.draws in
          let counted : y.count ≡ length (indices_of (record { sn = sn; role = r; chain = d; first = n; site = k; variable = v }))
          = z.numbers.counted ∙ (rw c.atoms (index-count (record { sn = sn; role = r; chain = d; first = n; site = k; variable = v }))) in
          let kept : placed_of b sn r s y f ≡ noted (record { sn = sn; role = r; chain = d; first = n; site = k; variable = v })
          = rw (c.atoms, es, c.variables, counted, e.acyl, e.unlocated, z.numbers.flexes, z.numbers.floating, e.total, e.floats) in
          record {
            text = rw (append-nil (item_pieces l (chain (chain_drawn r d))), ← same, u.at) z.text;
            index = rw (append-nil (indexes_of r d n), ← c.atoms, u.used) z.numbers.written;
            rows = rw (append-nil (rows_in (floating d)), u.rows) z.rows;
            counts =
                record {
                  atoms = omega (arith, u.atoms, c.atoms, z.numbers.ends, atoms-end-shift r d n, fit.atoms);
                  variables = omega (arith, u.variables, c.variables, ap variables_for e.unlocated, fit.variables);
                  labels = omega (arith, u.labels, c.labels, e.rings, fit.labels);
                  placed = u.placed ∙ rw (c.placed, kept) (take_all 4 (ps ++ noted here ∷ []) fit.places);
                };
          }

-- ---- the chain of an sn of the request

module _ (m : ℕ) (hs : List Shape) (ls : List Lists) (x : Shape) (sn : ℕ) (r : Role) (s : ℕ) (at : ShapeAt m hs sn x) where
  -- none is pushed where it has no carbons
  pub chain-none : (xs is rs : List ℕ) (ns : List Placed) (b : Builder) → b.at < 2 ^ 64 → b.used < 2 ^ 64 → b.rows < 2 ^ 64 → x.carbon ≡ 0
      → ChainPushed (chains_kept m hs ls) sn r s (rooms xs is rs ns) b (rooms xs is rs ns) b
  unfolding gathered template_pieces show
  chain-none xs is rs ns b g h j e = record { sizes = record { text = refl; index = refl; rows = refl }; pushed = λ o k n v l ps es a. pushed o k n v l ps (a (drawn_of x (part_of sn ls)) (at.is ls)) }
    where
      pushed : (o : Option Chain) (k : Option ℕ) (n v l : ℕ) (ps : List Placed) → Stands r o (drawn_of x (part_of sn ls)) → Counts b ns n v l ps
          → FitsChain sn r k o n v l ps → PushingChain sn r k o n v l ps (rooms xs is rs ns) b (rooms xs is rs ns) b
      pushed none k n v l ps a c f =
          record {
            text = written-nil xs b.at g;
            index = written-nil is b.used h;
            rows = written-nil rs b.rows j;
            counts = record { atoms = c.atoms; variables = c.variables; labels = c.labels; placed = c.placed ∙ sym (append-nil ps) };
          }
      pushed (some d) k n v l ps a c f = absurd (omega (arith, e, a.some, a.draws.carbon))

  pub chain-some : {p : Lists} {xs ys : Rooms} {b q : Builder} → p ≡ part_of sn ls → (x.carbon ≡ 0 → ⊥) → FragmentPushed (drawn_of x p) sn r s xs b ys q
      → ChainPushed (chains_kept m hs ls) sn r s xs b ys q
  chain-some {p} {xs} {ys} {b} {q} e h w = record { sizes = w.sizes; pushed = λ o k n v l ps es a. pushed o k n v l ps es (a (drawn_of x p) (chain-there m hs sn x ls at e)) }
    where
      pushed : (o : Option Chain) (k : Option ℕ) (n v l : ℕ) (ps : List Placed) → s ≡ site_or n k → Stands r o (drawn_of x p) → Counts b xs.notes n v l ps
          → FitsChain sn r k o n v l ps → PushingChain sn r k o n v l ps xs b ys q
      pushed none k n v l ps es a c f = absurd (h a)
      pushed (some d) k n v l ps es a c f = w.pushed d k n v l ps es a c f

  -- where it has some, it is some chain
  pub chain-carried : {p : Lists} → p ≡ part_of sn ls → (x.carbon ≡ 0 → ⊥) → StandsSome r (chains_kept m hs ls) sn → Carried r (drawn_of x p)
  chain-carried {p} e h w = go w.chain (w.stands (drawn_of x p) (chain-there m hs sn x ls at e))
    where
      go : (o : Option Chain) → Stands r o (drawn_of x p) → Carried r (drawn_of x p)
      go none a = absurd (h a)
      go (some d) a = record { chain = d; carries = a }

-- ---- a slot

pub slot-some : {x : Chains} {sn : ℕ} {ns : List Placed} {b : Builder} → SlotFits x sn ns b → StandsSome Slot x sn
slot-some w = record { chain = w.chain; stands = w.fitting.stands }

pub placed-kept : (ns : List Placed) (p b : Builder) → p.count ≡ b.count → placed_in p ns ≡ placed_in b ns
unfolding placed_in
placed-kept ns p b e = rw e

after-le : (r : Role) (o : Option Chain) (m : ℕ) → m ≤ atoms_after r m o
after-le r none m = omega arith
after-le r (some d) m = omega (arith, atoms-end-shift r d m)

pub slot_pushed : {x : Chains} {sn s : ℕ} {xs ys zs is js rs ss : List ℕ} {ns ms : List Placed} {b p q : Builder} → length xs < 2 ^ 64 → FixedPushed (ascii "O") 1 xs b ys p
    → s ≡ b.atoms.0 → ChainPushed x sn Slot s (rooms ys is rs ns) p (rooms zs js ss ms) q → SlotPushed x sn (rooms xs is rs ns) b (rooms zs js ss ms) q
unfolding slot_oxygen template_pieces item_pieces next_label show show_piece show_labels ascii
slot_pushed {x} {sn} {s} {xs} {ys} {zs} {is} {js} {rs} {ss} {ns} {ms} {b} {p} {q} g w es u =
    record { sizes = record { text = u.sizes.text ∙ written-length w.text; index = u.sizes.index; rows = u.sizes.rows }; pushed = pushed }
  where
    pushed : (o : Option Chain) → InSlot x sn ns b o
        → PushingAll (slot_oxygen ∷ chain_item Slot o) sn Slot (some b.atoms.0) o (suc b.atoms.0) b.variables.0 b.labels.0 (placed_in b ns) (rooms xs is rs ns) b (rooms zs js ss ms) q
    pushed o f =
        let one : p.atoms.0 ≡ suc b.atoms.0 = omega (arith, w.atoms, f.fits.atoms, after-le Slot o (suc b.atoms.0)) in
        let here : Counts p ns (suc b.atoms.0) b.variables.0 b.labels.0 (placed_in b ns) =
        record { atoms = one; variables = ap (λ (a : Variables). a.0) w.variables; labels = ap (λ (a : Labels). a.0) w.labels; placed = placed-kept ns p b w.count } in
        let z = u.pushed o (some b.atoms.0) (suc b.atoms.0) b.variables.0 b.labels.0 (placed_in b ns) es f.stands here f.fits in
        record {
          text = written-append g w.text z.text;
          index = rw (← w.used.is) z.index;
          rows = rw (← w.rows.is) z.rows;
          counts = z.counts;
        }

-- ---- a chain that stands without an O

site-first : (r : Role) (n : ℕ) → site_or n (site_of r n) ≡ n
site-first Slot n = refl
site-first Acyl n = refl
site-first Base n = refl

pub bare-some : {x : Chains} {sn : ℕ} {r : Role} {ns : List Placed} {b : Builder} → BareFits x sn r ns b → StandsSome r x sn
bare-some w = record { chain = w.chain; stands = w.fitting.stands }

pub bare-pushed : {x : Chains} {sn s : ℕ} {r : Role} {xs ys : Rooms} {b q : Builder} → s ≡ b.atoms.0 → ChainPushed x sn r s xs b ys q → BarePushed x sn r xs b ys q
bare-pushed {x} {sn} {s} {r} {xs} {ys} {b} {q} es u = record { sizes = u.sizes; pushed = pushed }
  where
    here : Counts b xs.notes b.atoms.0 b.variables.0 b.labels.0 (placed_in b xs.notes)
    here = record { atoms = refl; variables = refl; labels = refl; placed = refl }

    pushed : (o : Option Chain) → Bare x sn r xs.notes b o
        → PushingAll (chain_item r o) sn r (site_of r b.atoms.0) o b.atoms.0 b.variables.0 b.labels.0 (placed_in b xs.notes) xs b ys q
    pushed o f =
        u.pushed o (site_of r b.atoms.0) b.atoms.0 b.variables.0 b.labels.0 (placed_in b xs.notes) (es ∙ sym (site-first r b.atoms.0)) f.stands here f.fits
