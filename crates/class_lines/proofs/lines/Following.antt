-- What is written after the text makes it the line.
-- Assumes nothing.
use Prim.Native.Nat.{ℕ, zero, suc, ◌≤◌}
use native.Mathlib.Nat.{zero-add}
use native.Mathlib.Omega.{arith}
use mathlib.Core.Path.{◌≡◌, refl, ap, ◌∙◌}
use mathlib.Core.Bool.{Bool}
use mathlib.Core.List.{List, [], ◌∷◌, ◌++◌, map}
use lib.ListN.{length, take, drop}
use lib.Seq.{sets-eq}
use Rattle.writer.specs.emit.Text.{Written}
use Rattle.writer.proofs.emit.Laws.{written-append}
use Rattle.chain_record.specs.plain.Chain.{Chain}
use Rattle.line_parts.specs.declared.shown.Site.{Site}
use Rattle.drawn_chain.specs.drawable.Chains.{Chains}
use Rattle.template_rules.specs.declared.Class.{Class}
use Rattle.template_rules.specs.Drawn.{placed, by_sn, sn_sites, labels, all_marks, all_sites, all_sums}
use Rattle.template_rules.specs.Written.{indices_of, text_of, line_of}
use Rattle.chain_rules.specs.chain.Lists.{Each}
use Rattle.placement.specs.declared.chain_notes.Placed.{Placed}
use Rattle.placement.specs.chain_notes.Fragment.{noted, rows_of, gathered, Told}
use Rattle.placement.proofs.chain_notes.Laws.{index-lists}
use Rattle.chain_lists.specs.declared.sn_sites.Sites.{Sites}
use Rattle.chain_lists.specs.listing.Sites.{sites_at, SitesHeld, all_site_list, SitesAre}
use Rattle.chain_lists.specs.listing.Order.{places_in, InOrder}
use Rattle.chain_lists.proofs.listing.SitesLaws.{sites-in-order, placed-sites}
use Rattle.chain_lists.specs.declared.rising.Rising.{Rising}
use Rattle.line_blocks.proofs.chain_marks.Told.{marks-told, sums-told, marked-sums}
use Rattle.line_blocks.proofs.chain_sites.Told.{sites-told}
use Rattle.line_blocks.proofs.blocks.Notes.{line-noted}
use Rattle.line_builder.specs.declared.Builder.{Builder}
use Rattle.line_builder.specs.Build.{Rooms, rooms, placed_in}
use Rattle.line_builder.specs.Line.{sites_in, Few, notes_after, Finished}
use Rattle.class_templates.specs.Classes.{Classed, ClassBuilt}
use Rattle.class_templates.proofs.Built.{Short}
use Rattle.class_lines.specs.lines.Line.{Writes, Writable, LineIs, LineBuilt}

-- ---- the sites

length-take-le : (n : ℕ) (l : List Site) → length (take n l) ≤ n
length-take-le zero l = omega arith
length-take-le (suc n) [] = omega arith
length-take-le (suc n) (x ∷ l) = omega (arith, length-take-le n l)

-- those of chains in order can be written
pub few-sites : (l : List Placed) (count : ℕ) (o : Rising) (r : Sites) → InOrder (take count l) o → SitesHeld (sites_at l (places_in o)) r → Few r
few-sites l count o r i h =
    let w = sites-in-order l count o r i h in
    record { count = omega (arith, w.count, length-take-le 4 (all_site_list (take count l))); digits = w.digits }

-- ---- what was written from the first place on, with room for all of it

written-front : {xs ys ts : List ℕ} {p : ℕ} → Written xs 0 ts ys p → length ts ≤ length xs → take (length ts) ys ≡ ts
written-front {xs} {ts = ts} w h = rw (w.elements, rw (zero-add (length ts)) at (sets-eq ts xs 0 (omega (arith, h)))) (go ts (drop (length ts) xs))
  where
    go : (l r : List ℕ) → take (length l) (l ++ r) ≡ l
    go [] r = refl
    go (x ∷ l) r = ap (λ (z : List ℕ). x ∷ z) (go l r)

-- ---- the line

-- the chains of a line are those of its class
pub line-classed : {c : Class} {t : List ℕ} {k : ℕ} {x : Chains} {xs : Rooms} → Writable c t k x xs → Classed c t k x
line-classed w = record { chains = w.chains; own = w.writes.own }

line-is : (c : Class) (swap : Bool) (t : List ℕ) (ds : List Chain) (s : Sites) (numbers rows : List ℕ) (n m : ℕ) → Each Told (placed c t ds)
    → SitesAre (all_site_list (map noted (placed c t ds))) s → take n numbers ≡ gathered indices_of (placed c t ds) → take m rows ≡ gathered rows_of (placed c t ds)
    → line_of c swap t ds ≡ text_of c t ds ++ notes_after swap (sites_in s) (map noted (placed c t ds)) numbers rows
unfolding notes_after line_of
line-is c swap t ds s numbers rows n m h w e f =
    rw (placed-sites c t ds s w, marks-told (placed c t ds) h, sites-told (placed c t ds) numbers rows n m h e f, sums-told (placed c t ds) h)
    (line-noted (text_of c t ds) (labels swap (sn_sites (by_sn (placed c t ds)))) (all_marks (placed c t ds)) (all_sites (placed c t ds)) (all_sums (placed c t ds)) (marked-sums (placed c t ds)))

-- THE LINE of a class: its text, and what follows it
pub line-built : {c : Class} {swap : Bool} {t : List ℕ} {k : ℕ} {x : Chains} {xs ys zs is js rs ss : List ℕ} {ns ms : List Placed} {b q : Builder} {o : Rising} {s : Sites} → Short (rooms xs is rs ns)
    → ClassBuilt c t k x (rooms xs is rs ns) (rooms ys js ss ms) b → InOrder (take b.count ms) o → SitesHeld (sites_at ms (places_in o)) s
    → Finished swap s js ss ms ys b zs q → LineBuilt c swap t k x (rooms xs is rs ns) (rooms zs js ss ms) (record { at = q.at; used = q.used; count = q.count; order = o; sites = s })
unfolding placed text_of placed_in
line-built {c} {swap} {t} {k} {x} {xs} {ys} {zs} {is} {js} {rs} {ss} {ns} {ms} {b} {q} {o} {s} g w i h f =
    record {
      sizes = record { text = f.size ∙ w.sizes.text; index = w.sizes.index; rows = w.sizes.rows };
      order = rw f.count i;
      sites = rw f.count sited;
      line = line;
    }
  where
    sited : SitesAre (all_site_list (take b.count ms)) s
    sited = sites-in-order ms b.count o s i h

    line : (ds : List Chain) → Writes c t k x (rooms xs is rs ns) ds → LineIs c swap t ds (rooms xs is rs ns) (rooms zs js ss ms) (record { at = q.at; used = q.used; count = q.count; order = o; sites = s })
    line ds m =
        let u = w.built ds m.own in
        let p = m.told in
        let own : Written is 0 (gathered indices_of (placed c t ds)) js b.used = rw (index-lists (placed c t ds) p) at u.index in
        let n : b.used ≡ length (gathered indices_of (placed c t ds)) = omega (arith, own.next, m.room.index, g.index) in
        let front : take (length (gathered indices_of (placed c t ds))) js ≡ gathered indices_of (placed c t ds) = written-front own m.room.index in
        let behind : take (length (gathered rows_of (placed c t ds))) ss ≡ gathered rows_of (placed c t ds) = written-front u.rows m.room.rows in
        let there : take b.count ms ≡ map noted (placed c t ds) = u.counts.placed in
        let after : Written ys b.at (notes_after swap (sites_in s) (map noted (placed c t ds)) js ss) zs q.at = rw there at f.text in
        let z = line-is c swap t ds s js ss (length (gathered indices_of (placed c t ds))) (length (gathered rows_of (placed c t ds))) p (rw there at sited) front behind in
        record {
          text = rw z (written-append g.text u.text after);
          chains = rw f.count there;
          used = f.used ∙ n;
          index = rw (f.used, n) front;
          indices = rw f.used own;
        }
