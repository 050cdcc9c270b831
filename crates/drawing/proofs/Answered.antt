-- What is answered, where a line was built.
-- Assumes nothing.
use Prim.Native.Nat.{ℕ, ◌≤◌, ◌<◌, ◌^◌}
use native.Mathlib.Nat.{zero-add}
use native.Mathlib.Omega.{arith}
use mathlib.Core.Path.{◌≡◌, refl, ap, ap₂, ◌∙◌}
use mathlib.Core.Bool.{Bool, true, false}
use mathlib.Core.List.{List, [], ◌∷◌, map}
use lib.ListN.{length, length-take, length-map}
use lib.Seq.{sets, sets-eq, take_all}
use Rattle.writer.specs.emit.Text.{Written}
use Rattle.chain_record.specs.plain.Chain.{Chain}
use Rattle.line_parts.specs.declared.shown.Site.{Site}
use Rattle.line_parts.specs.shown.Notes.{labels_of}
use Rattle.template_rules.specs.declared.Class.{Class}
use Rattle.template_rules.specs.Drawn.{placed, by_sn, sn_sites}
use Rattle.template_rules.specs.Written.{line_of, index_of}
use Rattle.placement.specs.declared.chain_notes.Placed.{Placed}
use Rattle.placement.specs.chain_notes.Fragment.{noted}
use Rattle.placement.proofs.chain_notes.Ready.{sns-few}
use Rattle.chain_lists.specs.declared.rising.Rising.{Rising}
use Rattle.chain_lists.specs.rising.Order.{places_in, picked}
use Rattle.chain_lists.proofs.rising.Picked.{picked-few}
use Rattle.chain_lists.specs.declared.listing.Listed.{Listed}
use Rattle.chain_lists.specs.declared.listing.Lists.{Lists}
use Rattle.chain_lists.specs.declared.sn_sites.Sites.{Sites}
use Rattle.chain_lists.specs.listing.Lists.{list_of, list_in, lists_at, ListsHeld}
use Rattle.chain_lists.specs.listing.Sites.{all_site_list, SitesAre}
use Rattle.chain_lists.proofs.listing.PlacedLaws.{sns-told, places-few, sites-placed}
use Rattle.chain_lists.proofs.listing.ListsLaws.{lists-told}
use Rattle.chain_lists.proofs.listing.SitesLaws.{sites-told, sites-few}
use Rattle.chain_lists.specs.indices.Index.{indices_at}
use Rattle.chain_lists.proofs.indices.IndexLaws.{indices-told}
use Rattle.judge.specs.Verdict.{Drawable}
use Rattle.answers.specs.declared.answer.Answer.{Answer}
use Rattle.answers.specs.answer.Answer.{lists_of, sites_of, refusal, site_of, acceptance, short, at_start, Answers}
use Rattle.answers.proofs.room.Laws.{line-room, index-room}
use Rattle.drawing.specs.Built.{Built}

-- ---- 41: nothing is altered

pub short-answer : (c : Class) (swap : Bool) (t : List ℕ) (ds : List Chain) {xs is : List ℕ} {a : Answer} → short c swap t ds (length xs) (length is) ≡ true → a ≡ refusal 41 0
    → Answers (Drawable c ds) swap t xs is xs is a
short-answer c swap t ds e h = record { answer = h ∙ rw e; line = rw e; index = rw e }

-- ---- the lists and the sites

-- four places hold up to four
four-lists : (l : List Listed) (r : Lists) → length l ≤ 4 → ListsHeld l r → r ≡ lists_of l
four-lists l r h a = ap₂ (λ (n : ℕ) (x : List Listed). record { count = n; items = x }) (a.count ∙ ap (λ (x : List Listed). length x) (take_all 4 l h)) a.items

four-sites : (l : List Site) (r : Sites) → length l ≤ 4 → SitesAre l r → r ≡ sites_of l
four-sites l r h a = ap₂ (λ (n : ℕ) (x : List Site). record { count = n; items = x }) (a.count ∙ ap (λ (x : List Site). length x) (take_all 4 l h)) a.items

-- a site and its label say the same
site-labels : (l : List Site) → map site_of (labels_of l) ≡ l
unfolding labels_of
site-labels [] = refl
site-labels (x ∷ l) = ap (λ (r : List Site). x ∷ r) (site-labels l)

-- no more chains are listed than there are places
lists-few : (l : List Placed) (o : Rising) → o.count ≤ 4 → length (lists_at l (places_in o)) ≤ 4
unfolding lists_at
lists-few l o h = omega (arith, length-map (picked l (places_in o)) list_in, picked-few l (places_in o), length-take o.count o.items)

-- ---- the writing

-- a text stored from the first place on, with room for all of it
at-start : (xs ts : List ℕ) {ys : List ℕ} → ys ≡ sets xs 0 ts → length ts ≤ length xs → ys ≡ at_start ts xs
unfolding at_start
at-start xs ts w h = w ∙ (rw (zero-add (length ts)) at (sets-eq ts xs 0 (omega (arith, h))))

-- ---- the answers

module _ {c : Class} {swap : Bool} {t : List ℕ} {ds : List Chain} {vs zs : List ℕ} {end count : ℕ} {l : List Placed} {o : Rising} {z : Sites} {numbers : List ℕ} {used : ℕ}
    (b : Built c swap t ds vs zs end count l o z numbers used) where
  lists-is : lists_at l (places_in o) ≡ map list_of (by_sn (placed c t ds))
  lists-is = lists-told l count o (placed c t ds) (sns-few c t ds) b.places b.order

  lists-are : (ls : Lists) → ListsHeld (lists_at l (places_in o)) ls → ls ≡ lists_of (map list_of (by_sn (placed c t ds)))
  lists-are ls h = four-lists (lists_at l (places_in o)) ls (lists-few l o b.order.room) h ∙ ap lists_of lists-is

  sites-are : z ≡ sites_of (map site_of (sn_sites (by_sn (placed c t ds))))
  sites-are =
      let ps : List Placed = map noted (placed c t ds) in
      let few : length ps ≤ 4 = omega (arith, length-map (placed c t ds) noted, places-few c t ds) in
      rw (← sites-told (placed c t ds) (sns-told c t ds) (sites-placed c t ds), site-labels (all_site_list ps))
      (four-sites (all_site_list ps) z (omega (arith, few, sites-few ps)) (rw b.places at b.sites))

  indices-are : indices_at l numbers (places_in o) ≡ index_of c t ds
  unfolding index_of
  indices-are = indices-told l numbers count used o (placed c t ds) (sns-few c t ds) b.places b.index b.order

  -- accepted, where both slices have room
  pub answered : {xs is ys js : List ℕ} (ls : Lists) → length xs < 2 ^ 63 → short c swap t ds (length xs) (length is) ≡ false → ListsHeld (lists_at l (places_in o)) ls
      → js ≡ sets is 0 (index_of c t ds) → ys ≡ sets xs 0 (line_of c swap t ds)
      → Answers (Drawable c ds) swap t xs is ys js (record { number = 0; token = 0; length = end; lists = ls; sites = z })
  unfolding acceptance
  answered {xs} {is} ls u long k i w =
      let line : length (line_of c swap t ds) ≤ length xs = line-room c swap t ds (length xs) (length is) long in
      let index : length (index_of c t ds) ≤ length is = index-room c swap t ds (length xs) (length is) long in
      let at : end ≡ length (line_of c swap t ds) = omega (arith, u, line, b.text.next) in
      record {
        answer = rw (long, at, lists-are ls k, sites-are) refl;
        line = rw long (at-start xs (line_of c swap t ds) w line);
        index = rw long (at-start is (index_of c t ds) i index);
      }

  -- the indices as they are written by rising sn
  pub indices-written : {is js : List ℕ} {e : ℕ} → Written is 0 (indices_at l numbers (places_in o)) js e → js ≡ sets is 0 (index_of c t ds)
  indices-written {is} i = i.elements ∙ ap (λ (r : List ℕ). sets is 0 r) indices-are
