-- Laws of the sn sites.
-- Assumes nothing.
use Prim.Native.Nat.{ℕ, zero, suc, ◌+◌, ◌≤◌, ◌<◌, min}
use native.Mathlib.Omega.{arith}
use mathlib.Core.Path.{◌≡◌, refl, sym, ap, ap₂, ◌∙◌}
use mathlib.Core.Bool.{Bool, true, false, cond, false≢true}
use mathlib.Core.Option.{Option}
use mathlib.Core.List.{List, [], ◌∷◌, ◌++◌, append-nil, map, map-append}
use lib.Dec.{eqb, ltb}
use lib.ListN.{length, take, get_or, set, replicate, length-append, length-map, length-take}
use lib.Seq.{take_all}
use borrow.Author.Tests.{lt-ltb, eqb-true}
use Rattle.chain_record.specs.plain.Chain.{Chain}
use Rattle.reading_rules.specs.reading.Molecule.{At, at, notes_of}
use Rattle.reading_rules.specs.reading.Line.{below}
use Rattle.reading_rules.proofs.reading.PartingLaws.{All, and_left, and_right, and_both}
use Rattle.chain_rules.specs.declared.chain.Role.{Role}
use Rattle.chain_rules.specs.declared.chain.Role.TheVariants.{Slot, Acyl, Base}
use Rattle.chain_rules.specs.chain.Lists.{only, Each}
use Rattle.chain_rules.proofs.chain.Lists.{each_all, all_append}
use Rattle.line_parts.specs.declared.shown.Site.{Site}
use Rattle.line_parts.specs.shown.Notes.{labels_of, Digits}
use Rattle.template_rules.specs.declared.Class.{Class}
use Rattle.template_rules.specs.Drawn as request
use Rattle.template_rules.specs.Drawn.{site_of, placed, by_sn, site_note, sn_sites}
use Rattle.template_rules.proofs.Sorted.{all-sorted}
use Rattle.placement.specs.declared.chain_notes.Placed.{Placed}
use Rattle.placement.specs.chain_notes.Fragment.{noted, site_or, gathered}
use Rattle.placement.proofs.chain_notes.Laws.{gathered-append}
use Rattle.chain_lists.specs.declared.rising.Rising.{Rising}
use Rattle.chain_lists.specs.rising.Four.{Filled}
use Rattle.chain_lists.specs.rising.Order.{sns_of, places_of, places_from, picked, places_in, InOrder}
use Rattle.chain_lists.proofs.rising.FourLaws.{filled_none, added_more, filled-held}
use Rattle.chain_lists.proofs.rising.OrderLaws.{take_places, sns-length, from-few}
use Rattle.chain_lists.proofs.rising.Picked.{picked-append, picked_none, picked-take, picked-here, picked-past, picked_of, picked-few, gathered-one, from-within}
use Rattle.chain_lists.proofs.rising.Sorted.{picked-sorted}
use Rattle.chain_lists.specs.declared.sn_sites.Sites.{Sites}
use Rattle.chain_lists.specs.sn_sites.Sites.{no_site, site_in, has_site, site_list, sites_at, all_site_list, SitesAre, SitesHeld}
use Rattle.chain_lists.proofs.sn_sites.PlacedLaws.{Sited, sns-told, places-few, sites-placed}

-- what is counted are the sites, as far as there is room
pub sites-held : {l : List Site} {r : Sites} → SitesAre l r → take r.count r.items ≡ take 4 l
sites-held {l} {r} s = filled-held no_site l r.count r.items s.count s.items

-- ---- the first of some places

pub first_alone : (l : List ℕ) → 0 < length l → take 1 l ≡ get_or l 0 0 ∷ []
first_alone [] h = absurd (omega arith)
first_alone (x ∷ l) h = refl

pub first_two : (l : List ℕ) → 1 < length l → take 2 l ≡ get_or l 0 0 ∷ get_or l 1 0 ∷ []
first_two [] h = absurd (omega arith)
first_two (x ∷ []) h = absurd (omega arith)
first_two (x ∷ y ∷ l) h = refl

-- ---- the site of a chain

module _ (p : Placed) where
  site-own : has_site p.role ≡ true → site_list p ≡ record { sn = p.sn; atom = p.site } ∷ []
  unfolding site_list
  site-own h = go p.role h
    where
      go : (r : Role) → has_site r ≡ true → site_in r (record { sn = p.sn; atom = p.site }) ≡ record { sn = p.sn; atom = p.site } ∷ []
      go Slot e = refl
      go Acyl e = refl
      go Base e = absurd (false≢true e)

  site-none : has_site p.role ≡ false → site_list p ≡ []
  unfolding site_list
  site-none h = go p.role h
    where
      go : (r : Role) → has_site r ≡ false → site_in r (record { sn = p.sn; atom = p.site }) ≡ []
      go Slot e = absurd (false≢true (sym e))
      go Acyl e = absurd (false≢true (sym e))
      go Base e = refl

-- ---- each sn is a digit

digits_append : (a b : List Site) → Digits a → Digits b → Digits (a ++ b)
unfolding below notes_of labels_of
digits_append [] b h g = g
digits_append (s ∷ a) b h g =
    and_both (ltb s.sn 10) (below 10 (notes_of (labels_of (a ++ b)))) (and_left (ltb s.sn 10) (below 10 (notes_of (labels_of a))) h)
    (digits_append a b (and_right (ltb s.sn 10) (below 10 (notes_of (labels_of a))) h) g)

digits-take : (n : ℕ) (a : List Site) → Digits a → Digits (take n a)
unfolding below notes_of labels_of
digits-take zero a h = refl
digits-take (suc n) [] h = h
digits-take (suc n) (s ∷ a) h =
    and_both (ltb s.sn 10) (below 10 (notes_of (labels_of (take n a)))) (and_left (ltb s.sn 10) (below 10 (notes_of (labels_of a))) h)
    (digits-take n a (and_right (ltb s.sn 10) (below 10 (notes_of (labels_of a))) h))

digit-one : (p : Placed) → p.sn < 10 → Digits (site_list p)
unfolding site_list below notes_of labels_of
digit-one p h = go p.role
  where
    go : (r : Role) → Digits (site_in r (record { sn = p.sn; atom = p.site }))
    go Slot = and_both (ltb p.sn 10) true (lt-ltb p.sn 10 h) refl
    go Acyl = and_both (ltb p.sn 10) true (lt-ltb p.sn 10 h) refl
    go Base = refl

digits-gathered : (ps : List Placed) → All (λ (p : Placed). p.sn < 10) ps → Digits (gathered site_list ps)
unfolding gathered below notes_of labels_of
digits-gathered [] h = refl
digits-gathered (p ∷ ps) h = digits_append (site_list p) (gathered site_list ps) (digit-one p h.0) (digits-gathered ps h.1)

-- the sns that are picked are those from 1 to 4
only-sn : (k : ℕ) (ps : List Placed) → k < 10 → All (λ (p : Placed). p.sn < 10) (only (λ (p : Placed). eqb p.sn k) ps)
unfolding only
only-sn k [] h = tt
only-sn k (p ∷ ps) h = go (eqb p.sn k) refl (only-sn k ps h)
  where
    go : (b : Bool) → eqb p.sn k ≡ b → All (λ (q : Placed). q.sn < 10) (only (λ (q : Placed). eqb q.sn k) ps)
        → All (λ (q : Placed). q.sn < 10) (cond b (p ∷ only (λ (q : Placed). eqb q.sn k) ps) (only (λ (q : Placed). eqb q.sn k) ps))
    go true e r = (omega (arith, eqb-true p.sn k e), r)
    go false e r = r

sns-from : (m k : ℕ) (ps : List Placed) → k + m ≤ 10 → All (λ (p : Placed). p.sn < 10) (picked ps (places_from k m (sns_of ps)))
unfolding places_from sns_of
sns-from zero k ps h = rw (picked_none ps) tt
sns-from (suc m) k ps h =
    rw (picked-append ps (places_of k 0 (sns_of ps)) (places_from (suc k) m (sns_of ps)), picked_of (λ (p : Placed). p.sn) k ps)
    (all_append (λ (p : Placed). p.sn < 10) (only (λ (p : Placed). eqb p.sn k) ps) (picked ps (places_from (suc k) m (sns_of ps))) (only-sn k ps (omega arith)) (sns-from m (suc k) ps (omega arith)))

digits-all : (ps : List Placed) → Digits (all_site_list ps)
unfolding all_site_list sites_at
digits-all ps = digits-gathered (picked ps (places_from 1 4 (sns_of ps))) (sns-from 4 1 ps (omega arith))

-- ---- the sites of all chains

module _ (ps : List Placed) (l : List ℕ) (i : ℕ) where
  sites-added : (d : Placed) → length ps ≡ 4 → i < length l → get_or l i 0 < 4 → sites_at ps (take (i + 1) l) ≡ sites_at ps (take i l) ++ site_list (get_or ps (get_or l i 0) d)
  unfolding sites_at
  sites-added d k h g =
      let p : Placed = get_or ps (get_or l i 0) d in
      rw (picked-here ps l i d h (omega arith), gathered-append site_list (picked ps (take i l)) (p ∷ []), gathered-one site_list p) refl

  -- one more, which has a site
  pub sites-more : (q : ℕ) (xs : List Site) (d : Placed) (s : Site) (b : Bool) → length ps ≡ 4 → i < length l → get_or l i 0 < 4 → q < 4
      → Filled no_site (sites_at ps (take i l)) q xs → s ≡ record { sn = (get_or ps (get_or l i 0) d).sn; atom = (get_or ps (get_or l i 0) d).site } → b ≡ has_site (get_or ps (get_or l i 0) d).role → b ≡ true
      → Filled no_site (sites_at ps (take (i + 1) l)) (q + 1) (set xs q s)
  sites-more q xs d s b k h g w f z e t =
      let p : Placed = get_or ps (get_or l i 0) d in
      rw (sites-added d k h g, site-own p (sym e ∙ t), z) ((added_more no_site (record { sn = p.sn; atom = p.site }) q xs w).holds (sites_at ps (take i l)) f)

  -- one more, which has none
  pub sites-base : (q : ℕ) (xs : List Site) (d : Placed) (b : Bool) → length ps ≡ 4 → i < length l → get_or l i 0 < 4
      → Filled no_site (sites_at ps (take i l)) q xs → b ≡ has_site (get_or ps (get_or l i 0) d).role → b ≡ false → Filled no_site (sites_at ps (take (i + 1) l)) q xs
  sites-base q xs d b k h g f e t =
      rw (sites-added d k h g, site-none (get_or ps (get_or l i 0) d) (sym e ∙ t), append-nil (sites_at ps (take i l))) f

  pub sites-past : (q : ℕ) (xs : List Site) → length ps ≡ 4 → i < length l → 4 ≤ get_or l i 0 → Filled no_site (sites_at ps (take i l)) q xs
      → Filled no_site (sites_at ps (take (i + 1) l)) q xs
  unfolding sites_at
  sites-past q xs k h g f = rw (picked-past ps l i h (omega arith)) f

-- those of all places that count
pub sites-all : (ps : List Placed) (l : List ℕ) (i n q : ℕ) (xs : List Site) (count : ℕ) → length l ≡ 4 → n ≡ min count 4 → length (take n l) ≤ i → Filled no_site (sites_at ps (take i (take n l))) q xs
    → Filled no_site (sites_at ps (take count l)) q xs
sites-all ps l i n q xs count k e h f = rw (take_all i (take n l) h, take_places l 4 count n k e) at f

pub sites-first : (ps : List Placed) → Filled no_site (sites_at ps []) 0 (replicate 4 no_site)
unfolding sites_at gathered picked
sites-first ps = filled_none no_site no_site

-- ---- the site of one chain

module _ (ps : List Placed) (k : ℕ) where
  pub site-here : (d : Placed) (s : Site) (b : Bool) → length ps ≡ 4 → k < 4 → s ≡ record { sn = (get_or ps k d).sn; atom = (get_or ps k d).site } → b ≡ has_site (get_or ps k d).role → b ≡ true
      → Filled no_site (sites_at ps (k ∷ [])) 1 (s ∷ no_site ∷ no_site ∷ no_site ∷ [])
  site-here d s b m h z f g = sites-more ps (k ∷ []) 0 0 (replicate 4 no_site) d s b m (omega arith) h (omega arith) (sites-first ps) z f g

  pub site-lacks : (d : Placed) (b : Bool) → length ps ≡ 4 → k < 4 → b ≡ has_site (get_or ps k d).role → b ≡ false → Filled no_site (sites_at ps (k ∷ [])) 0 (replicate 4 no_site)
  site-lacks d b m h f g = sites-base ps (k ∷ []) 0 0 (replicate 4 no_site) d b m (omega arith) h (sites-first ps) f g

  pub site-past : length ps ≡ 4 → 4 ≤ k → Filled no_site (sites_at ps (k ∷ [])) 0 (replicate 4 no_site)
  site-past m h = sites-past ps (k ∷ []) 0 0 (replicate 4 no_site) m (omega arith) h (sites-first ps)

pub site-alone : (ps : List Placed) (l : List ℕ) (n count q : ℕ) (xs : List Site) → length l ≡ 4 → n ≡ min count 4 → n ≡ 1 → Filled no_site (sites_at ps (get_or l 0 0 ∷ [])) q xs
    → Filled no_site (sites_at ps (take count l)) q xs
site-alone ps l n count q xs k e f h = rw (← take_places l 4 count n k e, f, first_alone l (omega arith)) h

-- ---- the sites of two chains

module _ (ps : List Placed) (a b : ℕ) (d : Placed) (u v : Bool) where
  pub sites-both : (s t : Site) → length ps ≡ 4 → a < 4 → b < 4 → s ≡ record { sn = (get_or ps a d).sn; atom = (get_or ps a d).site } → t ≡ record { sn = (get_or ps b d).sn; atom = (get_or ps b d).site }
      → u ≡ has_site (get_or ps a d).role → v ≡ has_site (get_or ps b d).role → u ≡ true → v ≡ true → Filled no_site (sites_at ps (a ∷ b ∷ [])) 2 (s ∷ t ∷ no_site ∷ no_site ∷ [])
  sites-both s t m h g x y i j k l =
      sites-more ps (a ∷ b ∷ []) 1 1 (s ∷ no_site ∷ no_site ∷ no_site ∷ []) d t v m (omega arith) g (omega arith) (site-here ps a d s u m h x i k) y j l

  pub sites-lower : (s : Site) → length ps ≡ 4 → a < 4 → b < 4 → s ≡ record { sn = (get_or ps a d).sn; atom = (get_or ps a d).site }
      → u ≡ has_site (get_or ps a d).role → v ≡ has_site (get_or ps b d).role → u ≡ true → v ≡ false → Filled no_site (sites_at ps (a ∷ b ∷ [])) 1 (s ∷ no_site ∷ no_site ∷ no_site ∷ [])
  sites-lower s m h g x i j k l =
      sites-base ps (a ∷ b ∷ []) 1 1 (s ∷ no_site ∷ no_site ∷ no_site ∷ []) d v m (omega arith) g (site-here ps a d s u m h x i k) j l

  pub sites-upper : (t : Site) → length ps ≡ 4 → a < 4 → b < 4 → t ≡ record { sn = (get_or ps b d).sn; atom = (get_or ps b d).site }
      → u ≡ has_site (get_or ps a d).role → v ≡ has_site (get_or ps b d).role → u ≡ false → v ≡ true → Filled no_site (sites_at ps (a ∷ b ∷ [])) 1 (t ∷ no_site ∷ no_site ∷ no_site ∷ [])
  sites-upper t m h g y i j k l =
      sites-more ps (a ∷ b ∷ []) 1 0 (replicate 4 no_site) d t v m (omega arith) g (omega arith) (site-lacks ps a d u m h i k) y j l

  pub sites-neither : length ps ≡ 4 → a < 4 → b < 4
      → u ≡ has_site (get_or ps a d).role → v ≡ has_site (get_or ps b d).role → u ≡ false → v ≡ false → Filled no_site (sites_at ps (a ∷ b ∷ [])) 0 (replicate 4 no_site)
  sites-neither m h g i j k l =
      sites-base ps (a ∷ b ∷ []) 1 0 (replicate 4 no_site) d v m (omega arith) g (site-lacks ps a d u m h i k) j l

pub sites-pair : (ps : List Placed) (l : List ℕ) (n count q : ℕ) (xs : List Site) → length l ≡ 4 → n ≡ min count 4 → n ≡ 2 → Filled no_site (sites_at ps (get_or l 0 0 ∷ get_or l 1 0 ∷ [])) q xs
    → Filled no_site (sites_at ps (take count l)) q xs
sites-pair ps l n count q xs k e f h = rw (← take_places l 4 count n k e, f, first_two l (omega arith)) h

-- the sites of the chains that are in order
pub sites-in-order : (l : List Placed) (count : ℕ) (o : Rising) (r : Sites) → InOrder (take count l) o → SitesHeld (sites_at l (places_in o)) r → SitesAre (all_site_list (take count l)) r
unfolding all_site_list sites_at
sites-in-order l count o r i h =
    let ps : List Placed = take count l in
    let ks : List ℕ = places_from 1 4 (sns_of ps) in
    let same : picked ps ks ≡ picked l ks = picked-take count l ks (from-within count 4 1 (sns_of ps) (omega (arith, sns-length ps, length-take count l))) in
    let f : SitesHeld (all_site_list ps) r = rw (i.held, ← same) at h in
    record {
      count = f.count;
      items = f.items;
      digits = rw (filled-held no_site (all_site_list ps) r.count r.items f.count f.items) (digits-take 4 (all_site_list ps) (digits-all ps));
    }

-- ---- the labels are those of the chains

labels-one : (p : request.Placed) → Sited p → labels_of (site_list (noted p)) ≡ site_note p.site p.sn
unfolding labels_of site_list noted
labels-one p h = go p.role h
  where
    go : (r : Role) → p.site ≡ site_of r (site_or p.first p.site) → labels_of (site_in r (record { sn = p.sn; atom = site_or p.first p.site })) ≡ site_note p.site p.sn
    go Slot e = sym (ap (λ (o : Option ℕ). site_note o p.sn) e)
    go Acyl e = sym (ap (λ (o : Option ℕ). site_note o p.sn) e)
    go Base e = sym (ap (λ (o : Option ℕ). site_note o p.sn) e)

labels_append : (a b : List Site) → labels_of (a ++ b) ≡ labels_of a ++ labels_of b
unfolding labels_of
labels_append a b = map-append (λ (s : Site). at s.atom s.sn) a b

labels-gathered : (ps : List request.Placed) → All Sited ps → labels_of (gathered site_list (map noted ps)) ≡ sn_sites ps
unfolding gathered sn_sites labels_of
labels-gathered [] h = refl
labels-gathered (p ∷ ps) h =
    labels_append (site_list (noted p)) (gathered site_list (map noted ps))
    ∙ ap₂ (λ (a b : List (At ℕ)). a ++ b) (labels-one p h.0) (labels-gathered ps h.1)

-- THE SN SITES of chains with sn 1 to 4, each with the site of its role
pub sites-told : (ps : List request.Placed) → Each (λ p. (1 ≤ p.sn) × (p.sn ≤ 4)) ps → Each Sited ps → labels_of (all_site_list (map noted ps)) ≡ sn_sites (by_sn ps)
unfolding all_site_list sites_at
sites-told ps h g =
    ap (λ (l : List Placed). labels_of (gathered site_list l)) (picked-sorted noted (map noted ps) ps (each_all (λ (p : request.Placed). (1 ≤ p.sn) × (p.sn ≤ 4)) ps h) (take_all (length ps) (map noted ps) (omega (arith, length-map ps noted))))
    ∙ labels-gathered (by_sn ps) (all-sorted Sited ps (each_all Sited ps g))

-- ---- the sites of a request

site-one : (p : Placed) → length (site_list p) ≤ 1
unfolding site_list
site-one p = go p.role
  where
    go : (r : Role) → length (site_in r (record { sn = p.sn; atom = p.site })) ≤ 1
    go Slot = omega arith
    go Acyl = omega arith
    go Base = omega arith

gathered-few : (ps : List Placed) → length (gathered site_list ps) ≤ length ps
unfolding gathered
gathered-few [] = omega arith
gathered-few (p ∷ ps) = omega (arith, length-append (site_list p) (gathered site_list ps), site-one p, gathered-few ps)

-- there is room for all of them
pub sites-few : (ps : List Placed) → length (all_site_list ps) ≤ length ps
unfolding all_site_list sites_at
sites-few ps =
    omega
    (arith, gathered-few (picked ps (places_from 1 4 (sns_of ps))), picked-few ps (places_from 1 4 (sns_of ps)), from-few (sns_of ps), sns-length ps)

pub placed-sites : (c : Class) (t : List ℕ) (ds : List Chain) (r : Sites) → SitesAre (all_site_list (map noted (placed c t ds))) r
    → labels_of (take r.count r.items) ≡ sn_sites (by_sn (placed c t ds))
placed-sites c t ds r s =
    let few : length (all_site_list (map noted (placed c t ds))) ≤ 4 =
    omega (arith, sites-few (map noted (placed c t ds)), length-map (placed c t ds) noted, places-few c t ds) in
    ap labels_of (sites-held s ∙ take_all 4 (all_site_list (map noted (placed c t ds))) few)
    ∙ sites-told (placed c t ds) (sns-told c t ds) (sites-placed c t ds)
