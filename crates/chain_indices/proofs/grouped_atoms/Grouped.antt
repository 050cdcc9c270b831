-- Laws of a chain whose groups stand in the order of their carbons and which has no ring: where its numbers stay, and that they are those of the
-- drawing. Assumes nothing.
use Prim.Native.Nat.{ℕ, suc, ◌+◌, ◌-◌, ◌*◌, ◌^◌, ◌≤◌, ◌<◌}
use native.Mathlib.Omega.{arith}
use mathlib.Core.Path.{◌≡◌, refl, sym, ap, ◌∙◌}
use mathlib.Core.Bool.{Bool, true, false}
use mathlib.Core.List.{List, [], ◌∷◌, ◌++◌, map-append}
use lib.ListN.{length, get_or}
use borrow.Author.Tests.{ne_eqb}
use Rattle.writer.specs.emit.Text.{Written}
use Rattle.writer.proofs.emit.Laws.{written-length}
use Rattle.chain_record.specs.declared.plain.Mod.{Mod}
use Rattle.reading_rules.specs.reading.Chain.{Carbon, parts_end, bridge_end, carbon_end}
use Rattle.chain_rules.specs.chain.Lists.{values_from}
use Rattle.chain_rules.specs.chain.Drawing.{branch_part, branches}
use Rattle.drawn_chain.specs.declared.drawable.Shape.{Shape}
use Rattle.drawn_chain.specs.declared.rooms.Lists.{Lists}
use Rattle.drawn_chain.specs.drawable.Drawn.{Drawn, drawn_of, bonds_drawn, groups_drawn, rings_drawn}
use Rattle.chain_text.specs.fragment.Text.{sitting, carbonyl_of, carbon_of}
use Rattle.carbons.specs.ByCarbon.{BondsBy}
use Rattle.carbons.specs.Tokens.{tokens, Rising, Grouped}
use Rattle.carbons.proofs.TokenLaws.{length-values, busy_list, grouped-tokens}
use Rattle.carbons.proofs.Left.{written-three}
use Rattle.writer.specs.index_runs.Index.{index_from, indices, ups}
use Rattle.writer.proofs.index_runs.Runs.{indices-small}
use Rattle.chain_indices.specs.carried_atoms.Counts.{Counts}
use Rattle.chain_indices.specs.atoms.Atoms.{literal_of, AtomsOf}
use Rattle.chain_indices.proofs.atoms.AtomLaws.{parts-plus, parts-end-append}
use Rattle.carbons.proofs.Bridges.{ringless-bridge}
use Rattle.chain_indices.proofs.atoms.NumberLaws.{literal-alone}
use Rattle.chain_indices.specs.declared.grouped_atoms.Reached.{Reached}
use Rattle.chain_indices.specs.grouped_atoms.Groups.{group_starts, group_end, group_carbon, Fits, GroupsNumbered}
use Rattle.chain_indices.proofs.grouped_atoms.Follows.{Follows, follows-one, Bears, Rest, groups-follow}

-- ---- the numbers of the groups

carbon-last : (k c : ℕ) (gs : List Mod) → Rising (k - 1) c gs → k ≤ c + 1 → group_carbon k gs ≤ c + 1
unfolding group_carbon
carbon-last k c [] r h = h
carbon-last k c (g ∷ gs) r h =
    let z : g.pos + 1 - 1 ≡ g.pos = omega arith in
    carbon-last (g.pos + 1) c gs (rw z r.2) (omega (arith, r.1))

end-grows : (n k : ℕ) (gs : List Mod) → n ≤ group_end n k gs
unfolding group_end
end-grows n k [] = omega arith
end-grows n k (g ∷ gs) = omega (arith, end-grows (n + (g.pos + 1 - k + (branch_part g.row).size)) (g.pos + 1) gs)

-- counted from another atom
end-shift : (first n k : ℕ) (gs : List Mod) → group_end (first + n) k gs ≡ first + group_end n k gs
unfolding group_end
end-shift first n k [] = refl
end-shift first n k (g ∷ gs) =
    let z : first + n + (g.pos + 1 - k + (branch_part g.row).size) ≡ first + (n + (g.pos + 1 - k + (branch_part g.row).size)) = omega arith in
    rw z (end-shift first (n + (g.pos + 1 - k + (branch_part g.row).size)) (g.pos + 1) gs)

-- their indices, where none is too large
starts-small : (first n k : ℕ) (gs : List Mod) → first + group_end n k gs ≤ 65535 → indices first (group_starts n k gs) ≡ group_starts (first + n) k gs
unfolding group_starts group_end
starts-small first n k [] h = refl
starts-small first n k (g ∷ gs) h =
    let a : ℕ = n + (g.pos + 1 - k + (branch_part g.row).size) in
    let z : first + n + (g.pos + 1 - k + (branch_part g.row).size) ≡ first + a = omega arith in
    let y : indices first (ups n (g.pos + 1 - k)) ≡ ups (first + n) (g.pos + 1 - k) = indices-small first n (g.pos + 1 - k) (omega (arith, end-grows a (g.pos + 1) gs)) in
    map-append (index_from first) (ups n (g.pos + 1 - k)) (group_starts a (g.pos + 1) gs) ∙ (rw (z, y, starts-small first a (g.pos + 1) gs h))

-- ---- its carbons

later-none : (acyl : Bool) (j : ℕ) → (j ≡ 1 → ⊥) → carbonyl_of acyl j ≡ []
unfolding carbonyl_of
later-none false j h = refl
later-none true j h = rw (ne_eqb j 1 h)

module _ (x : Drawn) (bs : List ℕ) (e : Grouped x) (b : BondsBy (bonds_drawn x) (rings_drawn x) x.carbon bs) where
  own : ℕ → Carbon
  own = carbon_of x.acyl bs (groups_drawn x)

  bonds-only : BondsBy (bonds_drawn x) [] x.carbon bs
  bonds-only = rw e.rings at b

  unbridged : (j : ℕ) → j ≤ x.carbon → (own j).bridge ≡ false
  unfolding own carbon_of
  unbridged j h = ne_eqb (get_or bs j 0) 79 (ringless-bridge j bonds-only e.room h)

  bears : Bears own x.carbon x.first (groups_drawn x)
  unfolding Bears own carbon_of
  bears k h g =
      let far : k ≡ 1 → ⊥ = λ q. omega (arith, e.first) in
      (rw (later-none x.acyl k far), unbridged k g)

  literal-are : (us : List ℕ) → literal_of x (tokens x.first x.carbon bs us) ≡ own x.first ∷ values_from own (suc x.first) (x.carbon - x.first)
  unfolding literal_of values_from own
  literal-are us =
      let z : suc x.carbon - x.first ≡ suc (x.carbon - x.first) = omega (arith, e.some) in
      rw z

  module _ (lead : ℕ) (c : Counts 1 (parts_end 0 (carbonyl_of x.acyl x.first)) lead) where
    first-end : carbon_end 0 (own x.first) ≡ parts_end (1 + lead) (branches (sitting x.first (groups_drawn x)))
    unfolding carbon_end bridge_end own carbon_of
    first-end =
        rw (unbridged x.first e.some, parts-end-append 1 (carbonyl_of x.acyl x.first) (branches (sitting x.first (groups_drawn x))), parts-plus 1 (carbonyl_of x.acyl x.first), ← c.is)

    -- what is written after the first index, and the atom after the last
    later : List ℕ
    later = group_starts (1 + lead) (suc x.first) (groups_drawn x) ++ ups (group_end (1 + lead) (suc x.first) (groups_drawn x)) (x.carbon + 1 - group_carbon (suc x.first) (groups_drawn x))

    total : ℕ
    total = group_end (1 + lead) (suc x.first) (groups_drawn x) + (x.carbon + 1 - group_carbon (suc x.first) (groups_drawn x))

    literal-follow : (us : List ℕ) → Follows 0 (literal_of x (tokens x.first x.carbon bs us)) (0 ∷ later) total
    unfolding Rest later total
    literal-follow us = rw (literal-are us) (follows-one (own x.first) first-end (groups-follow own x.carbon (groups_drawn x) (1 + lead) x.first e.some e.groups bears))

    later-small : (first : ℕ) → first + total ≤ 65535 → indices first (0 ∷ later)
        ≡ first ∷ (group_starts (first + (1 + lead)) (suc x.first) (groups_drawn x) ++ ups (group_end (first + (1 + lead)) (suc x.first) (groups_drawn x)) (x.carbon + 1 - group_carbon (suc x.first) (groups_drawn x)))
    unfolding later total index_from
    later-small first h =
        let gs : List Mod = groups_drawn x in
        let k : ℕ = suc x.first in
        let n : ℕ = x.carbon + 1 - group_carbon (suc x.first) (groups_drawn x) in
        let z : index_from first 0 ≡ first = omega arith in
        let y : indices first (group_starts (1 + lead) k gs) ≡ group_starts (first + (1 + lead)) k gs = starts-small first (1 + lead) k gs (omega arith) in
        let w : indices first (ups (group_end (1 + lead) k gs) n) ≡ ups (group_end (first + (1 + lead)) k gs) n
        = indices-small first (group_end (1 + lead) k gs) n (omega arith) ∙ ap (λ (m : ℕ). ups m n) (sym (end-shift first (1 + lead) k gs)) in
        rw (z, map-append (index_from first) (group_starts (1 + lead) k gs) (ups (group_end (1 + lead) k gs) n), y, w)

-- ---- where its numbers stay

pub chain-some : (x : Shape) (part : Lists) → Grouped (drawn_of x part) → x.first ≤ x.carbon
chain-some x part e = e.some

pub chain-room : (x : Shape) (part : Lists) → Grouped (drawn_of x part) → x.carbon ≤ 255
chain-room x part e = e.room

module _ (x : Shape) (part : Lists) {xs ys : List ℕ} {lead at p : ℕ} (first : ℕ) (e : Grouped (drawn_of x part)) (c : Counts 1 (parts_end 0 (carbonyl_of x.acyl x.first)) lead)
    (h : at + x.carbon ≤ length xs) (s : first < 40000) (l : length xs < 2 ^ 64) (w : Written xs at (first ∷ []) ys p) where
  one_on : p ≡ at + 1
  one_on = omega (arith, w.next, e.first, e.some)

  pub groups-fit : Fits (length ys) p (first + 1 + lead) (x.first + 1) (groups_drawn (drawn_of x part))
  groups-fit =
      let z : x.first + 1 - 1 ≡ x.first = omega arith in
      record {
        last = x.carbon;
        rising = rw z e.groups;
        some = omega arith;
        own = e.room;
        reach = omega (arith, e.some);
        fits = omega (arith, one_on, written-length w, e.first, e.some);
        small = omega (arith, c.few, e.room, e.few);
      }

  module _ {zs : List ℕ} (r : Reached) (v : GroupsNumbered (first + 1 + lead) (x.first + 1) (groups_drawn (drawn_of x part)) ys p zs r) where
    few-groups : length (groups_drawn (drawn_of x part)) ≤ 18
    few-groups = e.few

    pub carbon-within : r.carbon ≤ x.carbon + 1
    carbon-within =
        let z : x.first + 1 - 1 ≡ x.first = omega arith in
        let y : Rising (x.first + 1 - 1) x.carbon (groups_drawn (drawn_of x part)) = rw z e.groups in
        omega (arith, v.carbon, carbon-last (x.first + 1) x.carbon (groups_drawn (drawn_of x part)) y (omega (arith, e.some)))

    pub rest-room : r.at + (x.carbon + 1 - r.carbon) ≤ length zs
    rest-room = omega (arith, carbon-within, v.place, v.order, one_on, written-length w, written-length v.written, e.first)

    pub rest-small : r.next + (x.carbon + 1 - r.carbon) < 65536
    rest-small = omega (arith, carbon-within, v.few, v.order, few-groups, c.few, e.room)

    pub rest-grows : first ≤ r.next + (x.carbon + 1 - r.carbon)
    rest-grows = omega (arith, v.atom, end-grows (first + 1 + lead) (x.first + 1) (groups_drawn (drawn_of x part)))

    -- ---- its numbers are those of the drawing

    module _ {ws bs : List ℕ} {q : ℕ} (b : BondsBy (bonds_drawn (drawn_of x part)) (rings_drawn (drawn_of x part)) x.carbon bs)
        (u : Written zs r.at (ups r.next (x.carbon + 1 - r.carbon)) ws q) where
      again : GroupsNumbered (first + (1 + lead)) (suc x.first) (groups_drawn (drawn_of x part)) ys p zs r
      again =
          let z : first + 1 + lead ≡ first + (1 + lead) = omega arith in
          let y : x.first + 1 ≡ suc x.first = omega arith in
          rw (z, y) at v

      all_end : first + total (drawn_of x part) bs e b lead c ≡ r.next + (x.carbon + 1 - r.carbon)
      unfolding total
      all_end = omega (arith, again.atom, again.carbon, end-shift first (1 + lead) (suc x.first) (groups_drawn (drawn_of x part)))

      pub grouped-numbered : q < 2 ^ 64
          → AtomsOf first (drawn_of x part) xs at ws
          (record { at = q; count = x.carbon - x.first + 1; flexible = r.next + (x.carbon + 1 - r.carbon) - first; floats = r.next + (x.carbon + 1 - r.carbon) - first; end = r.next + (x.carbon + 1 - r.carbon) - first })
      grouped-numbered o =
          let d : Drawn = drawn_of x part in
          let us : List ℕ = busy_list (drawn_of x part) in
          let f : Follows 0 (literal_of d (tokens x.first x.carbon bs us)) (0 ∷ later d bs e b lead c) (total d bs e b lead c) = literal-follow d bs e b lead c us in
          let n : r.next + (x.carbon + 1 - r.carbon) - first ≡ total d bs e b lead c = omega (arith, all_end) in
          let m : length (literal_of d (tokens x.first x.carbon bs us)) ≡ x.carbon - x.first + 1
          = ap length (literal-are d bs e b us) ∙ omega (arith, length-values (own d bs e b) (suc x.first) (x.carbon - x.first)) in
          let few : r.next + (x.carbon + 1 - r.carbon) - first ≤ 93 * (x.carbon - x.first + 1) = omega (arith, carbon-within, v.few, v.order, few-groups, c.few, e.some) in
          let last : Written zs r.at (ups (group_end (first + (1 + lead)) (suc x.first) (groups_drawn d)) (x.carbon + 1 - group_carbon (suc x.first) (groups_drawn d))) ws q
          = rw (again.atom, again.carbon) at u in
          literal-alone d (tokens x.first x.carbon bs us) q (x.carbon - x.first + 1) (r.next + (x.carbon + 1 - r.carbon) - first) l o (grouped-tokens e b) e.unlocated e.floats
          (rw (f.are, later-small d bs e b lead c first (omega (arith, all_end, rest-small))) (written-three l w again.written last)) (sym m) (n ∙ sym f.ends)
          (omega (arith, e.first, e.some, e.room)) few
