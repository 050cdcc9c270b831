-- The atoms of carbons whose groups stand in their order: they follow one another up to the next group. Assumes nothing.
use Prim.Native.Nat.{ℕ, suc, ◌+◌, ◌-◌, ◌≤◌, ◌<◌}
use native.Mathlib.Decide.{ℕ_discrete}
use native.Mathlib.Omega.{arith}
use mathlib.Core.Path.{◌≡◌, refl, ap, ◌∙◌}
use mathlib.Core.Bool.{false}
use mathlib.Core.List.{List, [], ◌∷◌, ◌++◌, append_assoc}
use lib.ListN.{length}
use Rattle.chain_record.specs.declared.plain.Mod.{Mod}
use Rattle.reading_rules.specs.reading.Chain.{Carbon, parts_end, bridge_end, carbon_end, chain_end}
use Rattle.chain_rules.specs.chain.Lists.{only, values_from}
use Rattle.chain_rules.specs.chain.Drawing.{branch_part, branches}
use Rattle.chain_text.specs.fragment.Text.{sitting}
use Rattle.chain_pieces.proofs.branches.Laws.{sitting-first, sitting-past, sitting-before}
use Rattle.carbons.specs.Tokens.{Rising}
use Rattle.carbons.proofs.TokenLaws.{length-values}
use Rattle.writer.specs.index_runs.Index.{ups}
use Rattle.writer.proofs.index_runs.Runs.{ups-more}
use Rattle.chain_indices.specs.atoms.Atoms.{starts}
use Rattle.chain_indices.proofs.atoms.Runs.{Bares, bares-starts, bares-end, starts-append, end-append}
use Rattle.chain_indices.proofs.atoms.Within.{values-append, bares-values}
use Rattle.chain_indices.specs.grouped_atoms.Groups.{group_starts, group_end, group_carbon}

-- the carbons cs, the first of them atom n, are the atoms ts, and e is the atom after them
pub record Follows (n : ℕ) (cs : List Carbon) (ts : List ℕ) (e : ℕ) : Type 0 where
  pub are : starts n cs ≡ ts
  pub ends : chain_end n cs ≡ e

follows-run : (f : ℕ → Carbon) (n k m : ℕ) → ((j : ℕ) → k ≤ j → j < k + m → ((f j).parts ≡ []) × ((f j).bridge ≡ false)) → Follows n (values_from f k m) (ups n m) (n + m)
follows-run f n k m h =
    let b : Bares (values_from f k m) = bares-values f k m h in
    let l : length (values_from f k m) ≡ m = length-values f k m in
    record {
      are = rw l at (bares-starts n (values_from f k m) b);
      ends = rw l at (bares-end n (values_from f k m) b);
    }

pub follows-one : {n m e : ℕ} {cs : List Carbon} {ts : List ℕ} (c : Carbon) → carbon_end n c ≡ m → Follows m cs ts e → Follows n (c ∷ cs) (n ∷ ts) e
unfolding starts chain_end
follows-one c z v = record { are = rw (z, v.are); ends = rw z v.ends }

follows-append : {n m e : ℕ} {cs ds : List Carbon} {us vs : List ℕ} → Follows n cs us m → Follows m ds vs e → Follows n (cs ++ ds) (us ++ vs) e
follows-append {n} {cs = cs} {ds} u v =
    record {
      are = starts-append n cs ds ∙ (rw (u.are, u.ends, v.are));
      ends = end-append n cs ds ∙ (rw u.ends v.ends);
    }

-- ---- the groups of a carbon

no-branches : (n : ℕ) → parts_end n (branches []) ≡ n
unfolding branches parts_end
no-branches n = refl

one-branch : (n : ℕ) (g : Mod) (gs : List Mod) → parts_end n (branches (g ∷ gs)) ≡ parts_end (n + (branch_part g.row).size) (branches gs)
unfolding branches parts_end
one-branch n g gs = refl

branched-end : (n : ℕ) (c : Carbon) (gs : List Mod) → c.parts ≡ branches gs → c.bridge ≡ false → carbon_end n c ≡ parts_end (suc n) (branches gs)
unfolding carbon_end bridge_end
branched-end n c gs e f = rw (e, f)

-- ---- a group on the carbon before C (j+1), and one further on

module _ (n j : ℕ) (g : Mod) (gs : List Mod) (e : g.pos ≡ j) where
  none_between : n + (g.pos + 1 - suc j + (branch_part g.row).size) ≡ n + (branch_part g.row).size
  none_between = omega arith

  here-starts : group_starts n (suc j) (g ∷ gs) ≡ group_starts (n + (branch_part g.row).size) (suc j) gs
  unfolding group_starts ups
  here-starts =
      let y : g.pos + 1 ≡ suc j = omega arith in
      let z : suc j - suc j ≡ 0 = omega arith in
      let x : n + (0 + (branch_part g.row).size) ≡ n + (branch_part g.row).size = omega arith in
      rw (y, z, x)

  here_end : group_end n (suc j) (g ∷ gs) ≡ group_end (n + (branch_part g.row).size) (suc j) gs
  unfolding group_end
  here_end =
      let y : g.pos + 1 ≡ suc j = omega arith in
      rw (none_between, y)

  here-carbon : group_carbon (suc j) (g ∷ gs) ≡ group_carbon (suc j) gs
  unfolding group_carbon
  here-carbon =
      let y : g.pos + 1 ≡ suc j = omega arith in
      rw y

module _ (n j m : ℕ) (g : Mod) (gs : List Mod) (e : g.pos ≡ suc j + m) where
  between : n + (g.pos + 1 - suc j + (branch_part g.row).size) ≡ suc (n + m) + (branch_part g.row).size
  between = omega arith

  later-starts : group_starts n (suc j) (g ∷ gs) ≡ ups n m ++ (n + m) ∷ group_starts (suc (n + m) + (branch_part g.row).size) (suc g.pos) gs
  unfolding group_starts
  later-starts =
      let y : g.pos + 1 ≡ suc g.pos = omega arith in
      let z : g.pos + 1 - suc j ≡ suc m = omega arith in
      rw (between, z, y, ups-more n m, append_assoc)

  later-end : group_end n (suc j) (g ∷ gs) ≡ group_end (suc (n + m) + (branch_part g.row).size) (suc g.pos) gs
  unfolding group_end
  later-end =
      let y : g.pos + 1 ≡ suc g.pos = omega arith in
      rw (between, y)

later-carbon : (j : ℕ) (g : Mod) (gs : List Mod) → group_carbon (suc j) (g ∷ gs) ≡ group_carbon (suc g.pos) gs
unfolding group_carbon
later-carbon j g gs =
    let y : g.pos + 1 ≡ suc g.pos = omega arith in
    rw y

-- ---- the carbons after C j, whose own atom is counted with all before it, and the atoms of whose groups are not

module _ (f : ℕ → Carbon) (c : ℕ) where
  -- the carbons after C j carry these groups, as far as they sit there, and no bridge
  unfoldable pub Bears : ℕ → List Mod → Type 0
  Bears j gs = (k : ℕ) → j < k → k ≤ c → ((f k).parts ≡ branches (sitting k gs)) × ((f k).bridge ≡ false)

  bears-rest : (j : ℕ) (g : Mod) (gs : List Mod) → g.pos ≤ j → Bears j (g ∷ gs) → Bears j gs
  unfolding Bears
  bears-rest j g gs h b k l m = ((b k l m).0 ∙ ap branches (sitting-past k g gs (λ e. omega arith)), (b k l m).1)

  bears-later : (j i : ℕ) (gs : List Mod) → j ≤ i → Bears j gs → Bears i gs
  unfolding Bears
  bears-later j i gs h b k l m = b k (omega arith) m

  bears-none : (j p : ℕ) (gs : List Mod) → Rising p c gs → Bears j gs → (k : ℕ) → j < k → k < p → k ≤ c → ((f k).parts ≡ []) × ((f k).bridge ≡ false)
  unfolding Bears branches
  bears-none j p gs r b k l m o = ((b k l o).0 ∙ ap branches (sitting-before k p c gs r m), (b k l o).1)

  -- all that follows C j
  unfoldable pub Rest : ℕ → ℕ → List Mod → Type 0
  Rest n j gs =
      Follows (parts_end n (branches (sitting j gs))) (values_from f (suc j) (c - j)) (group_starts n (suc j) gs ++ ups (group_end n (suc j) gs) (c + 1 - group_carbon (suc j) gs))
      (group_end n (suc j) gs + (c + 1 - group_carbon (suc j) gs))

  rest-here : (g : Mod) (gs : List Mod) (n j : ℕ) → g.pos ≡ j → Rest (n + (branch_part g.row).size) j gs → Rest n j (g ∷ gs)
  unfolding Rest
  rest-here g gs n j e v =
      rw (sitting-first j g gs e, one-branch n g (sitting j gs), here-starts n j g gs e, here_end n j g gs e, here-carbon n j g gs e) v

  rest-later : (g : Mod) (gs : List Mod) (n j m : ℕ) → g.pos ≡ suc j + m → g.pos ≤ c → Rising g.pos c gs → Bears j (g ∷ gs)
      → Rest (suc (n + m) + (branch_part g.row).size) g.pos gs → Rest n j (g ∷ gs)
  unfolding Rest Bears values_from
  rest-later g gs n j m e h r b v =
      let own : Rising g.pos c (g ∷ gs) = (omega arith, h, r) in
      let z : c - j ≡ m + suc (c - g.pos) = omega arith in
      let run : Follows n (values_from f (suc j) m) (ups n m) (n + m) = follows-run f n (suc j) m (λ k l o. bears-none j g.pos (g ∷ gs) own b k (omega arith) (omega arith) (omega arith)) in
      let here = b g.pos (omega arith) h in
      let after : carbon_end (n + m) (f g.pos) ≡ parts_end (suc (n + m) + (branch_part g.row).size) (branches (sitting g.pos gs))
      = branched-end (n + m) (f g.pos) (sitting g.pos (g ∷ gs)) here.0 here.1 ∙ (rw (sitting-first g.pos g gs refl) (one-branch (suc (n + m)) g (sitting g.pos gs))) in
      let all = follows-append run (follows-one (f g.pos) after v) in
      rw (sitting-before j g.pos c (g ∷ gs) own (omega arith), no-branches n, z, values-append f (suc j) m (suc (c - g.pos)), ← e, later-starts n j m g gs e, later-end n j m g gs e, later-carbon j g gs, append_assoc) all

  rest-one : (g : Mod) (gs : List Mod) (n j : ℕ) → j ≤ c → Rising j c (g ∷ gs) → Bears j (g ∷ gs)
      → ((n i : ℕ) → i ≤ c → Rising i c gs → Bears i gs → Rest n i gs) → Dec (g.pos ≡ j) → Rest n j (g ∷ gs)
  rest-one g gs n j h r b more (yes e) =
      rest-here g gs n j e (more (n + (branch_part g.row).size) j h (rw e at r).2 (bears-rest j g gs (omega arith) b))
  rest-one g gs n j h r b more (no q) =
      let m : ℕ = g.pos - suc j in
      let e : g.pos ≡ suc j + m = omega (arith, r.0, q) in
      rest-later g gs n j m e r.1 r.2 b
      (more (suc (n + m) + (branch_part g.row).size) g.pos r.1 r.2 (bears-rest g.pos g gs (omega arith) (bears-later j g.pos (g ∷ gs) r.0 b)))

  pub groups-follow : (gs : List Mod) (n j : ℕ) → j ≤ c → Rising j c gs → Bears j gs → Rest n j gs
  unfolding Rest group_starts group_end group_carbon sitting only Bears branches
  groups-follow [] n j h r b =
      let z : c + 1 - suc j ≡ c - j = omega arith in
      rw (no-branches n, z) (follows-run f n (suc j) (c - j) (λ k l m. b k (omega arith) (omega arith)))
  groups-follow (g ∷ gs) n j h r b = rest-one g gs n j h r b (groups-follow gs) (ℕ_discrete g.pos j)
