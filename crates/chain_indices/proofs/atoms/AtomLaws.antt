-- Laws of the atom counts: the groups of a carbon, a carbon, and the atoms of a stretch of carbons.
-- Assumes nothing.
use Prim.Native.Nat.{ℕ, suc, ◌+◌, ◌-◌, ◌*◌, ◌^◌, ◌≤◌, ◌<◌}
use native.Mathlib.Nat.{zero-add}
use native.Mathlib.Numerals.{add-one}
use native.Mathlib.Omega.{arith}
use mathlib.Core.Path.{◌≡◌, refl, sym, ap, ◌∙◌}
use mathlib.Core.Bool.{Bool, true, false, cond, ◌||◌}
use mathlib.Core.List.{List, [], ◌∷◌, ◌++◌}
use lib.Dec.{eqb}
use lib.ListN.{length, get_or}
use borrow.Author.Tests.{eq-eqb, ne_eqb, eqb-true, eqb-false}
use Rattle.writer.specs.emit.Text.{Written}
use Rattle.group_table.specs.groups.Groups.{entry_at}
use Rattle.chain_record.specs.declared.plain.Mod.{Mod}
use Rattle.chain_record.specs.declared.plain.Ring.{Ring as Closed}
use Rattle.reading_rules.specs.reading.Part.{Part}
use Rattle.reading_rules.specs.reading.Chain.{Carbon, parts_end, bridge_end, carbon_end, chain_end, float_end}
use Rattle.chain_rules.specs.chain.Lists.{only, values_from}
use Rattle.chain_rules.specs.chain.Drawing.{branch_part, branches}
use Rattle.drawn_chain.specs.drawable.Drawn.{Drawn, groups_drawn, rings_drawn}
use Rattle.chain_text.specs.fragment.Text.{sitting, carbonyl_of, carbon_of}
use Rattle.carbons.specs.ByCarbon.{group_on, ring_on, carbonyl_on, busy_at, group_atoms, load_at, Busy}
use Rattle.writer.specs.index_runs.Index.{index_from, indices}
use Rattle.chain_indices.specs.carried_atoms.Counts.{Counts}
use Rattle.chain_indices.specs.atoms.Atoms.{Loaded, bridged_at, carbon_size, bare_size, starts, literal_of, LiteralNumbers}
use Rattle.carbons.specs.Tokens.{ChainTokens, tokens, TokensOf}
use Rattle.carbons.proofs.TokenLaws.{length-values}
use Rattle.chain_rules.proofs.chain.Lists.{or_left, or_right}
use Rattle.chain_text.proofs.fragment.RangeLaws.{no-groups, no-carbonyl}
use Rattle.carbons.proofs.Loads.{not-busy}
use Rattle.carbons.proofs.Left.{Left, left-all, left_less, left-none, left-length}
use Rattle.chain_text.proofs.fragment.TextLaws.{branch-size, sitting-first, sitting-past}
use Rattle.chain_indices.proofs.carried_atoms.Laws.{carbonyl-one, carbonyl-zero, carbonyl-not}

-- ---- counts that start elsewhere

pub parts-shift : (n m : ℕ) (ps : List Part) → parts_end (n + m) ps ≡ n + parts_end m ps
unfolding parts_end
parts-shift n m [] = refl
parts-shift n m (p ∷ ps) =
    let z : n + m + p.size ≡ n + (m + p.size) = omega arith in
    rw z (parts-shift n (m + p.size) ps)

bridge-shift : (b : Bool) (n m : ℕ) → bridge_end b (n + m) ≡ n + bridge_end b m
unfolding bridge_end
bridge-shift true n m = omega arith
bridge-shift false n m = refl

pub carbon-shift : (n m : ℕ) (c : Carbon) → carbon_end (n + m) c ≡ n + carbon_end m c
unfolding carbon_end
carbon-shift n m c =
    let z : suc (n + m) ≡ n + suc m = omega arith in
    rw (z, parts-shift n (suc m) c.parts) (bridge-shift c.bridge n (parts_end (suc m) c.parts))

pub chain-shift : (n m : ℕ) (cs : List Carbon) → chain_end (n + m) cs ≡ n + chain_end m cs
unfolding chain_end
chain-shift n m [] = refl
chain-shift n m (c ∷ cs) = rw (carbon-shift n m c) (chain-shift n (carbon_end m c) cs)

pub float-shift : (n m : ℕ) (ps : List Part) → float_end (n + m) ps ≡ n + float_end m ps
unfolding float_end
float-shift n m [] = refl
float-shift n m (p ∷ ps) =
    let z : suc (n + m) + p.size ≡ n + (suc m + p.size) = omega arith in
    rw z (float-shift n (suc m + p.size) ps)

pub parts-end-append : (n : ℕ) (ps qs : List Part) → parts_end n (ps ++ qs) ≡ parts_end (parts_end n ps) qs
unfolding parts_end
parts-end-append n [] qs = refl
parts-end-append n (p ∷ ps) qs = parts-end-append (n + p.size) ps qs

-- ---- the groups of a carbon

pub parts-plus : (a : ℕ) (ps : List Part) → parts_end a ps ≡ a + parts_end 0 ps
parts-plus a ps =
    let z : a + 0 ≡ a = omega arith in
    rw z at (parts-shift a 0 ps)

groups-counted : (k : ℕ) (gs : List Mod) → parts_end 0 (branches (sitting k gs)) ≡ group_atoms gs k
unfolding sitting only branches parts_end group_atoms
groups-counted k [] = refl
groups-counted k (g ∷ gs) = go (eqb g.pos k) refl (groups-counted k gs)
  where
    go : (b : Bool) → eqb g.pos k ≡ b → parts_end 0 (branches (sitting k gs)) ≡ group_atoms gs k
        → parts_end 0 (branches (sitting k (g ∷ gs))) ≡ cond b (entry_at g.row).atoms 0 + group_atoms gs k
    go true e h =
        rw (sitting-first k g gs (eqb-true g.pos k e)) (parts-plus (0 + (branch_part g.row).size) (branches (sitting k gs)) ∙ omega (arith, h, branch-size g.row))
    go false e h = rw (sitting-past k g gs (eqb-false g.pos k e)) (h ∙ sym (zero-add (group_atoms gs k)))

-- ---- a carbon

pub bridge-one : (b : ℕ) → b ≡ 79 → Counts 1 (bridge_end (bridged_at b) 0) 1
unfolding bridge_end
bridge-one b e = record { is = rw (eq-eqb b 79 e); few = omega arith }

pub bridge-zero : (b : ℕ) → (b ≡ 79 → ⊥) → Counts 1 (bridge_end (bridged_at b) 0) 0
unfolding bridge_end
bridge-zero b e = record { is = rw (ne_eqb b 79 e); few = omega arith }

pub bare-counted : (b n : ℕ) → Counts 1 (bridge_end (bridged_at b) 0) n → Counts 93 (bare_size b) (1 + n)
unfolding bare_size carbon_end parts_end
bare-counted b n c = record { is = ap (λ (m : ℕ). 1 + m) c.is ∙ sym (bridge-shift (bridged_at b) 1 0); few = omega (arith, c.few) }

pub bridge-plus : (b : Bool) (a : ℕ) → bridge_end b a ≡ a + bridge_end b 0
bridge-plus b a =
    let z : a + 0 ≡ a = omega arith in
    rw z at (bridge-shift b a 0)

pub carbon-plus : (n : ℕ) (c : Carbon) → carbon_end n c ≡ n + carbon_end 0 c
carbon-plus n c =
    let z : n + 0 ≡ n = omega arith in
    rw z at (carbon-shift n 0 c)

carbonyl-counted : (acyl : Bool) (k : ℕ) → parts_end 0 (carbonyl_of acyl k) ≡ cond (carbonyl_on acyl k) 1 0
unfolding carbonyl_on
carbonyl-counted false k = sym (carbonyl-not false k refl).is
carbonyl-counted true k = go (eqb 1 k) refl
  where
    go : (b : Bool) → eqb 1 k ≡ b → parts_end 0 (carbonyl_of true k) ≡ cond b 1 0
    go true e = sym (carbonyl-one true k refl (sym (eqb-true 1 k e))).is
    go false e = sym (carbonyl-zero true k refl (λ f. eqb-false 1 k e (sym f))).is

carbon-size : (acyl : Bool) (gs : List Mod) (b k : ℕ)
    → carbon_size acyl gs b k ≡ 1 + parts_end 0 (carbonyl_of acyl k) + parts_end 0 (branches (sitting k gs)) + bridge_end (bridged_at b) 0
unfolding carbon_size carbon_end
carbon-size acyl gs b k =
    bridge-plus (bridged_at b) (parts_end 1 (carbonyl_of acyl k ++ branches (sitting k gs)))
    ∙ (rw (parts-end-append 1 (carbonyl_of acyl k) (branches (sitting k gs)), parts-plus (parts_end 1 (carbonyl_of acyl k)) (branches (sitting k gs)), parts-plus 1 (carbonyl_of acyl k)))

pub busy-counted : (x : Drawn) (load b k n m : ℕ) → Loaded x k load → n ≡ load → Counts 1 (bridge_end (bridged_at b) 0) m
    → Counts 93 (carbon_size x.acyl (groups_drawn x) b k) (n + m)
unfolding load_at
busy-counted x load b k n m u e w = go (busy_at x.acyl (groups_drawn x) (rings_drawn x) k) u.is
  where
    go : (t : Bool) → load ≡ cond t (suc (cond (carbonyl_on x.acyl k) 1 0 + group_atoms (groups_drawn x) k)) 0 → Counts 93 (carbon_size x.acyl (groups_drawn x) b k) (n + m)
    go true f =
        record {
          is = omega (arith, w.is, carbon-size x.acyl (groups_drawn x) b k, carbonyl-counted x.acyl k, groups-counted k (groups_drawn x));
          few = omega (arith, u.few, w.few);
        }
    go false f = absurd (u.some f)

pub loaded : {x : Drawn} {f l : ℕ} {bs us : List ℕ} (k : ℕ) → TokensOf x (tokens f l bs us) → k ≤ l → (get_or us k 0 ≡ 0 → ⊥) → Loaded x k (get_or us k 0)
loaded {us = us} k w h z =
    let g : k < length us = omega (arith, w.laden) in
    record { is = w.busy.at k g; some = z; few = w.busy.few k g }

-- ---- a stretch of carbons

literal-few : (x : Drawn) (t : ChainTokens) → TokensOf x t → length (literal_of x t) ≤ 255
unfolding literal_of
literal-few x t w =
    omega (arith, w.first, w.room, length-values (carbon_of x.acyl t.bonds (groups_drawn x)) t.first (suc t.last - t.first))

-- of the carbons cs, the indices of `count` are written, and `rest` are left, the first of them atom `next`
pub record Numbering (first : ℕ) (cs : List Carbon) (xs : List ℕ) (at : ℕ) (ys : List ℕ) (p count next : ℕ) (rest : List Carbon) : Type 0 where
  pub left : Left xs at (indices first (starts 0 cs)) ys p (indices first (starts next rest))
  pub counted : count + length rest ≡ length cs
  pub ends : chain_end next rest ≡ chain_end 0 cs
  pub few : next ≤ 93 * count

pub numbering-none : (first : ℕ) (cs : List Carbon) (xs : List ℕ) (at : ℕ) → at < 2 ^ 64 → Numbering first cs xs at xs at 0 0 cs
numbering-none first cs xs at h = record { left = left-all xs at (indices first (starts 0 cs)) h; counted = omega arith; ends = refl; few = omega arith }

numbering-one : {first at : ℕ} {cs rest : List Carbon} {xs ys zs : List ℕ} {p q count next : ℕ} (c : Carbon) (m : ℕ) → length xs < 2 ^ 64
    → Numbering first cs xs at ys p count next (c ∷ rest) → Written ys p (index_from first next ∷ []) zs q → m ≡ carbon_end 0 c → m ≤ 93
    → Numbering first cs xs at zs q (count + 1) (next + m) rest
unfolding starts chain_end
numbering-one {first} {at} {cs} {rest} {xs} {ys} {zs} {p} {q} {count} {next} c m g v w e f =
    let z : carbon_end next c ≡ next + m = carbon-plus next c ∙ ap (λ (n : ℕ). next + n) (sym e) in
    record {
      left = left_less (indices first (starts (next + m) rest)) g v.left (rw z) w;
      counted = omega (arith, v.counted);
      ends = rw (← z) v.ends;
      few = omega (arith, v.few);
    }

pub empty-parts : (acyl : Bool) (gs : List Mod) (rs : List Closed) (k : ℕ) → busy_at acyl gs rs k ≡ false → carbonyl_of acyl k ++ branches (sitting k gs) ≡ []
unfolding busy_at branches
empty-parts acyl gs rs k e =
    let a : carbonyl_on acyl k ≡ false = or_left (carbonyl_on acyl k) (group_on gs k || ring_on rs k) e in
    let b : (group_on gs k || ring_on rs k) ≡ false = or_right (carbonyl_on acyl k) (group_on gs k || ring_on rs k) e in
    rw (no-carbonyl acyl k a, no-groups k gs (or_left (group_on gs k) (ring_on rs k) b))

-- a turn of the loop through the carbons, and its end
module _ {first at : ℕ} {cs : List Carbon} {xs ys : List ℕ} {p count next : ℕ} (acyl : Bool) (ks : List ℕ) (gs : List Mod) (rs : List Closed) (k last : ℕ)
    (v : Numbering first cs xs at ys p count next (values_from (carbon_of acyl ks gs) k (suc last - k))) where
  here : k ≤ last → Numbering first cs xs at ys p count next (carbon_of acyl ks gs k ∷ values_from (carbon_of acyl ks gs) (k + 1) (suc last - (k + 1)))
  unfolding values_from
  here h =
      let z : suc last - k ≡ suc (suc last - suc k) = omega arith in
      rw (add-one k) (rw z at v)

  pub number-busy : {zs : List ℕ} {q : ℕ} (i m : ℕ) → length xs < 2 ^ 64 → k ≤ last → i ≡ index_from first next → Written ys p (i ∷ []) zs q
      → Counts 93 (carbon_size acyl gs (get_or ks k 0) k) m
      → Numbering first cs xs at zs q (count + 1) (next + m) (values_from (carbon_of acyl ks gs) (k + 1) (suc last - (k + 1)))
  unfolding carbon_size carbon_of carbon_end
  number-busy i m g h e w c = numbering-one (carbon_of acyl ks gs k) m g (here h) (rw e at w) c.is c.few

  pub number-bare : {zs bs : List ℕ} {q : ℕ} (i m : ℕ) → length xs < 2 ^ 64 → Busy acyl gs rs bs → last < length bs → k ≤ last → i ≡ index_from first next → Written ys p (i ∷ []) zs q
      → get_or bs k 0 ≡ 0 → Counts 93 (bare_size (get_or ks k 0)) m
      → Numbering first cs xs at zs q (count + 1) (next + m) (values_from (carbon_of acyl ks gs) (k + 1) (suc last - (k + 1)))
  unfolding bare_size carbon_of carbon_end
  number-bare i m g b o h e w z c =
      let y : carbonyl_of acyl k ++ branches (sitting k gs) ≡ [] = empty-parts acyl gs rs k (not-busy k b (omega arith) z) in
      numbering-one (carbon_of acyl ks gs k) m g (here h) (rw e at w) (rw y c.is) c.few

  pub numbers-end : last < k → Numbering first cs xs at ys p count next []
  unfolding values_from
  numbers-end h =
      let z : suc last - k ≡ 0 = omega arith in
      rw z at v

pub numbers-literal : {first at : ℕ} {xs ys : List ℕ} {p count next : ℕ} (x : Drawn) (t : ChainTokens) (k last : ℕ) → TokensOf x t
    → Numbering first (literal_of x t) xs at ys p count next (values_from (carbon_of x.acyl t.bonds (groups_drawn x)) k (suc last - k))
    → last < k → LiteralNumbers first x t xs at ys (record { at = p; count = count; next = next })
unfolding starts chain_end
numbers-literal {first} {at} {xs} {ys} {p} {count} {next} x t k last w v h =
    let e = numbers-end x.acyl t.bonds (groups_drawn x) [] k last v h in
    let n : count ≡ length (literal_of x t) = omega (arith, e.counted) in
    record {
      numbered = record { written = left-none e.left refl; count = n; next = e.ends };
      room = omega (arith, literal-few x t w);
      few = e.few;
    }

pub numbers-size : {first at : ℕ} {cs rest : List Carbon} {xs ys : List ℕ} {p count next : ℕ} → Numbering first cs xs at ys p count next rest → length ys ≡ length xs
numbers-size v = left-length v.left
