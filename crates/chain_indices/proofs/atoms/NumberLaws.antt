-- Laws of the atoms of a whole chain: the flexible tail, the floating groups, and that what is counted is what the drawing says.
-- Assumes nothing.
use Prim.Native.Nat.{ℕ, zero, suc, ◌+◌, ◌-◌, ◌*◌, ◌^◌, ◌≤◌, ◌<◌, min}
use native.Mathlib.Omega.{arith}
use mathlib.Core.Path.{◌≡◌, refl, sym, ap, ◌∙◌}
use mathlib.Core.List.{List, [], ◌∷◌, ◌++◌, map, map-append}
use lib.ListN.{length, drop, get_or, length-append}
use borrow.Author.Tests.{ne_eqb}
use Rattle.writer.specs.emit.Text.{Written}
use Rattle.writer.proofs.emit.Laws.{written-nil, written-append, written-length}
use Rattle.chain_record.specs.declared.plain.Mod.{Mod}
use Rattle.chain_record.specs.plain.Chain as read
use Rattle.reading_rules.specs.reading.Chain.{Carbon, carbon_end, chain_end, float_end, atom_from, atom_of}
use Rattle.chain_rules.specs.declared.chain.Role.{Role}
use Rattle.chain_rules.specs.chain.Lists.{values_from}
use Rattle.chain_rules.specs.chain.Features.{first_drawn, literal_end, flexible_count, drawn_count}
use Rattle.chain_rules.specs.chain.Bonds.{bond_at, mark_of}
use Rattle.chain_rules.specs.chain.Drawing.{branch_part, branches, bare, pairs, flexible, literal, carbons, floats, carbon_atoms, flexible_atom, atoms_end}
use Rattle.drawn_chain.specs.declared.drawable.Shape.{Shape}
use Rattle.drawn_chain.specs.drawable.Drawn.{Drawn, no_group, floats_drawn, Draws}
use Rattle.chain_indices.specs.declared.atoms.Numbers.{Numbers}
use Rattle.carbons.specs.Tokens.{ChainTokens, TokensOf}
use Rattle.chain_text.specs.fragment.Segment.{Readable}
use Rattle.writer.specs.index_runs.Index.{index_from, indices, ups}
use Rattle.chain_indices.specs.carried_atoms.Counts.{Counts}
use Rattle.chain_indices.specs.atoms.Atoms.{starts, tail_count, literal_of, Numbered, LiteralNumbers, TailNumbers, AtomsOf}
use Rattle.drawn_chain.proofs.drawable.Turns.{left_here}
use Rattle.drawn_chain.proofs.drawable.Turns as turns
use Rattle.chain_indices.proofs.atoms.AtomLaws.{carbon-shift, chain-shift, float-shift}
use Rattle.chain_indices.proofs.atoms.Runs.{Bares, bares-starts, bares-end, starts-append, end-append}
use Rattle.chain_text.proofs.fragment.SegmentLaws.{literal-is, literal-length}
use Rattle.carbons.proofs.TokenLaws.{values_same}

-- ---- where the tail ends

pub tail_none : (c n : ℕ) → c ≤ 255 → n ≡ 0 → c ≡ min (c + tail_count n) 256
unfolding tail_count
tail_none c n h e = rw e (omega arith)

pub tail-some : (c n r : ℕ) → (n ≡ 0 → ⊥) → r ≡ min (c + 2 * n + 2) 256 → r ≡ min (c + tail_count n) 256
unfolding tail_count
tail-some c n r h e = rw (ne_eqb n 0 h) (omega arith)

pairs-bare : (n : ℕ) (cs : List Carbon) → Bares cs → Bares (pairs n ++ cs)
unfolding pairs
pairs-bare zero cs b = b
pairs-bare (suc n) cs b = (refl, refl, (refl, refl, pairs-bare n cs b))

flexible-bare : (m n : ℕ) → Bares (flexible m n)
unfolding flexible
flexible-bare m zero = tt
flexible-bare m (suc n) = (refl, refl, pairs-bare (suc n) (bare 0 ∷ []) (refl, refl, tt))

pairs-length : (n : ℕ) → length (pairs n) ≡ 2 * n
unfolding pairs
pairs-length zero = refl
pairs-length (suc n) = omega (arith, pairs-length n)

flexible-length : (m n : ℕ) → length (flexible m n) ≡ tail_count n
unfolding flexible tail_count
flexible-length m zero = refl
flexible-length m (suc n) =
    let z : suc n ≡ 0 → ⊥ = λ q. omega arith in
    rw (ne_eqb (suc n) 0 z) (omega (arith, length-append (pairs (suc n)) (bare 0 ∷ []), pairs-length (suc n)))

-- ---- the tail is numbered

pub tail-empty : (first u : ℕ) (xs : List ℕ) (n : Numbers) → u ≡ 0 → n.at < 2 ^ 64 → n.count ≤ 255 → TailNumbers first u xs n xs n
unfolding ups tail_count
tail-empty first u xs n e g h =
    let z : n.count - n.count ≡ 0 = omega arith in
    record { written = rw z (written-nil xs n.at g); count = rw e (omega arith); next = omega arith }

pub tail-numbers : {first : ℕ} {xs ys : List ℕ} {p : ℕ} (n : Numbers) (u end : ℕ) → end ≡ min (n.count + tail_count u) 256
    → Written xs n.at (indices first (ups n.next (end - n.count))) ys p
    → TailNumbers first u xs n ys (record { at = p; count = end; next = n.next + (end - n.count) })
tail-numbers n u end e w = record { written = w; count = e; next = refl }

-- the tail after some carbons
tail-after : {first : ℕ} {xs ys zs : List ℕ} {at : ℕ} {n r : Numbers} (cs : List Carbon) (b u : ℕ) → length xs < 2 ^ 64 → Numbered first cs xs at ys n → TailNumbers first u ys n zs r
    → n.count + tail_count u ≤ 256 → Numbered first (cs ++ flexible b u) xs at zs r
tail-after {first} {xs} {ys} {zs} {at} {n} {r} cs b u g w v h =
    let z : r.count - n.count ≡ length (flexible b u) = omega (arith, v.count, flexible-length b u) in
    let e : indices first (starts 0 (cs ++ flexible b u)) ≡ indices first (starts 0 cs) ++ indices first (ups n.next (r.count - n.count))
    = rw (starts-append 0 cs (flexible b u), z, w.next, bares-starts (chain_end 0 cs) (flexible b u) (flexible-bare b u)) (map-append (index_from first) (starts 0 cs) (ups (chain_end 0 cs) (length (flexible b u)))) in
    record {
      written = rw e (written-append g w.written v.written);
      count = omega (arith, v.count, w.count, length-append cs (flexible b u), flexible-length b u);
      next = omega (arith, v.next, z, w.next, end-append 0 cs (flexible b u), bares-end (chain_end 0 cs) (flexible b u) (flexible-bare b u));
    }

-- ---- the floating groups

pub record FloatSum (gs : List Mod) (first end i : ℕ) : Type 0 where
  pub is : float_end first (branches gs) ≡ float_end end (branches (drop i gs))
  pub few : end ≤ first + 6 * i

pub floats-start : (gs : List Mod) (first : ℕ) → FloatSum gs first first 0
floats-start gs first = record { is = refl; few = omega arith }

module _ {first end : ℕ} {gs : List Mod} (i : ℕ) (v : FloatSum gs first end i) where
  pub float-counted : (m : ℕ) → i < length gs → Counts 5 (branch_part (get_or gs i no_group).row).size m → FloatSum gs first (end + (1 + m)) (i + 1)
  unfolding branches float_end
  float-counted m h c =
      let g : Mod = get_or gs i no_group in
      let z : suc end + (branch_part g.row).size ≡ end + (1 + m) = omega (arith, c.is) in
      record {
        is = v.is ∙ (ap (λ (us : List Mod). float_end end (branches us)) (left_here gs i no_group g h refl) ∙ ap (λ (q : ℕ). float_end q (branches (drop (i + 1) gs))) z);
        few = omega (arith, v.few, c.few);
      }

  pub floats-counted : length gs ≤ 18 → i ≤ length gs → length gs ≤ i → Counts (first + 108) (float_end first (branches gs)) end
  unfolding branches float_end
  floats-counted f g h =
      record {
        is = sym (v.is ∙ ap (λ (us : List Mod). float_end end (branches us)) (turns.left-none gs i h));
        few = omega (arith, v.few);
      }

-- ---- the atoms of the drawing

starts-values : (f n : ℕ) (cs : List Carbon) → values_from (atom_of f n cs) f (length cs) ≡ starts n cs
unfolding values_from atom_of atom_from starts
starts-values f n [] = refl
starts-values f n (c ∷ cs) =
    let z : f - f ≡ 0 = omega arith in
    let rest = values_same (λ (k : ℕ). atom_from n (c ∷ cs) (k - f)) (λ (k : ℕ). atom_from (carbon_end n c) cs (k - suc f)) (suc f) (length cs) (λ i h g. later i h) in
    rw (z, rest, starts-values (suc f) (carbon_end n c) cs)
  where
    later : (i : ℕ) → suc f ≤ i → atom_from n (c ∷ cs) (i - f) ≡ atom_from (carbon_end n c) cs (i - suc f)
    later i h =
        let y : i - f ≡ suc (i - suc f) = omega arith in
        rw y

pub carbon-atoms : (r : Role) (d : read.Chain) (n : ℕ) → carbon_atoms r d n ≡ starts n (carbons r d)
unfolding carbon_atoms
carbon-atoms r d n = starts-values (first_drawn r) n (carbons r d)

length-starts : (n : ℕ) (cs : List Carbon) → length (starts n cs) ≡ length cs
unfolding starts
length-starts n [] = refl
length-starts n (c ∷ cs) = ap suc (length-starts (carbon_end n c) cs)

-- a chain whose first atom is n: every atom is n further on
starts-shift : (n m : ℕ) (cs : List Carbon) → starts (n + m) cs ≡ map (λ i. n + i) (starts m cs)
unfolding starts
starts-shift n m [] = refl
starts-shift n m (c ∷ cs) = rw (carbon-shift n m c, starts-shift n (carbon_end m c) cs)

module _ (r : Role) (d : read.Chain) (n : ℕ) where
  zero_right : n + 0 ≡ n
  zero_right = omega arith

  pub carbon-atoms-shift : carbon_atoms r d n ≡ map (λ i. n + i) (carbon_atoms r d 0)
  carbon-atoms-shift = rw (carbon-atoms r d n, carbon-atoms r d 0) (rw zero_right at (starts-shift n 0 (carbons r d)))

  pub flexible-atom-shift : flexible_atom r d n ≡ n + flexible_atom r d 0
  unfolding flexible_atom
  flexible-atom-shift = rw zero_right at (chain-shift n 0 (literal r d))

  pub chain-end-shift : chain_end n (carbons r d) ≡ n + chain_end 0 (carbons r d)
  chain-end-shift = rw zero_right at (chain-shift n 0 (carbons r d))

  pub atoms-end-shift : atoms_end r d n ≡ n + atoms_end r d 0
  unfolding atoms_end
  atoms-end-shift = rw chain-end-shift (float-shift n (chain_end 0 (carbons r d)) (floats d))

-- ---- the numbers of a whole chain

module _ (r : Role) (d : read.Chain) (x : Drawn) (t : ChainTokens) (w : Draws r d x) (k : TokensOf x t) (s : Readable d) where
  literal-same : literal_of x t ≡ literal r d
  unfolding literal_of
  literal-same = literal-is r d x t w k s

  -- the drawn carbons fit
  fits : {first : ℕ} {xs ys : List ℕ} {at : ℕ} (l : Numbers) → Numbered first (literal_of x t) xs at ys l → drawn_count r d ≤ 256 → l.count + tail_count x.unlocated ≤ 256
  unfolding drawn_count flexible_count tail_count
  fits l n h =
      let c : l.count ≡ suc (literal_end r d) - first_drawn r = n.count ∙ (ap length literal-same ∙ literal-length r d x t w k s) in
      rw (c, w.unlocated) h

  -- all drawn carbons are numbered
  carbons-numbered : {first : ℕ} {xs ys zs : List ℕ} {at : ℕ} (l a : Numbers) → length xs < 2 ^ 64 → Numbered first (literal_of x t) xs at ys l
      → TailNumbers first x.unlocated ys l zs a → drawn_count r d ≤ 256 → Numbered first (carbons r d) xs at zs a
  unfolding carbons
  carbons-numbered {first} {xs} {ys} {zs} {at} l a g n v h =
      let q : Numbered first (literal_of x t ++ flexible (mark_of (bond_at r d (literal_end r d))) x.unlocated) xs at zs a
      = tail-after (literal_of x t) (mark_of (bond_at r d (literal_end r d))) x.unlocated g n v (fits l n h) in
      rw (literal-same, w.unlocated) at q

pub chain-numbered : {first : ℕ} {xs ys zs : List ℕ} {at : ℕ} (x : Drawn) (t : ChainTokens) (l a : Numbers) (e : ℕ) {fs : List Mod} → length xs < 2 ^ 64 → TokensOf x t
    → LiteralNumbers first x t xs at ys l → TailNumbers first x.unlocated ys l zs a
    → fs ≡ floats_drawn x → Counts (a.next + 108) (float_end a.next (branches fs)) e
    → AtomsOf first x xs at zs (record { at = a.at; count = a.count; flexible = l.next; floats = a.next; end = e })
unfolding flexible_atom atoms_end floats
chain-numbered {first} {xs} {ys} {zs} {at} x t l a e g k u v f c =
    record {
      are =
          λ r d w s h.
          let q : Numbered first (carbons r d) xs at zs a = carbons-numbered r d x t w k s l a g u.numbered v h in
          record {
            count = q.count ∙ (sym (length-starts 0 (carbons r d)) ∙ ap length (sym (carbon-atoms r d 0)));
            flexible = u.numbered.next ∙ ap (chain_end 0) (literal-same r d x t w k s);
            floats = q.next;
            end = c.is ∙ (rw (q.next, f, w.floats));
          };
      written =
          λ r d w s h.
          let q : Numbered first (carbons r d) xs at zs a = carbons-numbered r d x t w k s l a g u.numbered v h in
          rw (carbon-atoms r d 0) q.written;
      size = written-length v.written ∙ written-length u.numbered.written;
      room = omega (arith, v.count);
      few = omega (arith, c.few, v.next, v.count, u.few, u.room);
    }

-- ---- a chain of literal carbons alone

no_floats : (x : Drawn) (n : ℕ) → floats_drawn x ≡ [] → Counts (n + 108) (float_end n (branches (floats_drawn x))) n
unfolding branches float_end
no_floats x n e = record { is = rw e; few = omega arith }

pub literal-alone : {first : ℕ} {xs ys : List ℕ} {at : ℕ} (x : Drawn) (t : ChainTokens) (p count next : ℕ) → length xs < 2 ^ 64 → p < 2 ^ 64 → TokensOf x t → x.unlocated ≡ 0
    → floats_drawn x ≡ [] → Written xs at (indices first (starts 0 (literal_of x t))) ys p → count ≡ length (literal_of x t) → next ≡ chain_end 0 (literal_of x t) → count ≤ 255
    → next ≤ 93 * count → AtomsOf first x xs at ys (record { at = p; count = count; flexible = next; floats = next; end = next })
literal-alone {first} {xs} {ys} {at} x t p count next g o k u f w m n room few =
    let l : Numbers = record { at = p; count = count; next = next } in
    let v : LiteralNumbers first x t xs at ys l = record { numbered = record { written = w; count = m; next = n }; room = room; few = few } in
    chain-numbered x t l l next g k v (tail-empty first x.unlocated ys l u o room) refl (no_floats x next f)
