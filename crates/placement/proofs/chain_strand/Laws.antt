-- Laws of a chain that is laid down.
-- Assumes nothing.
use Prim.Native.Nat.{ℕ, suc, ◌+◌, ◌<◌, ◌≤◌, ◌^◌}
use native.Mathlib.Omega.{arith}
use mathlib.Core.Path.{◌≡◌, refl, ap, ◌∙◌}
use mathlib.Core.List.{List, [], ◌∷◌}
use lib.ListN.{length, drop, get_or, length-append}
use Rattle.writer.specs.emit.Text.{Written}
use Rattle.writer.proofs.emit.Laws.{written-nil, written-append, written-length}
use Rattle.chain_rules.specs.declared.chain.Role.{Role}
use Rattle.chain_rules.specs.declared.chain.Role.TheVariants.{Slot, Acyl, Base}
use Rattle.chain_rules.specs.chain.Drawing.{carbon_atoms}
use Rattle.drawn_chain.specs.declared.drawable.Shape.{Shape}
use Rattle.drawn_chain.specs.declared.rooms.Lists.{Lists}
use Rattle.drawn_chain.specs.drawable.Drawn.{Drawn, DrawsSome, no_group, groups_drawn, drawn_of}
use Rattle.chain_record.specs.declared.plain.Mod.{Mod}
use Rattle.carbons.specs.Tokens.{Rising, Grouped}
use Rattle.drawn_chain.proofs.drawable.Turns.{left_here, left-none}
use Rattle.chain_pieces.specs.branches.Text.{rows_in, RowsPut}
use Rattle.chain_pieces.proofs.branches.Laws.{rows-put}
use Rattle.chain_text.specs.fragment.Segment.{DrawsRead, Segment}
use Rattle.chain_indices.specs.declared.atoms.ChainAtoms.{ChainAtoms}
use Rattle.writer.specs.index_runs.Index.{indices}
use Rattle.chain_indices.specs.carried_atoms.Counts.{Counts}
use Rattle.chain_indices.specs.atoms.Atoms.{DrawsFew, AtomsOf}
use Rattle.template_rules.specs.Written.{head_carbons}
use Rattle.placement.specs.chain_strand.Strand.{head_count, Indexed, rooms, Carried, StrandOf, GroupedShape}

-- ---- what is some chain in a role is some chain that is drawn, read and numbered

module _ {ρ : Role} {x : Drawn} (w : Carried ρ x) where
  pub carried_some : DrawsSome x
  carried_some = record { role = ρ; chain = w.chain; draws = w.carries.draws }

  pub carried-read : DrawsRead x
  carried-read = record { role = ρ; chain = w.chain; draws = w.carries.draws; readable = w.carries.readable }

  pub carried-few : DrawsFew x
  carried-few = record { role = ρ; chain = w.chain; draws = w.carries.draws; readable = w.carries.readable; few = w.carries.drawn }

-- ---- the template's carbons

pub base-heads : {xs ys zs : List ℕ} {at p q : ℕ} → length xs < 2 ^ 64 → Written xs at (1 ∷ []) ys p → Written ys p (0 ∷ []) zs q → Written xs at (1 ∷ 0 ∷ []) zs q
base-heads g u w = written-append g u w

module _ (r : Role) where
  pub heads-slot : (xs : List ℕ) (at : ℕ) → at < 2 ^ 64 → r ≡ Slot → Written xs at (head_carbons r) xs at
  heads-slot xs at h e = rw e (written-nil xs at h)

  pub heads-acyl : (xs : List ℕ) (at : ℕ) → at < 2 ^ 64 → r ≡ Acyl → Written xs at (head_carbons r) xs at
  heads-acyl xs at h e = rw e (written-nil xs at h)

  pub heads-base : {xs ys : List ℕ} {at p : ℕ} → r ≡ Base → Written xs at (1 ∷ 0 ∷ []) ys p → Written xs at (head_carbons r) ys p
  heads-base e w = rw e w

-- ---- the indices

indices-length : (n : ℕ) (l : List ℕ) → length (indices n l) ≡ length l
indices-length n [] = refl
indices-length n (i ∷ l) = ap suc (indices-length n l)

pub indexed : {ρ : Role} {first at p h : ℕ} {x : Drawn} {xs ys zs : List ℕ} {n : ChainAtoms} → length xs < 2 ^ 64 → Counts 2 (head_count ρ) h → Written xs at (head_carbons ρ) ys p
    → AtomsOf first x ys p zs n
    → Indexed ρ first x xs at zs (record { at = n.at; count = h + n.count; flexible = n.flexible; floats = n.floats; end = n.end })
indexed {ρ} {first} g k u w =
    record {
      numbers =
          λ d q s e.
          let a = w.are ρ d q s e in
          record {
            written = written-append g u (w.written ρ d q s e);
            counted = omega (arith, k.is, a.count, length-append (head_carbons ρ) (indices first (carbon_atoms ρ d 0)), indices-length first (carbon_atoms ρ d 0));
            flexes = a.flexible;
            floating = a.floats;
            ends = a.end;
          };
      size = w.size ∙ written-length u;
    }

-- ---- the chain

pub strand-laid : {ρ : Role} {first l at used row : ℕ} {x : Drawn} {xs ys zs xs' ys' zs' : List ℕ} {p q : ℕ} {n : ChainAtoms}
    → Segment x l xs at xs' p → Indexed ρ first x ys used ys' n → RowsPut x zs row zs' q
    → StrandOf ρ first l x (rooms xs ys zs) at used row (rooms xs' ys' zs') (record { at = p; used = n.at; rows = q; count = n.count; flexible = n.flexible; floats = n.floats; end = n.end })
strand-laid {ρ} s i r =
    record {
      laid = λ d k. record { text = s.text ρ d k.draws k.readable; numbers = i.numbers d k.draws k.readable k.drawn; rows = r.rows ρ d k.draws };
      sizes = record { text = s.size; index = i.size; rows = r.size };
    }

-- ---- a chain whose groups stand in the order of their carbons

-- if the groups from the i-th on rise from k, all do
pub record RiseLeft (f c : ℕ) (gs : List Mod) (k i : ℕ) : Type 0 where
  pub so : Rising k c (drop i gs) → Rising f c gs

pub rise-all : (f c : ℕ) (gs : List Mod) → RiseLeft f c gs f 0
rise-all f c gs = record { so = λ r. r }

module _ {f c : ℕ} {gs : List Mod} (k i : ℕ) (w : RiseLeft f c gs k i) where
  pub rise-more : (g : Mod) → g ≡ get_or gs i no_group → i < length gs → k ≤ g.pos → g.pos ≤ c → RiseLeft f c gs g.pos (i + 1)
  rise-more g e h l m = record { so = λ r. w.so (rw (left_here gs i no_group g h e) (l, m, r)) }

  pub rise-end : length gs ≤ i → Rising f c gs
  rise-end h = w.so (rw (left-none gs i h) tt)

pub shape-grouped : (x : Shape) (l : Lists) → length (groups_drawn (drawn_of x l)) ≤ 18 → x.ring_count ≡ 0 → x.float_count ≡ 0 → x.unlocated ≡ 0 → (x.first ≡ 0 → ⊥) → x.first ≤ x.carbon → x.carbon < 96
    → Rising x.first x.carbon (groups_drawn (drawn_of x l)) → GroupedShape x l
shape-grouped x l e r f u n s h w =
    record {
      short = h;
      grouped =
          record {
            first = omega arith;
            some = s;
            room = omega arith;
            unlocated = u;
            groups = w;
            few = e;
            floats = rw f;
            rings = rw r;
          };
    }

pub grouped-heads : {xs ys hs : List ℕ} {at p h : ℕ} (c : ℕ) → Counts 2 (length hs) h → at + (c + 2) ≤ length xs → Written xs at hs ys p → p + c ≤ length ys
grouped-heads c k g w = omega (arith, k.is, k.few, w.next, written-length w)

pub grouped-laid : {ρ : Role} {first at used row : ℕ} {x : Drawn} {xs ys zs xs' ys' zs' : List ℕ} {p q : ℕ} {n : ChainAtoms}
    → ((l : ℕ) → Segment x l xs at xs' p) → Indexed ρ first x ys used ys' n → RowsPut x zs row zs' q
    → (l : ℕ) → StrandOf ρ first l x (rooms xs ys zs) at used row (rooms xs' ys' zs') (record { at = p; used = n.at; rows = q; count = n.count; flexible = n.flexible; floats = n.floats; end = n.end })
grouped-laid s i r l = strand-laid (s l) i r

-- ---- one that carries nothing

-- no group of it floats, so that no row is written
no_rows : (x : Shape) (l : Lists) (zs : List ℕ) (row : ℕ) → Grouped (drawn_of x l) → row < 2 ^ 64 → RowsPut (drawn_of x l) zs row zs row
unfolding rows_in
no_rows x l zs row e h =
    rows-put x l refl (rw e.floats (written-nil zs row h))

pub bare-laid : {ρ : Role} {first at used row : ℕ} {xs ys xs' ys' : List ℕ} {p : ℕ} {n : ChainAtoms} (x : Shape) (part : Lists) → Grouped (drawn_of x part) → row < 2 ^ 64
    → ((l : ℕ) → Segment (drawn_of x part) l xs at xs' p) → Indexed ρ first (drawn_of x part) ys used ys' n
    → (l : ℕ) (zs : List ℕ) → StrandOf ρ first l (drawn_of x part) (rooms xs ys zs) at used row (rooms xs' ys' zs) (record { at = p; used = n.at; rows = row; count = n.count; flexible = n.flexible; floats = n.floats; end = n.end })
bare-laid {row = row} x part e h s i l zs = strand-laid (s l) i (no_rows x part zs row e h)
