-- The numbers of a chain that carries nothing: those of one with groups, of which there are none, and with a table of noughts for its bonds.
-- Assumes nothing.
use Prim.Native.Nat.{ℕ, ◌+◌, ◌-◌, ◌^◌, ◌≤◌, ◌<◌}
use native.Mathlib.Omega.{arith}
use mathlib.Core.Path.{◌≡◌, refl}
use mathlib.Core.List.{List, [], ◌∷◌}
use lib.ListN.{length}
use Rattle.writer.specs.emit.Text.{Written}
use Rattle.writer.proofs.emit.Laws.{written-nil}
use Rattle.reading_rules.specs.reading.Chain.{parts_end}
use Rattle.drawn_chain.specs.declared.drawable.Shape.{Shape}
use Rattle.drawn_chain.specs.declared.rooms.Lists.{Lists}
use Rattle.drawn_chain.specs.drawable.Drawn.{Drawn, groups_drawn, drawn_of}
use Rattle.chain_text.specs.fragment.Text.{carbonyl_of}
use Rattle.carbons.specs.Tokens.{Grouped}
use Rattle.carbons.proofs.Bare.{Bare, bare, bare-groups}
use Rattle.writer.specs.index_runs.Index.{ups}
use Rattle.chain_indices.specs.carried_atoms.Counts.{Counts}
use Rattle.chain_indices.specs.atoms.Atoms.{AtomsOf}
use Rattle.chain_indices.specs.declared.grouped_atoms.Reached.{Reached}
use Rattle.chain_indices.specs.grouped_atoms.Groups.{group_starts, group_end, group_carbon, GroupsNumbered}
use Rattle.chain_indices.proofs.grouped_atoms.Grouped.{grouped-numbered}

-- where no group stands, none is numbered
no-groups : (next k : ℕ) (xs : List ℕ) (at : ℕ) → at < 2 ^ 64 → GroupsNumbered next k [] xs at xs (record { at = at; next = next; carbon = k })
unfolding group_starts group_end group_carbon
no-groups next k xs at h =
    record {
      written = written-nil xs at h;
      atom = refl;
      carbon = refl;
      order = omega arith;
      place = omega arith;
      few = omega arith;
    }

pub bare-numbered : {xs ys ws : List ℕ} {lead at p q : ℕ} (x : Shape) (part : Lists) (first : ℕ) → Grouped (drawn_of x part) → (x.bond_count ≡ 0) × (x.group_count ≡ 0)
    → Counts 1 (parts_end 0 (carbonyl_of x.acyl x.first)) lead → (at + x.carbon ≤ length xs) × (first < 40000) → length xs < 2 ^ 64 → Written xs at (first ∷ []) ys p
    → Written ys p (ups (first + 1 + lead) (x.carbon - x.first)) ws q → q < 2 ^ 64
    → AtomsOf first (drawn_of x part) xs at ws
    (record { at = q; count = x.carbon - x.first + 1; flexible = 1 + lead + (x.carbon - x.first); floats = 1 + lead + (x.carbon - x.first); end = 1 + lead + (x.carbon - x.first) })
bare-numbered {ys = ys} {ws} {lead} {p = p} {q} x part first e none c room l w u o =
    let d : Drawn = drawn_of x part in
    let t : Bare d = bare d e none.0 in
    let r : Reached = record { at = p; next = first + 1 + lead; carbon = x.first + 1 } in
    let n : x.carbon + 1 - (x.first + 1) ≡ x.carbon - x.first = omega arith in
    let m : first + 1 + lead + (x.carbon - x.first) - first ≡ 1 + lead + (x.carbon - x.first) = omega arith in
    let v : GroupsNumbered (first + 1 + lead) (x.first + 1) (groups_drawn d) ys p ys r = rw (bare-groups d none.1) (no-groups (first + 1 + lead) (x.first + 1) ys p (omega (arith, w.next))) in
    let rest : Written ys p (ups (first + 1 + lead) (x.carbon + 1 - (x.first + 1))) ws q = rw n u in
    rw (n, m) at (grouped-numbered x part first e c room.0 room.1 l w r v t.by rest o)
