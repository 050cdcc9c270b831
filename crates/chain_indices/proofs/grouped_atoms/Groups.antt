-- Laws of the carbons up to that of the last group: a turn of the loop, and its end. Assumes nothing.
use Prim.Native.Nat.{ℕ, zero, suc, ◌+◌, ◌-◌, ◌*◌, ◌^◌, ◌≤◌, ◌<◌}
use native.Mathlib.Omega.{arith}
use mathlib.Core.Path.{◌≡◌, refl, ap}
use mathlib.Core.List.{List, [], ◌∷◌}
use lib.ListN.{length, drop, get_or}
use Rattle.writer.specs.emit.Text.{Written}
use Rattle.chain_record.specs.declared.plain.Mod.{Mod}
use Rattle.chain_rules.specs.chain.Drawing.{branch_part}
use Rattle.drawn_chain.specs.drawable.Drawn.{no_group}
use Rattle.drawn_chain.proofs.drawable.Turns.{left_here}
use Rattle.drawn_chain.proofs.drawable.Turns as turns
use Rattle.carbons.proofs.Left.{Left, left-all, left_less, left-none, left-length}
use Rattle.writer.specs.index_runs.Index.{ups}
use Rattle.chain_indices.specs.carried_atoms.Counts.{Counts}
use Rattle.chain_indices.specs.grouped_atoms.Groups.{group_starts, group_end, group_carbon, Fits, GroupsNumbered}

ups-length : (n m : ℕ) → length (ups n m) ≡ m
unfolding ups
ups-length n zero = refl
ups-length n (suc m) = ap suc (ups-length (suc n) m)

-- where numbers end that follow one another
pub ramp-place : {xs ys : List ℕ} {p q : ℕ} (n m : ℕ) → p + m < 2 ^ 64 → Written xs p (ups n m) ys q → q ≡ p + m
ramp-place n m h w = omega (arith, w.next, ups-length n m)

-- of the groups gs, `rest` are left: C j is atom a, and its index is written at p
pub record Going (next k : ℕ) (gs : List Mod) (xs : List ℕ) (at : ℕ) (ys : List ℕ) (p a j : ℕ) (rest : List Mod) : Type 0 where
  pub left : Left xs at (group_starts next k gs) ys p (group_starts a j rest)
  pub ends : group_end a j rest ≡ group_end next k gs
  pub carbon : group_carbon j rest ≡ group_carbon k gs
  pub fits : Fits (length xs) p a j rest
  pub order : k ≤ j
  pub place : p ≡ at + (j - k)
  pub few : a + 5 * length rest ≤ next + (j - k) + 5 * length gs

pub going-none : (next k : ℕ) (gs : List Mod) (xs : List ℕ) (at : ℕ) → at < 2 ^ 64 → Fits (length xs) at next k gs → Going next k gs xs at xs at next k gs
going-none next k gs xs at h f =
    record { left = left-all xs at (group_starts next k gs) h; ends = refl; carbon = refl; fits = f; order = omega arith; place = omega arith; few = omega arith }

module _ {next k at p a j : ℕ} {gs rest : List Mod} {xs ys : List ℕ} (g : Mod) (v : Going next k gs xs at ys p a j (g ∷ rest)) where
  reaches : j ≤ g.pos + 1
  reaches = omega (arith, v.fits.rising.0, v.fits.some)

  ramp-room : p + (g.pos + 1 - j) ≤ length xs
  ramp-room = omega (arith, v.fits.rising.1, v.fits.fits)

  number_small : a + (g.pos + 1 - j) + 5 < 65536
  number_small = omega (arith, v.fits.rising.1, v.fits.small)

  going_more : {zs : List ℕ} {q : ℕ} (m b : ℕ) → length xs < 2 ^ 64 → m ≡ g.pos + 1 - j → Written ys p (ups a m) zs q → Counts 5 (branch_part g.row).size b
      → Going next k gs xs at zs q (a + (m + b)) (j + m) rest
  unfolding group_starts group_end group_carbon
  going_more {zs} {q} m b h e w c =
      let z : j + m ≡ g.pos + 1 = omega (arith, reaches) in
      let y : m + b ≡ g.pos + 1 - j + (branch_part g.row).size = omega (arith, c.is) in
      let q-is : q ≡ p + m = ramp-place a m (omega (arith, ramp-room)) w in
      let low : g.pos + 1 - 1 ≡ g.pos = omega arith in
      rw (y, z) (record {
        left = left_less _ h v.left (rw e refl) w;
        ends = v.ends;
        carbon = v.carbon;
        fits =
            record {
              last = v.fits.last;
              rising = rw low v.fits.rising.2;
              some = omega arith;
              own = v.fits.own;
              reach = omega (arith, v.fits.rising.1);
              fits = omega (arith, reaches, v.fits.rising.1, v.fits.fits);
              small = omega (arith, reaches, v.fits.rising.1, v.fits.small, c.is, c.few);
            };
        order = omega (arith, v.order, reaches);
        place = omega (arith, v.place, v.order, reaches);
        few = omega (arith, v.few, v.order, reaches, c.is, c.few);
      })

-- the same by the places of the list
module _ {next k at p a j : ℕ} {gs : List Mod} {xs ys : List ℕ} (i : ℕ) (h : i < length gs)
    (v : Going next k gs xs at ys p a j (drop i gs)) where
  abbrev g : Mod
  g = get_or gs i no_group

  here : Going next k gs xs at ys p a j (g ∷ drop (i + 1) gs)
  here = rw (left_here gs i no_group g h refl) at v

  pub group-reaches : j ≤ g.pos + 1
  group-reaches = reaches g here

  pub group-room : p + (g.pos + 1 - j) ≤ length ys
  group-room = omega (arith, ramp-room g here, left-length v.left)

  pub group-last : a + (g.pos + 1 - j) < 65536
  group-last = omega (arith, number_small g here)

  pub group-run : g.pos + 1 - j < 65536
  group-run = omega (arith, number_small g here)

  pub group-atoms : (row b : ℕ) → Counts 5 (branch_part row).size b → g.pos + 1 - j + b < 65536
  group-atoms row b c = omega (arith, number_small g here, c.few)

  pub group-next : (row b : ℕ) → Counts 5 (branch_part row).size b → a + (g.pos + 1 - j + b) < 65536
  group-next row b c = omega (arith, number_small g here, c.few)

  pub group-carbon : j + (g.pos + 1 - j) < 2 ^ 64
  group-carbon = let w = here in omega (arith, reaches g w, w.fits.rising.1, w.fits.own)

  pub group-numbered : {zs : List ℕ} {q : ℕ} (m b : ℕ) → length xs < 2 ^ 64 → m ≡ g.pos + 1 - j → Written ys p (ups a m) zs q → Counts 5 (branch_part g.row).size b
      → Going next k gs xs at zs q (a + (m + b)) (j + m) (drop (i + 1) gs)
  group-numbered m b l f w c = going_more g here m b l f w c

pub going-size : {next k at p a j : ℕ} {gs rest : List Mod} {xs ys : List ℕ} → Going next k gs xs at ys p a j rest → length ys ≡ length xs
going-size v = left-length v.left

pub groups-numbered : {next k at p a j : ℕ} {gs : List Mod} {xs ys : List ℕ} (i : ℕ) → length gs ≤ i → Going next k gs xs at ys p a j (drop i gs)
    → GroupsNumbered next k gs xs at ys (record { at = p; next = a; carbon = j })
unfolding group_starts group_end group_carbon
groups-numbered {next} {k} {at} {p} {a} {j} {gs} {xs} {ys} i h v =
    let w : Going next k gs xs at ys p a j [] = rw (turns.left-none gs i h) at v in
    record {
      written = left-none w.left refl;
      atom = w.ends;
      carbon = w.carbon;
      order = w.order;
      place = w.place;
      few = omega (arith, w.few);
    }
