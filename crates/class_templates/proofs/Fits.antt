-- What the template of a class leads to can be kept, where the tail has no more atoms than a tail may have.
-- Assumes nothing.
use Prim.Native.Nat.{ℕ, zero, suc, ◌≤◌, ◌<◌}
use native.Mathlib.Omega.{arith}
use mathlib.Core.Path.{◌≡◌, refl, sym}
use mathlib.Core.Bool.{Bool, true, false, cond, false≢true}
use mathlib.Core.Option.{Option, none, some}
use mathlib.Core.List.{List}
use lib.Dec.{eqb}
use Rattle.chain_record.specs.plain.Chain.{Chain}
use Rattle.reading_rules.specs.reading.Ascii.{ascii}
use Rattle.reading_rules.proofs.reading.Part.{none≢some}
use Rattle.chain_rules.specs.declared.chain.Role.{Role}
use Rattle.chain_rules.specs.declared.chain.Role.TheVariants.{Acyl, Base}
use Rattle.chain_rules.proofs.chain.Accepted.{Drawable}
use Rattle.template_rules.specs.declared.Class.{Class}
use Rattle.template_rules.specs.declared.Class.TheVariants.{Fa, Gl1, Gl2, Gl3, Gp, Cl, Sb, Sa}
use Rattle.template_rules.specs.Template.{fixed, tail, elements, glycerol, role_of, has_tail}
use Rattle.template_rules.specs.Drawn.{chain_at, unless_empty, nonempty, fixed_pieces, tail_part, atoms_of_pieces}
use Rattle.template_rules.proofs.Templates.{sns_of}
use Rattle.template_rules.proofs.Placing.{Accepts, AcceptsFrom, accepts-at}
use Rattle.class_templates.specs.Templates.{all_slots, FitsAll}
use Rattle.class_templates.proofs.Small.{Small, fits-small, small_slot, small-chain, small-fixed, small-tail}

positive : (n : ℕ) → eqb n 0 ≡ false → 0 < n
positive zero q = absurd (false≢true (sym q))
positive (suc n) q = omega arith

module _ (t : List ℕ) (ds : List Chain) where
  own : (b : List ℕ) → atoms_of_pieces (fixed_pieces b) ≤ 255 → Small t ds (fixed b)
  own b h = small-fixed t ds b h

  -- a chain that is accepted can be drawn in its role
  pub fine-at : (ρ : ℕ → Role) → AcceptsFrom ρ 1 ds → (sn : ℕ) (d : Chain) → nonempty sn ds ≡ some d → Drawable (ρ sn) d
  unfolding nonempty
  fine-at ρ z sn d e = go (chain_at sn ds) refl e
    where
      here : (b : Chain) → b ≡ d → Accepts (ρ sn) b → 0 < b.carbon → Drawable (ρ sn) d
      here b q a h =
          let w : Drawable (ρ sn) b = record { sound = a.sound; kind = a.kind; placed = a.placed; draws = a.draws; carbons = h } in
          rw q at w

      full : (b : Chain) (x : Bool) → eqb b.carbon 0 ≡ x → chain_at sn ds ≡ some b → cond x none (some b) ≡ some d → Drawable (ρ sn) d
      full b true f q k = absurd (none≢some k)
      full b false f q k =
          let same : b ≡ d = cc in
          here b same (accepts-at ρ ds z sn b q) (positive b.carbon f)

      go : (o : Option Chain) → chain_at sn ds ≡ o → unless_empty o ≡ some d → Drawable (ρ sn) d
      go none q k = absurd (none≢some k)
      go (some b) q k = full b (eqb b.carbon 0) refl q k

  the-tail : (tail_part t).size ≤ 255 → Small t ds tail
  the-tail h = small-tail t ds (omega (arith, h))

  fits-glycerol : AcceptsFrom all_slots 1 ds → FitsAll t ds glycerol
  unfolding ascii glycerol fixed_pieces atoms_of_pieces sns_of
  fits-glycerol z =
      fits-small t ds glycerol (omega arith) (omega arith) (
        own (ascii "C(C") (omega arith),
        (
          small_slot t ds 3 (fine-at all_slots z 3),
          (
            own (ascii ")(") (omega arith),
            (
              small_slot t ds 2 (fine-at all_slots z 2),
              (
                own (ascii ")C") (omega arith),
                (small_slot t ds 1 (fine-at all_slots z 1), tt),
              ),
            ),
          ),
        ),
      )

  fits_in : (c : Class) → AcceptsFrom (role_of c) 1 ds → (has_tail c ≡ true → (tail_part t).size ≤ 255) → FitsAll t ds (elements c)
  unfolding ascii elements glycerol fixed_pieces atoms_of_pieces sns_of
  fits_in Fa z h =
      fits-small t ds (elements Fa) (omega arith) (omega arith)
      (own (ascii "O") (omega arith), (small-chain t ds 1 Acyl (fine-at (role_of Fa) z 1), tt))
  fits_in Gl1 z h = fits-glycerol z
  fits_in Gl2 z h = fits-glycerol z
  fits_in Gl3 z h = fits-glycerol z
  fits_in Gp z h =
      fits-small t ds (elements Gp) (omega arith) (omega arith) (
        own (ascii "C(C") (omega arith),
        (
          the-tail (h refl),
          (
            own (ascii ")(") (omega arith),
            (
              small_slot t ds 2 (fine-at (role_of Gp) z 2),
              (
                own (ascii ")C") (omega arith),
                (small_slot t ds 1 (fine-at (role_of Gp) z 1), tt),
              ),
            ),
          ),
        ),
      )
  fits_in Cl z h =
      fits-small t ds (elements Cl) (omega arith) (omega arith) (
        own (ascii "C(COP(=O)(O)OCC(") (omega arith),
        (
          small_slot t ds 2 (fine-at (role_of Cl) z 2),
          (
            own (ascii ")C") (omega arith),
            (
              small_slot t ds 1 (fine-at (role_of Cl) z 1),
              (
                own (ascii ")(O)COP(=O)(O)OCC(") (omega arith),
                (
                  small_slot t ds 4 (fine-at (role_of Cl) z 4),
                  (
                    own (ascii ")C") (omega arith),
                    (small_slot t ds 3 (fine-at (role_of Cl) z 3), tt),
                  ),
                ),
              ),
            ),
          ),
        ),
      )
  fits_in Sb z h =
      fits-small t ds (elements Sb) (omega arith) (omega arith) (
        own (ascii "C(C") (omega arith),
        (
          the-tail (h refl),
          (own (ascii ")(N)") (omega arith), (small-chain t ds 1 Base (fine-at (role_of Sb) z 1), tt)),
        ),
      )
  fits_in Sa z h =
      fits-small t ds (elements Sa) (omega arith) (omega arith) (
        own (ascii "C(C") (omega arith),
        (
          the-tail (h refl),
          (
            own (ascii ")(N") (omega arith),
            (
              small-chain t ds 2 Acyl (fine-at (role_of Sa) z 2),
              (own (ascii ")") (omega arith), (small-chain t ds 1 Base (fine-at (role_of Sa) z 1), tt)),
            ),
          ),
        ),
      )

-- WHAT A CLASS'S TEMPLATE LEADS TO CAN BE KEPT
pub fits-class : (c : Class) (t : List ℕ) (ds : List Chain) → AcceptsFrom (role_of c) 1 ds → (has_tail c ≡ true → (tail_part t).size ≤ 255) → FitsAll t ds (elements c)
fits-class c t ds z h = fits_in t ds c z h
