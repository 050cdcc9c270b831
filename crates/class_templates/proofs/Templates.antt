-- Each template, built of its pushes; before each push of a chain, that it may be made.
-- Assumes nothing.
use Prim.Native.Nat.{ℕ}
use mathlib.Core.Path.{refl}
use mathlib.Core.List.{List}
use lib.ListN.{take, drop}
use Rattle.chain_record.specs.plain.Chain.{Chain}
use Rattle.reading_rules.specs.reading.Ascii.{ascii}
use Rattle.reading_rules.specs.reading.Piece.{show}
use Rattle.chain_rules.specs.declared.chain.Role.TheVariants.{Acyl, Base}
use Rattle.drawn_chain.specs.drawable.Chains.{Chains}
use Rattle.template_rules.specs.declared.Class.TheVariants.{Fa, Gp, Cl, Sb, Sa}
use Rattle.template_rules.specs.Template.{elements, glycerol, role_of}
use Rattle.template_rules.specs.Drawn.{fixed_pieces, atoms_of_pieces}
use Rattle.placement.specs.declared.chain_notes.Placed.{Placed}
use Rattle.line_builder.specs.declared.Builder.{Builder}
use Rattle.line_builder.specs.Build.{rooms, Fresh, FixedPushed, SlotFits, SlotPushed, BareFits, BarePushed}
use Rattle.class_templates.specs.Templates.{all_slots, TailOf, Fills, FilledTailless, Tailless, FilledTailed, Tailed}
use Rattle.class_templates.proofs.Built.{Short, sizes-then, sizes-fixed, Along, at_first, then-fixed, then_tail, then-slot, then-chain, next-slot, next-chain}

-- FA
module _ {x : Chains} {xs is rs x1 : List ℕ} {ns : List Placed} {b0 b1 : Builder}
    (g : Short (rooms xs is rs ns)) (z : Fresh b0) (p1 : FixedPushed (ascii "O") 1 xs b0 x1 b1) where
  fa-1 : (t : List ℕ) (ds : List Chain) → Fills t (elements Fa) (role_of Fa) x ds → Along t ds (take 1 (elements Fa)) (drop 1 (elements Fa)) (rooms xs is rs ns) (rooms x1 is rs ns) b1
  unfolding ascii elements glycerol fixed_pieces show atoms_of_pieces
  fa-1 t ds w = then-fixed (at_first g z w.fits) (record { shown = refl; size = refl }) p1

  pub fa-first : FilledTailless (elements Fa) (role_of Fa) x → BareFits x 1 Acyl ns b1
  unfolding ascii elements glycerol fixed_pieces show atoms_of_pieces
  fa-first w = next-chain (fa-1 w.tail w.chains w.fills) (w.fills.stood.stands 1)

  pub fa-built : {ys js ss : List ℕ} {ms : List Placed} {q : Builder} → BarePushed x 1 Acyl (rooms x1 is rs ns) b1 (rooms ys js ss ms) q
      → Tailless (elements Fa) (role_of Fa) x (rooms xs is rs ns) (rooms ys js ss ms) q
  unfolding ascii elements glycerol fixed_pieces show atoms_of_pieces
  fa-built p =
      record { sizes = sizes-then (sizes-fixed p1) p.sizes; built = λ t ds w. (then-chain (fa-1 t ds w) (w.stood.stands 1) p).built }

-- GL1, GL2, GL3
module _ {x : Chains} {xs is rs x1 : List ℕ} {ns : List Placed} {b0 b1 : Builder}
    (g : Short (rooms xs is rs ns)) (z : Fresh b0) (p1 : FixedPushed (ascii "C(C") 2 xs b0 x1 b1) where
  glycerolipid-1 : (t : List ℕ) (ds : List Chain) → Fills t glycerol all_slots x ds → Along t ds (take 1 glycerol) (drop 1 glycerol) (rooms xs is rs ns) (rooms x1 is rs ns) b1
  unfolding ascii elements glycerol fixed_pieces show atoms_of_pieces
  glycerolipid-1 t ds w = then-fixed (at_first g z w.fits) (record { shown = refl; size = refl }) p1

  pub glycerolipid-first : FilledTailless glycerol all_slots x → SlotFits x 3 ns b1
  unfolding ascii elements glycerol fixed_pieces show atoms_of_pieces
  glycerolipid-first w = next-slot (glycerolipid-1 w.tail w.chains w.fills) (w.fills.stood.stands 3)

  module _ {x2 i1 r1 x3 : List ℕ} {n1 : List Placed} {b2 b3 : Builder}
      (p2 : SlotPushed x 3 (rooms x1 is rs ns) b1 (rooms x2 i1 r1 n1) b2) (p3 : FixedPushed (ascii ")(") 0 x2 b2 x3 b3) where
    glycerolipid-3 : (t : List ℕ) (ds : List Chain) → Fills t glycerol all_slots x ds → Along t ds (take 3 glycerol) (drop 3 glycerol) (rooms xs is rs ns) (rooms x3 i1 r1 n1) b3
    unfolding ascii elements glycerol fixed_pieces show atoms_of_pieces
    glycerolipid-3 t ds w = then-fixed (then-slot (glycerolipid-1 t ds w) (w.stood.stands 3) p2) (record { shown = refl; size = refl }) p3

    pub glycerolipid-second : FilledTailless glycerol all_slots x → SlotFits x 2 n1 b3
    unfolding ascii elements glycerol fixed_pieces show atoms_of_pieces
    glycerolipid-second w = next-slot (glycerolipid-3 w.tail w.chains w.fills) (w.fills.stood.stands 2)

    module _ {x4 i2 r2 x5 : List ℕ} {n2 : List Placed} {b4 b5 : Builder}
        (p4 : SlotPushed x 2 (rooms x3 i1 r1 n1) b3 (rooms x4 i2 r2 n2) b4) (p5 : FixedPushed (ascii ")C") 1 x4 b4 x5 b5) where
      glycerolipid-5 : (t : List ℕ) (ds : List Chain) → Fills t glycerol all_slots x ds → Along t ds (take 5 glycerol) (drop 5 glycerol) (rooms xs is rs ns) (rooms x5 i2 r2 n2) b5
      unfolding ascii elements glycerol fixed_pieces show atoms_of_pieces
      glycerolipid-5 t ds w = then-fixed (then-slot (glycerolipid-3 t ds w) (w.stood.stands 2) p4) (record { shown = refl; size = refl }) p5

      pub glycerolipid-third : FilledTailless glycerol all_slots x → SlotFits x 1 n2 b5
      unfolding ascii elements glycerol fixed_pieces show atoms_of_pieces
      glycerolipid-third w = next-slot (glycerolipid-5 w.tail w.chains w.fills) (w.fills.stood.stands 1)

      pub glycerolipid-built : {ys js ss : List ℕ} {ms : List Placed} {q : Builder} → SlotPushed x 1 (rooms x5 i2 r2 n2) b5 (rooms ys js ss ms) q
          → Tailless glycerol all_slots x (rooms xs is rs ns) (rooms ys js ss ms) q
      unfolding ascii elements glycerol fixed_pieces show atoms_of_pieces
      glycerolipid-built p =
          record { sizes = sizes-then (sizes-fixed p1) (sizes-then p2.sizes (sizes-then (sizes-fixed p3) (sizes-then p4.sizes (sizes-then (sizes-fixed p5) p.sizes)))); built = λ t ds w. (then-slot (glycerolipid-5 t ds w) (w.stood.stands 1) p).built }

-- GP
module _ {t : List ℕ} {k : ℕ} {x : Chains} {xs is rs x1 x2 x3 : List ℕ} {ns : List Placed} {b0 b1 b2 b3 : Builder}
    (g : Short (rooms xs is rs ns)) (z : Fresh b0) (o : TailOf t k) (p1 : FixedPushed (ascii "C(C") 2 xs b0 x1 b1) (p2 : FixedPushed t k x1 b1 x2 b2) (p3 : FixedPushed (ascii ")(") 0 x2 b2 x3 b3) where
  gpl-3 : (ds : List Chain) → Fills t (elements Gp) (role_of Gp) x ds → Along t ds (take 3 (elements Gp)) (drop 3 (elements Gp)) (rooms xs is rs ns) (rooms x3 is rs ns) b3
  unfolding ascii elements glycerol fixed_pieces show atoms_of_pieces
  gpl-3 ds w = then-fixed (then_tail (then-fixed (at_first g z w.fits) (record { shown = refl; size = refl }) p1) o p2) (record { shown = refl; size = refl }) p3

  pub gpl-first : FilledTailed t (elements Gp) (role_of Gp) x → SlotFits x 2 ns b3
  unfolding ascii elements glycerol fixed_pieces show atoms_of_pieces
  gpl-first w = next-slot (gpl-3 w.chains w.fills) (w.fills.stood.stands 2)

  module _ {x4 i1 r1 x5 : List ℕ} {n1 : List Placed} {b4 b5 : Builder}
      (p4 : SlotPushed x 2 (rooms x3 is rs ns) b3 (rooms x4 i1 r1 n1) b4) (p5 : FixedPushed (ascii ")C") 1 x4 b4 x5 b5) where
    gpl-5 : (ds : List Chain) → Fills t (elements Gp) (role_of Gp) x ds → Along t ds (take 5 (elements Gp)) (drop 5 (elements Gp)) (rooms xs is rs ns) (rooms x5 i1 r1 n1) b5
    unfolding ascii elements glycerol fixed_pieces show atoms_of_pieces
    gpl-5 ds w = then-fixed (then-slot (gpl-3 ds w) (w.stood.stands 2) p4) (record { shown = refl; size = refl }) p5

    pub gpl-second : FilledTailed t (elements Gp) (role_of Gp) x → SlotFits x 1 n1 b5
    unfolding ascii elements glycerol fixed_pieces show atoms_of_pieces
    gpl-second w = next-slot (gpl-5 w.chains w.fills) (w.fills.stood.stands 1)

    pub gpl-built : {ys js ss : List ℕ} {ms : List Placed} {q : Builder} → SlotPushed x 1 (rooms x5 i1 r1 n1) b5 (rooms ys js ss ms) q
        → Tailed t (elements Gp) (role_of Gp) x (rooms xs is rs ns) (rooms ys js ss ms) q
    unfolding ascii elements glycerol fixed_pieces show atoms_of_pieces
    gpl-built p =
        record { sizes = sizes-then (sizes-fixed p1) (sizes-then (sizes-fixed p2) (sizes-then (sizes-fixed p3) (sizes-then p4.sizes (sizes-then (sizes-fixed p5) p.sizes)))); built = λ ds w. (then-slot (gpl-5 ds w) (w.stood.stands 1) p).built }

-- CL
module _ {x : Chains} {xs is rs x1 : List ℕ} {ns : List Placed} {b0 b1 : Builder}
    (g : Short (rooms xs is rs ns)) (z : Fresh b0) (p1 : FixedPushed (ascii "C(COP(=O)(O)OCC(") 9 xs b0 x1 b1) where
  cl-1 : (t : List ℕ) (ds : List Chain) → Fills t (elements Cl) (role_of Cl) x ds → Along t ds (take 1 (elements Cl)) (drop 1 (elements Cl)) (rooms xs is rs ns) (rooms x1 is rs ns) b1
  unfolding ascii elements glycerol fixed_pieces show atoms_of_pieces
  cl-1 t ds w = then-fixed (at_first g z w.fits) (record { shown = refl; size = refl }) p1

  pub cl-first : FilledTailless (elements Cl) (role_of Cl) x → SlotFits x 2 ns b1
  unfolding ascii elements glycerol fixed_pieces show atoms_of_pieces
  cl-first w = next-slot (cl-1 w.tail w.chains w.fills) (w.fills.stood.stands 2)

  module _ {x2 i1 r1 x3 : List ℕ} {n1 : List Placed} {b2 b3 : Builder}
      (p2 : SlotPushed x 2 (rooms x1 is rs ns) b1 (rooms x2 i1 r1 n1) b2) (p3 : FixedPushed (ascii ")C") 1 x2 b2 x3 b3) where
    cl-3 : (t : List ℕ) (ds : List Chain) → Fills t (elements Cl) (role_of Cl) x ds → Along t ds (take 3 (elements Cl)) (drop 3 (elements Cl)) (rooms xs is rs ns) (rooms x3 i1 r1 n1) b3
    unfolding ascii elements glycerol fixed_pieces show atoms_of_pieces
    cl-3 t ds w = then-fixed (then-slot (cl-1 t ds w) (w.stood.stands 2) p2) (record { shown = refl; size = refl }) p3

    pub cl-second : FilledTailless (elements Cl) (role_of Cl) x → SlotFits x 1 n1 b3
    unfolding ascii elements glycerol fixed_pieces show atoms_of_pieces
    cl-second w = next-slot (cl-3 w.tail w.chains w.fills) (w.fills.stood.stands 1)

    module _ {x4 i2 r2 x5 : List ℕ} {n2 : List Placed} {b4 b5 : Builder}
        (p4 : SlotPushed x 1 (rooms x3 i1 r1 n1) b3 (rooms x4 i2 r2 n2) b4) (p5 : FixedPushed (ascii ")(O)COP(=O)(O)OCC(") 9 x4 b4 x5 b5) where
      cl-5 : (t : List ℕ) (ds : List Chain) → Fills t (elements Cl) (role_of Cl) x ds → Along t ds (take 5 (elements Cl)) (drop 5 (elements Cl)) (rooms xs is rs ns) (rooms x5 i2 r2 n2) b5
      unfolding ascii elements glycerol fixed_pieces show atoms_of_pieces
      cl-5 t ds w = then-fixed (then-slot (cl-3 t ds w) (w.stood.stands 1) p4) (record { shown = refl; size = refl }) p5

      pub cl-third : FilledTailless (elements Cl) (role_of Cl) x → SlotFits x 4 n2 b5
      unfolding ascii elements glycerol fixed_pieces show atoms_of_pieces
      cl-third w = next-slot (cl-5 w.tail w.chains w.fills) (w.fills.stood.stands 4)

      module _ {x6 i3 r3 x7 : List ℕ} {n3 : List Placed} {b6 b7 : Builder}
          (p6 : SlotPushed x 4 (rooms x5 i2 r2 n2) b5 (rooms x6 i3 r3 n3) b6) (p7 : FixedPushed (ascii ")C") 1 x6 b6 x7 b7) where
        cl-7 : (t : List ℕ) (ds : List Chain) → Fills t (elements Cl) (role_of Cl) x ds → Along t ds (take 7 (elements Cl)) (drop 7 (elements Cl)) (rooms xs is rs ns) (rooms x7 i3 r3 n3) b7
        unfolding ascii elements glycerol fixed_pieces show atoms_of_pieces
        cl-7 t ds w = then-fixed (then-slot (cl-5 t ds w) (w.stood.stands 4) p6) (record { shown = refl; size = refl }) p7

        pub cl-fourth : FilledTailless (elements Cl) (role_of Cl) x → SlotFits x 3 n3 b7
        unfolding ascii elements glycerol fixed_pieces show atoms_of_pieces
        cl-fourth w = next-slot (cl-7 w.tail w.chains w.fills) (w.fills.stood.stands 3)

        pub cl-built : {ys js ss : List ℕ} {ms : List Placed} {q : Builder} → SlotPushed x 3 (rooms x7 i3 r3 n3) b7 (rooms ys js ss ms) q
            → Tailless (elements Cl) (role_of Cl) x (rooms xs is rs ns) (rooms ys js ss ms) q
        unfolding ascii elements glycerol fixed_pieces show atoms_of_pieces
        cl-built p =
            record { sizes = sizes-then (sizes-fixed p1) (sizes-then p2.sizes (sizes-then (sizes-fixed p3) (sizes-then p4.sizes (sizes-then (sizes-fixed p5) (sizes-then p6.sizes (sizes-then (sizes-fixed p7) p.sizes)))))); built = λ t ds w. (then-slot (cl-7 t ds w) (w.stood.stands 3) p).built }

-- SB
module _ {t : List ℕ} {k : ℕ} {x : Chains} {xs is rs x1 x2 x3 : List ℕ} {ns : List Placed} {b0 b1 b2 b3 : Builder}
    (g : Short (rooms xs is rs ns)) (z : Fresh b0) (o : TailOf t k) (p1 : FixedPushed (ascii "C(C") 2 xs b0 x1 b1) (p2 : FixedPushed t k x1 b1 x2 b2) (p3 : FixedPushed (ascii ")(N)") 1 x2 b2 x3 b3) where
  sphingoid-3 : (ds : List Chain) → Fills t (elements Sb) (role_of Sb) x ds → Along t ds (take 3 (elements Sb)) (drop 3 (elements Sb)) (rooms xs is rs ns) (rooms x3 is rs ns) b3
  unfolding ascii elements glycerol fixed_pieces show atoms_of_pieces
  sphingoid-3 ds w = then-fixed (then_tail (then-fixed (at_first g z w.fits) (record { shown = refl; size = refl }) p1) o p2) (record { shown = refl; size = refl }) p3

  pub sphingoid-first : FilledTailed t (elements Sb) (role_of Sb) x → BareFits x 1 Base ns b3
  unfolding ascii elements glycerol fixed_pieces show atoms_of_pieces
  sphingoid-first w = next-chain (sphingoid-3 w.chains w.fills) (w.fills.stood.stands 1)

  pub sphingoid-built : {ys js ss : List ℕ} {ms : List Placed} {q : Builder} → BarePushed x 1 Base (rooms x3 is rs ns) b3 (rooms ys js ss ms) q
      → Tailed t (elements Sb) (role_of Sb) x (rooms xs is rs ns) (rooms ys js ss ms) q
  unfolding ascii elements glycerol fixed_pieces show atoms_of_pieces
  sphingoid-built p =
      record { sizes = sizes-then (sizes-fixed p1) (sizes-then (sizes-fixed p2) (sizes-then (sizes-fixed p3) p.sizes)); built = λ ds w. (then-chain (sphingoid-3 ds w) (w.stood.stands 1) p).built }

-- SA
module _ {t : List ℕ} {k : ℕ} {x : Chains} {xs is rs x1 x2 x3 : List ℕ} {ns : List Placed} {b0 b1 b2 b3 : Builder}
    (g : Short (rooms xs is rs ns)) (z : Fresh b0) (o : TailOf t k) (p1 : FixedPushed (ascii "C(C") 2 xs b0 x1 b1) (p2 : FixedPushed t k x1 b1 x2 b2) (p3 : FixedPushed (ascii ")(N") 1 x2 b2 x3 b3) where
  acyl-sphingoid-3 : (ds : List Chain) → Fills t (elements Sa) (role_of Sa) x ds → Along t ds (take 3 (elements Sa)) (drop 3 (elements Sa)) (rooms xs is rs ns) (rooms x3 is rs ns) b3
  unfolding ascii elements glycerol fixed_pieces show atoms_of_pieces
  acyl-sphingoid-3 ds w = then-fixed (then_tail (then-fixed (at_first g z w.fits) (record { shown = refl; size = refl }) p1) o p2) (record { shown = refl; size = refl }) p3

  pub acyl-sphingoid-first : FilledTailed t (elements Sa) (role_of Sa) x → BareFits x 2 Acyl ns b3
  unfolding ascii elements glycerol fixed_pieces show atoms_of_pieces
  acyl-sphingoid-first w = next-chain (acyl-sphingoid-3 w.chains w.fills) (w.fills.stood.stands 2)

  module _ {x4 i1 r1 x5 : List ℕ} {n1 : List Placed} {b4 b5 : Builder}
      (p4 : BarePushed x 2 Acyl (rooms x3 is rs ns) b3 (rooms x4 i1 r1 n1) b4) (p5 : FixedPushed (ascii ")") 0 x4 b4 x5 b5) where
    acyl-sphingoid-5 : (ds : List Chain) → Fills t (elements Sa) (role_of Sa) x ds → Along t ds (take 5 (elements Sa)) (drop 5 (elements Sa)) (rooms xs is rs ns) (rooms x5 i1 r1 n1) b5
    unfolding ascii elements glycerol fixed_pieces show atoms_of_pieces
    acyl-sphingoid-5 ds w = then-fixed (then-chain (acyl-sphingoid-3 ds w) (w.stood.stands 2) p4) (record { shown = refl; size = refl }) p5

    pub acyl-sphingoid-second : FilledTailed t (elements Sa) (role_of Sa) x → BareFits x 1 Base n1 b5
    unfolding ascii elements glycerol fixed_pieces show atoms_of_pieces
    acyl-sphingoid-second w = next-chain (acyl-sphingoid-5 w.chains w.fills) (w.fills.stood.stands 1)

    pub acyl-sphingoid-built : {ys js ss : List ℕ} {ms : List Placed} {q : Builder} → BarePushed x 1 Base (rooms x5 i1 r1 n1) b5 (rooms ys js ss ms) q
        → Tailed t (elements Sa) (role_of Sa) x (rooms xs is rs ns) (rooms ys js ss ms) q
    unfolding ascii elements glycerol fixed_pieces show atoms_of_pieces
    acyl-sphingoid-built p =
        record { sizes = sizes-then (sizes-fixed p1) (sizes-then (sizes-fixed p2) (sizes-then (sizes-fixed p3) (sizes-then p4.sizes (sizes-then (sizes-fixed p5) p.sizes)))); built = λ ds w. (then-chain (acyl-sphingoid-5 ds w) (w.stood.stands 1) p).built }
