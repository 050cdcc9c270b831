-- No line is longer than the numbers of its chains say. Assumes nothing.
use Prim.Native.Nat.{ℕ, ◌+◌, ◌≤◌}
use native.Mathlib.Omega.{arith}
use mathlib.Core.Path.{◌≡◌, refl, ap}
use mathlib.Core.Bool.{Bool, true}
use mathlib.Core.Option.{some}
use mathlib.Core.List.{List}
use lib.ListN.{length}
use Rattle.chain_record.specs.plain.Chain.{Chain}
use Rattle.reading_rules.specs.reading.Ascii.{ascii}
use Rattle.reading_rules.specs.reading.Piece.{show_piece, show_labels, show}
use Rattle.reading_rules.proofs.reading.PartingLaws.{All}
use Rattle.template_rules.specs.declared.Class.{Class}
use Rattle.template_rules.specs.declared.Class.TheVariants.{Fa, Gl1, Gl2, Gl3, Gp, Cl, Sb, Sa}
use Rattle.template_rules.specs.Template.{elements, glycerol, role_of, has_tail}
use Rattle.template_rules.specs.Drawn.{nonempty, fixed_pieces, atoms_of_pieces, placed_from, placed, all_marks, all_sites, all_sums, by_sn, sn_sites, labels}
use Rattle.template_rules.specs.Written.{text_of, line_of}
use Rattle.chain_rules.specs.chain.Lists.{Each}
use Rattle.placement.specs.chain_notes.Fragment.{summed, Told}
use Rattle.chain_lists.proofs.listing.PlacedLaws.{places-few}
use Rattle.class_templates.specs.Templates.{TailOf}
use Rattle.class_lines.specs.longest.Longest.{most_at, line_most}
use Rattle.class_lines.proofs.longest.Blocks.{line-few}
use Rattle.class_lines.proofs.longest.Chains.{Modest, blocks-most}
use Rattle.class_lines.proofs.longest.Templates.{weight, template-weighs, KeptAt, KeptIn, template-kept, labels-weigh}

module _ (t : List ℕ) (ds : List Chain) where
  -- each sn stands once in a template
  class-weighs : (c : Class) (k : ℕ) → (has_tail c ≡ true → TailOf t k)
      → summed (weight t ds) (elements c) ≤ 72 + length t + k + (most_at c ds 1 + most_at c ds 2 + most_at c ds 3 + most_at c ds 4)
  unfolding summed weight elements glycerol ascii fixed_pieces atoms_of_pieces show show_piece show_labels most_at
  class-weighs Fa k h = omega arith
  class-weighs Gl1 k h = omega arith
  class-weighs Gl2 k h = omega arith
  class-weighs Gl3 k h = omega arith
  class-weighs Gp k h = omega (arith, (h refl).size, ap length (h refl).shown)
  class-weighs Cl k h = omega arith
  class-weighs Sb k h = omega (arith, (h refl).size, ap length (h refl).shown)
  class-weighs Sa k h = omega (arith, (h refl).size, ap length (h refl).shown)

  class-kept : (c : Class) → ((sn : ℕ) → KeptAt t ds (role_of c sn) sn) → All (KeptIn t ds) (elements c)
  unfolding elements glycerol
  class-kept Fa h = (tt, (h 1, tt))
  class-kept Gl1 h = (tt, (h 3, (tt, (h 2, (tt, (h 1, tt))))))
  class-kept Gl2 h = (tt, (h 3, (tt, (h 2, (tt, (h 1, tt))))))
  class-kept Gl3 h = (tt, (h 3, (tt, (h 2, (tt, (h 1, tt))))))
  class-kept Gp h = (tt, (tt, (tt, (h 2, (tt, (h 1, tt))))))
  class-kept Cl h = (tt, (h 2, (tt, (h 1, (tt, (h 4, (tt, (h 3, tt))))))))
  class-kept Sb h = (tt, (tt, (tt, (h 1, tt))))
  class-kept Sa h = (tt, (tt, (tt, (h 2, (tt, (h 1, tt))))))

-- THE LENGTH OF A LINE
pub line-most : (c : Class) (swap : Bool) (t : List ℕ) (k : ℕ) (ds : List Chain) → (has_tail c ≡ true → TailOf t k) → Each Told (placed c t ds)
    → ((sn : ℕ) (d : Chain) → nonempty sn ds ≡ some d → Modest (role_of c sn) d) → length (line_of c swap t ds) ≤ line_most c t k ds
unfolding line_of text_of placed line_most
line-most c swap t k ds h told kept =
    let ps = placed_from t ds 0 0 (elements c) in
    omega (
      arith,
      line-few (text_of c t ds) (labels swap (sn_sites (by_sn ps))) (all_marks ps) (all_sites ps) (all_sums ps),
      labels-weigh t ds swap (elements c),
      blocks-most ps told (template-kept t ds (elements c) 0 0 (class-kept t ds c kept)),
      template-weighs t ds (elements c) 10 0 0,
      places-few c t ds,
      class-weighs t ds c k h,
    )
