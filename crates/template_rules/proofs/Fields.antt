-- What the fields of the promise say of single requests: FA 5:0;5Me, 5:0;OH and 6:1, GL2 4:0/4:0 with swap, SA d6:0/4:0.
-- Assumes nothing.
use mathlib.Core.Path.{◌≡◌, refl}
use mathlib.Core.Bool.{true, false}
use mathlib.Core.Option.{none, some}
use mathlib.Core.List.{List, [], ◌∷◌, map}
use Rattle.chain_record.specs.declared.plain.ChainPrefix.TheVariants as prefix
use Rattle.chain_record.specs.plain.Chain.{Chain, no_features, with_group, with_unlocated}
use Rattle.group_table.specs.groups.Groups.{entries, methyl}
use Rattle.reading_rules.specs.reading.Ascii.{ascii}
use Rattle.reading_rules.specs.reading.Molecule.{at}
use Rattle.chain_rules.specs.chain.Drawing.{chain_drawn, carbon_atoms, marks, sites, sums, atoms_end}
use Rattle.template_rules.specs.declared.Class.TheVariants.{Fa, Gl2, Sa}
use Rattle.template_rules.specs.Drawn.{nonempty, atoms_of_pieces, fixed_pieces, placed, by_sn, sn_sites, molecule_drawn}
use Rattle.reading_rules.specs.reading.Chain.{own, other, places}
use Rattle.reading_rules.specs.reading.Template.{members}
use Rattle.template_rules.specs.Chains.{hangs_on, own_members, own_carbons}
use Rattle.template_rules.specs.Atoms.{bytes_at, marks_in, site_lists_in, label_at}
use Rattle.template_rules.proofs.Examples.{hexenoic, hydroxypentanoic, sphinganine}

abbrev methylated : List Chain
methylated = with_group (record { pos = 5; row = methyl }) (no_features prefix.Acyl 5 5 false) ∷ []

abbrev butyryl : Chain
butyryl = no_features prefix.Acyl 4 4 false

-- `OC(=O)CCCC(C)`: atom 7 is the methyl
methyl-kinds : map (λ p. map (λ m. m.kind) (own_members p)) (placed Fa [] methylated) ≡ (own ∷ other ∷ own ∷ own ∷ own ∷ own ∷ other ∷ []) ∷ []
unfolding placed members with_group entries chain_drawn
methyl-kinds = refl

methyl-carbons : map (λ p. own_carbons p) (placed Fa [] methylated) ≡ (1 ∷ 3 ∷ 4 ∷ 5 ∷ 6 ∷ []) ∷ []
unfolding placed places members with_group entries chain_drawn
methyl-carbons = refl

-- `OC(=O)CCCC.*O`: the `*` is atom 7
hydroxy-lists : site_lists_in (molecule_drawn Fa false [] (hydroxypentanoic ∷ [])) ≡ at 7 (3 ∷ 4 ∷ 5 ∷ 6 ∷ []) ∷ []
unfolding site_lists_in molecule_drawn with_group entries chain_drawn carbon_atoms marks sites sums
hydroxy-lists = refl

-- `OC(=O)CC=CC`: a on atom 3 and b on atom 6
hexenoic-marks : marks_in (molecule_drawn Fa false [] (hexenoic ∷ [])) ≡ at 3 0 ∷ at 6 1 ∷ []
unfolding marks_in molecule_drawn with_unlocated entries chain_drawn carbon_atoms marks sites sums
hexenoic-marks = refl

-- `C(CO)(OC(=O)CCC)COC(=O)CCC`: the O of sn 2 is atom 3, that of sn 1 atom 10
two-sites : sn_sites (by_sn (placed Gl2 [] (butyryl ∷ butyryl ∷ []))) ≡ at 10 1 ∷ at 3 2 ∷ []
unfolding sn_sites by_sn placed entries chain_drawn carbon_atoms nonempty atoms_of_pieces fixed_pieces atoms_end
two-sites = refl

two-labels : map (label_at (molecule_drawn Gl2 true [] (butyryl ∷ butyryl ∷ []))) (3 ∷ 10 ∷ 11 ∷ []) ≡ some 2 ∷ some 1 ∷ none ∷ []
unfolding label_at molecule_drawn entries chain_drawn carbon_atoms marks sites sums atoms_end
two-labels = refl

-- `C(CO)(NC(=O)CCC)C(O)CCC`: the acyl chain hangs on the N, the base on its C2
ceramide-parents : map (λ p. bytes_at (molecule_drawn Sa false (ascii "O") (sphinganine ∷ butyryl ∷ [])) (hangs_on p.role p.first)) (placed Sa (ascii "O") (sphinganine ∷ butyryl ∷ [])) ≡ some (ascii "N") ∷ some (ascii "C") ∷ []
unfolding bytes_at molecule_drawn placed nonempty atoms_of_pieces fixed_pieces entries chain_drawn carbon_atoms marks sites sums atoms_end
ceramide-parents = refl
