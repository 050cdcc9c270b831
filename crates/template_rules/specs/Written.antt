-- What is written of a request: the line, and the lists of its chains' carbons. 01, The line and its reading; Accepted, or refused by whom: "per
-- listed chain, by rising sn, its sn and index count (the lists end to end in that order; every chain with c > 0, with each of its carbons in
-- the line from C1 on, groups left out)". Assumes nothing.
use Rattle.std.specs.Prelude.{ℕ, Bool, List, [], ◌∷◌, ◌++◌}
use Rattle.chain_record.specs.plain.Chain.{Chain}
use Rattle.reading_rules.specs.reading.Piece.{show}
use Rattle.reading_rules.specs.reading.Template.{template_pieces}
use Rattle.reading_rules.specs.reading.Show.{show_line}
use Rattle.chain_rules.specs.declared.chain.Role.{Role}
use Rattle.chain_rules.specs.declared.chain.Role.TheVariants as role
use Rattle.chain_rules.specs.chain.Drawing as draw
use Rattle.template_rules.specs.declared.Class.{Class}
use Rattle.template_rules.specs.Template.{elements}
use Rattle.template_rules.specs.Drawn.{all_items, Placed, placed, all_marks, all_sites, all_sums, by_sn, sn_sites, labels}

-- ---- the line

-- the text, with labels from `%10` on
unfoldable pub text_of : Class → List ℕ → List Chain → List ℕ
unfolding show template_pieces all_items elements
text_of c t ds = show (template_pieces 10 (all_items t ds (elements c)))

unfoldable pub line_of : Class → Bool → List ℕ → List Chain → List ℕ
unfolding show_line text_of labels sn_sites by_sn placed all_marks all_sites all_sums
line_of c swap t ds =
    show_line (text_of c t ds) (labels swap (sn_sites (by_sn (placed c t ds)))) (all_marks (placed c t ds)) (all_sites (placed c t ds)) (all_sums (placed c t ds))

-- ---- the lists

-- "The base's C1 and C2 are atoms 1 and 0, where its indices start"
abbrev pub head_carbons : Role → List ℕ
head_carbons role.Slot = []
head_carbons role.Acyl = []
head_carbons role.Base = 1 ∷ 0 ∷ []

-- the indices of a chain, C1 first
unfoldable pub indices_of : Placed → List ℕ
indices_of p = head_carbons p.role ++ draw.carbon_atoms p.role p.chain p.first

-- the index lists end to end
unfoldable pub all_indices : List Placed → List ℕ
unfolding indices_of
all_indices [] = []
all_indices (p ∷ ps) = indices_of p ++ all_indices ps

unfoldable pub index_of : Class → List ℕ → List Chain → List ℕ
unfolding all_indices by_sn placed
index_of c t ds = all_indices (by_sn (placed c t ds))
