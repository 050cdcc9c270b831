-- What is drawn of a chain, and its carbons, marks, sum and site lists, as functions of the record, the chain's role and three offsets: the
-- atom of its first carbon, its first variable and (in the text alone) its first label. 01, Drawing a chain. Assumes nothing.
use Rattle.std.specs.Prelude.{ℕ, zero, suc, ◌+◌, ◌-◌, ◌*◌, false, cond, List, [], ◌∷◌, ◌++◌, map, length, drop, eqb}
use Rattle.std.proofs.Math.Option.{Option, none, some}
use Rattle.chain_record.specs.declared.plain.ChainPrefix.{ChainPrefix}
use Rattle.chain_record.specs.declared.plain.Mod.{Mod}
use Rattle.chain_record.specs.declared.plain.Ring.{Ring}
use Rattle.chain_record.specs.plain.Chain.{Chain}
use Rattle.group_table.specs.groups.Groups.{entry_at, keto}
use Rattle.reading_rules.specs.reading.Part.{Part, part_of}
use Rattle.reading_rules.specs.reading.Chain as reading
use Rattle.reading_rules.specs.reading.Template as template
use Rattle.reading_rules.specs.reading.Molecule.{At, at, Sum, sum}
use Rattle.chain_rules.specs.declared.chain.Role.{Role}
use Rattle.chain_rules.specs.chain.Lists.{only, values_from}
use Rattle.chain_rules.specs.chain.Features.{first_drawn, is_acyl, groups_on, floating, literal_end, remaining, site_skip}
use Rattle.chain_rules.specs.chain.Bonds.{double, bridged, bond_at, mark_of}

-- ---- the atoms

-- a part with nothing in it
abbrev pub no_part : Part
no_part = record { pieces = []; rows = []; size = 0; last = 0 }

abbrev pub or_none : Option Part → Part
or_none none = no_part
or_none (some p) = p

-- the branch of a group, by its row of the table, as the reading rules read it
unfoldable pub branch_part : ℕ → Part
unfolding part_of entry_at
branch_part row = or_none (part_of (entry_at row).branch)

-- "on acyl C1 a doubly bonded O": the branch of oxo
unfoldable pub carbonyl : Role → ChainPrefix → ℕ → List Part
unfolding is_acyl branch_part
carbonyl r p k = cond (is_acyl r p) (cond (eqb k 1) (branch_part keto ∷ []) []) []

-- "then located groups at k in token order (methyl first)"
unfoldable pub groups_at : Role → Chain → ℕ → List Mod
unfolding only groups_on
groups_at r d k = only (λ g. eqb g.pos k) (groups_on r d)

unfoldable pub branches : List Mod → List Part
unfolding branch_part
branches gs = map (λ g. branch_part g.row) gs

-- C k: "a base's text opens with the mark of bond 2, if it has one"; "an epoxide's O between k and k+1"
unfoldable pub carbon_at : Role → Chain → ℕ → reading.Carbon
unfolding mark_of bond_at carbonyl branches groups_at
carbon_at r d k =
    record { before = mark_of (bond_at r d (k - 1)); parts = carbonyl r d.prefix k ++ branches (groups_at r d k); bridge = eqb (bond_at r d k) bridged }

-- C f to the end of the literal part
unfoldable pub literal : Role → Chain → List reading.Carbon
unfolding values_from carbon_at literal_end
literal r d = values_from (carbon_at r d) (first_drawn r) (suc (literal_end r d) - first_drawn r)

abbrev pub bare : ℕ → reading.Carbon
bare m = record { before = m; parts = []; bridge = false }

-- so many `C=C`
unfoldable pub pairs : ℕ → List reading.Carbon
pairs zero = []
pairs (suc n) = bare 0 ∷ bare double ∷ pairs n

-- "Then any mark, `C`, n−1 `C=C`, `C=CC`": a carbon, n times `C=C`, a carbon
unfoldable pub flexible : ℕ → ℕ → List reading.Carbon
unfolding pairs
flexible m zero = []
flexible m (suc n) = bare m ∷ pairs (suc n) ++ bare 0 ∷ []

unfoldable pub carbons : Role → Chain → List reading.Carbon
unfolding literal flexible mark_of bond_at literal_end
carbons r d = literal r d ++ flexible (mark_of (bond_at r d (literal_end r d))) d.unlocated

-- "each ring adds a plain bond between its ends"
unfoldable pub ring_pairs : List Ring → List reading.Ring
ring_pairs rs = map (λ x. reading.ring x.start x.end) rs

-- "Unlocated groups append `.*branch`"
unfoldable pub floats : Chain → List Part
unfolding branches floating
floats d = branches (floating d)

-- the chain as the reading rules' drawing takes it
unfoldable pub chain_drawn : Role → Chain → template.Chain
unfolding ring_pairs carbons floats
chain_drawn r d = record { first = first_drawn r; rings = ring_pairs d.rings; carbons = carbons r d; floats = floats d }

-- ---- what is said of the atoms, where the first carbon is atom n and the first variable is v

-- the atoms of the drawn carbons, C f first
unfoldable pub carbon_atoms : Role → Chain → ℕ → List ℕ
unfolding carbons values_from reading.atom_of reading.atom_from
carbon_atoms r d n = values_from (reading.atom_of (first_drawn r) n (carbons r d)) (first_drawn r) (length (carbons r d))

-- P: the atom of the first flexible carbon
unfoldable pub flexible_atom : Role → Chain → ℕ → ℕ
unfolding literal reading.chain_end
flexible_atom r d n = reading.chain_end n (literal r d)

-- "variables sit on P+2i for i < n and on P+2n+1"
unfoldable pub mark_list : ℕ → ℕ → ℕ → List (At ℕ)
unfolding values_from
mark_list p v zero = []
mark_list p v (suc n) = values_from (λ i. at (p + 2 * i) (v + i)) 0 (suc n) ++ at (p + 2 * suc n + 1) (v + suc n) ∷ []

unfoldable pub marks : Role → Chain → ℕ → ℕ → List (At ℕ)
unfolding mark_list flexible_atom
marks r d n v = mark_list (flexible_atom r d n) v d.unlocated

-- how many variables a chain takes
unfoldable pub variables : Chain → ℕ
variables d = cond (eqb d.unlocated 0) 0 (suc d.unlocated)

-- "their sum is R−n−1"
unfoldable pub sums : Role → Chain → ℕ → List Sum
unfolding variables remaining values_from
sums r d v = cond (eqb d.unlocated 0) [] (sum (values_from (λ i. v + i) 0 (variables d)) (remaining r d - d.unlocated - 1) ∷ [])

-- "sites are all drawn carbons but acyl C1"
unfoldable pub site_atoms : Role → Chain → ℕ → List ℕ
unfolding site_skip carbon_atoms
site_atoms r d n = drop (site_skip r d) (carbon_atoms r d n)

-- a site list at each floating atom, the first of which is atom m
unfoldable pub site_lists : List ℕ → ℕ → List Part → List (At (List ℕ))
site_lists js m [] = []
site_lists js m (p ∷ ps) = at m js ∷ site_lists js (suc m + p.size) ps

unfoldable pub sites : Role → Chain → ℕ → List (At (List ℕ))
unfolding site_lists site_atoms carbons reading.chain_end floats
sites r d n = site_lists (site_atoms r d n) (reading.chain_end n (carbons r d)) (floats d)

-- the atom after the chain's last
unfoldable pub atoms_end : Role → Chain → ℕ → ℕ
unfolding reading.float_end reading.chain_end carbons floats
atoms_end r d n = reading.float_end (reading.chain_end n (carbons r d)) (floats d)
