-- What is promised of each chain of a request, among the atoms of the molecule: its own atoms and indices, the atom that it hangs on, its site,
-- its floating parts, its repeat marks, its groups and its carbons. Assumes nothing.
use Rattle.std.specs.Prelude.{ℕ, suc, ◌+◌, ◌-◌, ◌<◌, ◌≡◌, Bool, true, false, cond, List, [], ◌∷◌, ◌++◌, map, length, take, drop}
use Rattle.std.proofs.Math.Option.{Option, none, some}
use Rattle.chain_record.specs.plain.Chain.{Chain}
use Rattle.chain_record.specs.declared.plain.Mod.{Mod}
use Rattle.group_table.specs.groups.Groups.{entries, entry_at, keto}
use Rattle.reading_rules.specs.reading.Ascii.{ascii}
use Rattle.reading_rules.specs.reading.Piece.{show}
use Rattle.reading_rules.specs.reading.Machine.{plainly}
use Rattle.reading_rules.specs.reading.Part.{Part, part_of}
use Rattle.reading_rules.specs.reading.Row.{Row, row}
use Rattle.reading_rules.specs.reading.Chain.{Kind, own, star, other, Member, rows_of, places}
use Rattle.reading_rules.specs.reading.Template.{members}
use Rattle.reading_rules.specs.reading.Molecule.{At, at, notes_of, bond, Molecule}
use Rattle.reading_rules.specs.reading.Line.{distinct, summed}
use Rattle.chain_rules.specs.declared.chain.Role.{Role}
use Rattle.chain_rules.specs.declared.chain.Role.TheVariants as role
use Rattle.chain_rules.specs.chain.Lists.{Each}
use Rattle.chain_rules.specs.chain.Features.{first_drawn, drawn_count, is_acyl, groups_on, floating}
use Rattle.chain_rules.specs.chain.Bonds.{bond_at, mark_of}
use Rattle.chain_rules.specs.chain.Drawing.{branch_part, literal, chain_drawn, sums}
use Rattle.chain_rules.specs.chain.Counts.{total, copies, methyls}
use Rattle.template_rules.specs.declared.Class.{Class}
use Rattle.template_rules.specs.declared.Class.TheVariants.{Fa, Gl1, Gl2, Gl3, Gp, Cl, Sb, Sa}
use Rattle.template_rules.specs.Drawn.{Placed, site_note}
use Rattle.template_rules.specs.Written.{head_carbons, indices_of}
use Rattle.template_rules.specs.Atoms.{bytes_at, variable_at, bonds_in, sums_in, Among, row_at}

-- ---- what it hangs on

-- the atom that a chain's first carbon, atom n, hangs on: the one just before it; of a base its C2, atom 0
abbrev pub hangs_on : Role → ℕ → ℕ
hangs_on role.Slot n = n - 1
hangs_on role.Acyl n = n - 1
hangs_on role.Base n = 0

-- "FA, 1 token: `O`, chain" and "SA, 2: `C(C`tail`)(N`acyl`)`base from C3"; no other class has an acyl chain outside a slot
abbrev pub acyl_parent : Class → List ℕ
acyl_parent Fa = ascii "O"
acyl_parent Gl1 = []
acyl_parent Gl2 = []
acyl_parent Gl3 = []
acyl_parent Gp = []
acyl_parent Cl = []
acyl_parent Sb = []
acyl_parent Sa = ascii "N"

-- what that atom is
abbrev pub parent_of : Class → Role → List ℕ
parent_of c role.Slot = ascii "O"
parent_of c role.Acyl = acyl_parent c
parent_of c role.Base = ascii "C"

-- the mark of the bond between the two, `-` counting as none: none, but that of bond 2 of a base
abbrev pub mark_before : Role → Chain → ℕ
mark_before role.Slot d = 0
mark_before role.Acyl d = 0
mark_before role.Base d = plainly (mark_of (bond_at role.Base d 2))

pub record Joined (c : Class) (m : Molecule) (p : Placed) : Type 0 where
  pub before : hangs_on p.role p.first < p.first
  pub parent : bytes_at m (hangs_on p.role p.first) ≡ some (parent_of c p.role)
  pub carbon : bytes_at m p.first ≡ some (ascii "C")
  pub bonded : Among (bond (hangs_on p.role p.first) p.first (mark_before p.role p.chain)) (bonds_in m)

-- ---- its own atoms

-- each carbon with its carbonyl O, its groups and its bridge after it, then the floating parts, numbered from its first carbon on
abbrev pub own_members : Placed → List Member
own_members p = members (chain_drawn p.role p.chain) p.first (hangs_on p.role p.first)

abbrev pub is_own : Kind → Bool
is_own own = true
is_own star = false
is_own other = false

abbrev pub is_star : Kind → Bool
is_star own = false
is_star star = true
is_star other = false

-- its drawn carbons, and the `*` of its floating parts
abbrev pub own_carbons : Placed → List ℕ
own_carbons p = places is_own p.first (own_members p)

abbrev pub own_stars : Placed → List ℕ
own_stars p = places is_star p.first (own_members p)

-- one numbering: from its first carbon on the rows of the molecule are its own, and its indices are those of its carbons, after a base's C1 and C2
pub record Stretch (rs : List Row) (p : Placed) : Type 0 where
  pub rows : take (length (own_members p)) (drop p.first rs) ≡ rows_of (own_members p)
  pub indices : indices_of p ≡ head_carbons p.role ++ own_carbons p

-- "The base's C1 and C2 are atoms 1 and 0, where its indices start": its C2 is the atom that its C3 hangs on, and joined to its C1
pub record Headed (m : Molecule) (p : Placed) : Type 0 where
  pub listed : indices_of p ≡ 1 ∷ hangs_on p.role p.first ∷ own_carbons p
  pub bonded : Among (bond (hangs_on p.role p.first) 1 0) (bonds_in m)

abbrev pub HeadedBy : Role → Molecule → Placed → Type 0
HeadedBy role.Slot m p = Unit {0}
HeadedBy role.Acyl m p = Unit {0}
HeadedBy role.Base m p = Headed m p

-- "each of its carbons in the line from C1 on, groups left out": so many, each once, each an atom `C`
pub record Listed (m : Molecule) (p : Placed) : Type 0 where
  pub number : length (indices_of p) ≡ first_drawn p.role - 1 + drawn_count p.role p.chain
  pub once : distinct (indices_of p) ≡ true
  pub each : Each (λ i. bytes_at m i ≡ some (ascii "C")) (indices_of p)

-- ---- its site

-- the site of a chain whose first carbon is atom n: the slot's O just before it; of an acyl chain that carbon; of a base none
abbrev pub site_by : Role → ℕ → Option ℕ
site_by role.Slot n = some (n - 1)
site_by role.Acyl n = some n
site_by role.Base n = none

-- the sites of some chains, each with its sn
unfoldable pub sites_by : List Placed → List (At ℕ)
sites_by [] = []
sites_by (p ∷ ps) = site_note (site_by p.role p.first) p.sn ++ sites_by ps

-- ---- its floating parts

-- "sites are all drawn carbons but acyl C1": how many of its indices lead that are no sites, C1 of an acyl chain, C1 and C2 of a base
unfoldable pub no_sites : Role → Chain → ℕ
unfolding is_acyl
no_sites r d = cond (is_acyl r d.prefix) 1 (first_drawn r - 1)

-- the `*` of some chains, each with all other indices of its chain
unfoldable pub star_lists : List Placed → List (At (List ℕ))
unfolding indices_of no_sites places members chain_drawn
star_lists [] = []
star_lists (p ∷ ps) = map (λ i. at i (drop (no_sites p.role p.chain) (indices_of p))) (own_stars p) ++ star_lists ps

-- such a `*` is joined to no lower atom, so to none of the chain
abbrev pub Stars : List Row → Placed → Type 0
Stars rs p = Each (λ i. row_at i rs ≡ some (row (ascii "*") [])) (own_stars p)

-- ---- its repeat marks

-- "variables sit on P+2i for i < n and on P+2n+1": of the carbons of a flexible tail, P first, every other one, and the last
unfoldable pub repeated : List ℕ → List ℕ
repeated [] = []
repeated (x ∷ []) = []
repeated (x ∷ y ∷ []) = y ∷ []
repeated (x ∷ y ∷ z ∷ is) = x ∷ repeated (z ∷ is)

-- variables from v on, one at each atom
unfoldable pub numbered : ℕ → List ℕ → List (At ℕ)
numbered v [] = []
numbered v (i ∷ is) = at i v ∷ numbered (suc v) is

-- they stand on such carbons of the chain, after the literal ones
abbrev pub own_marks : Placed → List (At ℕ)
own_marks p = numbered p.variable (repeated (drop (length (literal p.role p.chain)) (own_carbons p)))

unfoldable pub carbon_marks : List Placed → List (At ℕ)
unfolding numbered repeated literal places members chain_drawn
carbon_marks [] = []
carbon_marks (p ∷ ps) = own_marks p ++ carbon_marks ps

-- the chain's sum is one of the molecule's, and has their variables
pub record Summed (m : Molecule) (p : Placed) : Type 0 where
  pub stands : Each (λ x. Among x (sums_in m)) (sums p.role p.chain p.variable)
  pub variables : summed (sums p.role p.chain p.variable) ≡ notes_of (own_marks p)

-- ---- its groups

-- some bytes are a part by the reading rules, and the part is these bytes written
pub record Whole (xs : List ℕ) (q : Part) : Type 0 where
  pub reads : part_of xs ≡ some q
  pub shown : show q.pieces ≡ xs

-- a row of the table, whose branch is such a part
pub record Group (i : ℕ) : Type 0 where
  pub row : i < length entries
  pub branch : Whole (entry_at i).branch (branch_part i)

-- so is every group that a chain has, and the carbonyl O
pub record Grouped (p : Placed) : Type 0 where
  pub located : Each (λ (g : Mod). Group g.row) (groups_on p.role p.chain)
  pub floating : Each (λ (g : Mod). Group g.row) (floating p.chain)
  pub carbonyl : Group keto

-- ---- its carbons

-- each as often as it is repeated, and one for a methyl, they are the written ones
pub record AddsUp (m : Molecule) (count : ℕ → ℕ) (p : Placed) : Type 0 where
  pub written : total (λ i. copies count (variable_at m i)) (indices_of p) + methyls p.chain ≡ p.chain.written
