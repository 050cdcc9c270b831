-- 01, Token reader: the group table, the abbreviations beside it and the alias rings. Assumes nothing.
use Rattle.std.specs.Prelude.{ℕ, suc, ◌≤◌, List, [], ◌∷◌, Bool, true, false, cond, ◌≡◌, take, get_or, eqb, Option, Some, None}
use Prim.Native.Char.{code}
use Prim.Native.String.{String}
use Rattle.scanner.specs.scan.Ascii.{ascii}
use Rattle.scanner.specs.scan.Part.{same_bytes}
use Rattle.group_table.specs.declared.groups.Row.{Row}

-- a group: its abbreviation, the branch that its carbon carries and the atoms of the branch
pub record Entry : Type 0 where
  pub abbr : List ℕ
  pub branch : List ℕ
  pub atoms : ℕ

abbrev pub entry : String → String → ℕ → Entry
entry a b n = record { abbr = ascii a; branch = ascii b; atoms = n }

-- "Group table, 17 rows: Et CC, Me C, Br Br, Cl Cl, F F, I I, NO2 [N+](=O)[O-], OMe OC, NH2 N, OOH OO, SH S, OH O, oxo =O, CN C#N, P OP(=O)(O)O, S OS(=O)(=O)O, COOH C(=O)O"
unfoldable pub entries : List Entry
unfolding ascii
entries =
    entry "Et" "CC" 2
    ∷ entry "Me" "C" 1
    ∷ entry "Br" "Br" 1
    ∷ entry "Cl" "Cl" 1
    ∷ entry "F" "F" 1
    ∷ entry "I" "I" 1
    ∷ entry "NO2" "[N+](=O)[O-]" 3
    ∷ entry "OMe" "OC" 2
    ∷ entry "NH2" "N" 1
    ∷ entry "OOH" "OO" 2
    ∷ entry "SH" "S" 1
    ∷ entry "OH" "O" 1
    ∷ entry "oxo" "=O" 1
    ∷ entry "CN" "C#N" 2
    ∷ entry "P" "OP(=O)(O)O" 5
    ∷ entry "S" "OS(=O)(=O)O" 5
    ∷ entry "COOH" "C(=O)O" 3
    ∷ []

-- past the table
abbrev pub blank : Entry
blank = record { abbr = []; branch = []; atoms = 0 }

-- row i of the table
unfoldable pub entry_at : ℕ → Entry
entry_at i = get_or entries i blank

-- the rows of Me, OH and oxo
abbrev pub methyl : ℕ
methyl = 1

abbrev pub hydroxy : ℕ
hydroxy = 11

abbrev pub keto : ℕ
keto = 12

-- the place of the first entry with an abbreviation, counted from i
unfoldable pub lookup_from : ℕ → List Entry → List ℕ → Option ℕ
lookup_from i [] s = None
lookup_from i (e ∷ es) s = let r = lookup_from (suc i) es s in cond (same_bytes s e.abbr) (Some i) r

-- the abbreviations beside the table
abbrev pub hydroxy_text : List ℕ
hydroxy_text = ascii "hydroxy"

abbrev pub keto_text : List ℕ
keto_text = ascii "keto"

abbrev pub ep_upper_text : List ℕ
ep_upper_text = ascii "Ep"

abbrev pub ep_lower_text : List ℕ
ep_lower_text = ascii "ep"

abbrev pub epox_text : List ℕ
epox_text = ascii "epox"

abbrev pub cyc_text : List ℕ
cyc_text = ascii "cyc"

abbrev pub cyclo_text : List ℕ
cyclo_text = ascii "cyclo"

-- "also hydroxy O, keto `=O`": no row has either abbreviation, so the order of the tests says nothing
unfoldable pub substituent_of : List ℕ → Option ℕ
unfolding ascii
substituent_of s =
    cond (same_bytes s hydroxy_text) (Some hydroxy)
    (cond (same_bytes s keto_text) (Some keto) (lookup_from 0 entries s))

-- "Alias rings: Ep, ep, epox span 2 with an O bridge; cyc, cyclo span 3"
unfoldable pub alias_ring_size : List ℕ → Option ℕ
unfolding ascii
alias_ring_size s =
    cond (same_bytes s ep_upper_text) (Some 2)
    (cond (same_bytes s ep_lower_text) (Some 2)
    (cond (same_bytes s epox_text) (Some 2)
    (cond (same_bytes s cyc_text) (Some 3)
    (cond (same_bytes s cyclo_text) (Some 3) None))))

-- what a row of the code holds
unfoldable pub entry_of : Row → Entry
entry_of r = record { abbr = take r.abbr_len r.abbr; branch = take r.branch_len r.branch; atoms = r.atoms }

-- r is row i of the table, and its lengths are within its arrays
pub record RowIs (i : ℕ) (r : Row) : Type 0 where
  pub entry-is : entry_of r ≡ entry_at i
  pub abbr-fits : r.abbr_len ≤ 4
  pub branch_fits : r.branch_len ≤ 12

-- ---- the atoms of a branch by the reading rules

-- 01, Templates and the builder: an atom is one of "B C N O P S F I Cl Br b c n o s p *", or a bracket. A byte that opens one, outside of
-- brackets: the second bytes of Cl and Br open none.
unfoldable pub opens_atom : ℕ → Bool
unfolding ascii
opens_atom b = within (ascii "BCNOPSFIbcnosp*") b
  where
    within : List ℕ → ℕ → Bool
    within [] x = false
    within (y ∷ ys) x = cond (eqb x y) true (within ys x)

-- the atoms of a text without labels, from a place in or out of brackets
unfoldable pub atoms_from : Bool → List ℕ → ℕ
atoms_from inside [] = 0
atoms_from true (x ∷ xs) = cond (eqb x (code "]")) (atoms_from false xs) (atoms_from true xs)
atoms_from false (x ∷ xs) = cond (eqb x (code "[")) (suc (atoms_from true xs)) (cond (opens_atom x) (suc (atoms_from false xs)) (atoms_from false xs))

unfoldable pub atoms_in : List ℕ → ℕ
atoms_in s = atoms_from false s

-- whether an entry's count is that of its branch
unfoldable pub count_is_right : Entry → Bool
count_is_right e = eqb e.atoms (atoms_in e.branch)
