-- 01, Token reader: what stands before the bond count. "Otherwise `iso-` or `anteiso-`, then `O-`, `P-`, or d/D/t/T before a digit, then the
-- branch word if not yet seen. Carbon text to the first colon". Assumes nothing.
use Rattle.std.specs.Prelude.{ℕ, ◌+◌, ◌-◌, ◌≤◌, ◌≡◌, List, [], ◌∷◌, true, false, cond, length, drop, eqb, ltb, Option, Some, None, Result, Ok, Err}
use Rattle.scanner.specs.scan.Part.{starts_with}
use Rattle.scanner.specs.scan.Number.{is_digit, number_up_to, number_limit}
use Rattle.group_table.specs.groups.Groups.{methyl}
use Rattle.chain_record.specs.declared.plain.ChainPrefix.{ChainPrefix}
use Rattle.chain_record.specs.declared.plain.ChainPrefix.TheVariants.{Acyl, EtherAlkyl, EtherAlkenyl, SphingoidD, SphingoidT}
use Rattle.chain_record.specs.declared.plain.DbPos.{DbPos}
use Rattle.chain_record.specs.declared.plain.Mod.{Mod}
use Rattle.chain_record.specs.declared.plain.Ring.{Ring}
use Rattle.chain_record.specs.declared.parsed.ParsedChain.{ParsedChain}
use Rattle.chain_record.specs.parsed.Parsed.{Answer, Has, Refuses, Stands}
use Rattle.chain_record.specs.plain.Chain.{Outcome, Read, Refused, unreadable, over_limit, max_carbons, no_features, with_group}
use Rattle.token_head.specs.declared.opening.Branch.{Branch}
use Rattle.token_head.specs.declared.opening.Branch.TheVariants.{Straight, Iso, Anteiso}
use Rattle.token_head.specs.declared.opening.Opening.{Opening}
use Rattle.token_head.specs.declared.opening.Start.{Start}
use Rattle.chain_record.specs.declared.refusal.Refusal.{Refusal}
use Rattle.chain_record.specs.refusal.Refusal.{number_of}

-- `iso-`
abbrev pub iso_text : List ℕ
iso_text = 105 ∷ 115 ∷ 111 ∷ 45 ∷ []

-- `anteiso-`
abbrev pub anteiso_text : List ℕ
anteiso_text = 97 ∷ 110 ∷ 116 ∷ 101 ∷ 105 ∷ 115 ∷ 111 ∷ 45 ∷ []

-- the branch word that leads
unfoldable pub branch_of : List ℕ → Branch
branch_of s = cond (starts_with iso_text s) Iso (cond (starts_with anteiso_text s) Anteiso Straight)

abbrev pub branch_length : Branch → ℕ
branch_length Straight = 0
branch_length Iso = 4
branch_length Anteiso = 8

-- `O-`
abbrev pub ether_text : List ℕ
ether_text = 79 ∷ 45 ∷ []

-- `P-`
abbrev pub alkenyl_text : List ℕ
alkenyl_text = 80 ∷ 45 ∷ []

-- d (100) and D (68), t (116) and T (84)
unfoldable pub sphingoid_of : ℕ → ChainPrefix
sphingoid_of b = cond (eqb b 100) SphingoidD (cond (eqb b 68) SphingoidD (cond (eqb b 116) SphingoidT (cond (eqb b 84) SphingoidT Acyl)))

-- "d/D/t/T before a digit"
unfoldable pub before_digit : List ℕ → ChainPrefix
before_digit [] = Acyl
before_digit (x ∷ []) = Acyl
before_digit (x ∷ y ∷ s) = cond (is_digit y) (sphingoid_of x) Acyl

-- the prefix that leads; "A chain without prefix is acyl, `O-` ether, `P-` alkenyl"
unfoldable pub prefix_of : List ℕ → ChainPrefix
prefix_of s = cond (starts_with ether_text s) EtherAlkyl (cond (starts_with alkenyl_text s) EtherAlkenyl (before_digit s))

abbrev pub prefix_length : ChainPrefix → ℕ
prefix_length Acyl = 0
prefix_length EtherAlkyl = 2
prefix_length EtherAlkenyl = 2
prefix_length SphingoidD = 1
prefix_length SphingoidT = 1

-- "then the branch word if not yet seen": a first word, a prefix, and what follows from the place `at` on
abbrev pub second_word : Branch → ChainPrefix → ℕ → List ℕ → Opening
second_word Straight p at u = record { prefix = p; branch = branch_of u; carbons = at + branch_length (branch_of u) }
second_word Iso p at u = record { prefix = p; branch = Iso; carbons = at }
second_word Anteiso p at u = record { prefix = p; branch = Anteiso; carbons = at }

-- branch word, prefix, branch word, and the place where the carbon text starts
unfoldable pub opening_of : List ℕ → Opening
opening_of t =
    let n = branch_length (branch_of t) in
    let p = prefix_of (drop n t) in
    let m = prefix_length p in
    second_word (branch_of t) p (n + m) (drop m (drop n t))

-- "iso takes offset 1, anteiso 2"
abbrev pub branch_offset : Branch → ℕ
branch_offset Straight = 0
branch_offset Iso = 1
branch_offset Anteiso = 2

-- "carbons below offset + 3 give 11; else c is one less, methyl at c − offset"
unfoldable pub branched : ChainPrefix → ℕ → ℕ → Outcome
branched p offset w =
    cond (ltb w (offset + 3)) (Refused unreadable)
    (Read (with_group (record { pos = w - 1 - offset; row = methyl }) (no_features p w (w - 1) true)))

-- the chain of w written carbons
abbrev pub start_chain : ChainPrefix → Branch → ℕ → Outcome
start_chain p Straight w = Read (no_features p w w false)
start_chain p Iso w = branched p (branch_offset Iso) w
start_chain p Anteiso w = branched p (branch_offset Anteiso) w

-- 11 where the carbon text is no number; 31: "written carbons over 255 (.. carbons with their text ..)"
abbrev pub carbons_by : ChainPrefix → Branch → Option ℕ → Outcome
carbons_by p b (Some n) = cond (ltb max_carbons n) (Refused over_limit) (start_chain p b n)
carbons_by p b None = Refused unreadable

unfoldable pub carbons_of : ChainPrefix → Branch → List ℕ → Outcome
carbons_of p b text = carbons_by p b (number_up_to number_limit text)

-- ---- what the readers answer

-- r is the branch word that leads, and stands within the bytes
pub record Word (s : List ℕ) (r : Branch) : Type 0 where
  pub is : r ≡ branch_of s
  pub room : branch_length r ≤ length s

-- r is the prefix that leads, and stands within the bytes
pub record Prefixed (s : List ℕ) (r : ChainPrefix) : Type 0 where
  pub is : r ≡ prefix_of s
  pub room : prefix_length r ≤ length s

-- r is the opening, and the carbon text starts within the bytes
pub record Opened (t : List ℕ) (r : Opening) : Type 0 where
  pub is : r ≡ opening_of t
  pub within : r.carbons ≤ length t

-- the record of a chain that was started, with these arrays
abbrev pub start_as : Start → List DbPos → List Mod → List Ring → ParsedChain
start_as r bs gs rs =
    record { prefix = r.prefix; written = r.written; carbon = r.carbon; branched = r.branched; unlocated = 0; oxygens = 0; bond_count = 0; bonds = bs; group_count = r.groups; groups = gs; ring_count = 0; rings = rs }

-- 01's number and the values of each case: that record, or 11 or 31
abbrev pub started : Result Start Refusal → List DbPos → List Mod → List Ring → Answer ParsedChain
started (Ok r) bs gs rs = Has (start_as r bs gs rs)
started (Err r) bs gs rs = Refuses (number_of r)

-- r stands for an outcome, with the groups gs
pub record Starts (r : Result Start Refusal) (gs : List Mod) (o : Outcome) : Type 0 where
  pub stands : (bs : List DbPos) (rs : List Ring) → Stands (started r bs gs rs) o
