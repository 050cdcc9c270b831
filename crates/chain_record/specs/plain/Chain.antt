-- What a token says of a chain, and what may be added to it: what the contracts of the token reader cite. The lists here have no limit; 31 is
-- a test of their lengths after each list or segment. Assumes nothing.
use Rattle.std.specs.Prelude.{ℕ, ◌≤◌, List, [], ◌∷◌, ◌++◌, Bool, cond, length, ltb}
use Rattle.chain_record.specs.declared.plain.ChainPrefix.{ChainPrefix}
use Rattle.chain_record.specs.declared.plain.DbPos.{DbPos}
use Rattle.chain_record.specs.declared.plain.Mod.{Mod}
use Rattle.chain_record.specs.declared.plain.Ring.{Ring}

-- 01, Accepted, or refused by whom, 31: "written carbons over 255, over 16 groups (a methyl counts), 8 rings or 32 written double bonds
-- with a position"
abbrev pub max_carbons : ℕ
max_carbons = 255

abbrev pub max_bonds : ℕ
max_bonds = 32

abbrev pub max_groups : ℕ
max_groups = 16

abbrev pub max_rings : ℕ
max_rings = 8

-- 01: "11 unreadable"
abbrev pub unreadable : ℕ
unreadable = 11

-- 01: "31 token over 255 bytes, a byte outside 32 to 126, .."
abbrev pub over_limit : ℕ
over_limit = 31

-- a chain: its prefix; the carbons written, and those left after a branch word; whether there was one; n, the double bonds without a
-- position; the last oxygen count; double bonds with a position, groups and rings, each in the order of the token
pub record Chain : Type 0 where
  pub prefix : ChainPrefix
  pub written : ℕ
  pub carbon : ℕ
  pub branched : Bool
  pub unlocated : ℕ
  pub oxygens : ℕ
  pub bonds : List DbPos
  pub groups : List Mod
  pub rings : List Ring

-- a chain that was read, or a refusal by its number
pub data Outcome : Type 0 where
  Read : Chain → Outcome
  Refused : ℕ → Outcome

-- what follows a chain that was read; a refusal stays
abbrev pub and_then : Outcome → (Chain → Outcome) → Outcome
and_then (Read d) f = f d
and_then (Refused n) f = Refused n

-- a chain with nothing on it
abbrev pub no_features : ChainPrefix → ℕ → ℕ → Bool → Chain
no_features p w c b = record { prefix = p; written = w; carbon = c; branched = b; unlocated = 0; oxygens = 0; bonds = []; groups = []; rings = [] }

-- one double bond more
unfoldable pub with_bond : DbPos → Chain → Chain
with_bond b d =
    record { prefix = d.prefix; written = d.written; carbon = d.carbon; branched = d.branched; unlocated = d.unlocated; oxygens = d.oxygens; bonds = d.bonds ++ (b ∷ []); groups = d.groups; rings = d.rings }

-- one group more
unfoldable pub with_group : Mod → Chain → Chain
with_group g d =
    record { prefix = d.prefix; written = d.written; carbon = d.carbon; branched = d.branched; unlocated = d.unlocated; oxygens = d.oxygens; bonds = d.bonds; groups = d.groups ++ (g ∷ []); rings = d.rings }

-- one ring more
unfoldable pub with_ring : Ring → Chain → Chain
with_ring r d =
    record { prefix = d.prefix; written = d.written; carbon = d.carbon; branched = d.branched; unlocated = d.unlocated; oxygens = d.oxygens; bonds = d.bonds; groups = d.groups; rings = d.rings ++ (r ∷ []) }

-- 01, Token reader: "an oxygen count that draws nothing"; the last one stands
unfoldable pub with_oxygens : ℕ → Chain → Chain
with_oxygens n d =
    record { prefix = d.prefix; written = d.written; carbon = d.carbon; branched = d.branched; unlocated = d.unlocated; oxygens = n; bonds = d.bonds; groups = d.groups; rings = d.rings }

-- 01, Token reader, Seats: "Only their number n survives."
unfoldable pub with_unlocated : ℕ → Chain → Chain
with_unlocated n d =
    record { prefix = d.prefix; written = d.written; carbon = d.carbon; branched = d.branched; unlocated = n; oxygens = d.oxygens; bonds = d.bonds; groups = d.groups; rings = d.rings }

-- 01, 31: "counts after each bond list or segment read without 11"
unfoldable pub counts_of : Chain → Outcome
counts_of d =
    cond (ltb max_bonds (length d.bonds)) (Refused over_limit)
    (cond (ltb max_groups (length d.groups)) (Refused over_limit)
    (cond (ltb max_rings (length d.rings)) (Refused over_limit) (Read d)))

-- every count is within its limit
pub record Within (d : Chain) : Type 0 where
  pub carbons : d.written ≤ max_carbons
  pub bonds : length d.bonds ≤ max_bonds
  pub groups : length d.groups ≤ max_groups
  pub rings : length d.rings ≤ max_rings
