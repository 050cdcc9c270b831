-- What the readers of a token answer on lent arrays: what the contracts of `token` cite beside the definitions of specs/token/Token.antt. Assumes
-- nothing.
use Rattle.std.specs.Prelude.{ℕ, ◌≤◌, ◌≡◌, List, [], Bool, false, cond, take, ltb, Result, Ok, Err}
use Rattle.chain_record.specs.declared.plain.ChainPrefix.TheVariants.{Acyl}
use Rattle.chain_record.specs.declared.plain.DbPos.{DbPos}
use Rattle.chain_record.specs.declared.plain.Mod.{Mod}
use Rattle.chain_record.specs.declared.plain.Ring.{Ring}
use Rattle.chain_record.specs.plain.Chain.{Chain, Outcome, Refused, over_limit, max_bonds, max_groups, max_rings}
use Rattle.chain_record.specs.declared.parsed.ParsedChain.{ParsedChain}
use Rattle.chain_record.specs.declared.parsed.Counts.{Counts}
use Rattle.chain_record.specs.declared.refusal.Refusal.{Refusal}
use Rattle.chain_record.specs.refusal.Refusal.{number_of}
use Rattle.chain_record.specs.parsed.Parsed.{Holds, Answer, Has, Refuses, Stands, counts_as, Gathered, gather, on, Fills, Collects}
use Rattle.token_head.specs.declared.opening.Start.{Start}
use Rattle.token_reader.specs.declared.token.Ending.{Ending}
use Rattle.token_reader.specs.declared.token.ReadChain.{ReadChain}
use Rattle.token_reader.specs.token.Token.{bare_oxygens, counted_list, token_of}

-- the double bonds of an array
abbrev pub bonds_in : ℕ → List DbPos → List DbPos
bonds_in n xs = take n xs

-- r is whether the oxygen count stands alone
pub record Bare (k : Counts) (r : Bool) : Type 0 where
  pub is : (x : ParsedChain) (d : Chain) → Holds (counts_as x k) d → r ≡ bare_oxygens d

-- ---- what is read from the bond count on

-- a record x with another number of double bonds without a position, and other counts
abbrev pub ending_as : ParsedChain → Ending → ParsedChain
ending_as x e =
    record { prefix = x.prefix; written = x.written; carbon = x.carbon; branched = x.branched; unlocated = e.unlocated; oxygens = e.counts.oxygens; bond_count = e.counts.bonds; bonds = x.bonds; group_count = e.counts.groups; groups = x.groups; ring_count = e.counts.rings; rings = x.rings }

-- all of it, with the arrays
pub record Telling : Type 0 where
  pub unlocated : ℕ
  pub counts : Counts
  pub bonds : List DbPos
  pub groups : List Mod
  pub rings : List Ring

abbrev pub tell : ℕ → Counts → List DbPos → List Mod → List Ring → Telling
tell u k bs gs rs = record { unlocated = u; counts = k; bonds = bs; groups = gs; rings = rs }

abbrev pub telling_as : ParsedChain → Telling → ParsedChain
telling_as x c =
    record { prefix = x.prefix; written = x.written; carbon = x.carbon; branched = x.branched; unlocated = c.unlocated; oxygens = c.counts.oxygens; bond_count = c.counts.bonds; bonds = c.bonds; group_count = c.counts.groups; groups = c.groups; ring_count = c.counts.rings; rings = c.rings }

-- 01's number and the values of each case: what is read, alone and with the arrays, or 11 or 31
abbrev pub ended : Result Ending Refusal → Answer Ending
ended (Ok e) = Has e
ended (Err r) = Refuses (number_of r)

abbrev pub told : Result Ending Refusal → List DbPos → List Mod → List Ring → Answer Telling
told (Ok e) bs gs rs = Has (tell e.unlocated e.counts bs gs rs)
told (Err r) bs gs rs = Refuses (number_of r)

-- the answer of what is judged after the segments
abbrev pub Finishes : Counts → Result Ending Refusal → (Chain → Outcome) → Type 0
Finishes k r f = Fills ending_as (record { unlocated = 0; counts = k }) (ended r) f

-- the answer of a reader that reads to the end of the token
abbrev pub Ends : ℕ → Counts → List DbPos → List Mod → List Ring → Result Ending Refusal → List DbPos → List Mod → List Ring → (Chain → Outcome) → Type 0
Ends carbon k bs gs rs r ys hs zs f = Fills (on carbon telling_as) (tell 0 k bs gs rs) (told r ys hs zs) f

-- ---- the position list

-- the counts and the double bonds, the other arrays being the record's own
abbrev pub listed_as : ParsedChain → Gathered → ParsedChain
listed_as x c =
    record { prefix = x.prefix; written = x.written; carbon = x.carbon; branched = x.branched; unlocated = x.unlocated; oxygens = c.counts.oxygens; bond_count = c.counts.bonds; bonds = c.bonds; group_count = c.counts.groups; groups = x.groups; ring_count = c.counts.rings; rings = x.rings }

-- where a list is read, its double bonds are within the limit
abbrev pub FewBonds : Result Counts Refusal → Type 0
FewBonds (Ok k) = k.bonds ≤ max_bonds
FewBonds (Err r) = Unit {0}

-- the answer of the list s, with the double bonds ys
pub record ListIs (s : List ℕ) (k : Counts) (bs : List DbPos) (r : Result Counts Refusal) (ys : List DbPos) : Type 0 where
  pub collects : Collects listed_as (gather k bs [] []) r ys [] [] (counted_list s)
  pub few : FewBonds r

-- ---- the token

-- an empty chain
abbrev pub empty_chain : ReadChain
empty_chain = record { prefix = Acyl; written = 0; carbon = 0; branched = false; unlocated = 0; counts = record { bonds = 0; groups = 0; rings = 0; oxygens = 0 } }

-- a chain that was started, with each case of what was read from its bond count on
abbrev pub ended_as : Start → Result Ending Refusal → Result ReadChain Refusal
ended_as s (Ok e) = Ok (record { prefix = s.prefix; written = s.written; carbon = s.carbon; branched = s.branched; unlocated = e.unlocated; counts = e.counts })
ended_as s (Err r) = Err r

-- the record of a chain that was read, with its arrays
abbrev pub chain_as : ReadChain → List DbPos → List Mod → List Ring → ParsedChain
chain_as r bs gs rs =
    record { prefix = r.prefix; written = r.written; carbon = r.carbon; branched = r.branched; unlocated = r.unlocated; oxygens = r.counts.oxygens; bond_count = r.counts.bonds; bonds = bs; group_count = r.counts.groups; groups = gs; ring_count = r.counts.rings; rings = rs }

-- 01's number and the values of each case: that record, or 11 or 31
abbrev pub token_as : Result ReadChain Refusal → List DbPos → List Mod → List Ring → Answer ParsedChain
token_as (Ok r) bs gs rs = Has (chain_as r bs gs rs)
token_as (Err r) bs gs rs = Refuses (number_of r)

-- r and the arrays stand for an outcome
pub record Tells (r : Result ReadChain Refusal) (bs : List DbPos) (gs : List Mod) (rs : List Ring) (o : Outcome) : Type 0 where
  pub stands : Stands (token_as r bs gs rs) o

-- what a token says where the arrays have so much room: 31 where that is less than its limits ask
unfoldable pub token_in : ℕ → ℕ → ℕ → List ℕ → Outcome
token_in b g r s = cond (ltb b max_bonds) (Refused over_limit) (cond (ltb g max_groups) (Refused over_limit) (cond (ltb r max_rings) (Refused over_limit) (token_of s)))
