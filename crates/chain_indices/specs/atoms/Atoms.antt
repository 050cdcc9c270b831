-- The atoms of a chain, counted from its first. Assumes nothing.
use Rattle.std.specs.Prelude.{ℕ, suc, ◌+◌, ◌-◌, ◌*◌, ◌≤◌, ◌<◌, min, ◌≡◌, Bool, cond, List, [], ◌∷◌, ◌++◌, eqb, length, get_or}
use Rattle.writer.specs.emit.Text.{Written}
use Rattle.chain_record.specs.declared.plain.Mod.{Mod}
use Rattle.chain_record.specs.plain.Chain.{Chain, max_carbons}
use Rattle.reading_rules.specs.reading.Chain.{Carbon, carbon_end, chain_end}
use Rattle.chain_rules.specs.declared.chain.Role.{Role}
use Rattle.chain_rules.specs.chain.Lists.{values_from}
use Rattle.chain_rules.specs.chain.Features.{drawn_count}
use Rattle.chain_rules.specs.chain.Bonds.{bridged}
use Rattle.chain_rules.specs.chain.Drawing.{branches, carbon_atoms, flexible_atom, atoms_end}
use Rattle.chain_rules.specs.chain.Drawing as draw
use Rattle.drawn_chain.specs.drawable.Drawn.{Drawn, groups_drawn, rings_drawn, Draws}
use Rattle.carbons.specs.ByCarbon.{load_at}
use Rattle.carbons.specs.Tokens.{ChainTokens}
use Rattle.writer.specs.index_runs.Index.{first_room, indices, ups}
use Rattle.chain_indices.specs.declared.atoms.Numbers.{Numbers}
use Rattle.chain_indices.specs.declared.atoms.ChainAtoms.{ChainAtoms}
use Rattle.chain_text.specs.fragment.Text.{sitting, carbonyl_of, carbon_of}
use Rattle.chain_text.specs.fragment.Segment.{Readable}

abbrev pub bridged_at : ℕ → Bool
bridged_at b = eqb b bridged

-- the atoms of C k with what it carries and its bridge, the bond after it being b
unfoldable pub carbon_size : Bool → List Mod → ℕ → ℕ → ℕ
carbon_size acyl gs b k = carbon_end 0 (record { before = 0; parts = carbonyl_of acyl k ++ branches (sitting k gs); bridge = bridged_at b })

-- n is the number of atoms of C k of x with what it carries beside a bridge, and it carries something
pub record Loaded (x : Drawn) (k n : ℕ) : Type 0 where
  pub is : n ≡ load_at x.acyl (groups_drawn x) (rings_drawn x) k
  pub some : n ≡ 0 → ⊥
  pub few : n ≤ 92

unfoldable pub bare_size : ℕ → ℕ
bare_size b = carbon_end 0 (record { before = 0; parts = []; bridge = bridged_at b })

-- the atom of each carbon of a list, where the first is atom n
unfoldable pub starts : ℕ → List Carbon → List ℕ
starts n [] = []
starts n (c ∷ cs) = n ∷ starts (carbon_end n c) cs

-- the literal carbons, by the arrays
unfoldable pub literal_of : Drawn → ChainTokens → List Carbon
literal_of x t = values_from (carbon_of x.acyl t.bonds (groups_drawn x)) t.first (suc t.last - t.first)

-- some carbons, the first of them the first atom of a chain, are numbered: their indices are written at a place
pub record Numbered (first : ℕ) (cs : List Carbon) (xs : List ℕ) (at : ℕ) (ys : List ℕ) (n : Numbers) : Type 0 where
  pub written : Written xs at (indices first (starts 0 cs)) ys n.at
  pub count : n.count ≡ length cs
  pub next : n.next ≡ chain_end 0 cs

pub record LiteralNumbers (first : ℕ) (x : Drawn) (t : ChainTokens) (xs : List ℕ) (at : ℕ) (ys : List ℕ) (n : Numbers) : Type 0 where
  pub numbered : Numbered first (literal_of x t) xs at ys n
  pub room : n.count ≤ 255
  pub few : n.next ≤ 93 * n.count

-- from `at` on there is room for the indices of the chain's carbons, no index of a chain whose first atom is the one given reaches the largest
-- number, and the last literal carbon is one of the chain's
pub record Roomy (room at first carbon last : ℕ) : Type 0 where
  pub fits : at + carbon ≤ room
  pub small : first < first_room
  pub own : carbon ≤ max_carbons
  pub literal : last ≤ carbon

-- the four carbons from k on are none past the last, and carry nothing
pub record IdleFour (busy : List ℕ) (k last : ℕ) : Type 0 where
  pub within : k + 3 ≤ last
  pub idle : (j : ℕ) → k ≤ j → j < k + 4 → get_or busy j 0 ≡ 0

-- the carbons of the flexible tail
unfoldable pub tail_count : ℕ → ℕ
tail_count n = cond (eqb n 0) 0 (2 * n + 2)

-- the flexible tail of u double bonds is numbered after some carbons, as far as there is room for 256
pub record TailNumbers (first u : ℕ) (xs : List ℕ) (n : Numbers) (ys : List ℕ) (r : Numbers) : Type 0 where
  pub written : Written xs n.at (indices first (ups n.next (r.count - n.count))) ys r.at
  pub count : r.count ≡ min (n.count + tail_count u) 256
  pub next : r.next ≡ n.next + (r.count - n.count)

-- the numbers of a chain, counted from its first atom
pub record AtomsAre (r : Role) (d : Chain) (n : ChainAtoms) : Type 0 where
  pub count : n.count ≡ length (carbon_atoms r d 0)
  pub flexible : n.flexible ≡ flexible_atom r d 0
  pub floats : n.floats ≡ chain_end 0 (draw.carbons r d)
  pub end : n.end ≡ atoms_end r d 0

-- x is what is drawn of some chain that can be read, of at most 256 carbons
pub record DrawsFew (x : Drawn) : Type 0 where
  pub role : Role
  pub chain : Chain
  pub draws : Draws role chain x
  pub readable : Readable chain
  pub few : drawn_count role chain ≤ 256

-- every such chain is numbered, and the indices of its drawn carbons are written
pub record AtomsOf (first : ℕ) (x : Drawn) (xs : List ℕ) (at : ℕ) (ys : List ℕ) (n : ChainAtoms) : Type 0 where
  pub are : (r : Role) (d : Chain) → Draws r d x → Readable d → drawn_count r d ≤ 256 → AtomsAre r d n
  pub written : (r : Role) (d : Chain) → Draws r d x → Readable d → drawn_count r d ≤ 256 → Written xs at (indices first (carbon_atoms r d 0)) ys n.at
  pub size : length ys ≡ length xs
  pub room : n.count ≤ 256
  pub few : n.end ≤ 24079
