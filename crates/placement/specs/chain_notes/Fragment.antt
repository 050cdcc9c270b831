-- The chains of a request in their roles, and where each of them stands, by numbers alone. Assumes nothing.
use Rattle.std.specs.Prelude.{ℕ, ◌+◌, ◌≤◌, ◌≡◌, List, [], ◌∷◌, ◌++◌, length}
use Rattle.std.proofs.Math.Option.{Option, none, some}
use Rattle.chain_record.specs.plain.Chain.{Chain}
use Rattle.reading_rules.specs.reading.Chain.{chain_end}
use Rattle.chain_rules.specs.declared.chain.Role.{Role}
use Rattle.chain_rules.specs.chain.Features.{is_acyl, drawn_count, floating}
use Rattle.chain_rules.specs.chain.Drawing.{carbons, carbon_atoms, flexible_atom}
use Rattle.drawn_chain.specs.drawable.Drawn.{Drawn, Draws}
use Rattle.drawn_chain.specs.drawable.Chains.{Chains}
use Rattle.request_chains.specs.chain_shapes.Sn.{ChainAt}
use Rattle.chain_pieces.specs.branches.Text.{rows_in}
use Rattle.chain_text.specs.fragment.Segment.{Readable}
use Rattle.writer.specs.index_runs.Index.{indices}
use Rattle.chain_indices.specs.totals.Sum.{sum_of}
use Rattle.template_rules.specs.Drawn as request
use Rattle.template_rules.specs.Drawn.{nonempty}
use Rattle.template_rules.specs.Written.{head_carbons, indices_of}
use Rattle.chain_rules.specs.chain.Lists.{Each}
use Rattle.placement.specs.declared.chain_notes.Placed.{Placed}

-- ---- a chain of the request

-- x is the chain d where it stands as r, which has carbons and is drawn as far as there is room
pub record Carries (r : Role) (d : Chain) (x : Drawn) : Type 0 where
  pub some : 1 ≤ d.carbon
  pub draws : Draws r d x
  pub readable : Readable d
  pub drawn : drawn_count r d ≤ 256
  pub bonds : d.unlocated ≤ 65535
  pub rings : length d.rings ≤ 8

-- x is the chain that is drawn, or has no carbons where none is
abbrev pub Stands : Role → Option Chain → Drawn → Type 0
Stands r none x = x.carbon ≡ 0
Stands r (some d) x = Carries r d x

-- the chain of every sn stands in its role
pub record Stood (ρ : ℕ → Role) (ds : List Chain) (x : Chains) : Type 0 where
  pub stands : (sn : ℕ) (f : Drawn) → ChainAt x sn f → Stands (ρ sn) (nonempty sn ds) f

-- ---- a chain in its place, by numbers alone

abbrev pub site_or : ℕ → Option ℕ → ℕ
site_or n none = n
site_or n (some i) = i

unfoldable pub noted : request.Placed → Placed
unfolding indices_of
noted p =
    record { sn = p.sn; role = p.role; first = p.first; site = site_or p.first p.site; variable = p.variable; count = length (indices_of p); acyl = is_acyl p.role p.chain.prefix; unlocated = p.chain.unlocated; flexible = flexible_atom p.role p.chain 0; floats = chain_end 0 (carbons p.role p.chain); total = sum_of p.role p.chain; float_count = length (floating p.chain) }

-- its indices, each at most the largest number that a `u16` holds
unfoldable pub index_list : request.Placed → List ℕ
index_list p = head_carbons p.role ++ indices p.first (carbon_atoms p.role p.chain 0)

-- the rows of its floating groups
unfoldable pub rows_of : request.Placed → List ℕ
rows_of p = rows_in (floating p.chain)

-- what is said of each, one after the other
unfoldable pub gathered : {A B : Type 0} → (B → List A) → List B → List A
gathered f [] = []
gathered f (p ∷ ps) = f p ++ gathered f ps

-- the numbers of each, added up
unfoldable pub summed : {B : Type 0} → (B → ℕ) → List B → ℕ
summed f [] = 0
summed f (p ∷ ps) = f p + summed f ps

-- the numbers of a place leave room
pub record Told (p : request.Placed) : Type 0 where
  pub first : p.first ≤ 4294000000
  pub variable : p.variable ≤ 4294000000
  pub indices : Each (λ i. i ≤ 65535) (indices_of p)
