-- What holds of every chain that the token reader reads, beside its limits: what the drawing relies on. The token reader proves it, the drawing
-- cites it.
-- Assumes nothing.
use Prim.Native.Nat.{ℕ, ◌+◌, ◌<◌, ◌≤◌}
use mathlib.Core.Path.{◌≡◌}
use mathlib.Core.Bool.{Bool, true, false}
use mathlib.Core.List.{List, [], ◌∷◌}
use Rattle.chain_record.specs.declared.plain.Bridge.{Bridge}
use Rattle.chain_record.specs.declared.plain.Bridge.TheVariants.{Epoxide, Carbocycle}
use Rattle.chain_record.specs.declared.plain.Mod.{Mod}
use Rattle.chain_record.specs.declared.plain.Ring.{Ring}
use Rattle.chain_record.specs.plain.Chain.{Chain, Within}

-- every element has a property
abbrev pub Every : {A : Type 0} → (A → Type 0) → List A → Type 0
Every P [] = Unit {0}
Every P (a ∷ l) = P a × Every P l

-- an epoxide joins two neighbours
abbrev pub Spans : Bridge → ℕ → ℕ → Type 0
Spans Epoxide s e = e ≡ s + 1
Spans Carbocycle s e = s ≤ e

-- a ring ends on the chain
pub record RingSound (c : ℕ) (x : Ring) : Type 0 where
  pub spans : Spans x.bridge x.start x.end
  pub ends : x.end ≤ c

-- the written carbons are the chain's and, after a branch word, the methyl's
abbrev pub Reduced : Bool → ℕ → ℕ → Type 0
Reduced true w c = w ≡ c + 1
Reduced false w c = w ≡ c

pub record Sound (d : Chain) : Type 0 where
  pub within : Within d
  pub rows : Every (λ (g : Mod). g.row < 17) d.groups
  pub rings : Every (RingSound d.carbon) d.rings
  pub reduced : Reduced d.branched d.written d.carbon
