-- What is kept of a chain beside its atoms. Assumes nothing.
use Rattle.std.specs.Prelude.{◌≡◌, length}
use Rattle.chain_record.specs.plain.Chain.{Chain}
use Rattle.chain_rules.specs.declared.chain.Role.{Role}
use Rattle.chain_rules.specs.chain.Features.{is_acyl, floating}
use Rattle.drawn_chain.specs.drawable.Drawn.{Drawn, Draws}
use Rattle.chain_indices.specs.declared.totals.Figures.{Figures}
use Rattle.chain_indices.specs.totals.Sum.{sum_of}

pub record FiguresAre (r : Role) (d : Chain) (f : Figures) : Type 0 where
  pub acyl : f.acyl ≡ is_acyl r d.prefix
  pub unlocated : f.unlocated ≡ d.unlocated
  pub total : f.total ≡ sum_of r d
  pub floats : f.float_count ≡ length (floating d)
  pub rings : f.rings ≡ length d.rings

-- of every chain that x draws
pub record FiguresOf (x : Drawn) (f : Figures) : Type 0 where
  pub are : (r : Role) (d : Chain) → Draws r d x → FiguresAre r d f
