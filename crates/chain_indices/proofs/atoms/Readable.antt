-- What the token reader reads is readable. Assumes nothing.
use Prim.Native.Nat.{ℕ, ◌≤◌}
use native.Mathlib.Omega.{arith}
use mathlib.Core.Bool.{Bool, true, false}
use mathlib.Core.List.{List, [], ◌∷◌}
use Rattle.chain_record.specs.plain.Chain.{Chain}
use Rattle.chain_record.specs.declared.plain.Ring.{Ring}
use Rattle.chain_record.specs.declared.plain.Bridge.{Bridge}
use Rattle.chain_record.specs.declared.plain.Bridge.TheVariants.{Epoxide, Carbocycle}
use Rattle.chain_record.proofs.plain.Sound.{Sound, RingSound, Spans, Every, Reduced}
use Rattle.chain_text.specs.fragment.Segment.{RingsOn, Readable}

rings-on : (c : ℕ) (rs : List Ring) → Every (RingSound c) rs → RingsOn c rs
rings-on c [] e = tt
rings-on c (x ∷ rs) e = (spans x.bridge x.start x.end e.0.spans, e.0.ends, rings-on c rs e.1)
  where
    spans : (b : Bridge) (s t : ℕ) → Spans b s t → s ≤ t
    spans Epoxide s t h = omega arith
    spans Carbocycle s t h = h

pub sound-readable : (d : Chain) → Sound d → Readable d
sound-readable d s = record { carbons = small d.branched s.reduced; rings = rings-on d.carbon d.rings s.rings }
  where
    small : (b : Bool) → Reduced b d.written d.carbon → d.carbon ≤ 255
    small true e = omega (arith, s.within.carbons)
    small false e = omega (arith, s.within.carbons)
