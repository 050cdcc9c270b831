-- The templates. 01, Templates and the builder: "Slot S is `O` and chain; `O` alone if absent or c = 0." Assumes nothing.
use Rattle.std.specs.Prelude.{ℕ, Bool, true, false, cond, List, [], ◌∷◌, eqb}
use Rattle.reading_rules.specs.reading.Ascii.{ascii}
use Rattle.chain_rules.specs.declared.chain.Role.{Role}
use Rattle.chain_rules.specs.declared.chain.Role.TheVariants as role
use Rattle.template_rules.specs.declared.Class.{Class}
use Rattle.template_rules.specs.declared.Class.TheVariants.{Fa, Gl1, Gl2, Gl3, Gp, Cl, Sb, Sa}

-- an element of a template: a text of its own, the tail, a slot of some sn, or a chain of some sn that stands without an O
pub data Element : Type 0 where
  fixed : List ℕ → Element
  tail : Element
  slot : ℕ → Element
  chain : ℕ → Role → Element

-- "`C(C`S3`)(`S2`)C`S1"
unfoldable pub glycerol : List Element
unfolding ascii
glycerol = fixed (ascii "C(C") ∷ slot 3 ∷ fixed (ascii ")(") ∷ slot 2 ∷ fixed (ascii ")C") ∷ slot 1 ∷ []

unfoldable pub elements : Class → List Element
unfolding ascii glycerol
elements Fa = fixed (ascii "O") ∷ chain 1 role.Acyl ∷ []
elements Gl1 = glycerol
elements Gl2 = glycerol
elements Gl3 = glycerol
elements Gp = fixed (ascii "C(C") ∷ tail ∷ fixed (ascii ")(") ∷ slot 2 ∷ fixed (ascii ")C") ∷ slot 1 ∷ []
elements Cl =
    fixed (ascii "C(COP(=O)(O)OCC(") ∷ slot 2 ∷ fixed (ascii ")C") ∷ slot 1 ∷ fixed (ascii ")(O)COP(=O)(O)OCC(") ∷ slot 4 ∷ fixed (ascii ")C") ∷ slot 3 ∷ []
elements Sb = fixed (ascii "C(C") ∷ tail ∷ fixed (ascii ")(N)") ∷ chain 1 role.Base ∷ []
elements Sa = fixed (ascii "C(C") ∷ tail ∷ fixed (ascii ")(N") ∷ chain 2 role.Acyl ∷ fixed (ascii ")") ∷ chain 1 role.Base ∷ []

-- "FA, 1 token", "GL1, GL2, GL3, 1 to 1, 2, 3", "GP, 1 or 2", "CL, 4", "SB, 1; SA, 2": the fewest and the most
abbrev pub fewest : Class → ℕ
fewest Fa = 1
fewest Gl1 = 1
fewest Gl2 = 1
fewest Gl3 = 1
fewest Gp = 1
fewest Cl = 4
fewest Sb = 1
fewest Sa = 2

abbrev pub most : Class → ℕ
most Fa = 1
most Gl1 = 1
most Gl2 = 2
most Gl3 = 3
most Gp = 2
most Cl = 4
most Sb = 1
most Sa = 2

-- what the chain of a token is in its template; in SA the first token is the base
abbrev pub role_of : Class → ℕ → Role
role_of Fa sn = role.Acyl
role_of Gl1 sn = role.Slot
role_of Gl2 sn = role.Slot
role_of Gl3 sn = role.Slot
role_of Gp sn = role.Slot
role_of Cl sn = role.Slot
role_of Sb sn = role.Base
role_of Sa sn = cond (eqb sn 1) role.Base role.Acyl

-- "The tail is empty elsewhere": whether the class has one
abbrev pub has_tail : Class → Bool
has_tail Fa = false
has_tail Gl1 = false
has_tail Gl2 = false
has_tail Gl3 = false
has_tail Gp = true
has_tail Cl = false
has_tail Sb = true
has_tail Sa = true
