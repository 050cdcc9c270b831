-- The eight class codes. 01, Accepted, or refused by whom: "20 class unknown (added)". Assumes nothing.
use Rattle.std.specs.Prelude.{ℕ, cond, List, Option, None, Some}
use Rattle.scanner.specs.scan.Part.{same_bytes}
use Rattle.reading_rules.specs.reading.Ascii.{ascii}
use Rattle.template_rules.specs.declared.Class.{Class}
use Rattle.template_rules.specs.declared.Class.TheVariants.{Fa, Gl1, Gl2, Gl3, Gp, Cl, Sb, Sa}

-- the class with a code; any other bytes have none, which is 20 (`judge_class` of the judge)
unfoldable pub class_of : List ℕ → Option Class
unfolding same_bytes ascii
class_of s =
    cond (same_bytes s (ascii "FA")) (Some Fa)
    (cond (same_bytes s (ascii "GL1")) (Some Gl1)
    (cond (same_bytes s (ascii "GL2")) (Some Gl2)
    (cond (same_bytes s (ascii "GL3")) (Some Gl3)
    (cond (same_bytes s (ascii "GP")) (Some Gp)
    (cond (same_bytes s (ascii "CL")) (Some Cl)
    (cond (same_bytes s (ascii "SB")) (Some Sb)
    (cond (same_bytes s (ascii "SA")) (Some Sa) None)))))))
