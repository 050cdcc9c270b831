-- A number with spaces around it. 01, Token reader: "A number is digits after at most one `+`, at most 4,294,967,295". Assumes nothing.
use Rattle.std.specs.Prelude.{ℕ, ◌≡◌, List, Option, Some}
use Rattle.scanner.specs.scan.Part.{trimmed}
use Rattle.scanner.specs.scan.Number.{number_up_to, number_limit}

-- 01: "ring start-end`cy`size, each trimmed"; "Positions are trimmed; .. a group's may not" end in a letter
unfoldable pub trimmed_number : List ℕ → Option ℕ
trimmed_number s = number_up_to number_limit (trimmed s)

-- where r is a value it is that number
pub record Shortly (s : List ℕ) (r : Option ℕ) : Type 0 where
  pub is : (n : ℕ) → r ≡ Some n → r ≡ trimmed_number s
