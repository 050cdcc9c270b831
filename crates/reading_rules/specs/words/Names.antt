-- Variables and their names. 01, Templates and the builder: "Variables: a..z, aa..zz"; The line and its reading: "variable v, one or two
-- small letters". A variable is kept as its index, from a as 0 to zz as 701: names and indices below 702 go one to one.
use Rattle.std.specs.Prelude.{ℕ, ◌+◌, ◌*◌, ◌-◌, ◌/◌, ◌%◌, Bool, cond, ◌&&◌, List, [], ◌∷◌, ltb}
use Rattle.std.proofs.Math.Option.{Option, none, some}
use Rattle.reading_rules.specs.smiles.Lexer.{within}

-- how many names there are: 26 of one letter, and 26 * 26 of two
abbrev pub name_count : ℕ
name_count = 702

unfoldable pub small : ℕ → Bool
unfolding within
small x = within 97 122 x

unfoldable pub name_below : ℕ → List ℕ
name_below i = cond (ltb i 26) ((97 + i) ∷ []) ((97 + (i - 26) / 26) ∷ (97 + (i - 26) % 26) ∷ [])

-- the name of variable i; past zz the names begin again, as in document 000
unfoldable pub name_of : ℕ → List ℕ
unfolding name_below
name_of i = name_below (i % name_count)

-- the index of the variable with this name
unfoldable pub variable : List ℕ → Option ℕ
unfolding small
variable [] = none
variable (x ∷ []) = cond (small x) (some (x - 97)) none
variable (x ∷ y ∷ []) = cond (small x && small y) (some (26 + 26 * (x - 97) + (y - 97))) none
variable (x ∷ y ∷ z ∷ xs) = none
