-- The indices of a chain's carbons, and numbers that follow one another. Assumes nothing.
use Rattle.std.specs.Prelude.{ℕ, zero, suc, ◌+◌, min, List, [], ◌∷◌, map}

-- a count with room for a chain's
abbrev pub in_room : ℕ → ℕ
in_room n = min n 4294000000

-- first atoms below this leave room for the indices of a chain
abbrev pub first_room : ℕ
first_room = 40000

-- the atom i of a chain whose first atom is n; an index stays at the largest number that a `u16` holds
unfoldable pub index_from : ℕ → ℕ → ℕ
index_from n i = min (in_room n + i) 65535

-- the indices of a chain's atoms, where its first atom is n
abbrev pub indices : ℕ → List ℕ → List ℕ
indices n l = map (index_from n) l

-- m numbers that follow one another, from n on
unfoldable pub ups : ℕ → ℕ → List ℕ
ups n zero = []
ups n (suc m) = n ∷ ups (suc n) m
