-- Bytes parted by a byte that stands between the parts, and parts joined by it. 01 says of every list of a line by what it is parted.
use Rattle.std.specs.Prelude.{ℕ, cond, List, [], ◌∷◌, ◌++◌, eqb}
use Rattle.std.proofs.Math.Option.{Option, none, some}

-- ---- the bytes that part a line, and those that close a part

abbrev pub blank : ℕ
blank = 32

abbrev pub dollar : ℕ
dollar = 36

abbrev pub closing : ℕ
closing = 41

abbrev pub plus : ℕ
plus = 43

abbrev pub comma : ℕ
comma = 44

abbrev pub point : ℕ
point = 46

abbrev pub colon : ℕ
colon = 58

abbrev pub semicolon : ℕ
semicolon = 59

abbrev pub equals : ℕ
equals = 61

abbrev pub bar : ℕ
bar = 124

-- ---- a reader's answer, and what is read after it

infixl 20 ◌>>=◌
abbrev pub ◌>>=◌ : {A B : Type 0} → Option A → (A → Option B) → Option B
◌>>=◌ none k = none
◌>>=◌ (some a) k = k a

-- every part read by f, or none where one of them is unreadable
unfoldable pub each : {A : Type 0} → (List ℕ → Option A) → List (List ℕ) → Option (List A)
each f [] = some []
each f (p ∷ ps) = f p >>= λ a. each f ps >>= λ r. some (a ∷ r)

-- ---- parts

-- the first part begins with x
unfoldable pub on_first : ℕ → List (List ℕ) → List (List ℕ)
on_first x [] = (x ∷ []) ∷ []
on_first x (p ∷ ps) = (x ∷ p) ∷ ps

-- the parts of xs between its bytes s; each may be empty, and there is one more than there are bytes s
unfoldable pub parted : ℕ → List ℕ → List (List ℕ)
unfolding on_first
parted s [] = [] ∷ []
parted s (x ∷ xs) = let ps = parted s xs in cond (eqb x s) ([] ∷ ps) (on_first x ps)

-- exactly two parts, and exactly three
abbrev pub two : List (List ℕ) → Option (List ℕ × List ℕ)
two [] = none
two (a ∷ []) = none
two (a ∷ b ∷ []) = some (a, b)
two (a ∷ b ∷ c ∷ ps) = none

abbrev pub three : List (List ℕ) → Option (List ℕ × List ℕ × List ℕ)
three [] = none
three (a ∷ []) = none
three (a ∷ b ∷ []) = none
three (a ∷ b ∷ c ∷ []) = some (a, b, c)
three (a ∷ b ∷ c ∷ d ∷ ps) = none

-- what follows the text w, with which xs begins
unfoldable pub follows : List ℕ → List ℕ → Option (List ℕ)
follows [] xs = some xs
follows (w ∷ ws) [] = none
follows (w ∷ ws) (x ∷ xs) = cond (eqb w x) (follows ws xs) none

-- what stands before a part that is empty and the last
abbrev pub closed : List (List ℕ) → Option (List ℕ)
closed [] = none
closed (p ∷ []) = none
closed (p ∷ [] ∷ []) = some p
closed (p ∷ [] ∷ q ∷ ps) = none
closed (p ∷ (x ∷ q) ∷ ps) = none

-- what stands between the text w, with which xs begins, and the byte s, with which it ends and which it has nowhere between
unfoldable pub enclosed : List ℕ → ℕ → List ℕ → Option (List ℕ)
unfolding follows parted
enclosed w s xs = follows w xs >>= λ r. closed (parted s r)

-- ---- parts joined

-- each part after a byte s
unfoldable pub led : ℕ → List (List ℕ) → List ℕ
led s [] = []
led s (p ∷ ps) = s ∷ (p ++ led s ps)

-- the parts with a byte s between each two
unfoldable pub joined : ℕ → List (List ℕ) → List ℕ
unfolding led
joined s [] = []
joined s (p ∷ ps) = p ++ led s ps
