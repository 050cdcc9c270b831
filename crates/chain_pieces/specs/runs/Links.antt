-- The text of carbons that carry nothing, one after the other, and how far it is written: what the contracts of the writers cite. Assumes
-- nothing.
use Rattle.std.specs.Prelude.{ℕ, zero, suc, ◌+◌, ◌-◌, ◌≤◌, ◌<◌, ◌≡◌, List, [], ◌++◌, get_or}
use Rattle.writer.specs.emit.Text.{Written}
use Rattle.chain_pieces.specs.backbone.Text.{carbon_text, bridge_text}

-- a bond and the carbon after it
unfoldable pub link_text : ℕ → List ℕ
link_text b = bridge_text b ++ carbon_text b

-- so many carbons from C k on, each after the bond before it; ks has the bonds by carbon
unfoldable pub links_text : List ℕ → ℕ → ℕ → List ℕ
links_text ks k zero = []
links_text ks k (suc n) = link_text (get_or ks (k - 1) 0) ++ links_text ks (suc k) n

-- the carbons from C k to before C c carry nothing, and they are written up to the place p
pub record Links (ks us : List ℕ) (k last : ℕ) (xs : List ℕ) (at : ℕ) (ys : List ℕ) (p c : ℕ) : Type 0 where
  pub low : k ≤ c
  pub high : c ≤ last + 1
  pub free : (j : ℕ) → k ≤ j → j < c → get_or us j 0 ≡ 0
  pub text : Written xs at (links_text ks k (c - k)) ys p

-- the same, of C k at least, with the mark before it and the bridge after the last of them
pub record Run (ks us : List ℕ) (k last : ℕ) (xs : List ℕ) (at : ℕ) (ys : List ℕ) (p c : ℕ) : Type 0 where
  pub low : k < c
  pub high : c ≤ last + 1
  pub free : (j : ℕ) → k ≤ j → j < c → get_or us j 0 ≡ 0
  pub text : Written xs at (carbon_text (get_or ks (k - 1) 0) ++ (links_text ks (k + 1) (c - (k + 1)) ++ bridge_text (get_or ks (c - 1) 0))) ys p
