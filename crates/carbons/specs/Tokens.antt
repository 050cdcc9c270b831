-- What is known of each carbon of a drawn chain. Assumes nothing.
use Rattle.std.specs.Prelude.{ℕ, ◌≤◌, ◌<◌, max, ◌≡◌, List, [], ◌∷◌, length}
use Rattle.chain_record.specs.declared.plain.Mod.{Mod}
use Rattle.chain_record.specs.plain.Chain.{max_carbons}
use Rattle.chain_rules.specs.chain.Features.{literal_end}
use Rattle.drawn_chain.specs.drawable.Drawn.{Drawn, bonds_drawn, groups_drawn, floats_drawn, rings_drawn, Says}
use Rattle.carbons.specs.ByCarbon.{BondsBy, Busy}

-- the bond after each carbon, the atoms of each that carries anything, the first drawn carbon and the last literal one
pub record ChainTokens : Type 0 where
  pub first : ℕ
  pub last : ℕ
  pub bonds : List ℕ
  pub busy : List ℕ

-- the same, its parts given: a function to which the arrays are lent has them apart
abbrev pub tokens : ℕ → ℕ → List ℕ → List ℕ → ChainTokens
tokens f l bs us = record { first = f; last = l; bonds = bs; busy = us }

-- t is what is known of the carbons of x; the arrays go to the last literal one, or further
pub record TokensOf (x : Drawn) (t : ChainTokens) : Type 0 where
  pub first : t.first ≡ max x.first 1
  pub room : t.last ≤ max_carbons
  pub bonded : t.last < length t.bonds
  pub laden : t.last < length t.busy
  pub last : x.carbon ≤ max_carbons → Says x t.last literal_end
  pub bonds : BondsBy (bonds_drawn x) (rings_drawn x) x.carbon t.bonds
  pub busy : Busy x.acyl (groups_drawn x) (rings_drawn x) t.busy

-- the groups sit on the carbons k to c, none before the one named before it
abbrev pub Rising : ℕ → ℕ → List Mod → Type 0
Rising k c [] = Unit {0}
Rising k c (g ∷ gs) = (k ≤ g.pos) × (g.pos ≤ c) × Rising g.pos c gs

-- nothing is drawn of x but its carbons, double bonds and groups that all have a position, the groups in the order of their carbons, and, on an
-- acyl C1, a doubly bonded O
pub record Grouped (x : Drawn) : Type 0 where
  pub first : 1 ≤ x.first
  pub some : x.first ≤ x.carbon
  pub room : x.carbon ≤ max_carbons
  pub unlocated : x.unlocated ≡ 0
  pub groups : Rising x.first x.carbon (groups_drawn x)
  pub few : length (groups_drawn x) ≤ 18
  pub floats : floats_drawn x ≡ []
  pub rings : rings_drawn x ≡ []
