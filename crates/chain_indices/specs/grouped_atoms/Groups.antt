-- The atoms of a chain whose groups stand in the order of their carbons. Assumes nothing.
use Rattle.std.specs.Prelude.{ℕ, ◌+◌, ◌-◌, ◌*◌, ◌≤◌, ◌<◌, ◌≡◌, List, [], ◌∷◌, ◌++◌, length}
use Rattle.writer.specs.emit.Text.{Written}
use Rattle.chain_record.specs.declared.plain.Mod.{Mod}
use Rattle.chain_record.specs.plain.Chain.{max_carbons}
use Rattle.chain_rules.specs.chain.Drawing.{branch_part}
use Rattle.carbons.specs.Tokens.{Rising}
use Rattle.writer.specs.index_runs.Index.{ups}
use Rattle.chain_indices.specs.declared.grouped_atoms.Reached.{Reached}

-- the atoms of the carbons from C k on up to that of the last group, where C k is atom n; a group may sit on the carbon before C k
unfoldable pub group_starts : ℕ → ℕ → List Mod → List ℕ
group_starts n k [] = []
group_starts n k (g ∷ gs) = ups n (g.pos + 1 - k) ++ group_starts (n + (g.pos + 1 - k + (branch_part g.row).size)) (g.pos + 1) gs

-- the atom after them and their groups
unfoldable pub group_end : ℕ → ℕ → List Mod → ℕ
group_end n k [] = n
group_end n k (g ∷ gs) = group_end (n + (g.pos + 1 - k + (branch_part g.row).size)) (g.pos + 1) gs

-- the carbon after that of the last group
unfoldable pub group_carbon : ℕ → List Mod → ℕ
group_carbon k [] = k
group_carbon k (g ∷ gs) = group_carbon (g.pos + 1) gs

-- the groups sit on the carbon before C k or further on, none before the one named before it and none past the last carbon; from `at` on there is
-- room for the carbons that are left, and no number is too large
pub record Fits (room at next k : ℕ) (gs : List Mod) : Type 0 where
  pub last : ℕ
  pub rising : Rising (k - 1) last gs
  pub some : 1 ≤ k
  pub own : last ≤ max_carbons
  pub reach : k ≤ last + 1
  pub fits : at + (last + 1 - k) ≤ room
  pub small : next + (last + 1 - k) + 5 * length gs < 65536

-- the carbons from C k on up to that of the last group are numbered, C k being atom `next`
pub record GroupsNumbered (next k : ℕ) (gs : List Mod) (xs : List ℕ) (at : ℕ) (ys : List ℕ) (r : Reached) : Type 0 where
  pub written : Written xs at (group_starts next k gs) ys r.at
  pub atom : r.next ≡ group_end next k gs
  pub carbon : r.carbon ≡ group_carbon k gs
  pub order : k ≤ r.carbon
  pub place : r.at ≡ at + (r.carbon - k)
  pub few : r.next ≤ next + (r.carbon - k) + 5 * length gs
