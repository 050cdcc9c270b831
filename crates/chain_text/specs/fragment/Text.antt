-- The text of a carbon with what stands on it, and of a stretch of carbons, said by `show` of their pieces. Assumes nothing.
use Rattle.std.specs.Prelude.{ℕ, ◌-◌, Bool, List, ◌++◌, eqb, get_or}
use Rattle.chain_record.specs.declared.plain.Mod.{Mod}
use Rattle.chain_record.specs.declared.plain.Ring.{Ring as Closed}
use Rattle.reading_rules.specs.reading.Piece.{show}
use Rattle.reading_rules.specs.reading.Chain.{Carbon, chain_pieces}
use Rattle.chain_rules.specs.chain.Lists.{values_from}
use Rattle.chain_rules.specs.chain.Bonds.{bridged, mark_of}
use Rattle.chain_rules.specs.chain.Drawing.{branches, ring_pairs}
use Rattle.chain_pieces.specs.labels.Text.{labels_text}
use Rattle.chain_pieces.specs.branches.Text.{groups_text, carbonyl_text}
unfoldable pub use Rattle.chain_pieces.specs.branches.Text.{sitting, carbonyl_of}

-- what follows the C of carbon k: labels, carbonyl, groups
unfoldable pub features_text : Bool → List Mod → List Closed → ℕ → ℕ → List ℕ
features_text acyl gs rs l k = labels_text k l (ring_pairs rs) ++ (carbonyl_text acyl k ++ groups_text (sitting k gs))

-- C k, where its bonds stand in a list by carbon
unfoldable pub carbon_of : Bool → List ℕ → List Mod → ℕ → Carbon
unfolding carbonyl_of sitting
carbon_of acyl ks gs k =
    record { before = mark_of (get_or ks (k - 1) 0); parts = carbonyl_of acyl k ++ branches (sitting k gs); bridge = eqb (get_or ks k 0) bridged }

-- so many carbons from C k on
unfoldable pub carbons_text : Bool → List ℕ → List Mod → List Closed → ℕ → ℕ → ℕ → List ℕ
unfolding carbon_of
carbons_text acyl ks gs rs l k n = show (chain_pieces (ring_pairs rs) l k (values_from (carbon_of acyl ks gs) k n))
