use Rattle.sheet_output.proofs.rows.Laws.{rest_after}
use Prim.Native.Nat.{◌≤◌}
use mathlib.Core.Path.{◌≡◌}
use lib.ListN.{length, take}
use Rattle.writer.specs.emit.Text.{Written}
use Rattle.sheet_frame.specs.row_heads.Text.{chains_text}
use Rattle.sheet_output.specs.rows.Chains.{carbons_of}
use Rattle.sheet_output.proofs.rows.put_chains.Given as goal

abbrev pub invariant-loop-i : goal.invariant-loop-i
invariant-loop-i l = (l.n ≤ 4) × (length l.t ≤ length l.index) × (length l.items ≡ 4) × Written l.initial.out l.at (chains_text (carbons_of (take l.i l.items) l.index)) l.out l.p × (l.t ≡ rest_after (take l.i l.items) l.index)
