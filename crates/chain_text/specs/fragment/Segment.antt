-- What is written of a chain, and that it is the text of the drawing. Assumes nothing.
use Rattle.std.specs.Prelude.{ℕ, suc, ◌-◌, ◌≤◌, ◌≡◌, List, [], ◌∷◌, ◌++◌, length, get_or}
use Rattle.writer.specs.emit.Text.{Written}
use Rattle.chain_record.specs.declared.plain.Ring.{Ring}
use Rattle.chain_record.specs.plain.Chain.{Chain, max_carbons}
use Rattle.reading_rules.specs.reading.Piece.{show}
use Rattle.reading_rules.specs.reading.Template.{item_pieces, chain}
use Rattle.chain_rules.specs.declared.chain.Role.{Role}
use Rattle.chain_rules.specs.chain.Drawing.{chain_drawn}
use Rattle.drawn_chain.specs.drawable.Drawn.{Drawn, groups_drawn, floats_drawn, rings_drawn, Draws}
use Rattle.carbons.specs.Tokens.{ChainTokens}
use Rattle.chain_pieces.specs.branches.Text.{floats_text}
use Rattle.chain_pieces.specs.backbone.Text.{flexible_text}
use Rattle.chain_text.specs.fragment.Text.{carbons_text}

-- the literal carbons, the flexible tail and the groups without a position
unfoldable pub segment_text : Drawn → ChainTokens → ℕ → List ℕ
segment_text x t l =
    carbons_text x.acyl t.bonds (groups_drawn x) (rings_drawn x) l t.first (suc t.last - t.first)
    ++ (flexible_text (get_or t.bonds t.last 0) x.unlocated ++ floats_text (floats_drawn x))

-- each ring starts no later than it ends, and ends on the chain: so the token reader reads it
abbrev pub RingsOn : ℕ → List Ring → Type 0
RingsOn c [] = Unit {0}
RingsOn c (x ∷ rs) = (x.start ≤ x.end) × (x.end ≤ c) × RingsOn c rs

-- what the drawing relies on beside the refusals
pub record Readable (d : Chain) : Type 0 where
  pub carbons : d.carbon ≤ max_carbons
  pub rings : RingsOn d.carbon d.rings

-- x is what is drawn of some chain that can be read
pub record DrawsRead (x : Drawn) : Type 0 where
  pub role : Role
  pub chain : Chain
  pub draws : Draws role chain x
  pub readable : Readable chain

-- the text of every such chain, with labels from l on, stands at the place `at`
pub record Segment (x : Drawn) (l : ℕ) (xs : List ℕ) (at : ℕ) (ys : List ℕ) (q : ℕ) : Type 0 where
  pub size : length ys ≡ length xs
  pub text : (r : Role) (d : Chain) → Draws r d x → Readable d → Written xs at (show (item_pieces l (chain (chain_drawn r d)))) ys q
