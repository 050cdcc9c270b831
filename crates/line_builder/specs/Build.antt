-- What a push adds to a builder, beside the definitions of `template_rules` and `placement::chain_notes`. Assumes nothing.
use Rattle.std.specs.Prelude.{ℕ, suc, ◌+◌, ◌^◌, ◌≤◌, ◌<◌, min, ◌≡◌, cond, List, [], ◌∷◌, ◌++◌, map, eqb, length, take}
use Rattle.std.proofs.Math.Option.{Option, some}
use Rattle.writer.specs.emit.Text.{Written}
use Rattle.chain_record.specs.plain.Chain.{Chain}
use Rattle.reading_rules.specs.reading.Piece.{show}
use Rattle.reading_rules.specs.reading.Template.{Item, template_pieces}
use Rattle.chain_rules.specs.declared.chain.Role.{Role}
use Rattle.chain_rules.specs.declared.chain.Role.TheVariants.{Slot}
use Rattle.drawn_chain.specs.drawable.Drawn.{Drawn}
use Rattle.drawn_chain.specs.drawable.Chains.{Chains}
use Rattle.request_chains.specs.chain_shapes.Sn.{ChainAt}
use Rattle.template_rules.specs.Drawn as request
use Rattle.template_rules.specs.Drawn.{site_of, place, atoms_after, variables_after, slot_oxygen, chain_item}
use Rattle.template_rules.specs.Built.{labels_after}
use Rattle.placement.specs.declared.chain_notes.Placed.{Placed}
use Rattle.placement.specs.chain_notes.Fragment.{Carries, Stands, site_or, noted, index_list, rows_of, gathered}
use Rattle.placement.specs.declared.chain_strand.Strand.{Strand}
use Rattle.chain_indices.specs.declared.totals.Figures.{Figures}
use Rattle.placement.specs.chain_strand.Strand as strand
use Rattle.line_builder.specs.declared.Builder.{Builder}

-- ---- numbers

-- a count and n more; it stays at the largest number that a `u32` holds
abbrev pub plus : ℕ → ℕ → ℕ
plus a n = min (a + n) 4294967295

abbrev pub in_labels : ℕ → ℕ
in_labels l = min l 247

-- the variables of n double bonds without a position
abbrev pub variables_for : ℕ → ℕ
variables_for n = cond (eqb n 0) 0 (suc n)

-- ---- the slices

-- of the line, of the indices, of the rows and of what is noted of the chains
pub record Rooms : Type 0 where
  pub text : List ℕ
  pub index : List ℕ
  pub rows : List ℕ
  pub notes : List Placed

abbrev pub rooms : List ℕ → List ℕ → List ℕ → List Placed → Rooms
rooms a b c d = record { text = a; index = b; rows = c; notes = d }

-- those that a chain is laid down in
abbrev pub laid_in : Rooms → strand.Rooms
laid_in x = record { text = x.text; index = x.index; rows = x.rows }

pub record Sizes (x y : Rooms) : Type 0 where
  pub text : length y.text ≡ length x.text
  pub index : length y.index ≡ length x.index
  pub rows : length y.rows ≡ length x.rows

-- ---- a builder

-- where the chains stand, in the order of the text, by what is noted of them
unfoldable pub placed_in : Builder → List Placed → List Placed
placed_in b ns = take b.count ns

-- a builder with nothing pushed
pub record Fresh (b : Builder) : Type 0 where
  pub at : b.at ≡ 0
  pub atoms : b.atoms.0 ≡ 0
  pub variables : b.variables.0 ≡ 0
  pub labels : b.labels.0 ≡ 10
  pub used : b.used ≡ 0
  pub rows : b.rows ≡ 0
  pub count : b.count ≡ 0

-- ---- pushes

-- what a builder has: n atoms, v variables, the next label l, and its chains
pub record Counts (b : Builder) (ns : List Placed) (n v l : ℕ) (ps : List Placed) : Type 0 where
  pub atoms : b.atoms.0 ≡ n
  pub variables : b.variables.0 ≡ v
  pub labels : b.labels.0 ≡ l
  pub placed : placed_in b ns ≡ ps

-- such numbers can be kept
pub record Fits (n v l : ℕ) (ps : List Placed) : Type 0 where
  pub atoms : n ≤ 4294967295
  pub variables : v ≤ 4294967295
  pub labels : l ≤ 247
  pub places : length ps ≤ 4

-- items are written at the builder's place, with labels from l on, and the indices and rows of their chains; the builder then has these numbers
pub record Pushing (is : List Item) (l : ℕ) (cs : List request.Placed) (xs : Rooms) (b : Builder) (ys : Rooms) (q : Builder) (n v l' : ℕ) (ps : List Placed) : Type 0 where
  pub text : Written xs.text b.at (show (template_pieces l is)) ys.text q.at
  pub index : Written xs.index b.used (gathered index_list cs) ys.index q.used
  pub rows : Written xs.rows b.rows (gathered rows_of cs) ys.rows q.rows
  pub counts : Counts q ys.notes n v l' ps

-- a place stays what it is
pub record Kept (a b : ℕ) : Type 0 where
  pub is : b ≡ a
  pub small : a < 2 ^ 64

-- a text with k atoms
pub record FixedPushed (ts : List ℕ) (k : ℕ) (xs : List ℕ) (b : Builder) (ys : List ℕ) (q : Builder) : Type 0 where
  pub text : Written xs b.at ts ys q.at
  pub atoms : q.atoms.0 ≡ plus b.atoms.0 k
  pub variables : q.variables ≡ b.variables
  pub labels : q.labels ≡ b.labels
  pub used : Kept b.used q.used
  pub rows : Kept b.rows q.rows
  pub count : q.count ≡ b.count

-- what is kept of a chain that is laid down where the builder stands
abbrev pub placed_of : Builder → ℕ → Role → ℕ → Strand → Figures → Placed
placed_of b sn r s x f =
    record { sn = sn; role = r; first = b.atoms.0; site = s; variable = b.variables.0; count = x.count; acyl = f.acyl; unlocated = f.unlocated; flexible = x.flexible; floats = x.floats; total = f.total; float_count = f.float_count }

-- the places after a chain and its counts, and what is kept of it
pub record Settled (p : Placed) (x : Strand) (f : Figures) (ns : List Placed) (b : Builder) (ms : List Placed) (q : Builder) : Type 0 where
  pub at : q.at ≡ x.at
  pub used : q.used ≡ x.used
  pub rows : q.rows ≡ x.rows
  pub atoms : q.atoms.0 ≡ plus b.atoms.0 x.end
  pub variables : q.variables.0 ≡ plus b.variables.0 (variables_for f.unlocated)
  pub labels : q.labels.0 ≡ plus b.labels.0 f.rings
  pub placed : placed_in q ms ≡ take 4 (placed_in b ns ++ p ∷ [])

-- ---- a chain

-- what can be kept of a chain with an sn as r, its site the one given, that follows n atoms, v variables and some chains
abbrev pub FitsChain : ℕ → Role → Option ℕ → Option Chain → ℕ → ℕ → ℕ → List Placed → Type 0
FitsChain sn r k o n v l ps = Fits (atoms_after r n o) (variables_after v o) (labels_after l o) (ps ++ map noted (place sn r k n v o))

-- items are written, and such a chain is the one that is pushed with them
abbrev pub PushingAll : List Item → ℕ → Role → Option ℕ → Option Chain → ℕ → ℕ → ℕ → List Placed → Rooms → Builder → Rooms → Builder → Type 0
PushingAll is sn r k o n v l ps xs b ys q =
    Pushing is l (place sn r k n v o) xs b ys q (atoms_after r n o) (variables_after v o) (labels_after l o) (ps ++ map noted (place sn r k n v o))

abbrev pub PushingChain : ℕ → Role → Option ℕ → Option Chain → ℕ → ℕ → ℕ → List Placed → Rooms → Builder → Rooms → Builder → Type 0
PushingChain sn r k o n v l ps xs b ys q = PushingAll (chain_item r o) sn r k o n v l ps xs b ys q

-- a chain that has carbons
pub record FragmentPushed (x : Drawn) (sn : ℕ) (r : Role) (s : ℕ) (xs : Rooms) (b : Builder) (ys : Rooms) (q : Builder) : Type 0 where
  pub sizes : Sizes xs ys
  pub pushed : (d : Chain) (k : Option ℕ) (n v l : ℕ) (ps : List Placed) → s ≡ site_or n k → Carries r d x → Counts b xs.notes n v l ps
      → FitsChain sn r k (some d) n v l ps → PushingChain sn r k (some d) n v l ps xs b ys q

-- the chain of an sn of the request is the chain that is drawn, or has no carbons where none is
abbrev pub StandsAt : Role → Option Chain → Chains → ℕ → Type 0
StandsAt r o x sn = (f : Drawn) → ChainAt x sn f → Stands r o f

-- it is some chain, or none
pub record StandsSome (r : Role) (x : Chains) (sn : ℕ) : Type 0 where
  pub chain : Option Chain
  pub stands : StandsAt r chain x sn

-- the chain of an sn of the request, or none
pub record ChainPushed (x : Chains) (sn : ℕ) (r : Role) (s : ℕ) (xs : Rooms) (b : Builder) (ys : Rooms) (q : Builder) : Type 0 where
  pub sizes : Sizes xs ys
  pub pushed : (o : Option Chain) (k : Option ℕ) (n v l : ℕ) (ps : List Placed) → s ≡ site_or n k → StandsAt r o x sn → Counts b xs.notes n v l ps
      → FitsChain sn r k o n v l ps → PushingChain sn r k o n v l ps xs b ys q

-- ---- a slot, and a chain that stands without an O

-- the chain o of an sn, or none, stands there as r; with n atoms before its first carbon and the site k, what it adds to the builder can be kept
pub record Fitting (x : Chains) (sn : ℕ) (r : Role) (k : Option ℕ) (n : ℕ) (ns : List Placed) (b : Builder) (o : Option Chain) : Type 0 where
  pub stands : StandsAt r o x sn
  pub fits : FitsChain sn r k o n b.variables.0 b.labels.0 (placed_in b ns)

-- in a slot, whose O is its site
abbrev pub InSlot : Chains → ℕ → List Placed → Builder → Option Chain → Type 0
InSlot x sn ns b o = Fitting x sn Slot (some b.atoms.0) (suc b.atoms.0) ns b o

-- without an O
abbrev pub Bare : Chains → ℕ → Role → List Placed → Builder → Option Chain → Type 0
Bare x sn r ns b o = Fitting x sn r (site_of r b.atoms.0) b.atoms.0 ns b o

-- the request has such a chain for a slot, or none
pub record SlotFits (x : Chains) (sn : ℕ) (ns : List Placed) (b : Builder) : Type 0 where
  pub chain : Option Chain
  pub fitting : InSlot x sn ns b chain

pub record BareFits (x : Chains) (sn : ℕ) (r : Role) (ns : List Placed) (b : Builder) : Type 0 where
  pub chain : Option Chain
  pub fitting : Bare x sn r ns b chain

-- the O of a slot and every chain that stands there
pub record SlotPushed (x : Chains) (sn : ℕ) (xs : Rooms) (b : Builder) (ys : Rooms) (q : Builder) : Type 0 where
  pub sizes : Sizes xs ys
  pub pushed : (o : Option Chain) → InSlot x sn xs.notes b o
      → PushingAll (slot_oxygen ∷ chain_item Slot o) sn Slot (some b.atoms.0) o (suc b.atoms.0) b.variables.0 b.labels.0 (placed_in b xs.notes) xs b ys q

pub record BarePushed (x : Chains) (sn : ℕ) (r : Role) (xs : Rooms) (b : Builder) (ys : Rooms) (q : Builder) : Type 0 where
  pub sizes : Sizes xs ys
  pub pushed : (o : Option Chain) → Bare x sn r xs.notes b o
      → PushingAll (chain_item r o) sn r (site_of r b.atoms.0) o b.atoms.0 b.variables.0 b.labels.0 (placed_in b xs.notes) xs b ys q
