-- THE PROMISE of a request that is accepted, demand 3: the line reads as the molecule of the names, every chain's atoms, indices, site, floating
-- parts, marks and groups stand in it as document 01 says, and however its sums are met each chain has its written carbons. It speaks of the
-- molecule that a reader of the line has. Assumes nothing.
use Rattle.std.specs.Prelude.{ℕ, suc, ◌≡◌, Bool, true, cond, ◌&&◌, List, [], ◌∷◌, length, eqb, ltb}
use Rattle.std.proofs.Math.Option.{none, some}
use Rattle.chain_record.specs.plain.Chain.{Chain}
use Rattle.reading_rules.specs.reading.Lexer.{pieces_of}
use Rattle.reading_rules.specs.reading.Piece.{show}
use Rattle.reading_rules.specs.reading.Template.{drawn}
use Rattle.reading_rules.specs.reading.Molecule.{notes_of, look, Molecule}
use Rattle.reading_rules.specs.reading.Line.{distinct, read_line}
use Rattle.chain_rules.specs.chain.Lists.{Each}
use Rattle.chain_rules.specs.chain.Counts.{Counts, Meets}
use Rattle.template_rules.specs.declared.Class.{Class}
use Rattle.template_rules.specs.Template.{Element, fixed, tail, slot, chain, elements, has_tail}
use Rattle.template_rules.specs.Drawn.{Placed, placed, by_sn, sn_sites, fixed_pieces, tail_part, all_items, rows_drawn, molecule_drawn}
use Rattle.template_rules.specs.Written.{line_of}
use Rattle.template_rules.specs.Atoms.{label_at, marks_in, site_lists_in, sums_in}
use Rattle.template_rules.specs.Chains.{Joined, Stretch, HeadedBy, Listed, sites_by, star_lists, Stars, carbon_marks, Summed, Whole, Grouped, AddsUp}

-- "every chain with c > 0", by rising sn: the chains of some tokens, of which the first is that of sn
unfoldable pub chains_from : ℕ → List Chain → List (ℕ × Chain)
chains_from sn [] = []
chains_from sn (d ∷ ds) = let r = chains_from (suc sn) ds in cond (eqb d.carbon 0) r ((sn, d) ∷ r)

unfoldable pub names_of : List Placed → List (ℕ × Chain)
names_of [] = []
names_of (p ∷ ps) = (p.sn, p.chain) ∷ names_of ps

-- a choice of counts, each from 1, that meets every sum
pub record Choice (m : Molecule) (count : ℕ → ℕ) : Type 0 where
  pub counts : Counts count
  pub meets : Each (Meets count) (sums_in m)

-- a text of the template's own is read whole
abbrev pub OwnText : Element → Type 0
OwnText (fixed b) = (pieces_of b ≡ some (fixed_pieces b)) × (show (fixed_pieces b) ≡ b)
OwnText tail = Unit {0}
OwnText (slot sn) = Unit {0}
OwnText (chain sn r) = Unit {0}

pub record Promise (c : Class) (swap : Bool) (t : List ℕ) (ds : List Chain) : Type 0 where
  -- the line that is written reads as the molecule of the names
  pub reads : read_line (line_of c swap t ds) ≡ some (molecule_drawn c swap t ds)
  -- which is drawn: the template's own text, the tail and every group are read whole, and the line has their bytes
  pub drawn : drawn (all_items t ds (elements c)) ≡ some (rows_drawn c t ds)
  pub texts : Each OwnText (elements c)
  pub tail : has_tail c ≡ true → Whole t (tail_part t)
  pub groups : Each Grouped (placed c t ds)
  -- the listed chains are those that have carbons, by rising sn
  pub chains : names_of (by_sn (placed c t ds)) ≡ chains_from 1 ds
  -- one numbering: each chain's atoms and indices are those that the drawing rules give it; it hangs on the atom that 01 names, a base on its C2
  pub rows : Each (Stretch (rows_drawn c t ds)) (placed c t ds)
  pub joined : Each (Joined c (molecule_drawn c swap t ds)) (placed c t ds)
  pub heads : Each (λ p. HeadedBy p.role (molecule_drawn c swap t ds) p) (placed c t ds)
  -- each list is exactly the chain's carbons, each once
  pub indices : Each (Listed (molecule_drawn c swap t ds)) (by_sn (placed c t ds))
  -- each sn site is the atom that 01 names; with swap and two sites or more the labels are the sites, else there is none
  pub sites : sn_sites (by_sn (placed c t ds)) ≡ sites_by (by_sn (placed c t ds))
  pub labelled : (i : ℕ) → label_at (molecule_drawn c swap t ds) i ≡ cond (swap && ltb 1 (length (sites_by (by_sn (placed c t ds))))) (look i (sites_by (by_sn (placed c t ds)))) none
  -- the site lists stand at the `*` of the floating parts, which hang on nothing, and have the chain's drawn carbons but acyl C1
  pub floats : site_lists_in (molecule_drawn c swap t ds) ≡ star_lists (placed c t ds)
  pub stars : Each (Stars (rows_drawn c t ds)) (placed c t ds)
  -- the repeat marks stand on carbons of the chains, whose sums have their variables; no variable stands twice
  pub marks : marks_in (molecule_drawn c swap t ds) ≡ carbon_marks (placed c t ds)
  pub summed : Each (Summed (molecule_drawn c swap t ds)) (placed c t ds)
  pub variables : distinct (notes_of (marks_in (molecule_drawn c swap t ds))) ≡ true
  -- the sums can be met
  pub choice : (count : ℕ → ℕ) × Choice (molecule_drawn c swap t ds) count
  -- and however they are met, each chain has its written carbons
  pub carbons : (count : ℕ → ℕ) → Choice (molecule_drawn c swap t ds) count → Each (AddsUp (molecule_drawn c swap t ds) count) (by_sn (placed c t ds))
