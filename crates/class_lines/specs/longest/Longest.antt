-- How long a line is at most, by the numbers of its chains. The bound is crude, so that it costs little: it is to say of most lines that they
-- fit, not how long they are. Assumes nothing.
use Rattle.std.specs.Prelude.{ℕ, ◌+◌, ◌*◌, List, length}
use Rattle.std.proofs.Math.Option.{Option, none, some}
use Rattle.chain_record.specs.plain.Chain.{Chain}
use Rattle.chain_rules.specs.declared.chain.Role.{Role}
use Rattle.chain_rules.specs.chain.Features.{groups_on, floating}
use Rattle.template_rules.specs.declared.Class.{Class}
use Rattle.template_rules.specs.Template.{role_of}
use Rattle.template_rules.specs.Drawn.{nonempty}

-- a chain in the text: the mark, the C and the bridge of each carbon; fourteen bytes for the carbonyl O, for each group in brackets and for each
-- that floats; and both labels of each ring. No chain has more atoms than these are bytes.
unfoldable pub text_most : ℕ → ℕ → ℕ → ℕ → ℕ
text_most carbons groups floats rings = 3 * carbons + 14 * (groups + floats + 1) + 6 * rings

-- the drawn carbons: those written, and the flexible tail
unfoldable pub drawn_most : ℕ → ℕ → ℕ
drawn_most carbon unlocated = carbon + 2 * unlocated + 2

-- a site list for each floating group: an atom of at most ten digits with what stands around it, and six bytes for each site
unfoldable pub sites_most : ℕ → ℕ → ℕ
sites_most carbons floats = floats * (14 + 6 * carbons)

-- a chain in the line: its text, a byte in the label block for each of its atoms, its site lists, and its marks with their sum. A mark has 22
-- bytes and a variable of a sum three, and there is one more of both than there are double bonds; 50 is for that one and the rest of the sum.
unfoldable pub numbers_most : ℕ → ℕ → ℕ → ℕ → ℕ → ℕ
unfolding text_most sites_most drawn_most
numbers_most carbon unlocated groups floats rings =
    2 * text_most (drawn_most carbon unlocated) groups floats rings + sites_most (drawn_most carbon unlocated) floats + 25 * unlocated + 50

unfoldable pub chain_most : Role → Chain → ℕ
unfolding numbers_most
chain_most r d = numbers_most d.carbon d.unlocated (length (groups_on r d)) (length (floating d)) (length d.rings)

abbrev pub chain_most_of : Role → Option Chain → ℕ
chain_most_of r none = 0
chain_most_of r (some d) = chain_most r d

-- the chain of an sn
unfoldable pub most_at : Class → List Chain → ℕ → ℕ
unfolding chain_most nonempty
most_at c ds sn = chain_most_of (role_of c sn) (nonempty sn ds)

-- the tail's text, a byte in the label block for each of its atoms, what the templates have of their own, and the chains
unfoldable pub line_most : Class → List ℕ → ℕ → List Chain → ℕ
unfolding most_at
line_most c t k ds = 120 + length t + k + (most_at c ds 1 + most_at c ds 2 + most_at c ds 3 + most_at c ds 4)
