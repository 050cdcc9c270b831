use Rattle.std.proofs.Common.{◌∙◌}
use Rattle.reading_rules.specs.reading.Ascii.{ascii}
use Rattle.reading_rules.specs.reading.Lexer.{marks}
use Rattle.tail_grammar.proofs.tailatom.Bytes.{contains_memb}
use Rattle.tail_grammar.proofs.tailatom.is_bond.Goals as goal

pub returns : goal.returns
unfolding marks ascii
returns c = c.contains.ensures.value ∙ contains_memb c.args.b _
