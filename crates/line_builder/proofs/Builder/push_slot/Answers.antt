use borrow.Author.Rules.{rules}
use mathlib.Core.Path.{refl}
use Rattle.reading_rules.specs.reading.Ascii.{ascii}
use Rattle.line_builder.proofs.Pushes.{slot-some, slot_pushed}
use Rattle.line_builder.proofs.Builder.push_slot.Goals as goal

pub push_chain-requires : goal.push_chain-requires
push_chain-requires c = search slot-some

pub returns : goal.returns
unfolding ascii
returns c =
    slot_pushed (search rules) c.push_fixed-b.ensures refl c.push_chain.ensures
