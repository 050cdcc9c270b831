use borrow.Author.Rules.{rules}
use Rattle.reading_rules.specs.reading.Ascii.{ascii}
use Rattle.class_templates.proofs.Templates.{gpl-first, gpl-second, gpl-built}
use Rattle.class_templates.proofs.gpl_smiles.Goals as goal

pub push_slot-e-requires : goal.push_slot-e-requires
unfolding ascii
push_slot-e-requires c =
    gpl-first {is = c.args.index.now} {rs = c.args.rows.now} (record { text = (search rules); index = (search rules); rows = (search rules) }) c.new-a.ensures c.requires.tail_of c.push_fixed-b.ensures c.push_fixed-c.ensures c.push_fixed-d.ensures c.requires.filled_tailed

pub push_slot-requires : goal.push_slot-requires
unfolding ascii
push_slot-requires c =
    gpl-second (record { text = (search rules); index = (search rules); rows = (search rules) }) c.new-a.ensures c.requires.tail_of c.push_fixed-b.ensures c.push_fixed-c.ensures c.push_fixed-d.ensures c.push_slot-e.ensures c.push_fixed-f.ensures c.requires.filled_tailed

pub returns : goal.returns
unfolding ascii
returns c =
    gpl-built (record { text = (search rules); index = (search rules); rows = (search rules) }) c.new-a.ensures c.requires.tail_of c.push_fixed-b.ensures c.push_fixed-c.ensures c.push_fixed-d.ensures c.push_slot-e.ensures c.push_fixed-f.ensures c.push_slot.ensures

pub shape_of-out : goal.shape_of-out
shape_of-out c = (returns c).sizes.text

pub shape_of-index : goal.shape_of-index
shape_of-index c = (returns c).sizes.index

pub shape_of-rows : goal.shape_of-rows
shape_of-rows c = (returns c).sizes.rows
