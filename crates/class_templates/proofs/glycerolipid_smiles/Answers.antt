use borrow.Author.Rules.{rules}
use Rattle.reading_rules.specs.reading.Ascii.{ascii}
use Rattle.class_templates.proofs.Templates.{glycerolipid-first, glycerolipid-second, glycerolipid-third, glycerolipid-built}
use Rattle.class_templates.proofs.glycerolipid_smiles.Goals as goal

pub push_slot-c-requires : goal.push_slot-c-requires
unfolding ascii
push_slot-c-requires c =
    glycerolipid-first {is = c.args.index.now} {rs = c.args.rows.now} (record { text = (search rules); index = (search rules); rows = (search rules) }) c.new-a.ensures c.push_fixed-b.ensures c.requires

pub push_slot-e-requires : goal.push_slot-e-requires
unfolding ascii
push_slot-e-requires c =
    glycerolipid-second (record { text = (search rules); index = (search rules); rows = (search rules) }) c.new-a.ensures c.push_fixed-b.ensures c.push_slot-c.ensures c.push_fixed-d.ensures c.requires

pub push_slot-requires : goal.push_slot-requires
unfolding ascii
push_slot-requires c =
    glycerolipid-third (record { text = (search rules); index = (search rules); rows = (search rules) }) c.new-a.ensures c.push_fixed-b.ensures c.push_slot-c.ensures c.push_fixed-d.ensures c.push_slot-e.ensures c.push_fixed-f.ensures c.requires

pub returns : goal.returns
unfolding ascii
returns c =
    glycerolipid-built (record { text = (search rules); index = (search rules); rows = (search rules) }) c.new-a.ensures c.push_fixed-b.ensures c.push_slot-c.ensures c.push_fixed-d.ensures c.push_slot-e.ensures c.push_fixed-f.ensures c.push_slot.ensures

pub shape_of-out : goal.shape_of-out
shape_of-out c = (returns c).sizes.text

pub shape_of-index : goal.shape_of-index
shape_of-index c = (returns c).sizes.index

pub shape_of-rows : goal.shape_of-rows
shape_of-rows c = (returns c).sizes.rows
