use borrow.Author.Rules.{rules}
use Rattle.reading_rules.specs.reading.Ascii.{ascii}
use Rattle.class_templates.proofs.Templates.{fa-first, fa-built}
use Rattle.class_templates.proofs.fa_smiles.Goals as goal

pub push_bare-requires : goal.push_bare-requires
unfolding ascii
push_bare-requires c =
    fa-first {is = c.args.index.now} {rs = c.args.rows.now} (record { text = (search rules); index = (search rules); rows = (search rules) }) c.new-a.ensures c.push_fixed-b.ensures c.requires

pub returns : goal.returns
unfolding ascii
returns c =
    fa-built (record { text = (search rules); index = (search rules); rows = (search rules) }) c.new-a.ensures c.push_fixed-b.ensures c.push_bare.ensures

pub shape_of-out : goal.shape_of-out
shape_of-out c = (returns c).sizes.text

pub shape_of-index : goal.shape_of-index
shape_of-index c = (returns c).sizes.index

pub shape_of-rows : goal.shape_of-rows
shape_of-rows c = (returns c).sizes.rows
