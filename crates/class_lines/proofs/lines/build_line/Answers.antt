use borrow.Author.Rules.{rules}
use Rattle.class_lines.proofs.lines.Following.{few-sites, line-classed, line-built}
use Rattle.class_lines.proofs.lines.build_line.Goals as goal

pub class_smiles-b-requires : goal.class_smiles-b-requires
class_smiles-b-requires c = search line-classed

pub finish-c-requires : goal.finish-c-requires
finish-c-requires c = search few-sites

pub returns : goal.returns
returns c =
    line-built (record { text = (search rules); index = (search rules); rows = (search rules) }) c.class_smiles-b.ensures c.by_sn-order.ensures c.sites_by_sn-sites.ensures c.finish-c.ensures
