use native.Mathlib.Omega.{arith}
use Rattle.chain_record.proofs.plain.Laws.{length-mapped}
use Rattle.line_blocks.proofs.blocks.Notes.{labelled-within, labelled-digits, notes-put}
use Rattle.line_blocks.proofs.blocks.Bare.{plain-notes}
use Rattle.line_blocks.proofs.blocks.put_notes.Goals as goal

pub put_plain-requires : goal.put_plain-requires
put_plain-requires c = let e = c.labelled-n.ensures in record { n_bound = labelled-within c.args.swap c.args.sited _ e c.requires.sited_bound; digits = labelled-digits c.args.swap c.args.sited _ e c.args.sites c.requires.digits }

pub returns-then-plain : goal.returns-then-plain
returns-then-plain c = plain-notes c.args.swap c.args.sites c.args.sited _ _ _ _ _ c.labelled-n.ensures c.plain.ensures c.if-plain.true c.put_plain.ensures c.requires.sited_bound (search length-mapped)

pub put_blocks-next-requires : goal.put_blocks-next-requires
put_blocks-next-requires c = let e = c.labelled-n.ensures in record { n_bound = labelled-within c.args.swap c.args.sited _ e c.requires.sited_bound; digits = labelled-digits c.args.swap c.args.sited _ e c.args.sites c.requires.digits }

pub put_trailer-requires : goal.put_trailer-requires
put_trailer-requires c = let e = c.labelled-n.ensures in record { n_bound = labelled-within c.args.swap c.args.sited _ e c.requires.sited_bound; digits = labelled-digits c.args.swap c.args.sited _ e c.args.sites c.requires.digits }

pub returns : goal.returns
returns c = notes-put c.args.swap c.args.sites c.args.sited _ _ _ _ c.labelled-n.ensures c.put_blocks-next.ensures c.put_trailer.ensures c.requires.sited_bound (search length-mapped) (omega arith)
