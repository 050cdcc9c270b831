use Rattle.scanner.specs.scan.Ascii.{ascii}
use Rattle.scanner.specs.scan.Part.{same_bytes}
use Rattle.group_table.specs.groups.Groups.{substituent_of, lookup_from, entries}
use Rattle.group_table.proofs.groups.Laws.{hydroxy-found}
use Rattle.group_table.specs.abbreviations.Key.{number_from, key_of}
use Rattle.group_table.proofs.abbreviations.Laws.{text_from, text_of, named_by, names-none}
use Rattle.group_table.proofs.abbreviations.substituent.Goals as goal

pub returns-then-same : goal.returns-then-same
unfolding ascii
returns-then-same c = search hydroxy-found

pub returns-in-6096778351 : goal.returns-in-6096778351
unfolding substituent_of lookup_from entries same_bytes text_of text_from
returns-in-6096778351 c = search named_by

pub returns-in-83316 : goal.returns-in-83316
unfolding substituent_of lookup_from entries same_bytes text_of text_from
returns-in-83316 c = search named_by

pub returns-in-85349 : goal.returns-in-85349
unfolding substituent_of lookup_from entries same_bytes text_of text_from
returns-in-85349 c = search named_by

pub returns-in-82546 : goal.returns-in-82546
unfolding substituent_of lookup_from entries same_bytes text_of text_from
returns-in-82546 c = search named_by

pub returns-in-82796 : goal.returns-in-82796
unfolding substituent_of lookup_from entries same_bytes text_of text_from
returns-in-82796 c = search named_by

pub returns-in-326 : goal.returns-in-326
unfolding substituent_of lookup_from entries same_bytes text_of text_from
returns-in-326 c = search named_by

pub returns-in-329 : goal.returns-in-329
unfolding substituent_of lookup_from entries same_bytes text_of text_from
returns-in-329 c = search named_by

pub returns-in-21909298 : goal.returns-in-21909298
unfolding substituent_of lookup_from entries same_bytes text_of text_from
returns-in-21909298 c = search named_by

pub returns-in-21974373 : goal.returns-in-21974373
unfolding substituent_of lookup_from entries same_bytes text_of text_from
returns-in-21974373 c = search named_by

pub returns-in-21907506 : goal.returns-in-21907506
unfolding substituent_of lookup_from entries same_bytes text_of text_from
returns-in-21907506 c = search named_by

pub returns-in-21974856 : goal.returns-in-21974856
unfolding substituent_of lookup_from entries same_bytes text_of text_from
returns-in-21974856 c = search named_by

pub returns-in-86856 : goal.returns-in-86856
unfolding substituent_of lookup_from entries same_bytes text_of text_from
returns-in-86856 c = search named_by

pub returns-in-85832 : goal.returns-in-85832
unfolding substituent_of lookup_from entries same_bytes text_of text_from
returns-in-85832 c = search named_by

pub returns-in-24082543 : goal.returns-in-24082543
unfolding substituent_of lookup_from entries same_bytes text_of text_from
returns-in-24082543 c = search named_by

pub returns-in-82766 : goal.returns-in-82766
unfolding substituent_of lookup_from entries same_bytes text_of text_from
returns-in-82766 c = search named_by

pub returns-in-336 : goal.returns-in-336
unfolding substituent_of lookup_from entries same_bytes text_of text_from
returns-in-336 c = search named_by

pub returns-in-339 : goal.returns-in-339
unfolding substituent_of lookup_from entries same_bytes text_of text_from
returns-in-339 c = search named_by

pub returns-in-5424238408 : goal.returns-in-5424238408
unfolding substituent_of lookup_from entries same_bytes text_of text_from
returns-in-5424238408 c = search named_by

pub returns-else-same : goal.returns-else-same
unfolding key_of number_from entries
returns-else-same c = search names-none
