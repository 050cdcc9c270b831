-- Blocks and parts of a trailer, computed: the lines of document 01 and some of document 000. Assumes nothing.
use mathlib.Core.Path.{◌≡◌, refl}
use mathlib.Core.Bool.{true, false}
use mathlib.Core.List.{[], ◌∷◌, ◌++◌, map}
use Rattle.writer.specs.emit.Text.{digits, decimal}
use Rattle.reading_rules.specs.reading.Ascii.{ascii}
use Rattle.reading_rules.specs.reading.Names.{name_of}
use Rattle.reading_rules.specs.reading.Parting.{joined}
use Rattle.reading_rules.specs.reading.Molecule.{at, look, notes_of}
use Rattle.reading_rules.specs.reading.Show.{show_entry, entries, up_to_last, label_blocks, show_mark, show_sites, swap_texts, show_sum}
use Rattle.chain_rules.specs.chain.Drawing.{mark_list}
use Rattle.line_parts.specs.shown.Chained.{chained, lead, shown, shown_blocks, shown_parts, blocks_end}
use Rattle.line_parts.specs.shown.Notes.{sum_list}

-- 01, Batch program: FA 6:1
marks : shown_blocks true (map show_mark (mark_list 3 0 1)) ++ blocks_end true ≡ ascii " |Sg:n:3:a:ht,Sg:n:6:b:ht|"
unfolding shown chained lead blocks_end show_mark mark_list ascii digits decimal name_of
marks = refl

sums : shown_parts true (map show_sum (sum_list 0 1 3)) ≡ ascii " constrain(a+b=3)"
unfolding shown chained lead show_sum sum_list joined ascii digits decimal name_of
sums = refl

-- 01, Edges and traps: FA 5:0;OH
sites : shown_blocks true (show_sites (at 7 (3 ∷ 4 ∷ 5 ∷ 6 ∷ [])) ∷ []) ++ blocks_end true ≡ ascii " |m:7:3.4.5.6|"
unfolding shown chained lead blocks_end show_sites joined ascii digits decimal
sites = refl

-- a later chain with two unlocated bonds, its variables past z
later-marks : shown_blocks false (map show_mark (mark_list 40 25 2)) ≡ ascii ",Sg:n:40:z:ht,Sg:n:42:aa:ht,Sg:n:45:ab:ht"
unfolding shown chained lead show_mark mark_list ascii digits decimal name_of
later-marks = refl

later-sums : shown_parts false (map show_sum (sum_list 25 2 11)) ≡ ascii ";constrain(z+aa+ab=11)"
unfolding shown chained lead show_sum sum_list joined ascii digits decimal name_of
later-sums = refl

-- sites by rising sn, in another order along the line
labels : shown_blocks true (label_blocks (at 5 1 ∷ at 2 2 ∷ [])) ≡ ascii " |$;;sn2;;;sn1$"
unfolding shown chained lead label_blocks joined show_entry entries up_to_last look ascii
labels = refl

swaps : shown_parts true (swap_texts (at 5 1 ∷ at 2 2 ∷ [])) ≡ ascii " swappable(sn1,sn2)"
unfolding shown chained lead swap_texts joined notes_of ascii
swaps = refl
