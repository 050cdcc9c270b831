use Rattle.drawing.proofs.Draw.{short-drawn, long-slices}
use borrow.Author.Rules.{rules}
use Rattle.drawing.proofs.draw_chains.Goals as goal

pub returns-then-short : goal.returns-then-short
returns-then-short c = short-drawn c.is_short-short.ensures c.if-short.true c.refused_for.ensures

pub draw_one-requires : goal.draw_one-requires
draw_one-requires c = record { readied = search rules; count_value = c.if-chains-eq1.true; short_is = long-slices c.is_short-short.ensures c.if-short.false }

pub draw_slight-requires : goal.draw_slight-requires
draw_slight-requires c = record { readied = search rules; slight = c.are_slight.ensures c.if-are_slight.true; short_is = long-slices c.is_short-short.ensures c.if-short.false }

pub draw_long-requires : goal.draw_long-requires
draw_long-requires c = record { readied = search rules; short_is = long-slices c.is_short-short.ensures c.if-short.false }
