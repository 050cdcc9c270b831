use Rattle.drawing.proofs.Draw.{long-room}
use borrow.Author.Rules.{rules}
use Rattle.drawing.proofs.draw_long.Goals as goal

pub draw_some-requires : goal.draw_some-requires
draw_some-requires c = record { readied = search rules; index_room = long-room; short_is = search rules }
