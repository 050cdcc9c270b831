use Rattle.drawing.proofs.Draw.{slight-room}
use borrow.Author.Rules.{rules}
use Rattle.drawing.proofs.draw_slight.Goals as goal

pub draw_some-requires : goal.draw_some-requires
draw_some-requires c = record { readied = search rules; index_room = search slight-room; short_is = search rules }
