use Rattle.scanner.proofs.reader.Laws.{part-is}
use Rattle.scanner.proofs.reader.part_from.Goals as goal

pub returns : goal.returns
returns c = search part-is
