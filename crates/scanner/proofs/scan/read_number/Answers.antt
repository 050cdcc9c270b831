use Rattle.scanner.proofs.scan.Laws.{number_is}
use Rattle.scanner.proofs.scan.read_number.Goals as goal

pub returns : goal.returns
returns c = search number_is
