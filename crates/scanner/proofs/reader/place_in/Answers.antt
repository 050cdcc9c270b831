use Rattle.std.proofs.Common.{arith}
use Rattle.std.proofs.lemmas.Grind.{common_steps}
use Rattle.scanner.specs.reader.Reading.{place_in}
use Rattle.scanner.proofs.reader.place_in.Goals as goal

pub returns : goal.returns
unfolding place_in
returns c = grind (arith, common_steps)
