use mathlib.Core.Path.{refl}
use Rattle.scanner.proofs.scan.Laws.{digit-from}
use Rattle.token_syntax.proofs.padded.Laws.{figure-most}
use Rattle.token_syntax.proofs.padded.figure.Goals as goal

pub overflow_sub-result : goal.overflow_sub-result
overflow_sub-result c = search digit-from

pub returns : goal.returns
returns c = (refl, search figure-most)
