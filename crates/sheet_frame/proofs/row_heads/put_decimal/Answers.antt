use Rattle.sheet_frame.proofs.row_heads.Laws.{digit-text}
use Rattle.sheet_frame.proofs.row_heads.put_decimal.Goals as goal

pub returns-then-n-le9 : goal.returns-then-n-le9
returns-then-n-le9 c = search digit-text
