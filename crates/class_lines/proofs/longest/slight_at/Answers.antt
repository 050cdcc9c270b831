use borrow.Author.Tests.{leb-true}
use Rattle.class_lines.proofs.longest.Stood.{there-slight}
use Rattle.class_lines.proofs.longest.slight_at.Goals as goal

pub returns-then-x-le-SLIGHT_CARBONS : goal.returns-then-x-le-SLIGHT_CARBONS
returns-then-x-le-SLIGHT_CARBONS c = λ e. there-slight _ _ _ _ _ c.shape_in-x.ensures c.if-x-le-SLIGHT_CARBONS.true (leb-true _ _ e)
