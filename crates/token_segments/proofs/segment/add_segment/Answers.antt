use Rattle.token_segments.proofs.segment.Laws.{adds-ring, adds-group, adds-too-many, adds-many, adds-oxygens, adds-nothing}
use Rattle.token_segments.proofs.segment.add_segment.Goals as goal

pub returns-in-Cycle : goal.returns-in-Cycle
returns-in-Cycle c = search adds-ring

pub returns-in-Located : goal.returns-in-Located
returns-in-Located c = search adds-group

pub returns-in_err-more-in-Repeated : goal.returns-in_err-more-in-Repeated
returns-in_err-more-in-Repeated c = search (adds-too-many, c.in_err-more-in-Repeated.was, c.from_residual.ensures)

pub returns-in_ok-more-in-Repeated : goal.returns-in_ok-more-in-Repeated
returns-in_ok-more-in-Repeated c = search (adds-many, c.in_ok-more-in-Repeated.was)

pub returns-in-Oxygens : goal.returns-in-Oxygens
returns-in-Oxygens c = search adds-oxygens

pub returns-in-Unreadable : goal.returns-in-Unreadable
returns-in-Unreadable c = search adds-nothing
