use Rattle.reading_rules.specs.reading.Ascii.{ascii}
use Rattle.line_parts.proofs.shown.Laws.{lead-first, lead-later}
use Rattle.line_parts.proofs.shown.put_part_lead.Goals as goal

pub returns-then-first : goal.returns-then-first
unfolding ascii
returns-then-first c = search lead-first

pub returns : goal.returns
unfolding ascii
returns c = search lead-later
