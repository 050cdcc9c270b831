use Rattle.reading_rules.specs.reading.Ascii.{ascii}
use native.Mathlib.Omega.{arith}
use Rattle.line_parts.proofs.sites.Laws.{sites-text}
use Rattle.line_parts.proofs.sites.put_sites_text.Goals as goal

pub returns : goal.returns
unfolding ascii
returns c = search (sites-text, arith)
