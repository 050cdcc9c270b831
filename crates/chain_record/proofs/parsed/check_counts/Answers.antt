use Rattle.chain_record.proofs.parsed.Laws.{bonds-many, groups-many, rings-many, none-many}
use Rattle.chain_record.proofs.parsed.check_counts.Goals as goal

pub returns-then-counts-gt-MAX_BONDS : goal.returns-then-counts-gt-MAX_BONDS
returns-then-counts-gt-MAX_BONDS c = search bonds-many

pub returns-then-counts-gt-MAX_GROUPS : goal.returns-then-counts-gt-MAX_GROUPS
returns-then-counts-gt-MAX_GROUPS c = search groups-many

pub returns-then-counts-gt-MAX_RINGS : goal.returns-then-counts-gt-MAX_RINGS
returns-then-counts-gt-MAX_RINGS c = search rings-many

pub returns : goal.returns
returns c = search none-many
