use Rattle.carbons.proofs.TokenLaws.{ends-small, busy-all}
use borrow.Author.Rules.{rules}
use Rattle.carbons.proofs.busy_carbons.Goals as goal

pub add_groups-requires : goal.add_groups-requires
add_groups-requires c =
    (ends-small _ _ c.requires.noughts c.set_rings.ensures c.set_carbonyl.ensures, search rules)

pub returns : goal.returns
returns c = busy-all c.args.groups.now c.requires.noughts c.requires.groups_len_bound c.set_rings.ensures c.set_carbonyl.ensures c.add_groups.ensures
