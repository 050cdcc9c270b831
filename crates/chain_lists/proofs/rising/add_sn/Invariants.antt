use Rattle.std.proofs.Common.{take}
use Rattle.chain_lists.specs.rising.Four.{Added}
use Rattle.chain_lists.specs.rising.Order.{sns_of, places_of}
use Rattle.chain_lists.proofs.rising.add_sn.Given as goal

abbrev pub invariant-loop-i : goal.invariant-loop-i
invariant-loop-i l = Added 0 (places_of l.sn 0 (sns_of (take l.i l.chains))) l.at l.initial.places l.q l.places
