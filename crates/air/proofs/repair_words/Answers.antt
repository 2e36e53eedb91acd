use borrow.Author.Rules.{rules}
use Rattle.air.proofs.Repairing.{repairs_start, repairs_go_on, repairs_stop, repairs_end}
use Rattle.air.proofs.CountingFlips.{counts_few, total_is}
use Rattle.air.proofs.repair_words.Goals as goal

pub loop-j-init : goal.loop-j-init
loop-j-init c = search (rules, repairs_start)

pub returns-in_default : goal.returns-in_default
returns-in_default c = search (rules, repairs_stop)

pub loop-j-preserved : goal.loop-j-preserved
loop-j-preserved c = search (rules, repairs_go_on)

pub sum-flips-requires : goal.sum-flips-requires
sum-flips-requires c = search (rules, counts_few)

pub returns : goal.returns
returns c = search (rules, repairs_end, total_is)
