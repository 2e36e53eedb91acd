use borrow.Author.Rules.{rules}
use Rattle.air.proofs.MostFlips.{worst_starts, worst_is_next, worst_stays, worst_ends}
use Rattle.air.proofs.CountingFlips.{count_at}
use Rattle.air.proofs.worst_by.Goals as goal

pub loop-j-init : goal.loop-j-init
loop-j-init c = search (rules, worst_starts)

pub loop-j-preserved-then-flips-most : goal.loop-j-preserved-then-flips-most
loop-j-preserved-then-flips-most c = search (rules, worst_stays, count_at)

pub loop-j-preserved : goal.loop-j-preserved
loop-j-preserved c = search (rules, worst_is_next, count_at)

pub returns : goal.returns
returns c = search (rules, worst_ends)
