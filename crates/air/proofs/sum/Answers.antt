use borrow.Author.Rules.{rules}
use Rattle.air.proofs.CountingFlips.{sum_starts, sum_fits, sum_goes_on, sum_ends}
use Rattle.air.proofs.sum.Goals as goal

pub loop-j-init : goal.loop-j-init
loop-j-init c = search (rules, sum_starts)

pub overflow_add-sum : goal.overflow_add-sum
overflow_add-sum c = search (rules, sum_fits)

pub loop-j-preserved : goal.loop-j-preserved
loop-j-preserved c = search (rules, sum_goes_on)

pub returns : goal.returns
returns c = search (rules, sum_ends)
