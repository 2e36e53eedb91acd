use borrow.Author.Rules.{rules}
use Rattle.air.proofs.Gathering.{lanes_start, weight_fits}
use Rattle.air.proofs.below_top.Goals as goal

pub loop-i-init : goal.loop-i-init
loop-i-init c = search (rules, lanes_start)

pub overflow_mul-weight : goal.overflow_mul-weight
overflow_mul-weight c = search (rules, weight_fits)
