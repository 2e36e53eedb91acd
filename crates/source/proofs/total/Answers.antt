use Rattle.std.proofs.Common.{rules}
use Rattle.source.proofs.Totals.{count_le, sum_starts, sum_fits, sum_goes_on, sum_ends, sum_small}
use Rattle.source.proofs.total.Goals as goal

pub loop-count-init : goal.loop-count-init
loop-count-init c = search (rules, sum_starts)

pub overflow_add-sum : goal.overflow_add-sum
overflow_add-sum c = search (rules, count_le, sum_fits)

pub loop-count-preserved : goal.loop-count-preserved
loop-count-preserved c = search (rules, count_le, sum_goes_on)

pub returns : goal.returns
returns c = search (rules, sum_ends, sum_small)
