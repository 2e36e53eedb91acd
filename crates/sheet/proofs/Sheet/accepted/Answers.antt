use borrow.Author.Rules.{rules}
use Rattle.source.proofs.Totals.{sum_starts, sum_fits, sum_goes_on, sum_ends, sum_small}
use Rattle.sheet.proofs.Offering.{few_records, sums_own}
use Rattle.sheet.proofs.Sheet.accepted.Goals as goal

pub loop-source-init : goal.loop-source-init
loop-source-init g c = search (rules, sum_starts)

pub overflow_add-sum : goal.overflow_add-sum
overflow_add-sum g c = search (rules, sum_fits, few_records)

pub loop-source-preserved : goal.loop-source-preserved
loop-source-preserved g c = search (rules, sum_goes_on)

pub returns : goal.returns
returns g c = search (rules, sum_ends, sums_own, sum_small)
