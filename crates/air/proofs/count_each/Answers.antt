use borrow.Author.Rules.{rules}
use Rattle.base.proofs.Fill.{fill_starts, fill_goes_on}
use Rattle.air.proofs.CountingFlips.{counts_end}
use Rattle.air.proofs.count_each.Goals as goal

pub loop-j-init : goal.loop-j-init
loop-j-init c = search (rules, fill_starts)

pub loop-j-preserved : goal.loop-j-preserved
loop-j-preserved c = search (rules, fill_goes_on)

pub returns : goal.returns
returns c = search (rules, counts_end)
