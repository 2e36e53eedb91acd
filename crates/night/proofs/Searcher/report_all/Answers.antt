use borrow.Author.Rules.{rules}
use Rattle.night.proofs.Reporting.{all_starts, all_over, all_less, all_goes_on}
use Rattle.night.proofs.Searcher.report_all.Goals as goal

pub loop-rt-init : goal.loop-rt-init
loop-rt-init c = search (rules, all_starts)

pub returns-then-told : goal.returns-then-told
returns-then-told c = search (rules, all_over)

pub loop-rt-smaller : goal.loop-rt-smaller
loop-rt-smaller c = search (rules, all_less)

pub loop-rt-preserved : goal.loop-rt-preserved
loop-rt-preserved c = search (rules, all_goes_on)
