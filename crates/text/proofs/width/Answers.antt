use borrow.Author.Rules.{rules}
use Rattle.text.proofs.Counting.{starts, goes_on, ends, ends_short}
use Rattle.text.proofs.width.Goals as goal

pub loop-unit-init : goal.loop-unit-init
loop-unit-init c = search (rules, starts)

pub loop-unit-preserved : goal.loop-unit-preserved
loop-unit-preserved c = search (rules, goes_on)

pub returns : goal.returns
returns c = search (rules, ends, ends_short)
