use borrow.Author.Rules.{rules}
use Rattle.options.proofs.Asking.{starts, goes_on, ends}
use Rattle.options.proofs.read.Goals as goal

pub loop-i-init : goal.loop-i-init
loop-i-init c = search (rules, starts)

pub loop-i-preserved : goal.loop-i-preserved
loop-i-preserved c = search (rules, goes_on)

pub returns : goal.returns
returns c = search (rules, ends)
