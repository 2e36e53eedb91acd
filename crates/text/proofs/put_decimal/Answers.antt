use borrow.Author.Rules.{rules}
use Rattle.text.proofs.Spelling.{starts, goes_before, goes_on, ends}
use Rattle.text.proofs.put_decimal.Goals as goal

pub loop-rest-init : goal.loop-rest-init
loop-rest-init c = search (rules, starts)

pub overflow_sub-i-in-loop-rest : goal.overflow_sub-i-in-loop-rest
overflow_sub-i-in-loop-rest c = search (rules, goes_before)

pub loop-rest-preserved : goal.loop-rest-preserved
loop-rest-preserved c = search (rules, goes_on)

pub returns : goal.returns
returns c = search (rules, ends)
