-- `marks::judge` meets its contract: the tests passed say which row is the first that applies.
-- Assumes nothing.
use borrow.Author.Rules.{rules}
use Rattle.marks.proofs.Verdicts.{gives_19, gives_37, accepts}
use Rattle.marks.proofs.judge.Goals as goal

pub returns-then-at-n : goal.returns-then-at-n
returns-then-at-n c = search (rules, gives_19)

pub returns-then-left-n : goal.returns-then-left-n
returns-then-left-n c = search (rules, gives_37)

pub returns : goal.returns
returns c = search (rules, accepts)
