-- `marks::find` meets its contract.
-- Assumes nothing.
use borrow.Author.Rules.{rules}
use Rattle.marks.proofs.Steps.{step_too_long, step_past, step_none, step_some}
use Rattle.marks.proofs.find.Goals as goal

pub returns-then-total-n : goal.returns-then-total-n
returns-then-total-n c = search (rules, step_too_long)

pub returns-then-n-at : goal.returns-then-n-at
returns-then-n-at c = search (rules, step_past)

pub returns-then-n-from : goal.returns-then-n-from
returns-then-n-from c = search (rules, step_none)

pub returns : goal.returns
returns c = search (rules, step_some)
