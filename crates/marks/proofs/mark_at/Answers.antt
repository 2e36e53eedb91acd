-- `marks::mark_at` meets its contract.
-- Assumes nothing.
use borrow.Author.Rules.{rules}
use Rattle.marks.proofs.Steps.{marked_at}
use Rattle.marks.proofs.mark_at.Goals as goal

pub returns : goal.returns
returns c = search (rules, marked_at)
