-- `lines::count` meets its contract, by the cases of the answer.
-- Assumes nothing.
use borrow.Author.Rules.{rules}
use Rattle.lines.proofs.Counting.{counts_accepted, counts_refused}
use Rattle.lines.proofs.count.Goals as goal

pub returns-in-Ok : goal.returns-in-Ok
returns-in-Ok c = search (rules, counts_accepted)

pub returns-in-Err : goal.returns-in-Err
returns-in-Err c = search (rules, counts_refused)
