-- `marks::scan` meets its contract.
-- Assumes nothing.
use borrow.Author.Rules.{rules}
use Rattle.marks.proofs.Steps.{scan_none, scan_mark}
use Rattle.marks.proofs.scan.Goals as goal

pub returns-then-n-k : goal.returns-then-n-k
returns-then-n-k c = search (rules, scan_none)

pub returns : goal.returns
returns c = search (rules, scan_mark)
