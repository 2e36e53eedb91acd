-- `reporting::stop_after` meets its contract.
-- Assumes nothing.
use borrow.Author.Rules.{rules}
use Rattle.base.proofs.Tests.{tests}
use Rattle.reporting.proofs.stop_after.Goals as goal

pub returns-then-n-fits : goal.returns-then-n-fits
returns-then-n-fits c = search (rules, tests)

pub returns-then-fits-bits : goal.returns-then-fits-bits
returns-then-fits-bits c = search (rules, tests)

pub returns : goal.returns
returns c = search (rules, tests)
