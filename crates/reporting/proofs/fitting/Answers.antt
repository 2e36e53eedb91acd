-- `reporting::fitting` meets its contract.
-- Assumes nothing.
use borrow.Author.Rules.{rules}
use Rattle.base.proofs.Tests.{tests}
use Rattle.reporting.proofs.fitting.Goals as goal

pub returns-then-room-n : goal.returns-then-room-n
returns-then-room-n c = search (rules, tests)

pub returns : goal.returns
returns c = search (rules, tests)
