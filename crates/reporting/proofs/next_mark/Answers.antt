-- `reporting::next_mark` meets its contract.
-- Assumes nothing.
use borrow.Author.Rules.{rules}
use Rattle.reporting.proofs.Telling.{next_is}
use Rattle.reporting.proofs.next_mark.Goals as goal

pub returns : goal.returns
returns c = search (rules, next_is)
