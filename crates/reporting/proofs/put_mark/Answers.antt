-- `reporting::put_mark` meets its contract.
-- Assumes nothing.
use borrow.Author.Rules.{rules}
use Rattle.reporting.proofs.Telling.{line_is}
use Rattle.reporting.proofs.put_mark.Goals as goal

pub returns : goal.returns
returns c = search (rules, line_is)
