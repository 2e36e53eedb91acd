-- `sheet::Sheet::refused` meets its contract: it is the sum of the counts.
-- Assumes nothing.
use borrow.Author.Rules.{rules}
use Rattle.sheet.proofs.Offering.{sums_refused}
use Rattle.sheet.proofs.Sheet.refused.Goals as goal

pub returns : goal.returns
returns g c = search (rules, sums_refused)
