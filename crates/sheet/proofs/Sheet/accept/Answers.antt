-- `sheet::Sheet::accept` meets its contract: the record of the frame's source is the next one, and all else is kept.
-- Assumes nothing.
use borrow.Author.Rules.{rules}
use Rattle.sheet.proofs.Offering.{accepts_sized}
use Rattle.sheet.proofs.Sheet.accept.Goals as goal

pub returns : goal.returns
returns g c = search (rules, accepts_sized)
