-- `sheet_listing::heard_by` meets its contract, case by case.
-- Assumes nothing.
use borrow.Author.Rules.{rules}
use Rattle.sheet_listing.proofs.Changing.{accepted_source}
use Rattle.sheet_listing.proofs.heard_by.Goals as goal

pub returns-in-Ok : goal.returns-in-Ok
returns-in-Ok c = search (rules, accepted_source)
