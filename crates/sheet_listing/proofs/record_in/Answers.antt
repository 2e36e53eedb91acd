-- `sheet_listing::record_in` meets its contract, case by case.
-- Assumes nothing.
use borrow.Author.Rules.{rules}
use Rattle.sheet_listing.proofs.Changing.{accepted_record}
use Rattle.sheet_listing.proofs.record_in.Goals as goal

pub returns-in-Ok : goal.returns-in-Ok
returns-in-Ok c = search (rules, accepted_record)
