-- `sheet_listing::refused_by` meets its contract, case by case.
-- Assumes nothing.
use borrow.Author.Rules.{rules}
use Rattle.sheet_listing.proofs.Changing.{refused_counts}
use Rattle.sheet_listing.proofs.refused_by.Goals as goal

pub returns-in-Err : goal.returns-in-Err
returns-in-Err c = search (rules, refused_counts)
