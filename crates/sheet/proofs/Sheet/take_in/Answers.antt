-- `sheet::Sheet::take_in` meets its contract: the frame's answer is counted, which has its place on the sheet.
-- Assumes nothing.
use borrow.Author.Rules.{rules}
use Rattle.sheet.specs.Sheets.{held, sized_offered, edition_with}
use Rattle.sheet.proofs.Offering.{has_record_sized, takes_sized, takes_refusal}
use Rattle.sheet.proofs.Sheet.take_in.Goals as goal

pub accept-after-requires : goal.accept-after-requires
accept-after-requires g c = search (rules, has_record_sized)

pub returns-in-Ok : goal.returns-in-Ok
returns-in-Ok g c = search (rules, takes_sized)

pub returns-in-Err : goal.returns-in-Err
returns-in-Err g c = search (rules, takes_refusal (edition_with g.row.N) (held {n = g.row.N}) (sized_offered g.row.N))
