-- `sheet_lines::records_of` meets its contract, by the cases of the edition.
-- Assumes nothing.
use borrow.Author.Rules.{rules}
use Rattle.sheet_lines.proofs.Loops.{records_flown, records_corrected}
use Rattle.sheet_lines.proofs.records_of.Goals as goal

pub returns-in-Flown : goal.returns-in-Flown
returns-in-Flown c = search (rules, records_flown)

pub returns-in-Corrected : goal.returns-in-Corrected
returns-in-Corrected c = search (rules, records_corrected)
