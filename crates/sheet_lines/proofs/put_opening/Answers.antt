-- `sheet_lines::put_opening` meets its contract, edition by edition.
-- Assumes nothing.
use borrow.Author.Rules.{rules}
use Rattle.sheet_lines.proofs.Putting.{opening_flown, opening_corrected}
use Rattle.sheet_lines.proofs.put_opening.Goals as goal

pub returns-in-Flown-clause-put : goal.returns-in-Flown-clause-put
returns-in-Flown-clause-put c = search (rules, opening_flown, opening_corrected)

pub returns-in-Corrected-clause-put : goal.returns-in-Corrected-clause-put
returns-in-Corrected-clause-put c = search (rules, opening_flown, opening_corrected)
