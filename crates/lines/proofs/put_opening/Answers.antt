-- `lines::put_opening` meets its contract: each part goes where the one before it ends, under either edition.
-- Assumes nothing.
use borrow.Author.Rules.{rules}
use Rattle.lines.proofs.Putting.{put_opening}
use Rattle.lines.proofs.put_opening.Goals as goal

pub returns-in-Flown-clause-put : goal.returns-in-Flown-clause-put
returns-in-Flown-clause-put c = search (rules, put_opening)

pub returns-in-Corrected-clause-put : goal.returns-in-Corrected-clause-put
returns-in-Corrected-clause-put c = search (rules, put_opening)
