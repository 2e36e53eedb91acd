-- `lines::put_number` meets its contract: each part goes where the one before it ends.
-- Assumes nothing.
use borrow.Author.Rules.{rules}
use Rattle.lines.proofs.Putting.{put_number}
use Rattle.lines.proofs.put_number.Goals as goal

pub returns-clause-put : goal.returns-clause-put
returns-clause-put c = search (rules, put_number)
