-- `lines::put_accepted` meets its contract: each part goes where the one before it ends.
-- Assumes nothing.
use borrow.Author.Rules.{rules}
use Rattle.lines.proofs.Putting.{put_accepted}
use Rattle.lines.proofs.put_accepted.Goals as goal

pub returns-clause-put : goal.returns-clause-put
returns-clause-put c = search (rules, put_accepted)
