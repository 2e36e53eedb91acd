-- `lines::put_refused` meets its contract: three numbers, and the texts after them.
-- Assumes nothing.
use borrow.Author.Rules.{rules}
use Rattle.lines.proofs.Putting.{put_refused}
use Rattle.lines.proofs.put_refused.Goals as goal

pub returns-clause-put : goal.returns-clause-put
returns-clause-put c = search (rules, put_refused)
