-- `lines::put_last` meets its contract: each part goes where the one before it ends.
-- Assumes nothing.
use borrow.Author.Rules.{rules}
use Rattle.lines.proofs.Putting.{put_last}
use Rattle.lines.proofs.put_last.Goals as goal

pub returns : goal.returns
returns c = search (rules, put_last)
