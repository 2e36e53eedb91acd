-- `sheet_lines::put_title` meets its contract.
-- Assumes nothing.
use borrow.Author.Rules.{rules}
use Rattle.sheet_lines.proofs.Putting.{put_title}
use Rattle.sheet_lines.proofs.put_title.Goals as goal

pub returns-clause-put : goal.returns-clause-put
returns-clause-put c = search (rules, put_title)
