-- `sheet_lines::put_source` meets its contract: each part goes where the one before it ends.
-- Assumes nothing.
use borrow.Author.Rules.{rules}
use Rattle.sheet_lines.proofs.Putting.{put_source}
use Rattle.sheet_lines.proofs.put_source.Goals as goal

pub returns-clause-put : goal.returns-clause-put
returns-clause-put c = search (rules, put_source)
