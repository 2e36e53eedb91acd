-- `search_lines::put_heading` meets its contract.
-- Assumes nothing.
use borrow.Author.Rules.{rules}
use Rattle.lines.proofs.Searching.{put_heading}
use Rattle.search_lines.proofs.put_heading.Goals as goal

pub returns-clause-put : goal.returns-clause-put
returns-clause-put c = search (rules, put_heading)
