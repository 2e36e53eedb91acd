-- `search_lines::put_last` meets its contract.
-- Assumes nothing.
use borrow.Author.Rules.{rules}
use Rattle.lines.proofs.Searching.{put_found}
use Rattle.search_lines.proofs.put_last.Goals as goal

pub returns : goal.returns
returns c = search (rules, put_found)
