-- `page_lines::put_page` meets its contract: each part goes where the one before it ends.
-- Assumes nothing.
use borrow.Author.Rules.{rules}
use Rattle.text.proofs.Laid.{put_then}
use Rattle.page_lines.proofs.put_page.Goals as goal

pub returns : goal.returns
returns c = search (rules, put_then)
