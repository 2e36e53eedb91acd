-- `search_lines::put_ending` meets its contract: each part goes where the one before it ends.
-- Assumes nothing.
use borrow.Author.Rules.{rules}
use Rattle.text.proofs.Laid.{put_then}
use Rattle.search_lines.proofs.put_ending.Goals as goal

pub returns : goal.returns
returns c = search (rules, put_then)
