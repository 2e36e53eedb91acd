-- `lines::put_three` meets its contract: each part goes where the one before it ends.
-- Assumes nothing.
use borrow.Author.Rules.{rules}
use Rattle.text.proofs.Laid.{put_three}
use Rattle.lines.proofs.put_three.Goals as goal

pub returns : goal.returns
returns c = search (rules, put_three)
