-- `lines::put_damage` meets its contract: each part goes where the one before it ends.
-- Assumes nothing.
use borrow.Author.Rules.{rules}
use Rattle.lines.proofs.Putting.{put_damage}
use Rattle.lines.proofs.put_damage.Goals as goal

pub returns-clause-put : goal.returns-clause-put
returns-clause-put c = search (rules, put_damage)
