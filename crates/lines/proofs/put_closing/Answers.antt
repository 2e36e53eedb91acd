-- `lines::put_closing` meets its contract.
-- Assumes nothing.
use borrow.Author.Rules.{rules}
use Rattle.lines.proofs.Putting.{closing_cut, closing_whole}
use Rattle.lines.proofs.put_closing.Goals as goal

pub returns-then-cut : goal.returns-then-cut
returns-then-cut c = search (rules, closing_cut, closing_whole)
