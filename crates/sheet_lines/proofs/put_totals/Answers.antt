-- `sheet_lines::put_totals` meets its contract: the last lines go where the sheet's end.
-- Assumes nothing.
use borrow.Author.Rules.{rules}
use Rattle.sheet_lines.proofs.Putting.{put_totals}
use Rattle.sheet_lines.proofs.put_totals.Goals as goal

pub returns : goal.returns
returns c = search (rules, put_totals)
