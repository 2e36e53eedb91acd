-- `sheet_lines::put_sheet` meets its contract: the refusals go where the sources end.
-- Assumes nothing.
use borrow.Author.Rules.{rules}
use Rattle.sheet_lines.proofs.Putting.{put_sheet}
use Rattle.sheet_lines.proofs.put_sheet.Goals as goal

pub returns : goal.returns
returns c = search (rules, put_sheet)
