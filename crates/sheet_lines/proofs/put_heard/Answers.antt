-- `sheet_lines::put_heard` meets its contract, by whether there is a frame.
-- Assumes nothing.
use borrow.Author.Rules.{rules}
use Rattle.sheet_lines.proofs.Putting.{heard_line_lem, heard_none}
use Rattle.sheet_lines.proofs.put_heard.Goals as goal

pub returns-then-sums-gt0 : goal.returns-then-sums-gt0
returns-then-sums-gt0 c = search (rules, heard_line_lem)

pub returns : goal.returns
returns c = search (rules, heard_none)
